use Rattle.audit_laws.proofs.Granting.{play_granted}
use Rattle.audit_laws.proofs.Saying.{yes_plays}
use Rattle.audit_laws.proofs.audits.law_of_audits.Goals as goal

pub returns : goal.returns
returns c = record { yes = yes_plays; plays = play_granted }

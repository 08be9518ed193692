use Rattle.play_plan_laws.specs.Assemblies.{assembly_of}
use Rattle.play_plan_laws.proofs.Lawful.{plan_lawful}
use Rattle.audit_laws.proofs.OneAudit.{one_audit}
use Rattle.audit_laws.proofs.Opened.{two_built}
use Rattle.audit_laws.proofs.Verdicts.{replayed}
use Rattle.audit_laws.proofs.replays.law_of_verdicts.Goals as goal

pub returns : goal.returns
returns c = record {
  replayed = λ outside plan files one other ready own S T tells text verdict also a b.
      replayed plan files ready own outside S.0 one S.1 T.0 other T.1 (two_built (assembly_of plan files) (plan_lawful plan files ready) S.0 T.0 one other S.1 T.1) tells text verdict also a b;
  one = one_audit;
}

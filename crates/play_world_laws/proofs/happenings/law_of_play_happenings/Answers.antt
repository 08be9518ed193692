use Rattle.play_world_laws.proofs.Closing.{closes_lead}
use Rattle.play_world_laws.proofs.StageHappening.{none_due, one_happens}
use Rattle.play_world_laws.proofs.happenings.law_of_play_happenings.Goals as goal

pub returns : goal.returns
returns c = record { one = one_happens; closing = closes_lead; none = none_due }

use Rattle.play_run.proofs.Logs.{kept_names, named_joins}
use Rattle.play_run.proofs.laws.law_of_play_logs.Goals as goal

pub returns : goal.returns
returns c = record { names = kept_names; joins = named_joins }

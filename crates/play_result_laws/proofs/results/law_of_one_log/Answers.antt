use Rattle.play_result_laws.proofs.OneLog.{one_log}
use Rattle.play_result_laws.proofs.results.law_of_one_log.Goals as goal

pub returns : goal.returns
returns c = one_log

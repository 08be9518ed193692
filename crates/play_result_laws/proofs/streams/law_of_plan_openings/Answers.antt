use Rattle.play_result_laws.proofs.Opened.{opening_contents, opening_new, opening_streams}
use Rattle.play_result_laws.proofs.streams.law_of_plan_openings.Goals as goal

pub returns : goal.returns
returns c = record { contents = opening_contents; new = opening_new; streams = opening_streams }

use Rattle.play_result_laws.proofs.Contents.{plan_contents}
use Rattle.play_result_laws.proofs.Plainly.{plan_plain}
use Rattle.play_result_laws.proofs.streams.law_of_plan_contents.Goals as goal

pub returns : goal.returns
returns c = record {
  contents = λ plan files samples by_output R F. plan_contents plan files samples R by_output F;
  plain = λ plan files samples by_output R F. plan_plain plan files samples R F by_output;
}

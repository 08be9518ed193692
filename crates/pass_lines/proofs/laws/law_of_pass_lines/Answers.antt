use Rattle.pass_lines.proofs.Choosing.{all_merged, more, stays}
use Rattle.pass_lines.proofs.laws.law_of_pass_lines.Goals as goal

pub returns : goal.returns
returns g c = record {
  stays = λ says p xs rest same. stays says p xs rest same;
  calls = λ says p xs act reply. more says p xs act reply;
  merged = all_merged;
}

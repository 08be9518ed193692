use Rattle.std.proofs.lemmas.List.Elements.{All-nil}
use Rattle.play_log.specs.Lines.{IsLogLine}
use Rattle.play_log.proofs.Shown.{none_more, one_more}
use Rattle.play_log.proofs.laws.law_of_lines.Goals as goal

pub returns : goal.returns
returns c = record {
  none = λ s. record { canonical = All-nil IsLogLine; say = tt };
  more = one_more;
  left_out = none_more;
}

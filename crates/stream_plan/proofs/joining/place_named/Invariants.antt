use Rattle.std.proofs.Common.{◌≡◌, ℕ, ◌<◌, false, get_or}
use Rattle.std.specs.Str.{bytes_eq}
use Rattle.script_lang.specs.declared.play_line.PartLine.{PartLine}
use Rattle.stream_plan.proofs.joining.place_named.Given as goal

abbrev pub invariant-loop-place : goal.invariant-loop-place
invariant-loop-place l = (d : PartLine) (k : ℕ) → k < l.place → bytes_eq (get_or l.parts k d).name l.name ≡ false

use Rattle.std.proofs.Common.{◌≡◌, ℕ, ◌<◌, slice_get, Some}
use Rattle.script_lang.specs.declared.play_line.PartLine.{PartLine}
use Rattle.audit_acts.proofs.players.place_named.Given as goal

abbrev pub invariant-loop-place : goal.invariant-loop-place
invariant-loop-place l = (k : ℕ) (part : PartLine) → slice_get l.parts k ≡ Some part → k < l.place → part.name ≡ l.name → ⊥

use Rattle.std.proofs.Common.{◌≡◌, ℕ, ◌<◌, false, List, get_or, codes}
use Rattle.std.specs.Borrow.{Bor}
use Rattle.std.specs.Str.{bytes_eq}
use Rattle.act_text.proofs.text.equals_in.Given as goal

abbrev pub invariant-loop-place : goal.invariant-loop-place
invariant-loop-place l = (k : ℕ) (d : Bor (List ℕ)) → k < l.place → bytes_eq (get_or l.words k d).now (codes "=") ≡ false

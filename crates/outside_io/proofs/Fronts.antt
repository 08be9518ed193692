-- A front of what a sink is given after a whole part.
use Rattle.std.proofs.Common.{◌≡◌, ◌≤◌, ◌+◌, ℕ, List, ◌++◌, take, Option, length, length-append, ap, ◌∙◌, sym, arith}
use Rattle.std.proofs.Math.Seq.{take-append-add}
use Rattle.std.specs.Io.KnownBytes.{append_known}
use Rattle.outside_io.proofs.Known.{append_known-twice}
use Rattle.outside_io.specs.Moves.{AppendsFront}

-- a whole part, and then a front of the next
pub front-after : (old mid new : Option (List ℕ)) (a b : List ℕ) → mid ≡ append_known old a → AppendsFront mid new b → AppendsFront old new (a ++ b)
front-after old mid new a b whole (k, small, is) = (
  length a + k,
  (let h : length a + k ≤ length (a ++ b) = omega (arith, small, length-append a b) in h),
  is ∙ ap (λ t. append_known t (take k b)) whole ∙ append_known-twice old a (take k b) ∙ ap (append_known old) (sym (take-append-add a b k)),
)

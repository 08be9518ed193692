-- A text of which nothing was added.
use Rattle.std.proofs.Common.{◌≡◌, ℕ, List, Option, Some, None, ap, sym, ◌∙◌, arith}
use Rattle.std.proofs.lemmas.List.{append-nil}
use Rattle.outside_io.specs.Moves.{AppendsFront}

-- nothing was added
pub front-none : (old new : Option (List ℕ)) (text : List ℕ) → new ≡ old → AppendsFront old new text
front-none None new text same = (0, omega arith, same)
front-none (Some bytes) new text same = (0, omega arith, same ∙ ap Some (sym (append-nil bytes)))

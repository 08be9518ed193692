-- The front of a register.
use Rattle.std.proofs.Common.{◌≡◌, ℕ, ◌≤◌, Bool, true, false, List, ◌++◌, length, take, sym, ap, ◌∙◌}
use Rattle.std.proofs.lemmas.List.{length-replicate, length-take-le}
use Rattle.std.proofs.Math.Seq.{take-append_seam}
use Rattle.audio_parts.specs.Registers.{front_of}

pub front_append : {X : Type 0} (n : ℕ) (xs ys : List X) → length xs ≡ n → take n (xs ++ ys) ≡ xs
front_append n xs ys e = ap (λ m. take m (xs ++ ys)) (sym e) ∙ take-append_seam xs ys

pub length-front_of : (is_silent : Bool) (count : ℕ) (bytes : List ℕ) → count ≤ length bytes → length (front_of is_silent count bytes) ≡ count
length-front_of true count bytes l = length-replicate count 0
length-front_of false count bytes l = length-take-le count bytes l

-- What a name holds once the sink that was opened under it is closed.
use Rattle.std.proofs.Common.{◌≡◌, ◌<◌, ℕ, List, [], take, ap, ◌∙◌, arith, Option, Some, None, length, Result, Ok, Err, OnOk, OnErr, IsSome, inl, inr, refl}
use Rattle.std.proofs.lemmas.Bool.{cases_lt}
use Rattle.std.proofs.lemmas.List.{take-take, take_all, length-take}
use Rattle.outside_io.specs.Files.{IsFrontOf}
use Rattle.outside_io.specs.Moves.{AppendsFront, WhereTold}
use Rattle.outside_io.specs.Stops.{GaveNothing}

-- what is told, where it is told
pub told_value : {A : Type 0} (told : Option A) → IsSome told → (x : A) × (told ≡ Some x)
told_value None h = cc
told_value (Some x) h = (x, refl)

-- a front of a front
pub take-twice : (j k : ℕ) (l : List ℕ) → (n : ℕ) × (take j (take k l) ≡ take n l)
take-twice j k l =
    elim (cases_lt j k) [ inl lt ↦ (j, take-take j k l (omega arith)) | inr le ↦ (k, take_all j (take k l) (omega (arith, length-take k l))) ]

-- a closed name holds a front of what was to be written
pub closed-front : {E : Type 0} (closed : Result (Unit {0}) E) (held told : Option (List ℕ)) (bytes : List ℕ) → AppendsFront (Some []) told bytes → OnOk closed (held ≡ told) → OnErr closed (WhereTold told (IsFrontOf held)) → IsFrontOf held bytes
closed-front (Ok _) held told bytes (k, _, is) ok err = (k, ok ∙ is)
closed-front (Err _) held told bytes (k, _, is) ok err =
    let front = err (take k bytes) is in
    let twice = take-twice front.0 k bytes in
    (twice.0, front.1 ∙ ap Some twice.1)

-- what a move that began at offset 0 says of the file of a name
pub short-reason : (size at told_size start : ℕ) (ends told_ends : Option ℕ) (file told : Option (List ℕ)) → ends ≡ told_ends → told ≡ file → start ≡ 0 → WhereTold told (λ bytes. size ≡ length bytes) → GaveNothing size ends start at told_size → (at < told_size) × WhereTold told_ends (λ end. at ≡ end) × WhereTold file (λ bytes. told_size ≡ length bytes)
short-reason size at told_size start ends told_ends file told ends_are told_is at_start sized short =
    ((let same = short.whole in let below = short.below in omega arith), (λ end is. let s = short.stopped end (ends_are ∙ is) in omega arith), (λ bytes is. short.whole ∙ sized bytes (told_is ∙ is)))

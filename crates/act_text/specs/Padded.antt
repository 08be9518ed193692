-- A name in its sixteen bytes, of which the rest are 0: the name gives them back.
use Rattle.std.specs.Prelude.{◌≡◌, ℕ, ◌-◌, ◌≤◌, List, ◌++◌, length, take, drop, replicate}
use Rattle.std.proofs.Common.{sym, ap, ◌∙◌}
use Rattle.std.proofs.lemmas.List.{take-append-drop, length-take-le}

pub padded-again : (bytes : List ℕ) (len : ℕ) → len ≤ length bytes → drop len bytes ≡ replicate (16 - len) 0 → take len bytes ++ replicate (16 - length (take len bytes)) 0 ≡ bytes
padded-again bytes len within zeros =
    ap (λ (n : ℕ). take len bytes ++ replicate (16 - n) 0) (length-take-le len bytes within)
    ∙ ap (λ (rest : List ℕ). take len bytes ++ rest) (sym zeros)
    ∙ take-append-drop len bytes

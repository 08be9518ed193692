-- One line, and the lines behind it.
use Rattle.std.proofs.Common.{◌≡◌, ℕ, zero, suc, ◌+◌, ◌<◌, ◌==◌, false, List, [], ◌∷◌, length, get_or, take, drop, refl, arith}
use Rattle.std.proofs.lemmas.Grind.{common_steps}
use Rattle.audit_lines.specs.Lines.{pieces_of}

no_feed : (b : ℕ) → (b ≡ 10 → ⊥) → (b == 10) ≡ false
no_feed b other = grind (arith, common_steps)

pub pieces-step : (place : ℕ) (text : List ℕ) → place < length text → ((k : ℕ) → k < place → get_or text k 0 ≡ 10 → ⊥) → get_or text place 0 ≡ 10 → pieces_of text ≡ take place text ∷ pieces_of (drop (place + 1) text)
pieces-step zero [] within before at = absurd (omega arith)
pieces-step zero (byte ∷ bytes) within before at = let feed : byte ≡ 10 = at in rw feed refl
pieces-step (suc place) [] within before at = absurd (omega arith)
pieces-step (suc place) (byte ∷ bytes) within before at =
    let other = no_feed byte (before 0 (omega arith)) in
    let step = pieces-step place bytes (omega arith) (λ k below. before (suc k) (omega arith)) at in
    let next : suc place + 1 ≡ suc (place + 1) = omega arith in
    rw (next, other, step) refl

pub pieces-alone : (text : List ℕ) → 0 < length text → ((k : ℕ) → k < length text → get_or text k 0 ≡ 10 → ⊥) → pieces_of text ≡ text ∷ []
pieces-alone [] some before = absurd (omega arith)
pieces-alone (byte ∷ []) some before = let other = no_feed byte (before 0 (omega arith)) in rw other refl
pieces-alone (byte ∷ next ∷ bytes) some before =
    let other = no_feed byte (before 0 (omega arith)) in
    let rest = pieces-alone (next ∷ bytes) (omega arith) (λ k below. before (suc k) (omega arith)) in
    rw (other, rest) refl

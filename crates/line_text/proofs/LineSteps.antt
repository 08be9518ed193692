-- One line, and the lines behind it.
use Rattle.std.proofs.Common.{◌≡◌, ℕ, zero, suc, ◌+◌, ◌<◌, ◌==◌, Bool, true, false, List, [], ◌∷◌, ◌++◌, length, get_or, take, drop, refl, sym, ap, ◌∙◌, arith, if◌then◌else◌}
use Rattle.std.proofs.lemmas.Grind.{common_steps}
use Rattle.line_text.specs.Lines.{pieces_of, before_first_piece, without_return, ended, lines_of}

no_feed : (b : ℕ) → (b ≡ 10 → ⊥) → (b == 10) ≡ false
no_feed b other = Prim.grind (arith, common_steps)

pieces-step : (place : ℕ) (text : List ℕ) → place < length text → ((k : ℕ) → k < place → get_or text k 0 ≡ 10 → ⊥) → get_or text place 0 ≡ 10 → pieces_of text ≡ take place text ∷ pieces_of (drop (place + 1) text)
pieces-step zero [] within before at = absurd (omega arith)
pieces-step zero (byte ∷ bytes) within before at = let feed : byte ≡ 10 = at in rw feed refl
pieces-step (suc place) [] within before at = absurd (omega arith)
pieces-step (suc place) (byte ∷ bytes) within before at =
    let other = no_feed byte (before 0 (omega arith)) in
    let step = pieces-step place bytes (omega arith) (λ k below. before (suc k) (omega arith)) at in
    let next : suc place + 1 ≡ suc (place + 1) = omega arith in
    rw (next, other, step) refl

pieces-alone : (text : List ℕ) → ((k : ℕ) → k < length text → get_or text k 0 ≡ 10 → ⊥) → pieces_of text ≡ text ∷ []
pieces-alone [] before = refl
pieces-alone (byte ∷ bytes) before =
    let other = no_feed byte (before 0 (omega arith)) in
    let rest = pieces-alone bytes (λ k below. before (suc k) (omega arith)) in
    rw (other, rest) refl

before_first-some : (byte : ℕ) (pieces : List (List ℕ)) → (first : List ℕ) × (others : List (List ℕ)) × (before_first_piece byte pieces ≡ first ∷ others)
before_first-some byte [] = (byte ∷ [], [], refl)
before_first-some byte (piece ∷ pieces) = (byte ∷ piece, pieces, refl)

if-some : (test : Bool) (one : List (List ℕ)) (byte : ℕ) (pieces : List (List ℕ)) → (first : List ℕ) × (others : List (List ℕ)) × ((if test then [] ∷ one else before_first_piece byte pieces) ≡ first ∷ others)
if-some true one byte pieces = ([], one, refl)
if-some false one byte pieces = before_first-some byte pieces

pieces-some : (text : List ℕ) → (first : List ℕ) × (others : List (List ℕ)) × (pieces_of text ≡ first ∷ others)
pieces-some [] = ([], [], refl)
pieces-some (byte ∷ bytes) = if-some (byte == 10) (pieces_of bytes) byte (pieces_of bytes)

ended-two : (piece next : List ℕ) (others : List (List ℕ)) → ended (piece ∷ next ∷ others) ≡ without_return piece ∷ ended (next ∷ others)
ended-two [] next others = refl
ended-two (byte ∷ bytes) next others = refl

ended-step : (piece rest : List ℕ) → ended (piece ∷ pieces_of rest) ≡ without_return piece ∷ ended (pieces_of rest)
ended-step piece rest =
    let some = pieces-some rest in
    ap (λ (ps : List (List ℕ)). ended (piece ∷ ps)) some.2 ∙ ended-two piece some.0 some.1 ∙ ap (λ (ps : List (List ℕ)). without_return piece ∷ ended ps) (sym some.2)

pub lines-step : (place : ℕ) (text : List ℕ) → place < length text → ((k : ℕ) → k < place → get_or text k 0 ≡ 10 → ⊥) → get_or text place 0 ≡ 10 → lines_of text ≡ without_return (take place text) ∷ lines_of (drop (place + 1) text)
lines-step place text within before at = ap ended (pieces-step place text within before at) ∙ ended-step (take place text) (drop (place + 1) text)

ended-alone : (text : List ℕ) → 0 < length text → ended (text ∷ []) ≡ text ∷ []
ended-alone [] some = absurd (omega arith)
ended-alone (byte ∷ bytes) some = refl

pub lines-alone : (text : List ℕ) → 0 < length text → ((k : ℕ) → k < length text → get_or text k 0 ≡ 10 → ⊥) → lines_of text ≡ text ∷ []
lines-alone text some before = ap ended (pieces-alone text before) ∙ ended-alone text some

pub without_return-last : (front : List ℕ) (last : ℕ) → without_return (front ++ (last ∷ [])) ≡ (if last == 13 then front else front ++ (last ∷ []))
without_return-last [] last = refl
without_return-last (byte ∷ []) last = more byte last (last == 13)
  where
    more : (byte last : ℕ) (test : Bool) → (byte ∷ (if test then [] else last ∷ [])) ≡ (if test then byte ∷ [] else byte ∷ last ∷ [])
    more byte last true = refl
    more byte last false = refl
without_return-last (byte ∷ next ∷ front) last = ap (λ (rest : List ℕ). byte ∷ rest) (without_return-last (next ∷ front) last) ∙ more byte (next ∷ front) last (last == 13)
  where
    more : (byte : ℕ) (front : List ℕ) (last : ℕ) (test : Bool) → (byte ∷ (if test then front else front ++ (last ∷ []))) ≡ (if test then byte ∷ front else byte ∷ (front ++ (last ∷ [])))
    more byte front last true = refl
    more byte front last false = refl

pub return-dropped : (line front : List ℕ) (last : ℕ) → line ≡ front ++ (last ∷ []) → last ≡ 13 → front ≡ without_return line
return-dropped line front last is feed =
    let test : (last == 13) ≡ true = Prim.grind (arith, common_steps) in
    sym (ap without_return is ∙ without_return-last front last ∙ ap (λ (t : Bool). if t then front else front ++ (last ∷ [])) test)

pub no-return : (line front : List ℕ) (last : ℕ) → line ≡ front ++ (last ∷ []) → (last ≡ 13 → ⊥) → line ≡ without_return line
no-return line front last is other =
    let test : (last == 13) ≡ false = Prim.grind (arith, common_steps) in
    is ∙ sym (ap without_return is ∙ without_return-last front last ∙ ap (λ (t : Bool). if t then front else front ++ (last ∷ [])) test)

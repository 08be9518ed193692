-- The words of a line, one after the other.
use Rattle.std.proofs.Common.{◌≡◌, ℕ, zero, suc, ◌+◌, ◌-◌, ◌<◌, ◌≤◌, true, false, List, [], ◌∷◌, length, get_or, take, drop, refl, sym, ap, ◌∙◌, subst, inl, inr, arith}
use Rattle.std.proofs.lemmas.Grind.{common_steps}
use Rattle.std.proofs.lemmas.List.{get_or-drop, length-drop, drop-drop, drop_all}
use Rattle.line_text.specs.Words.{IsBlank, is_blank, pieces_of, without_empty, words_of}

is_blank-true : (b : ℕ) → IsBlank b → is_blank b ≡ true
is_blank-true b (inl e) = subst (λ (x : ℕ). is_blank x ≡ true) (sym e) refl
is_blank-true b (inr e) = subst (λ (x : ℕ). is_blank x ≡ true) (sym e) refl

is_blank-false : (b : ℕ) → ¬ (IsBlank b) → is_blank b ≡ false
is_blank-false b other =
    let not_space : b ≡ 32 → ⊥ = λ e. other (inl e) in
    let not_tab : b ≡ 9 → ⊥ = λ e. other (inr e) in
    grind (arith, common_steps)

words_of-blank : (b : ℕ) (line : List ℕ) → IsBlank b → words_of (b ∷ line) ≡ words_of line
words_of-blank b line blank = rw (is_blank-true b blank) refl

-- blanks at the front make no word
pub words_of-blanks : (n : ℕ) (line : List ℕ) → ((k : ℕ) → k < n → k < length line → IsBlank (get_or line k 0)) → words_of line ≡ words_of (drop n line)
words_of-blanks zero line blanks = refl
words_of-blanks (suc n) [] blanks = refl
words_of-blanks (suc n) (b ∷ line) blanks =
    words_of-blank b line (blanks 0 (omega arith) (omega arith))
    ∙ words_of-blanks n line (λ k below within. blanks (suc k) (omega arith) (omega arith))

-- a run without blanks up to a blank or the end is the first piece
pieces_of-run : (n : ℕ) (line : List ℕ) → n ≤ length line → ((k : ℕ) → k < n → ¬ (IsBlank (get_or line k 0))) → (n < length line → IsBlank (get_or line n 0)) → (rest : List (List ℕ)) × (pieces_of line ≡ take n line ∷ rest) × (without_empty rest ≡ words_of (drop n line))
pieces_of-run zero [] within inside ends = ([], refl, refl)
pieces_of-run zero (b ∷ line) within inside ends =
    let blank = is_blank-true b (ends (omega arith)) in
    (pieces_of line, rw blank refl, rw blank refl)
pieces_of-run (suc n) [] within inside ends = absurd (omega arith)
pieces_of-run (suc n) (b ∷ line) within inside ends =
    let part = pieces_of-run n line (omega arith) (λ k below. inside (suc k) (omega arith)) (λ more. ends (omega arith)) in
    let no_blank = is_blank-false b (inside 0 (omega arith)) in
    (part.0, rw (no_blank, part.1) refl, part.2)

-- a run without blanks at the front is the first word
pub words_of-run : (n : ℕ) (line : List ℕ) → 0 < n → n ≤ length line → ((k : ℕ) → k < n → ¬ (IsBlank (get_or line k 0))) → (n < length line → IsBlank (get_or line n 0)) → words_of line ≡ take n line ∷ words_of (drop n line)
words_of-run zero line some within inside ends = absurd (omega arith)
words_of-run (suc n) [] some within inside ends = absurd (omega arith)
words_of-run (suc n) (b ∷ line) some within inside ends =
    let part = pieces_of-run (suc n) (b ∷ line) within inside ends in
    ap without_empty part.1 ∙ ap (λ (words : List (List ℕ)). take (suc n) (b ∷ line) ∷ words) part.2

-- where only blanks are left there is no word
pub words_of-rest : (line : List ℕ) (from : ℕ) → ((k : ℕ) → from ≤ k → k < length line → IsBlank (get_or line k 0)) → words_of (drop from line) ≡ []
words_of-rest line from blanks =
    let rest = drop from line in
    let each : (k : ℕ) → k < length rest → k < length rest → IsBlank (get_or rest k 0) =
    λ k below _. subst IsBlank (sym (get_or-drop from line k 0)) (blanks (from + k) (omega arith) (omega (arith, length-drop from line))) in
    words_of-blanks (length rest) rest each ∙ ap words_of (drop_all (length rest) rest (omega arith))

-- the first word, and those of what follows it
pub words_of-next : (line : List ℕ) (from start end : ℕ) → from ≤ start → ((k : ℕ) → from ≤ k → k < start → IsBlank (get_or line k 0)) → start < end → end ≤ length line → ((k : ℕ) → start ≤ k → k < end → ¬ (IsBlank (get_or line k 0))) → (end < length line → IsBlank (get_or line end 0)) → words_of (drop from line) ≡ take (end - start) (drop start line) ∷ words_of (drop end line)
words_of-next line from start end after blanks some within inside ends =
    let reach : from + (start - from) ≡ start = omega arith in
    let pass : start + (end - start) ≡ end = omega arith in
    let before : (k : ℕ) → k < start - from → k < length (drop from line) → IsBlank (get_or (drop from line) k 0) =
    λ k below _. subst IsBlank (sym (get_or-drop from line k 0)) (blanks (from + k) (omega arith) (omega arith)) in
    let word : (k : ℕ) → k < end - start → ¬ (IsBlank (get_or (drop start line) k 0)) =
    λ k below. subst (λ (b : ℕ). ¬ (IsBlank b)) (sym (get_or-drop start line k 0)) (inside (start + k) (omega arith) (omega arith)) in
    let stop : end - start < length (drop start line) → IsBlank (get_or (drop start line) (end - start) 0) =
    λ more. subst IsBlank (sym (get_or-drop start line (end - start) 0 ∙ ap (λ (k : ℕ). get_or line k 0) pass)) (ends (omega (arith, length-drop start line))) in
    let room : end - start ≤ length (drop start line) = omega (arith, length-drop start line) in
    words_of-blanks (start - from) (drop from line) before
    ∙ ap words_of (drop-drop (start - from) from line ∙ ap (λ (k : ℕ). drop k line) reach)
    ∙ words_of-run (end - start) (drop start line) (omega arith) room word stop
    ∙ ap (λ (rest : List ℕ). take (end - start) (drop start line) ∷ words_of rest) (drop-drop (end - start) start line ∙ ap (λ (k : ℕ). drop k line) pass)

-- Words that are parted by one space are the words of their line.
use Rattle.std.proofs.Common.{◌≡◌, ℕ, ◌<◌, ◌≤◌, List, [], ◌∷◌, ◌++◌, length, get_or, drop, refl, ap, ◌∙◌, subst, inl, inr, arith, length-append}
use Rattle.std.proofs.Math.Seq.{take-append_seam, drop-append_seam}
use Rattle.std.proofs.lemmas.List.{get_or_append_left}
use Rattle.std.specs.List.{AllByRecursion}
use Rattle.line_text.specs.Words.{words_of, IsBlank}
use Rattle.line_text.proofs.WordSteps.{words_of-run}
use Rattle.line_text.specs.Lists.{after_spaces, spaced}
use Rattle.act_text.proofs.Plain.{IsSolid}

no_blank : (byte : ℕ) → 32 < byte → IsBlank byte → ⊥
no_blank byte high (inl is) = omega arith
no_blank byte high (inr is) = omega arith

-- a space follows a word, or nothing does
space-at : (word : List ℕ) (words : List (List ℕ)) → length word < length (word ++ after_spaces words) → IsBlank (get_or (word ++ after_spaces words) (length word) 0)
space-at [] [] more = absurd (omega arith)
space-at [] (next ∷ words) more = inl refl
space-at (byte ∷ word) words more = space-at word words (omega arith)

word-first : (word : List ℕ) (words : List (List ℕ)) → IsSolid word → words_of (word ++ after_spaces words) ≡ word ∷ words_of (after_spaces words)
word-first word words is =
    let line = word ++ after_spaces words in
    let within : length word ≤ length line = omega (arith, length-append word (after_spaces words)) in
    let inside : (k : ℕ) → k < length word → ¬ (IsBlank (get_or line k 0)) =
    λ k below blank. no_blank (get_or word k 0) (is.high k below) (subst IsBlank (get_or_append_left word (after_spaces words) 0 k below) blank) in
    words_of-run (length word) line is.some within inside (space-at word words)
    ∙ ap (λ (w : List ℕ). w ∷ words_of (drop (length word) line)) (take-append_seam word (after_spaces words))
    ∙ ap (λ (rest : List ℕ). word ∷ words_of rest) (drop-append_seam word (after_spaces words))

words_of-after : (words : List (List ℕ)) → AllByRecursion IsSolid words → words_of (after_spaces words) ≡ words
words_of-after [] each = refl
words_of-after (word ∷ words) each = word-first word words each.0 ∙ ap (λ (rest : List (List ℕ)). word ∷ rest) (words_of-after words each.1)

pub words_of-spaced : (words : List (List ℕ)) → AllByRecursion IsSolid words → words_of (spaced words) ≡ words
words_of-spaced [] each = refl
words_of-spaced (word ∷ words) each = word-first word words each.0 ∙ ap (λ (rest : List (List ℕ)). word ∷ rest) (words_of-after words each.1)

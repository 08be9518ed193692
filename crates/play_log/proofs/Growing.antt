-- A log with one line more.
use Rattle.std.proofs.Common.{◌≡◌, ℕ, ◌+◌, Bool, List, [], ◌∷◌, ◌++◌, length, sym, ap, ◌∙◌, arith, append_assoc, length-append}
use Rattle.std.proofs.lemmas.List.{append-nil}
use Rattle.play_log.specs.Lines.{LogLine, line_text, lines_from}
use Rattle.play_log.specs.Kept.{IsKept}

lines_more : (n : ℕ) (lines : List LogLine) (line : LogLine) → lines_from n (lines ++ line ∷ []) ≡ lines_from n lines ++ line_text (n + length lines) line
lines_more n [] line =
    let here : n + 0 ≡ n = omega arith in
    append-nil (line_text n line) ∙ ap (λ (k : ℕ). line_text k line) (sym here)
lines_more n (x ∷ lines) line =
    let there : n + 1 + length lines ≡ n + length (x ∷ lines) = omega arith in
    ap (λ (l : List ℕ). line_text n x ++ l) (lines_more (n + 1) lines line ∙ ap (λ (k : ℕ). lines_from (n + 1) lines ++ line_text k line) there)
    ∙ sym (append_assoc (line_text n x) (lines_from (n + 1) lines) (line_text (n + length (x ∷ lines)) line))

pub kept_more : (lines : List LogLine) (line : LogLine) (text new : List ℕ) (count : ℕ) (broken : Bool) → IsKept lines (record { text = text; count = count; broken = broken }) → new ≡ text ++ line_text (count + 1) line
    → IsKept (lines ++ line ∷ []) (record { text = new; count = count + 1; broken = broken })
kept_more lines line text new count broken K e =
    let number : count + 1 ≡ 1 + length lines = omega (arith, K.count) in
    record {
      text = e ∙ ap (λ (l : List ℕ). l ++ line_text (count + 1) line) K.text ∙ ap (λ (k : ℕ). lines_from 1 lines ++ line_text k line) number ∙ sym (lines_more 1 lines line);
      count = omega (arith, K.count, length-append lines (line ∷ []));
    }

-- A canonical line has at most 512 bytes.
use Rattle.std.proofs.Common.{◌≡◌, ℕ, ◌+◌, ◌*◌, ◌^◌, ◌<◌, ◌≤◌, true, false, List, [], ◌∷◌, ◌++◌, length, refl, ◌∙◌, codes, arith, length-append, length-drop}
use Rattle.std.specs.Fmt.{decimal}
use Rattle.std.specs.List.{list_all}
use Rattle.std.proofs.lemmas.Bool.{and_parts}
use Rattle.std.proofs.lemmas.Fmt.{length-decimal-le}
use Rattle.std.proofs.lemmas.List.Folds.{list_all-append}
use Rattle.line_text.specs.Lists.{spaced, after_spaces}
use Rattle.act_text.specs.Acts.{act_words}
use Rattle.act_text.specs.Replies.{reply_words}
use Rattle.act_text.specs.Texts.{act_text, text_words, IsActText}
use Rattle.act_text.specs.declared.text.ActText.{ActText}
use Rattle.act_text.proofs.WordCounts.{act-short as act-few, reply-short as reply-few}
use Rattle.play_log.specs.Lines.{LogLine, IsLogLine, is_left_out}
use Rattle.audit_lines.specs.Lines.{IsOfPlay, text_of_line}
use Rattle.audit_lines.proofs.WordLengths.{act-short, is_short, reply-short, short_is}

spaces_length : (words : List (List ℕ)) → list_all is_short words ≡ true → length (after_spaces words) ≤ 28 * length words
spaces_length [] e = omega arith
spaces_length (word ∷ words) e =
    let both = and_parts (is_short word) (list_all is_short words) e in
    let first = short_is word both.0 in
    let rest = spaces_length words both.1 in
    let whole = length-append (32 ∷ word) (after_spaces words) in
    omega (arith, first, rest, whole)

spaced_length : (words : List (List ℕ)) → list_all is_short words ≡ true → length (spaced words) ≤ 28 * length words
spaced_length words e = omega (arith, spaces_length words e, length-drop 1 (after_spaces words))

words_short : (text : ActText) → IsActText text → list_all is_short (text_words text) ≡ true
words_short text is =
    list_all-append is_short (act_words text.act) (codes "=" ∷ reply_words text.reply)
    ∙ rw (act-short text.act is.act, reply-short text.reply is.reply) refl

words_few : (text : ActText) → length (text_words text) ≤ 16
words_few text =
    omega (arith, length-append (act_words text.act) (codes "=" ∷ reply_words text.reply), act-few text.act, reply-few text.reply)

text_length : (text : ActText) → IsActText text → length (act_text text) ≤ 448
unfolding act_text
text_length text is = omega (arith, spaced_length (text_words text) (words_short text is), words_few text)

parts_length : (a b c : List ℕ) → length (a ++ (32 ∷ (b ++ (32 ∷ c)))) ≡ length a + length b + length c + 2
parts_length a b c = omega (arith, length-append a (32 ∷ (b ++ (32 ∷ c))), length-append b (32 ∷ c))

pub line_short : (number : ℕ) (line : LogLine) → number < 2 ^ 64 → IsLogLine line → length (text_of_line number line) ≤ 512
line_short number line fits is =
    let small : line.pass < 2 ^ 64 = omega (arith, is.pass) in
    let digits = length-decimal-le 20 number (omega arith) (omega (arith, fits)) fits in
    let pass = length-decimal-le 10 line.pass (omega arith) (omega (arith, is.pass)) small in
    let said = text_length line.said is.said in
    let whole = parts_length (decimal number) (decimal line.pass) (act_text line.said) in
    omega (arith, digits, pass, said, whole)

pub line_taken : (number : ℕ) (line : LogLine) → number < 2 ^ 64 → IsLogLine line → line.pass ≤ 8 → is_left_out (line.said).reply ≡ false
    → IsOfPlay number (text_of_line number line) line
line_taken number line fits is few printed =
    record { whole = refl; canonical = is; short = line_short number line fits is; few = few; printed = printed }

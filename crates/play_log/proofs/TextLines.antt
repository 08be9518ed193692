-- A log's text has one list of lines.
use Rattle.std.proofs.Common.{◌≡◌, ◌⊎◌, inl, inr, ℕ, zero, suc, ◌+◌, ◌^◌, ◌<◌, ◌≤◌, true, List, [], ◌∷◌, ◌++◌, length, get_or, drop, All, refl, sym, ap, ◌∙◌, codes, arith, append_assoc, length-append}
use Rattle.std.specs.Fmt.{decimal}
use Rattle.std.specs.List.{list_all, AllByRecursion}
use Rattle.std.proofs.lemmas.Bool.{and_parts}
use Rattle.std.proofs.lemmas.Fmt.{decimal_injective, decimal_nonempty}
use Rattle.std.proofs.lemmas.List.{append_cancel_left, get_or_append_left}
use Rattle.std.proofs.lemmas.List.Elements.{All-head, All-tail}
use Rattle.line_text.proofs.Numerals.{decimal-digits}
use Rattle.line_text.specs.Lists.{spaced, after_spaces}
use Rattle.line_text.specs.Words.{words_of}
use Rattle.act_text.specs.Acts.{act_words}
use Rattle.act_text.specs.Replies.{reply_words}
use Rattle.act_text.specs.Texts.{act_text, text_of, text_words, IsActText}
use Rattle.act_text.specs.declared.text.ActText.{ActText}
use Rattle.act_text.proofs.Plain.{plain, plain-solid}
use Rattle.act_text.proofs.PlainWords.{act-plain, reply-plain}
use Rattle.act_text.proofs.TextsAgain.{text-again, words_of-text}
use Rattle.play_log.specs.Lines.{LogLine, IsLogLine, HasLines, line_text, lines_from, log_text}
use Rattle.play_log.proofs.Players.{some_same}
use Rattle.play_log.proofs.Parting.{Lacks, lacks_both, parted}

-- ---- what stands in no text of an act

word_lacks : (word : List ℕ) → plain word ≡ true → Lacks 10 word
word_lacks word p k below e = let high = (plain-solid word p).high k below in omega arith

pub space_lacks : Lacks 10 (32 ∷ [])
space_lacks zero below e = absurd (omega arith)
space_lacks (suc k) below e = absurd (omega arith)

equals_lacks : Lacks 10 (codes "=")
equals_lacks zero below e = absurd (omega arith)
equals_lacks (suc k) below e = absurd (omega arith)

all_lack : (words : List (List ℕ)) → list_all plain words ≡ true → AllByRecursion (Lacks 10) words
all_lack [] p = tt
all_lack (word ∷ words) p = let both = and_parts (plain word) (list_all plain words) p in (word_lacks word both.0, all_lack words both.1)

two_lack : (xs ys : List (List ℕ)) → AllByRecursion (Lacks 10) xs → AllByRecursion (Lacks 10) ys → AllByRecursion (Lacks 10) (xs ++ ys)
two_lack [] ys a b = b
two_lack (x ∷ xs) ys a b = (a.0, two_lack xs ys a.1 b)

spaces_lack : (words : List (List ℕ)) → AllByRecursion (Lacks 10) words → Lacks 10 (after_spaces words)
spaces_lack [] a = λ k below e. absurd (omega arith)
spaces_lack (word ∷ words) a = lacks_both 10 (32 ∷ word) (after_spaces words) (lacks_both 10 (32 ∷ []) word space_lacks a.0) (spaces_lack words a.1)

spaced_lacks : (words : List (List ℕ)) → AllByRecursion (Lacks 10) words → Lacks 10 (spaced words)
spaced_lacks [] a = λ k below e. absurd (omega arith)
spaced_lacks (word ∷ words) a = lacks_both 10 word (after_spaces words) a.0 (spaces_lack words a.1)

pub text_lacks : (text : ActText) → IsActText text → Lacks 10 (act_text text)
unfolding act_text
text_lacks text is =
    spaced_lacks (text_words text)
    (two_lack (act_words text.act) (codes "=" ∷ reply_words text.reply) (all_lack (act_words text.act) (act-plain text.act is.act))
    (equals_lacks, all_lack (reply_words text.reply) (reply-plain text.reply is.reply)))

pub texts_same : (a b : ActText) → IsActText a → IsActText b → act_text a ≡ act_text b → a ≡ b
texts_same a b p q e =
    let words : text_words a ≡ text_words b = sym (words_of-text a p) ∙ ap words_of e ∙ words_of-text b q in
    some_same a b (sym (text-again a p) ∙ ap text_of words ∙ text-again b q)

pub digits_lack : (byte n : ℕ) → n < 2 ^ 64 → byte < 48 → Lacks byte (decimal n)
digits_lack byte n fits low k below e = let digit = decimal-digits n fits k below in omega (arith, digit.0)

-- ---- one line, and what follows it

parts_then : (a b c rest : List ℕ) → (a ++ (32 ∷ []) ++ b ++ (32 ∷ []) ++ c ++ (10 ∷ [])) ++ rest ≡ a ++ (32 ∷ (b ++ (32 ∷ (c ++ (10 ∷ rest)))))
parts_then a b c rest =
    let space : List ℕ = 32 ∷ [] in
    append_assoc (a ++ space ++ b ++ space ++ c) (10 ∷ []) rest
    ∙ append_assoc (a ++ space ++ b ++ space) c (10 ∷ rest)
    ∙ append_assoc (a ++ space ++ b) space (c ++ (10 ∷ rest))
    ∙ append_assoc (a ++ space) b (32 ∷ (c ++ (10 ∷ rest)))
    ∙ append_assoc a space (b ++ (32 ∷ (c ++ (10 ∷ rest))))

-- the line without its number
behind : LogLine → List ℕ → List ℕ
behind x rest = decimal x.pass ++ (32 ∷ (act_text x.said ++ (10 ∷ rest)))

line_then : (n : ℕ) (x : LogLine) (rest : List ℕ) → line_text n x ++ rest ≡ decimal n ++ (32 ∷ behind x rest)
unfolding behind
line_then n x rest = parts_then (decimal n) (decimal x.pass) (act_text x.said) rest

lines_same_at : (n : ℕ) (x y : LogLine) (rest more : List ℕ) → IsLogLine x → IsLogLine y → line_text n x ++ rest ≡ line_text n y ++ more → (x ≡ y) × (rest ≡ more)
unfolding behind
lines_same_at n x y rest more p q e =
    let a = act_text x.said in
    let b = act_text y.said in
    let whole : decimal n ++ (32 ∷ behind x rest) ≡ decimal n ++ (32 ∷ behind y more) = sym (line_then n x rest) ∙ e ∙ line_then n y more in
    let after : behind x rest ≡ behind y more = ap (λ (l : List ℕ). drop 1 l) (append_cancel_left (decimal n) (32 ∷ behind x rest) (32 ∷ behind y more) whole) in
    let small : x.pass < 2 ^ 64 = omega (arith, p.pass) in
    let other : y.pass < 2 ^ 64 = omega (arith, q.pass) in
    let at_pass = parted 32 (decimal x.pass) (decimal y.pass) (a ++ (10 ∷ rest)) (b ++ (10 ∷ more)) (digits_lack 32 x.pass small (omega arith)) (digits_lack 32 y.pass other (omega arith)) after in
    let at_text = parted 10 a b rest more (text_lacks x.said p.said) (text_lacks y.said q.said) at_pass.1 in
    let pass : x.pass ≡ y.pass = decimal_injective x.pass y.pass small other at_pass.0 in
    let said : x.said ≡ y.said = texts_same x.said y.said p.said q.said at_text.0 in
    (λ i. record { pass = pass i; said = said i }, at_text.1)

-- ---- all lines

-- what stands behind the last line
record IsLast (t : List ℕ) : Type 0 where
  some : 0 < length t
  first : get_or t 0 0 ≡ 101

no_digit : (n : ℕ) (rest t : List ℕ) → n < 2 ^ 64 → IsLast t → t ≡ decimal n ++ rest → ⊥
no_digit n rest t fits last e =
    let digit = decimal-digits n fits 0 (decimal_nonempty n fits) in
    let same : get_or t 0 0 ≡ get_or (decimal n) 0 0 = ap (λ (l : List ℕ). get_or l 0 0) e ∙ get_or_append_left (decimal n) rest 0 0 (decimal_nonempty n fits) in
    omega (arith, digit.1, last.first, same)

line_no_last : (n : ℕ) (x : LogLine) (xs : List LogLine) (t u : List ℕ) → n < 2 ^ 64 → IsLast t → t ≡ lines_from n (x ∷ xs) ++ u → ⊥
line_no_last n x xs t u fits last e =
    no_digit n (32 ∷ behind x (lines_from (n + 1) xs ++ u)) t fits last
    (e ∙ append_assoc (line_text n x) (lines_from (n + 1) xs) u ∙ line_then n x (lines_from (n + 1) xs ++ u))

line_some : (n : ℕ) (x : LogLine) → 1 ≤ length (line_text n x)
line_some n x = omega (arith, length-append (decimal n ++ codes " " ++ decimal x.pass ++ codes " " ++ act_text x.said) (codes "\n"))

lines_same_from : (n : ℕ) (xs ys : List LogLine) (t u : List ℕ) → n + length (lines_from n xs ++ t) ≤ 2 ^ 64 → IsLast t → IsLast u → All IsLogLine xs → All IsLogLine ys → lines_from n xs ++ t ≡ lines_from n ys ++ u → xs ≡ ys
lines_same_from n [] [] t u fits p q a b e = refl
lines_same_from n [] (y ∷ ys) t u fits p q a b e = absurd (line_no_last n y ys t u (omega (arith, p.some)) p e)
lines_same_from n (x ∷ xs) [] t u fits p q a b e =
    let long : length (lines_from n (x ∷ xs) ++ t) ≡ length u = ap length e in
    absurd (line_no_last n x xs u t (omega (arith, q.some)) q (sym e))
lines_same_from n (x ∷ xs) (y ∷ ys) t u fits p q a b e =
    let front : line_text n x ++ (lines_from (n + 1) xs ++ t) ≡ line_text n y ++ (lines_from (n + 1) ys ++ u) =
    sym (append_assoc (line_text n x) (lines_from (n + 1) xs) t) ∙ e ∙ append_assoc (line_text n y) (lines_from (n + 1) ys) u in
    let one = lines_same_at n x y (lines_from (n + 1) xs ++ t) (lines_from (n + 1) ys ++ u) (All-head IsLogLine x xs a) (All-head IsLogLine y ys b) front in
    let whole : length (lines_from n (x ∷ xs) ++ t) ≡ length (line_text n x) + length (lines_from (n + 1) xs ++ t) =
    ap length (append_assoc (line_text n x) (lines_from (n + 1) xs) t) ∙ length-append (line_text n x) (lines_from (n + 1) xs ++ t) in
    let some : 1 ≤ length (line_text n x) = line_some n x in
    let rest = lines_same_from (n + 1) xs ys t u (omega arith) p q (All-tail IsLogLine x xs a) (All-tail IsLogLine y ys b) one.1 in
    λ i. one.0 i ∷ rest i

with_end : IsLast (codes "end\n")
with_end = record { some = omega arith; first = refl }

without_feed : IsLast (codes "end")
without_feed = record { some = omega arith; first = refl }

-- the text without its end
record IsBody (text : List ℕ) (lines : List LogLine) : Type 0 where
  end : List ℕ
  last : IsLast end
  whole : text ≡ lines_from 1 lines ++ end

body_of : (text : List ℕ) (lines : List LogLine) → (text ≡ log_text lines) ⊎ (text ≡ lines_from 1 lines ++ codes "end") → IsBody text lines
body_of text lines (inl e) = record { end = codes "end\n"; last = with_end; whole = e }
body_of text lines (inr e) = record { end = codes "end"; last = without_feed; whole = e }

pub one_list : (text : List ℕ) (xs ys : List LogLine) → length text < 2 ^ 64 → HasLines text xs → HasLines text ys → xs ≡ ys
one_list text xs ys fits a b =
    let p = body_of text xs a.whole in
    let q = body_of text ys b.whole in
    let same : lines_from 1 xs ++ p.end ≡ lines_from 1 ys ++ q.end = sym p.whole ∙ q.whole in
    lines_same_from 1 xs ys p.end q.end (omega (arith, ap length p.whole)) p.last q.last a.canonical b.canonical same

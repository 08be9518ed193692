-- The text of an act and its reply says them, and is the text of nothing else.
use Rattle.std.proofs.Common.{◌≡◌, ℕ, zero, suc, get_or, ◌+◌, ◌<◌, ◌≤◌, true, false, List, [], ◌∷◌, ◌++◌, length, take, drop, refl, sym, ap, ◌∙◌, arith, codes, Option, Some, None, IfSome, Result, Ok, Err, OnOk, length-append}
use Rattle.std.specs.Borrow.{Bor}
use Rattle.std.proofs.lemmas.List.{append_assoc}
use Rattle.std.specs.List.{list_all, AllByRecursion}
use Rattle.std.specs.Str.{bytes_eq}
use Rattle.std.proofs.lemmas.Slice.Eq.{bytes_eq-Decides}
use Rattle.std.proofs.lemmas.Grind.{common_steps, flat_map-append}
use Rattle.line_text.specs.Words.{words_of}
use Rattle.act_text.specs.Acts.{act_words}
use Rattle.act_text.specs.Reading.{both}
use Rattle.act_text.specs.ReadActs.{act_of}
use Rattle.act_text.specs.ReadReplies.{reply_of}
use Rattle.act_text.specs.Replies.{reply_words}
use Rattle.act_text.specs.Texts.{text_words, act_text, IsActText, before_equals, after_equals, text_of, text_with}
use Rattle.line_text.specs.Lists.{spaced, after_spaces, texts}
use Rattle.act_text.specs.declared.act.TextAct.{TextAct}
use Rattle.act_text.specs.declared.reply.TextReply.{TextReply}
use Rattle.act_text.specs.declared.text.ActText.{ActText}
use Rattle.act_text.proofs.ActsAgain.{act-again}
use Rattle.act_text.proofs.RepliesAgain.{reply-again}
use Rattle.act_text.proofs.Plain.{plain, plain-solid, plain-equals, IsSolid}
use Rattle.act_text.proofs.PlainWords.{act-plain, reply-plain}
use Rattle.act_text.proofs.WordCounts.{act-some, act-short, reply-some, reply-short}
use Rattle.act_text.proofs.SpacedAgain.{words_of-spaced}

head-plain : (word : List ℕ) (words : List (List ℕ)) → list_all plain (word ∷ words) ≡ true → plain word ≡ true
head-plain word words is = Prim.grind (arith, common_steps)

tail-plain : (word : List ℕ) (words : List (List ℕ)) → list_all plain (word ∷ words) ≡ true → list_all plain words ≡ true
tail-plain word words is = Prim.grind (arith, common_steps)

-- words without `=` come before it
pub equals-parts : (words rest : List (List ℕ)) → list_all plain words ≡ true → (before_equals (words ++ (codes "=" ∷ rest)) ≡ words) × (after_equals (words ++ (codes "=" ∷ rest)) ≡ rest)
equals-parts [] rest is = (refl, refl)
equals-parts (word ∷ words) rest is =
    let other = plain-equals word (head-plain word words is) in
    let parts = equals-parts words rest (tail-plain word words is) in
    (rw (other, parts.0) refl, rw (other, parts.1) refl)

pub text-again : (text : ActText) → IsActText text → text_of (text_words text) ≡ Some text
text-again text is =
    let parts = equals-parts (act_words text.act) (reply_words text.reply) (act-plain text.act is.act) in
    rw (parts.0, parts.1, act-again text.act is.act, reply-again text.reply is.reply) refl

all-solid : (words : List (List ℕ)) → list_all plain words ≡ true → AllByRecursion IsSolid words
all-solid [] is = tt
all-solid (word ∷ words) is = (plain-solid word (head-plain word words is), all-solid words (tail-plain word words is))

solid-append : (xs ys : List (List ℕ)) → AllByRecursion IsSolid xs → AllByRecursion IsSolid ys → AllByRecursion IsSolid (xs ++ ys)
solid-append [] ys each others = others
solid-append (x ∷ xs) ys each others = (each.0, solid-append xs ys each.1 others)

equals-solid : IsSolid (codes "=")
equals-solid = record { some = omega arith; high = λ k below. high k below }
  where
    high : (k : ℕ) → k < 1 → 32 < get_or (codes "=") k 0
    high zero below = omega arith
    high (suc k) below = absurd (omega arith)

pub words_of-text : (text : ActText) → IsActText text → words_of (act_text text) ≡ text_words text
unfolding act_text
words_of-text text is =
    words_of-spaced (text_words text)
    (solid-append (act_words text.act) (codes "=" ∷ reply_words text.reply) (all-solid (act_words text.act) (act-plain text.act is.act)) (equals-solid, all-solid (reply_words text.reply) (reply-plain text.reply is.reply)))

pub text-short : (text : ActText) → length (text_words text) ≤ 16
text-short text = omega (arith, length-append (act_words text.act) (codes "=" ∷ reply_words text.reply), act-short text.act, reply-short text.reply)

-- the place of the first `=` parts the words
pub equals-place : (place : ℕ) (words : List (Bor (List ℕ))) (d : Bor (List ℕ)) → place ≤ length words → ((k : ℕ) → k < place → bytes_eq (get_or words k d).now (codes "=") ≡ false) → (place < length words → bytes_eq (get_or words place d).now (codes "=") ≡ true) → (texts (take place words) ≡ before_equals (texts words)) × (texts (drop (place + 1) words) ≡ after_equals (texts words))
equals-place zero [] d within before at = (refl, refl)
equals-place zero (word ∷ words) d within before at = let here = at (omega arith) in (rw here refl, rw here refl)
equals-place (suc place) [] d within before at = absurd (omega arith)
equals-place (suc place) (word ∷ words) d within before at =
    let other = before 0 (omega arith) in
    let parts = equals-place place words d (omega arith) (λ k below. before (suc k) (omega arith)) (λ below. at (omega arith)) in
    let next : suc place + 1 ≡ suc (place + 1) = omega arith in
    (rw (other, parts.0) refl, rw (next, other, parts.1) refl)

pub both-none : {A B C : Type 0} (one : Option A) (f : A → B → C) → both one None f ≡ None
both-none None f = refl
both-none (Some one) f = refl

-- the words of a line that is a text are the text's
pub line-words : (line : List ℕ) (words : List (List ℕ)) → words ≡ words_of line → (text : ActText) → IsActText text → line ≡ act_text text → words ≡ text_words text
line-words line words held text is line_is = held ∙ ap words_of line_is ∙ words_of-text text is

pub spaced-text : (line : List ℕ) (words : List (List ℕ)) → words ≡ words_of line → (text : ActText) → IsActText text → line ≡ act_text text → line ≡ spaced words
unfolding act_text
spaced-text line words held text is line_is = line_is ∙ ap spaced (sym (line-words line words held text is line_is))

pub text-spaced : (line : List ℕ) (words : List (List ℕ)) (text : ActText) → line ≡ spaced words → words ≡ text_words text → line ≡ act_text text
unfolding act_text
text-spaced line words text line_is words_are = line_is ∙ ap spaced words_are

-- one text has one act and reply
pub text-only : (line : List ℕ) (words : List (List ℕ)) (r : Option ActText) → words ≡ words_of line → r ≡ text_of words → (text : ActText) → IsActText text → line ≡ act_text text → r ≡ Some text
text-only line words r held read text is line_is = read ∙ ap text_of (line-words line words held text is line_is) ∙ text-again text is

pub no-long-text : (line : List ℕ) → 16 < length (words_of line) → (text : ActText) → IsActText text → line ≡ act_text text → ⊥
no-long-text line long text is line_is =
    let words : words_of line ≡ text_words text = line-words line (words_of line) refl text is line_is in
    omega (arith, ap length words, text-short text)

-- the act's words, ` = `, and the reply's
pub spaced-parts : (xs ys : List (List ℕ)) → 0 < length xs → 0 < length ys → spaced (xs ++ (codes "=" ∷ ys)) ≡ (spaced xs ++ (32 ∷ 61 ∷ 32 ∷ [])) ++ spaced ys
spaced-parts [] ys some others = absurd (omega arith)
spaced-parts (x ∷ xs) [] some others = absurd (omega arith)
spaced-parts (x ∷ xs) (y ∷ ys) some others =
    ap (λ (rest : List ℕ). x ++ rest) (flat_map-append (λ (w : List ℕ). 32 ∷ w) xs (codes "=" ∷ y ∷ ys))
    ∙ sym (append_assoc x (after_spaces xs) (32 ∷ 61 ∷ 32 ∷ (y ++ after_spaces ys)))
    ∙ sym (append_assoc (x ++ after_spaces xs) (32 ∷ 61 ∷ 32 ∷ []) (y ++ after_spaces ys))

-- the word `=` stands between what comes before it and behind it
pub equals-between : (place : ℕ) (words : List (Bor (List ℕ))) (d : Bor (List ℕ)) → place < length words → bytes_eq (get_or words place d).now (codes "=") ≡ true → texts words ≡ texts (take place words) ++ (codes "=" ∷ texts (drop (place + 1) words))
equals-between zero [] d within at = absurd (omega arith)
equals-between zero (word ∷ words) d within at = ap (λ (w : List ℕ). w ∷ texts words) ((bytes_eq-Decides word.now (codes "=")).0 at)
equals-between (suc place) [] d within at = absurd (omega arith)
equals-between (suc place) (word ∷ words) d within at =
    let next : suc (place + 1) ≡ suc place + 1 = omega arith in
    ap (λ (rest : List (List ℕ)). word.now ∷ rest) (equals-between place words d (omega arith) at)
    ∙ ap (λ (k : ℕ). word.now ∷ (texts (take place words) ++ (codes "=" ∷ texts (drop k (word ∷ words))))) next

pub parts-text : (words : List (List ℕ)) (act : Option TextAct) (reply : Option TextReply) → act ≡ act_of (before_equals words) → reply ≡ reply_of (after_equals words) → both act reply text_with ≡ text_of words
parts-text words act reply act_is reply_is = ap (λ (a : Option TextAct). both a reply text_with) act_is ∙ ap (λ (r : Option TextReply). both (act_of (before_equals words)) r text_with) reply_is

-- the three parts of a text, one after the other
pub text-parts : (old mid after_equals new : List ℕ) (text : ActText) → mid ≡ old ++ spaced (act_words text.act) → after_equals ≡ mid ++ (32 ∷ 61 ∷ 32 ∷ []) → new ≡ after_equals ++ spaced (reply_words text.reply) → new ≡ old ++ act_text text
unfolding act_text
text-parts old mid later new text act_is equals_is reply_is =
    let act = spaced (act_words text.act) in
    let reply = spaced (reply_words text.reply) in
    let equals : List ℕ = 32 ∷ 61 ∷ 32 ∷ [] in
    reply_is
    ∙ ap (λ (m : List ℕ). m ++ reply) (equals_is ∙ ap (λ (m : List ℕ). m ++ equals) act_is ∙ append_assoc old act equals)
    ∙ append_assoc old (act ++ equals) reply
    ∙ ap (λ (whole : List ℕ). old ++ whole) (sym (spaced-parts (act_words text.act) (reply_words text.reply) (act-some text.act) (reply-some text.reply)))

pub some-then : {T : Type 0} (r : Option T) (P Q : T → Type 0) → ((x : T) → P x → Q x) → IfSome r P → IfSome r Q
some-then (Some x) P Q more is = more x is
some-then None P Q more is = tt

pub ok-then : {T E : Type 0} (r : Result T E) (P Q : Type 0) → (P → Q) → OnOk r P → OnOk r Q
ok-then (Ok x) P Q more is = more is
ok-then (Err e) P Q more is = tt

-- The words of a form of a play are of that form.
use Rattle.std.proofs.Common.{◌≡◌, ℕ, ◌^◌, ◌<◌, ◌≤◌, Bool, true, false, ◌&&◌, if◌then◌else◌, nat_le, nat_lt, nat_eq, List, [], ◌∷◌, length, get_or, map, refl, sym, ap, ◌∙◌, subst, arith, Option, Some, None, IfSome, IfNone, IfOk, Result, Ok, Err, codes}
use Rattle.std.specs.Borrow.{Bor}
use Rattle.std.specs.Str.{bytes_eq}
use Rattle.std.specs.Str.Parse.{digits_value}
use Rattle.std.proofs.lemmas.Slice.Eq.{bytes_eq-Decides}
use Rattle.line_text.specs.Lists.{texts}
use Rattle.line_text.specs.ReadNumbers.{small_number, number_below}
use Rattle.std.specs.Fmt.{decimal}
use Rattle.std.specs.List.{AllByRecursion}
use Rattle.std.proofs.lemmas.Grind.{common_steps}
use Rattle.std.proofs.lemmas.List.{length-map}
use Rattle.act_text.specs.Reading.{name_of}
use Rattle.act_text.proofs.ActsAgain.{small-again}
use Rattle.act_text.proofs.Dots.{name_of-name, port_of-port}
use Rattle.script_lang.specs.FileNames.{IsFileName}
use Rattle.script_lang.specs.PlayForms.{play_words, IsPlayForm, IsFactor}
use Rattle.script_lang.specs.PlayScripts.{IsPlayFormOf}
use Rattle.script_lang.specs.ReadPlayForms.{within, number_within, weights_of, with_first, mixer_with, plain_part_of, word_part_of, long_form_of, play_form_of, part_with, IsFileOf}
use Rattle.script_lang.specs.declared.play_line.PartForm.{PartForm}
use Rattle.script_lang.specs.declared.play_line.PartForm.TheVariants.{Source, Late, Decoder, Alaw, Mulaw, Gain, Mixer, Splitter, Sink}
use Rattle.script_lang.specs.declared.play_form.PlayForm.{PlayForm}
use Rattle.script_lang.specs.declared.play_form.PlayForm.TheVariants.{Part, Link}

le-test : (n limit : ℕ) → n ≤ limit → nat_le n limit ≡ true
le-test n limit small = Prim.grind (arith, common_steps)

eq-test : (n : ℕ) → nat_eq n n ≡ true
eq-test n = Prim.grind (arith, common_steps)

pub within-again : (low high n : ℕ) → high < 2 ^ 32 → low ≤ n → n ≤ high → number_within low high (decimal n) ≡ Some n
within-again low high n fits least most =
    let small : n < 2 ^ 32 = omega arith in
    rw (small-again n small, le-test low n least, le-test n high most) refl

pub weights-again : (weights : List ℕ) → AllByRecursion IsFactor weights → weights_of (map decimal weights) ≡ Some weights
weights-again [] are = refl
weights-again (weight ∷ weights) are = rw (within-again 0 65535 weight (omega arith) (omega arith) are.0, weights-again weights are.1) refl

-- the file is the form's, where it has one
abbrev pub HasFile : PlayForm → Option (List ℕ) → Type 0
HasFile (Part name (Source file)) found = found ≡ Some file
HasFile (Part name (Late file)) found = found ≡ Some file
HasFile (Part name (Sink file)) found = found ≡ Some file
HasFile (Part name Decoder) found = Unit {0}
HasFile (Part name Alaw) found = Unit {0}
HasFile (Part name Mulaw) found = Unit {0}
HasFile (Part name (Gain gain)) found = Unit {0}
HasFile (Part name (Mixer weights)) found = Unit {0}
HasFile (Part name (Splitter outputs)) found = Unit {0}
HasFile (Link output input count size) found = Unit {0}

pub play-again : (found : Option (List ℕ)) (form : PlayForm) → IsPlayForm form → HasFile form found → play_form_of found (play_words form) ≡ Some form
play-again found (Part name (Source file)) is has = rw (name_of-name name is.0, has) refl
play-again found (Part name (Late file)) is has = rw (name_of-name name is.0, has) refl
play-again found (Part name (Sink file)) is has = rw (name_of-name name is.0, has) refl
play-again found (Part name Decoder) is has = rw (name_of-name name is.0) refl
play-again found (Part name Alaw) is has = rw (name_of-name name is.0) refl
play-again found (Part name Mulaw) is has = rw (name_of-name name is.0) refl
play-again found (Part name (Gain gain)) is has = rw (name_of-name name is.0, within-again 0 65535 gain (omega arith) (omega arith) is.1) refl
play-again found (Part name (Splitter outputs)) is has = rw (name_of-name name is.0, within-again 2 8 outputs (omega arith) is.1.0 is.1.1) refl
play-again found (Part name (Mixer [])) is has = absurd (omega (arith, is.1.0.0))
play-again found (Part name (Mixer (weight ∷ weights))) is has =
    rw (name_of-name name is.0, within-again 2 8 (length (weight ∷ weights)) (omega arith) is.1.0.0 is.1.0.1, weights-again (weight ∷ weights) is.1.1, eq-test (length (weight ∷ weights))) refl
play-again found (Link output input count size) is has =
    rw (port_of-port output is.0, port_of-port input is.1, within-again 1 32 count (omega arith) is.2.0 is.2.1, within-again 1 4096 size (omega arith) is.3.0 is.3.1) refl

-- the file that the third word names
pub has-file : (form : PlayForm) (found : Option (List ℕ)) → IsPlayForm form → IsFileOf (get_or (play_words form) 2 []) found → HasFile form found
has-file (Part name (Source file)) (Some found) is (same, named) = ap Some same
has-file (Part name (Source file)) None is none = absurd (none is.1)
has-file (Part name (Late file)) (Some found) is (same, named) = ap Some same
has-file (Part name (Late file)) None is none = absurd (none is.1)
has-file (Part name (Sink file)) (Some found) is (same, named) = ap Some same
has-file (Part name (Sink file)) None is none = absurd (none is.1)
has-file (Part name Decoder) found is of = tt
has-file (Part name Alaw) found is of = tt
has-file (Part name Mulaw) found is of = tt
has-file (Part name (Gain gain)) found is of = tt
has-file (Part name (Mixer weights)) found is of = tt
has-file (Part name (Splitter outputs)) found is of = tt
has-file (Link output input count size) found is of = tt

third-file : (form : PlayForm) → HasFile form (Some (get_or (play_words form) 2 []))
third-file (Part name (Source file)) = refl
third-file (Part name (Late file)) = refl
third-file (Part name (Sink file)) = refl
third-file (Part name Decoder) = tt
third-file (Part name Alaw) = tt
third-file (Part name Mulaw) = tt
third-file (Part name (Gain gain)) = tt
third-file (Part name (Mixer weights)) = tt
third-file (Part name (Splitter outputs)) = tt
third-file (Link output input count size) = tt

-- the words of a form give it, with the third word in the place of a file
pub play-found : (words : List (List ℕ)) (form : PlayForm) → IsPlayFormOf words form → play_form_of (Some (get_or words 2 [])) words ≡ Some form
play-found words form is =
    ap (λ (ws : List (List ℕ)). play_form_of (Some (get_or ws 2 [])) ws) is.spelled
    ∙ play-again (Some (get_or (play_words form) 2 [])) form is.is (third-file form)

none-some : {T : Type 0} (x : T) (found : Option T) → found ≡ None → found ≡ Some x → ⊥
none-some x found p q = let e : None ≡ Some x = sym p ∙ q in cc

-- where the reading finds none, the words are of no form
pub play-none : (words : List (List ℕ)) (found : Option (List ℕ)) → play_form_of found words ≡ None → IsFileOf (get_or words 2 []) found → (form : PlayForm) → IsPlayFormOf words form → ⊥
play-none words found none of form is =
    let file = has-file form found is.is (subst (λ (ws : List (List ℕ)). IsFileOf (get_or ws 2 []) found) is.spelled of) in
    none-some form (play_form_of found words) none (ap (play_form_of found) is.spelled ∙ play-again found form is.is file)

-- a name without a part is no form
pub part-none : (name : Option (List ℕ)) → part_with name None ≡ None
part-none (Some name) = refl
part-none None = refl

-- a line of units is no form
pub play-units : (found : Option (List ℕ)) (n : ℕ) → play_form_of found (codes "units" ∷ decimal n ∷ []) ≡ None
play-units found n = part-none (name_of (decimal n))

-- ---- what the reading found is spelled so

abbrev IsNothing : {T : Type 0} → Option T → Type 0
IsNothing None = Unit {0}
IsNothing (Some _) = ⊥

nothing-some : {T : Type 0} (x : T) → None ≡ Some x → ⊥
nothing-some {T} x e = subst (λ (o : Option T). IsNothing o) e tt

choose : (a b : Bool) (v n : ℕ) → (if a then (if b then Some v else None) else None) ≡ Some n → (b ≡ true) × (v ≡ n)
choose true true v n is = (refl, cc)
choose true false v n is = absurd (nothing-some n is)
choose false b v n is = absurd (nothing-some n is)

small-some : (word : List ℕ) (n : ℕ) → small_number word ≡ Some n → word ≡ decimal n
unfolding number_below
small-some word n is =
    let tests = choose (nat_lt (digits_value 10 word) (2 ^ 32)) (bytes_eq word (decimal (digits_value 10 word))) (digits_value 10 word) n is in
    (bytes_eq-Decides word (decimal (digits_value 10 word))).0 tests.0 ∙ ap decimal tests.1

le-of : (n limit : ℕ) → nat_le n limit ≡ true → n ≤ limit
le-of n limit test = Prim.grind (arith, common_steps)

pick : (a b : Bool) (m n : ℕ) → (if a && b then Some m else None) ≡ Some n → (b ≡ true) × (m ≡ n)
pick true true m n is = (refl, cc)
pick true false m n is = absurd (nothing-some n is)
pick false b m n is = absurd (nothing-some n is)

within-some : (low high n : ℕ) (word : List ℕ) (o : Option ℕ) → small_number word ≡ o → within low high o ≡ Some n → (word ≡ decimal n) × (n ≤ high)
within-some low high n word None small is = absurd (nothing-some n is)
within-some low high n word (Some m) small is =
    let parts = pick (nat_le low m) (nat_le m high) m n is in
    (small-some word n (small ∙ ap Some parts.1), subst (λ (k : ℕ). k ≤ high) parts.1 (le-of m high parts.0))

rest-some : (one : Option ℕ) (rest : Option (List ℕ)) (weights : List ℕ) → with_first one rest ≡ Some weights → (first : ℕ) × (others : List ℕ) × (one ≡ Some first) × (rest ≡ Some others) × (first ∷ others ≡ weights)
rest-some None rest weights is = absurd (nothing-some weights is)
rest-some (Some first) None weights is = absurd (nothing-some weights is)
rest-some (Some first) (Some others) weights is = (first, others, refl, refl, let e : first ∷ others ≡ weights = cc in e)

weights-some : (words : List (List ℕ)) (weights : List ℕ) → weights_of words ≡ Some weights → (words ≡ map decimal weights) × AllByRecursion IsFactor weights
weights-some [] weights is = (let e : [] ≡ weights = cc in subst (λ (ws : List ℕ). ([] ≡ map decimal ws) × AllByRecursion IsFactor ws) e (refl, tt))
weights-some (word ∷ words) weights is =
    let parts = rest-some (number_within 0 65535 word) (weights_of words) weights is in
    let first = within-some 0 65535 parts.0 word (small_number word) refl parts.2 in
    let rest = weights-some words parts.1 parts.3 in
    subst (λ (ws : List ℕ). (word ∷ words ≡ map decimal ws) × AllByRecursion IsFactor ws) parts.4 (
      ap (λ (w : List ℕ). w ∷ words) first.0 ∙ ap (λ (ws : List (List ℕ)). decimal parts.0 ∷ ws) rest.0,
      (first.1, rest.1),
    )

pub found-weights : {E : Type 0} (words : List (List ℕ)) (r : Result (Option (List ℕ)) E) → IfOk r (λ found. found ≡ weights_of words) → IfOk r (λ found. IfSome found (λ weights. (words ≡ map decimal weights) × AllByRecursion IsFactor weights))
found-weights words (Err e) is = tt
found-weights words (Ok None) is = tt
found-weights words (Ok (Some weights)) is = weights-some words weights (sym is)

-- ---- the file that a word names

pub filed : {E : Type 0} (r : Result (Option PartForm) E) (verb word : List ℕ) → IsFileName word → IfOk r (λ found. found ≡ word_part_of verb word (Some word))
    → IfOk r (λ found. (file : Option (List ℕ)) × IsFileOf word file × (found ≡ word_part_of verb word file))
filed (Ok found) verb word named is = (Some word, (refl, named), is)
filed (Err error) verb word named is = tt

-- ---- words of which the reading finds no form

abbrev pub NoForm : List (List ℕ) → Option PlayForm → Type 0
NoForm words found = IfNone found ((form : PlayForm) → IsPlayFormOf words form → ⊥)

pub two-none : (words : List (Bor (List ℕ))) (d e : Bor (List ℕ)) (r : Option PlayForm) → length words ≡ 2
    → r ≡ part_with (name_of (get_or words 1 d).now) (plain_part_of (get_or words 0 e).now) → NoForm (texts words) r
two-none [] d e r len is = absurd (omega arith)
two-none (a ∷ []) d e r len is = absurd (omega arith)
two-none (a ∷ b ∷ c ∷ words) d e r len is = absurd (omega arith)
two-none (a ∷ b ∷ []) d e (Some form) len is = tt
two-none (a ∷ b ∷ []) d e None len is = λ form. play-none (a.now ∷ b.now ∷ []) None (sym is) (λ named. let some = named.some in omega arith) form

pub three-none : {E : Type 0} (verb one two : List ℕ) (rest : List (Bor (List ℕ))) (r : Result (Option PlayForm) E) → length rest ≡ 0
    → IfOk r (λ found. (file : Option (List ℕ)) × IsFileOf two file × (found ≡ part_with (name_of one) (word_part_of verb two file)))
    → IfOk r (NoForm (verb ∷ one ∷ two ∷ texts rest))
three-none verb one two (a ∷ rest) r len is = absurd (omega arith)
three-none verb one two [] (Err error) len is = tt
three-none verb one two [] (Ok (Some form)) len is = tt
three-none verb one two [] (Ok None) len (file, of, is) = λ form. play-none (verb ∷ one ∷ two ∷ []) file (sym is) of form

-- a long line has no file, and the third word stands for any
not-file : (verb one two three : List ℕ) (rest : List (List ℕ)) (form : PlayForm) → IsPlayFormOf (verb ∷ one ∷ two ∷ three ∷ rest) form → HasFile form None
not-file verb one two three rest (Part name (Source file)) is = absurd (let len = ap length is.spelled in omega arith)
not-file verb one two three rest (Part name (Late file)) is = absurd (let len = ap length is.spelled in omega arith)
not-file verb one two three rest (Part name (Sink file)) is = absurd (let len = ap length is.spelled in omega arith)
not-file verb one two three rest (Part name Decoder) is = tt
not-file verb one two three rest (Part name Alaw) is = tt
not-file verb one two three rest (Part name Mulaw) is = tt
not-file verb one two three rest (Part name (Gain gain)) is = tt
not-file verb one two three rest (Part name (Mixer weights)) is = tt
not-file verb one two three rest (Part name (Splitter outputs)) is = tt
not-file verb one two three rest (Link output input count size) is = tt

pub long-none : {E : Type 0} (verb one two : List ℕ) (rest : List (Bor (List ℕ))) (r : Result (Option PlayForm) E) → 0 < length rest
    → IfOk r (λ found. found ≡ long_form_of verb one two (texts rest)) → IfOk r (NoForm (verb ∷ one ∷ two ∷ texts rest))
long-none verb one two [] r some is = absurd (omega arith)
long-none verb one two (three ∷ rest) (Err error) some is = tt
long-none verb one two (three ∷ rest) (Ok (Some form)) some is = tt
long-none verb one two (three ∷ rest) (Ok None) some is = λ form of.
    let words = verb ∷ one ∷ two ∷ three.now ∷ texts rest in
    none-some form (play_form_of None words) (sym is)
    (ap (play_form_of None) of.spelled ∙ play-again None form of.is (not-file verb one two three.now (texts rest) form of))

-- ---- a mixer has as many weights as words

as-many : (words : List (List ℕ)) (weights : List ℕ) → words ≡ map decimal weights → length weights ≡ length words
as-many words weights is = sym (ap length is ∙ length-map weights decimal)

ne-test : (n m : ℕ) → (n ≡ m → ⊥) → nat_eq n m ≡ false
ne-test n m other = Prim.grind (arith, common_steps)

-- another number of words is no mixer
pub mixer-other : (inputs : ℕ) (words : List (List ℕ)) (o : Option (List ℕ)) → o ≡ weights_of words → (length words ≡ inputs → ⊥) → None ≡ mixer_with (Some inputs) o
mixer-other inputs words None is other = refl
mixer-other inputs words (Some weights) is other =
    let same = as-many words weights (weights-some words weights (sym is)).0 in
    let test = ne-test (length weights) inputs (λ e. other (sym same ∙ e)) in
    rw test refl

-- as many references as texts
pub texts-many : (words : List (Bor (List ℕ))) → length (texts words) ≡ length words
texts-many words = length-map words (λ word. word.now)

-- Each step on the words keeps their rule.
use Rattle.std.proofs.Common.{◌≡◌, ℕ, zero, suc, ◌+◌, ◌-◌, ◌*◌, ◌/◌, ◌%◌, ◌<◌, ◌≢◌, ◌==◌, cond, List, [], ◌∷◌, ◌++◌, map, length, get_or, set, true, sym, refl, ap, ◌∙◌, subst, ⊎_elim, arith, append-nil, append_assoc, length-append, length-set, true≢false}
use lib.Seq.{map-set}
use mathlib.Core.Option.{some, none, some-injective, some-ne-none}
use mathlib.Core.Logic.{dite}
use native.Mathlib.Decide.{ℕ_discrete}
use lib.ListN.{get_elem?}
use Rattle.atomic_table.specs.Table.{Me, step, keeps, Allows, Splits, Joins, opening}
use Rattle.atomic_table.specs.Table as table
use Rattle.atomic_table.proofs.Lists.{at_set, set_else, at_snoc}
use Rattle.omx_types.specs.declared.state.State.{State}
use Rattle.omx_types.specs.declared.state.State.TheVariants.{Invalid, Loaded, Idle, Executing, Pause, WaitForResources}
use Rattle.omx_types.specs.Numbers.{state_number}
use Rattle.state_words.specs.declared.view.View.{View}
use Rattle.state_words.specs.Shown.{States, Begins, Within, LastIs, states_of, version_of, after, last_or, word_of, words_of, reader, merged, nobody, learned, Fits, Kept, Looks, Shows, opens, firsts}

S : Type 0
S = table.State (Unit {0}) View

-- the numbers of states are below 8, and different
pub low : (s : State) → state_number s < 8
low Invalid = omega arith
low Loaded = omega arith
low Idle = omega arith
low Executing = omega arith
low Pause = omega arith
low WaitForResources = omega arith

numbered : ℕ → State
numbered n = cond (n == 1) Loaded (cond (n == 2) Idle (cond (n == 3) Executing (cond (n == 4) Pause (cond (n == 5) WaitForResources Invalid))))

numbered_back : (s : State) → numbered (state_number s) ≡ s
unfolding numbered
numbered_back Invalid = refl
numbered_back Loaded = refl
numbered_back Idle = refl
numbered_back Executing = refl
numbered_back Pause = refl
numbered_back WaitForResources = refl

pub one_state : (s t : State) → state_number s ≡ state_number t → s ≡ t
one_state s t e = sym (numbered_back s) ∙ (ap numbered e ∙ numbered_back t)

begins_self : (xs : States) → Begins xs xs
begins_self xs = ([], append-nil xs)

pub within_self : (xs : List States) → Within xs xs
within_self xs i = begins_self (states_of xs i)

pub within_nil : (ys : List States) → Within [] ys
within_nil ys i = (states_of ys i, refl)

get_here : {X : Type 0} (l : List X) (i : ℕ) (a d : X) → i < length l → get_or (set l i a) i d ≡ a
get_here [] i a d h = absurd (omega arith)
get_here (x ∷ xs) zero a d h = refl
get_here (x ∷ xs) (suc i) a d h = get_here xs i a d (omega arith)

get_else : {X : Type 0} (l : List X) (i j : ℕ) (a d : X) → i ≢ j → get_or (set l j a) i d ≡ get_or l i d
get_else [] i j a d ne = refl
get_else (x ∷ xs) zero zero a d ne = absurd (ne refl)
get_else (x ∷ xs) zero (suc j) a d ne = refl
get_else (x ∷ xs) (suc i) zero a d ne = refl
get_else (x ∷ xs) (suc i) (suc j) a d ne = get_else xs i j a d (λ e. ne (ap suc e))

-- one more state of a component goes behind the others
within_more : (xs ys : List States) (k : ℕ) (x : State) → k < length ys → Within xs ys → Within xs (after ys k x)
within_more xs ys k x has w i = let o = w i in dite (ℕ_discrete i k)
    (λ same. subst (Begins (states_of xs i)) (sym ((λ j. states_of (after ys k x) (same j)) ∙ get_here ys k (states_of ys k ++ x ∷ []) [] has))
    (o.0 ++ x ∷ [], sym (append_assoc (states_of xs i) o.0 (x ∷ [])) ∙ (ap (λ (z : States). z ++ x ∷ []) o.1 ∙ ap (λ (n : ℕ). states_of ys n ++ x ∷ []) same)))
    (λ other. subst (Begins (states_of xs i)) (sym (get_else ys i k (states_of ys k ++ x ∷ []) [] other)) o)

set_get : (l : List ℕ) (i : ℕ) → set l i (get_or l i 0) ≡ l
set_get [] i = refl
set_get (x ∷ xs) zero = refl
set_get (x ∷ xs) (suc i) = ap (λ l. x ∷ l) (set_get xs i)

get_map : (shown : List States) (k : ℕ) → k < length shown → get_or (map word_of shown) k 0 ≡ word_of (states_of shown k)
get_map [] k h = absurd (omega arith)
get_map (x ∷ xs) zero h = refl
get_map (x ∷ xs) (suc k) h = get_map xs k (omega arith)

found : (shown : List States) (word : ℕ) → 0 < word → word - 1 < length shown → get_or (words_of shown) word 0 ≡ word_of (states_of shown (word - 1))
found shown zero pos h = absurd (omega arith)
found shown (suc k) pos h = let q : k ≡ suc k - 1 = omega arith in get_map shown k (omega arith) ∙ ap (λ (n : ℕ). word_of (states_of shown n)) q

pub looks : (slots id word : ℕ) (me : Me (Unit {0}) View) → Allows Kept slots id me word (λ n. n) (Looks (step slots word 0 0 none) me)
looks slots id word me s g wide at _ = let v : View = me.0 in let f = g.fits id v at in let n : ℕ = get_or s.words word 0 in (
  learned v g.shown,
  keeps,
  tt,
  record {
    shown = g.shown;
    words = set_get s.words word ∙ g.words;
    some_state = g.some_state;
    fits = λ j u e. ⊎_elim
        (λ x. subst (λ (z : ℕ × View). Fits g.shown z.0 z.1) (λ i. (sym x.0 i, x.1 i)) record { shower = λ sh. ((f.shower sh).0, refl); seen = within_self g.shown; also = within_nil g.shown; each = λ _. refl })
        (λ x. g.fits j u x.1) (at_set s.views id j (learned v g.shown) u e);
  },
  record {
    shown = g.shown;
    after = refl;
    seen = f.seen;
    also = f.also;
    each = λ alive. sym (f.each alive);
    found = λ pos h. (ap (λ ws. get_or ws word 0) g.words ∙ found g.shown word pos h, g.some_state (word - 1) h);
    shower = λ sh. sym (f.shower sh).1;
  },
)

set_word : (shown : List States) (word new : ℕ) (l : States) → 0 < word → new ≡ word_of l → set (words_of shown) word new ≡ words_of (set shown (word - 1) l)
set_word shown zero new l pos e = absurd (omega arith)
set_word shown (suc k) new l pos e = ap (λ ws. 0 ∷ ws) (ap (set (map word_of shown) k) e ∙ sym (map-set word_of shown k l)) ∙ ap (λ (n : ℕ). words_of (set shown n l)) (omega arith)

last_more : (d : State) (l : States) (x : State) → last_or d (l ++ x ∷ []) ≡ x
last_more d [] x = refl
last_more d (y ∷ ys) x = last_more y ys x

-- the states of a word that says which of them is the last
last_same : (l : States) (x y : State) → word_of (l ++ x ∷ []) ≡ word_of (l ++ y ∷ []) → x ≡ y
last_same l x y e = let a = last_more Invalid l x in let b = last_more Invalid l y in let m = length-append l (x ∷ []) in let n = length-append l (y ∷ []) in
    let p : state_number (last_or Invalid (l ++ x ∷ [])) ≡ state_number x = ap state_number a in let q : state_number (last_or Invalid (l ++ y ∷ [])) ≡ state_number y = ap state_number b in
    one_state x y (omega arith)

some_more : (shown : List States) (k : ℕ) (x : State) → k < length shown → ((i : ℕ) → i < length shown → 0 < length (states_of shown i)) → (i : ℕ) → i < length (after shown k x) → 0 < length (states_of (after shown k x) i)
some_more shown k x has each i h = dite (ℕ_discrete i k)
    (λ same. subst (λ (z : States). 0 < length z) (sym ((λ j. states_of (after shown k x) (same j)) ∙ get_here shown k (states_of shown k ++ x ∷ []) [] has)) (let n = length-append (states_of shown k) (x ∷ []) in omega arith))
    (λ other. subst (λ (z : States). 0 < length z) (sym (get_else shown i k (states_of shown k ++ x ∷ []) [] other)) (each i (subst (λ (n : ℕ). i < n) (length-set shown k (states_of shown k ++ x ∷ [])) h)))

pub shows : (slots id word new : ℕ) (me : Me (Unit {0}) View) (x : State) → me.0.shows ≡ true → 0 < word → word - 1 < length me.0.seen → new ≡ word_of (states_of me.0.seen (word - 1) ++ x ∷ [])
    → Allows Kept slots id me word (λ _. new) (λ _. Shows (step slots word new 0 none) me new)
shows slots id word new me x sh pos has is s g wide at _ = let v : View = me.0 in let f = g.fits id v at in let k : ℕ = word - 1 in
    let seen_is : v.seen ≡ g.shown = (f.shower sh).1 in let shown' : List States = after v.seen k x in let w : View = learned v shown' in
    let all_is : shown' ≡ after g.shown k x = ap (λ (z : List States). after z k x) seen_is in
    let has' : k < length g.shown = subst (λ (z : List States). k < length z) seen_is has in
    let long : length shown' ≡ length g.shown = ap length all_is ∙ length-set g.shown k (states_of g.shown k ++ x ∷ []) in (
      w,
      keeps,
      tt,
      record {
        shown = shown';
        words = ap (λ ws. set ws word new) g.words ∙ (set_word g.shown word new (states_of v.seen k ++ x ∷ []) pos is ∙ (ap (λ (z : List States). words_of (set g.shown k (states_of z k ++ x ∷ []))) seen_is ∙ ap words_of (sym all_is)));
        some_state = subst (λ (z : List States). (i : ℕ) → i < length z → 0 < length (states_of z i)) (sym all_is) (some_more g.shown k x has' g.some_state);
        fits = λ j u e. ⊎_elim
            (λ y. subst (λ (z : ℕ × View). Fits shown' z.0 z.1) (λ i. (sym y.0 i, y.1 i)) record { shower = λ _. ((f.shower sh).0, refl); seen = within_self shown'; also = within_nil shown'; each = λ _. refl })
            (λ y. let o = g.fits j u y.1 in record {
              shower = λ t. absurd (y.0 ((o.shower t).0 ∙ sym (f.shower sh).0));
              seen = subst (Within u.seen) (sym all_is) (within_more u.seen g.shown k x has' o.seen);
              also = subst (Within u.also) (sym all_is) (within_more u.also g.shown k x has' o.also);
              each = λ a. o.each a ∙ sym long;
            }) (at_set s.views id j w u e);
      },
      λ x' _ n' i. let same_x : x ≡ x' = last_same (states_of v.seen k) x x' (sym is ∙ n') in (learned v (after v.seen k (same_x i)), me.1),
    )

pub splits : (id : ℕ) (v : View) → Splits Kept id v v (reader v)
splits id v s g at = let f = g.fits id v at in record {
  shown = g.shown;
  words = g.words;
  some_state = g.some_state;
  fits = λ j u e. ⊎_elim
      (λ x. ⊎_elim (λ y. subst (λ (z : ℕ × View). Fits g.shown z.0 z.1) (λ i. (sym y.0 i, y.1 i)) f) (λ y. g.fits j u y.1) (at_set s.views id j v u x))
      (λ x. subst (Fits g.shown j) x record { shower = λ t. absurd (true≢false (sym t)); seen = f.seen; also = within_nil g.shown; each = f.each }) (at_snoc (set s.views id v) (reader v) u j e);
}

pub joins : (id : ℕ) (v : View) (oid : ℕ) (w : View) → Joins Kept id v oid w (merged v w) nobody
joins id v oid w s g at apart oat = let f = g.fits id v at in let o = g.fits oid w (sym (set_else s.views id oid (merged v w) apart) ∙ oat) in record {
  shown = g.shown;
  words = g.words;
  some_state = g.some_state;
  fits = λ j u e. ⊎_elim
      (λ x. subst (Fits g.shown j) x.1 record { shower = λ t. absurd (true≢false (sym t)); seen = within_nil g.shown; also = within_nil g.shown; each = λ t. absurd (true≢false t) })
      (λ x. ⊎_elim (λ y. subst (λ (z : ℕ × View). Fits g.shown z.0 z.1) (λ i. (sym y.0 i, y.1 i)) record { shower = f.shower; seen = f.seen; also = o.seen; each = f.each }) (λ y. g.fits j u y.1) (at_set s.views id j (merged v w) u x.1))
      (at_set (set s.views id (merged v w)) oid j nobody u e);
}

last_at_from : (x : State) (xs : States) → get_elem? (x ∷ xs) (length xs) ≡ some (last_or x xs)
last_at_from x [] = refl
last_at_from x (y ∷ ys) = last_at_from y ys

last_at : (l : States) → 0 < length l → get_elem? l (length l - 1) ≡ some (last_or Invalid l)
last_at [] h = absurd (omega arith)
last_at (x ∷ xs) h = ap (get_elem? (x ∷ xs)) (omega arith) ∙ last_at_from x xs

-- the word tells the version and the state
pub tells : (known : List States) (index word : ℕ) (state : State) → 0 < length (states_of known index) → word ≡ word_of (states_of known index) → ((s : State) → word % 8 ≡ state_number s → state ≡ s) → LastIs known index (word / 8) state
tells known index word state pos e reads = let l : States = states_of known index in let k = low (last_or Invalid l) in
    let v : word / 8 ≡ length l - 1 = omega arith in let m : word % 8 ≡ state_number (last_or Invalid l) = omega arith in let x : state ≡ last_or Invalid l = reads (last_or Invalid l) m in
    (omega arith, ap (get_elem? l) v ∙ (last_at l pos ∙ ap (λ (z : State). some z) (sym x)))

next_word : (l : States) (word : ℕ) (state : State) → 0 < length l → word ≡ word_of l → length l - 1 < 1152921504606846976
    → (word < 9223372036854775808) × (word - word % 8 + 8 + state_number state ≡ word_of (l ++ state ∷ []))
next_word l word state pos e short = let k = low (last_or Invalid l) in let k' = low state in
    let long = length-append l (state ∷ []) in let last : state_number (last_or Invalid (l ++ state ∷ [])) ≡ state_number state = ap state_number (last_more Invalid l state) in
    let m : word % 8 ≡ state_number (last_or Invalid l) = omega arith in let n : word - word % 8 + 8 + state_number state ≡ length l * 8 + state_number state = omega arith in
    (omega arith, n ∙ omega arith)

first_words : (states : States) → map state_number states ≡ map word_of (firsts states)
first_words [] = refl
first_words (x ∷ xs) = λ i. (let one : state_number x ≡ (1 - 1) * 8 + state_number x = omega arith in one i) ∷ first_words xs i

one_view : (shown : List States) (v : View) (j : ℕ) (u : View) → get_elem? (v ∷ []) j ≡ some u → Fits shown 0 v → Fits shown j u
one_view shown v zero u e f = subst (Fits shown 0) (some-injective v u e) f
one_view shown v (suc j) u e f = absurd (some-ne-none u (sym e))

first_some : (states : States) (i : ℕ) → i < length (firsts states) → 0 < length (states_of (firsts states) i)
first_some [] i h = absurd (omega arith)
first_some (x ∷ xs) zero h = omega arith
first_some (x ∷ xs) (suc i) h = first_some xs i (omega arith)

pub begins : (states : States) (words : List ℕ) → words ≡ 0 ∷ map state_number states → Kept (opening words [] (opens states))
begins states words is = record {
  shown = firsts states;
  words = is ∙ ap (λ ws. 0 ∷ ws) (first_words states);
  some_state = first_some states;
  fits = λ j u e. one_view (firsts states) (opens states) j u e record { shower = λ _. (refl, refl); seen = within_self (firsts states); also = within_nil (firsts states); each = λ _. refl };
}

-- what the shower stores next
pub record Next (known : List States) (index word : ℕ) (state : State) : Type 0 where
  pub has : index < length known
  pub some_state : 0 < length (states_of known index)
  pub short : word < 9223372036854775808
  pub next : word - word % 8 + 8 + state_number state ≡ word_of (states_of known index ++ state ∷ [])

pub next_of : (known known' : List States) (index words word : ℕ) (state : State) → length known + 1 ≡ words → index < words - 1 → known' ≡ known
    → (0 < index + 1 → index + 1 - 1 < length known' → (word ≡ word_of (states_of known' (index + 1 - 1))) × (0 < length (states_of known' (index + 1 - 1))))
    → version_of known index < 1152921504606846976 → Next known index word state
next_of known known' index words word state long few same finds room = let q : index + 1 - 1 ≡ index = omega arith in let n : length known' ≡ length known = ap length same in
    let f = finds (omega arith) (omega arith) in let is : states_of known' (index + 1 - 1) ≡ states_of known index = λ i. states_of (same i) (q i) in
    let pos : 0 < length (states_of known index) = subst (λ (z : States). 0 < length z) is f.1 in
    let w = next_word (states_of known index) word state pos (f.0 ∙ ap word_of is) room in
    record { has = omega arith; some_state = pos; short = w.0; next = w.1 }

-- what it stores is the word of the states that it then knows
pub next_now : (known known1 : List States) (index word number : ℕ) (state : State) → Next known index word state → known1 ≡ known → number ≡ state_number state → word - word % 8 + 8 + number ≡ word_of (states_of known1 (index + 1 - 1) ++ state ∷ [])
next_now known known1 index word number state n same is = let q : index + 1 - 1 ≡ index = omega arith in
    ap (λ (k : ℕ). word - word % 8 + 8 + k) is ∙ (n.next ∙ (λ i. word_of (states_of (sym same i) (sym q i) ++ state ∷ [])))

-- what the shower knows once it stored
pub stored : (known : List States) (index word number : ℕ) (state : State) (m1 m2 : Me (Unit {0}) View) (n : Next known index word state) → m1.0.seen ≡ known → number ≡ state_number state
    → ((x : State) → index + 1 - 1 < length m1.0.seen → word - word % 8 + 8 + number ≡ word_of (states_of m1.0.seen (index + 1 - 1) ++ x ∷ []) → m2 ≡ (learned m1.0 (after m1.0.seen (index + 1 - 1) x), m1.1))
    → m2 ≡ (learned m1.0 (after known index state), m1.1)
stored known index word number state m1 m2 n same is told = let q : index + 1 - 1 ≡ index = omega arith in let h = n.has in let l : length m1.0.seen ≡ length known = ap length same in
    told state (omega arith) (next_now known m1.0.seen index word number state n same is) ∙ (λ i. (learned m1.0 (after (same i) (q i) state), m1.1))

pub long_after : (known : List States) (index words : ℕ) (state : State) (m1 m2 : Me (Unit {0}) View) → length known + 1 ≡ words → m2 ≡ (learned m1.0 (after known index state), m1.1) → length m2.0.seen + 1 ≡ words
long_after known index words state m1 m2 long e = ap (λ (m : Me (Unit {0}) View). length m.0.seen + 1) e ∙ (ap (λ (k : ℕ). k + 1) (length-set known index (states_of known index ++ state ∷ [])) ∙ long)

-- the version is one higher
pub one_higher : (known known' : List States) (index word : ℕ) (state : State) → Next known index word state → known' ≡ after known index state → version_of known' index ≡ version_of known index + 1
one_higher known known' index word state n is = let l : States = states_of known index in let pos = n.some_state in
    let e : states_of known' index ≡ l ++ state ∷ [] = ap (λ (z : List States). states_of z index) is ∙ get_here known index (l ++ state ∷ []) [] n.has in
    let m : length (states_of known' index) ≡ length l + 1 = ap length e ∙ length-append l (state ∷ []) in omega arith

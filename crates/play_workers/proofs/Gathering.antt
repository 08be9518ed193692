-- The first pass of a turnstile meets the others, one after another.
use Rattle.std.proofs.Common.{◌≡◌, ℕ, zero, suc, ◌+◌, ◌<◌, ◌≤◌, ◌⊎◌, ◌==◌, inl, inr, ⊎_elim, List, [], ◌∷◌, ◌++◌, length, All, Bool, true, false, Some, slice_get, sym, refl, ap, ◌∙◌, subst, arith, length-append, eq-eqb, append_assoc, append-nil}
use Rattle.std.specs.Prelude.{Contains}
use Rattle.std.proofs.lemmas.Option.{slice_get_within}
use Rattle.std.proofs.lemmas.List.Elements.{All-head, All-tail, All-cons, All-nil, All-append, All-weaker, All-contains, All-contains_itself, Contains-append_left, Contains-append_right}
use mathlib.Core.Option.{some, some-injective, some-ne-none}
use mathlib.Core.Logic.{dite}
use native.Mathlib.Decide.{ℕ_discrete, dec_le}
use lib.ListN.{get_elem?}
use Rattle.turnstile.specs.declared.entry.Entry.{Entry}
use Rattle.turnstile.specs.declared.view.View.{View}
use Rattle.turnstile.specs.Entries.{Begins, kept, own}
use Rattle.turnstile.specs.Passes.{Joined}
use Rattle.turnstile.proofs.Basics.{some_is, at_below}
use Rattle.play_workers.specs.Meetings.{HasMet, IsMet, calls_of_all, listed_calls}

-- ---- a value more at the end of a list

pub snoc_cases : {X : Type 0} (l : List X) (a b : X) (j : ℕ) → get_elem? (l ++ a ∷ []) j ≡ some b → (get_elem? l j ≡ some b) ⊎ ((j ≡ length l) × (a ≡ b))
snoc_cases [] a b zero e = inr (refl, some-injective a b e)
snoc_cases [] a b (suc j) e = absurd (some-ne-none b (sym e))
snoc_cases (x ∷ xs) a b zero e = inl e
snoc_cases (x ∷ xs) a b (suc j) e = ⊎_elim (λ h. inl h) (λ h. inr (ap suc h.0, h.1)) (snoc_cases xs a b j e)

pub at_more : {X : Type 0} (l ys : List X) (i : ℕ) (a : X) → get_elem? l i ≡ some a → get_elem? (l ++ ys) i ≡ some a
at_more [] ys i a e = absurd (some-ne-none a (sym e))
at_more (x ∷ xs) ys zero a e = e
at_more (x ∷ xs) ys (suc i) a e = at_more xs ys i a e

pub get_below : {X : Type 0} (l : List X) (a b : X) (j : ℕ) → j < length l → slice_get (l ++ a ∷ []) j ≡ Some b → slice_get l j ≡ Some b
get_below [] a b j lt e = absurd (omega (arith, lt))
get_below (x ∷ xs) a b zero lt e = e
get_below (x ∷ xs) a b (suc j) lt e = get_below xs a b j (omega (arith, lt)) e

pub get_last : {X : Type 0} (l : List X) (a b : X) (j : ℕ) → j ≡ length l → slice_get (l ++ a ∷ []) j ≡ Some b → a ≡ b
get_last [] a b zero at e = some_is a b e
get_last [] a b (suc j) at e = absurd (omega (arith, at))
get_last (x ∷ xs) a b zero at e = absurd (omega (arith, at))
get_last (x ∷ xs) a b (suc j) at e = get_last xs a b j (omega (arith, at)) e

-- ---- a meeting

-- a page stays that of its pass where the pass's entries stay
abbrev pub KeepsOn : {A R P : Type 0} → (ℕ → List (Entry A R) → P → Type 0) → Type 0
KeepsOn {A} {R} {P} keeps = (p : ℕ) (old new : List (Entry A R)) (page : P) → Begins old new → own p new ≡ own p old → keeps p old page → keeps p new page

module _ {A R P G : Type 0} (keeps : ℕ → List (Entry A R) → P → Type 0) (counts : List (Entry A R) → G → Type 0) (AreIts : List (Entry A R) → Type 0) where
  met_before : KeepsOn keeps → (old new : List (Entry A R)) (pages : List P) (page : P) (gates : List G) (gate : G) (i : ℕ) (x : ℕ × List (Entry A R)) → Begins old new → own x.0 new ≡ x.1 → i < length gates → length pages ≡ length gates + 1
      → IsMet keeps counts AreIts old pages gates i x → IsMet keeps counts AreIts new (pages ++ page ∷ []) (gates ++ gate ∷ []) i x
  met_before on old new pages page gates gate i x begins kept' lt len m = record {
    number = m.number;
    its = m.its;
    kept = kept';
    page = λ p at. on x.0 old new p begins (kept' ∙ sym m.kept) (m.page p (get_below pages page p (i + 1) (omega (arith, lt, len)) at));
    gate = λ g at. m.gate g (get_below gates gate g i lt at);
  }

  met_last : (new : List (Entry A R)) (pages : List P) (page : P) (gates : List G) (gate : G) (i : ℕ) (x : ℕ × List (Entry A R)) → own x.0 new ≡ x.1 → i ≡ length gates → length pages ≡ length gates + 1
      → x.0 ≡ i + 1 → AreIts x.1 → keeps x.0 new page → counts x.1 gate → IsMet keeps counts AreIts new (pages ++ page ∷ []) (gates ++ gate ∷ []) i x
  met_last new pages page gates gate i x kept' at len number its page' gate' = record {
    number = number;
    its = its;
    kept = kept';
    page = λ p is. subst (keeps x.0 new) (get_last pages page p (i + 1) (omega (arith, at, len)) is) page';
    gate = λ g is. subst (counts x.1) (get_last gates gate g i at is) gate';
  }

  -- the pass w is met by v, which is u then
  pub meets : {V : Type 0} → KeepsOn keeps → (legal : V → List (Entry A R) → Type 0) (may : V → List (Entry A R) → A → Type 0) (first : V) (v w u : View V A R) (many left : ℕ) (pages : List P) (page : P) (gates : List G) (gate : G)
      → HasMet keeps counts AreIts v many pages gates → many ≡ left + 1
      → u.number ≡ 0 → u.splits ≡ v.splits → u.mine ≡ v.mine → u.joined ≡ v.joined ++ (w.number, w.mine) ∷ [] → Joined legal may first v w u
      → w.number ≡ length v.joined + 1 → own w.number w.seen ≡ w.mine → AreIts w.mine → keeps w.number w.seen page → counts w.mine gate
      → HasMet keeps counts AreIts u left (pages ++ page ∷ []) (gates ++ gate ∷ [])
  meets on legal may first v w u many left pages page gates gate g less number splits mine listed j theirs own' its page' gate' =
      let len : length u.joined ≡ length v.joined + 1 = ap length listed ∙ length-append v.joined ((w.number, w.mine) ∷ []) in
      let gate_count : length gates ≡ length v.joined = g.gate_count in
      let pages_long : length pages ≡ length gates + 1 = let c = g.page_count in omega (arith, c, gate_count) in
      let its_own : own 0 u.seen ≡ v.mine = ap (λ (z : ℕ). own z u.seen) (sym g.number) ∙ j.mine in record {
        number = number;
        splits = let s = g.splits in splits ∙ omega (arith, s, len, less);
        mine = its_own ∙ sym mine;
        first = λ p at. on 0 v.seen u.seen p j.earlier (its_own ∙ sym g.mine) (g.first p (get_below pages page p 0 (omega (arith, pages_long)) at));
        met = λ i x at.
            let kept' : own x.0 u.seen ≡ x.1 = j.joined i x at in
            ⊎_elim
            (λ (before : get_elem? v.joined i ≡ some x).
            let low : i < length gates = let b = at_below v.joined i x before in omega (arith, b, gate_count) in
            met_before on v.seen u.seen pages page gates gate i x j.earlier kept' low pages_long (g.met i x before))
            (λ (last : (i ≡ length v.joined) × ((w.number, w.mine) ≡ x)).
            let numbered : w.number ≡ x.0 = ap (λ (z : ℕ × List (Entry A R)). z.0) last.1 in
            let calls : w.mine ≡ x.1 = ap (λ (z : ℕ × List (Entry A R)). z.1) last.1 in
            let here : i ≡ length gates = last.0 ∙ sym gate_count in
            let place : x.0 ≡ i + 1 = sym numbered ∙ (theirs ∙ ap (λ (z : ℕ). z + 1) (sym last.0)) in
            let stays : own w.number u.seen ≡ own w.number w.seen = ap (λ (z : ℕ). own z u.seen) numbered ∙ (kept' ∙ sym (own' ∙ calls)) in
            let page'' : keeps x.0 u.seen page = subst (λ (z : ℕ). keeps z u.seen page) numbered (on w.number w.seen u.seen page j.theirs stays page') in
            met_last u.seen pages page gates gate i x kept' here pages_long place (subst AreIts calls its) page'' (subst (λ l. counts l gate) calls gate'))
            (snoc_cases v.joined (w.number, w.mine) x i (sym (ap (λ l. get_elem? l i) listed) ∙ at));
        gate_count = length-append gates (gate ∷ []) ∙ omega (arith, gate_count, len);
        page_count = length-append pages (page ∷ []) ∙ (let c = g.page_count in omega (arith, c, len));
      }

  -- none is met yet
  pub begins : {V : Type 0} (v : View V A R) (many : ℕ) (page : P) → v.number ≡ 0 → v.splits ≡ many → v.joined ≡ [] → own 0 v.seen ≡ v.mine → keeps 0 v.seen page → HasMet keeps counts AreIts v many (page ∷ []) []
  begins v many page number splits joined mine page' =
      let none' : length v.joined ≡ 0 = ap length joined in record {
        number = number;
        splits = splits ∙ omega (arith, none');
        mine = mine;
        first = λ p at. subst (keeps 0 v.seen) (some_is page p at) page';
        met = λ i x at. absurd (some-ne-none x (sym at ∙ ap (λ l. get_elem? l i) joined));
        gate_count = sym none';
        page_count = ap (λ (z : ℕ). z + 1) (sym none');
      }

  -- ---- once all were met

  -- a history that begins with all that the first pass had seen, and has the calls of the passes that were met and of no other
  module _ {V : Type 0} (v : View V A R) (pages : List P) (gates : List G) (log : List (Entry A R)) (g : HasMet keeps counts AreIts v 0 pages gates) (seen : Begins v.seen log) (mine : own 0 log ≡ v.mine)
      (joined : (i : ℕ) (x : ℕ × List (Entry A R)) → get_elem? v.joined i ≡ some x → own x.0 log ≡ x.1)
      (each : (p : ℕ) → 0 < p → p ≤ v.splits → (i : ℕ) × (get_elem? v.joined i ≡ some (p, own p log)))
      (no_other : (p : ℕ) → v.splits < p → own p log ≡ []) where
    -- where the pass of the i-th is listed
    listed : (i : ℕ) → i < v.splits → get_elem? v.joined i ≡ some (i + 1, own (i + 1) log)
    listed i lt =
        let at = each (i + 1) (omega arith) (omega (arith, lt)) in
        let m = g.met at.0 (i + 1, own (i + 1) log) at.1 in
        let here : at.0 ≡ i = let n = m.number in omega (arith, n) in
        subst (λ (z : ℕ). get_elem? v.joined z ≡ some (i + 1, own (i + 1) log)) here at.1

    pub its : (p : ℕ) → 0 < p → p ≤ v.splits → AreIts (own p log)
    its p pos le = let at = each p pos le in (g.met at.0 (p, own p log) at.1).its

    pub gate_of : (i : ℕ) (gate : G) → slice_get gates i ≡ Some gate → counts (own (i + 1) log) gate
    gate_of i gate at =
        let lt = slice_get_within gates i gate at in
        let low : i < v.splits = let s = g.splits in let c = g.gate_count in omega (arith, lt, s, c) in
        (g.met i (i + 1, own (i + 1) log) (listed i low)).gate gate at

    pub page_of : KeepsOn keeps → (p : ℕ) (page : P) → slice_get pages p ≡ Some page → keeps p log page
    page_of on zero page at = on 0 v.seen log page seen (mine ∙ sym g.mine) (g.first page at)
    page_of on (suc i) page at =
        let z : suc i ≡ i + 1 = omega arith in
        let at' : slice_get pages (i + 1) ≡ Some page = ap (slice_get pages) (sym z) ∙ at in
        let lt = slice_get_within pages (i + 1) page at' in
        let low : i < v.splits = let s = g.splits in let c = g.page_count in omega (arith, lt, s, c) in
        let m = g.met i (i + 1, own (i + 1) log) (listed i low) in
        subst (λ (k : ℕ). keeps k log page) (sym z) (on (i + 1) v.seen log page seen (sym m.kept) (m.page page at'))

-- ---- the entries of all passes

module _ {A R : Type 0} (Q : Entry A R → Type 0) where
  kept_all : (b : Bool) (e : Entry A R) (xs : List (Entry A R)) → All Q (kept b e xs) → All Q xs
  kept_all true e xs h = All-tail Q e xs h
  kept_all false e xs h = h

  kept_one : (b : Bool) (e : Entry A R) (xs : List (Entry A R)) → b ≡ true → All Q (kept b e xs) → Q e
  kept_one true e xs is h = All-head Q e xs h
  kept_one false e xs is h = absurd cc

  all_kept : (b : Bool) (e : Entry A R) (xs : List (Entry A R)) → Q e → All Q xs → All Q (kept b e xs)
  all_kept true e xs one h = All-cons Q e xs one h
  all_kept false e xs one h = h

  -- what holds of each pass's own entries holds of all
  pub all_own : (es : List (Entry A R)) → ((p : ℕ) → All Q (own p es)) → All Q es
  all_own [] each = each 0
  all_own (e ∷ es) each = All-cons Q e es (kept_one (e.pass == e.pass) e (own e.pass es) (eq-eqb e.pass e.pass refl) (each e.pass)) (all_own es (λ p. kept_all (e.pass == p) e (own p es) (each p)))

  pub own_all : (p : ℕ) (es : List (Entry A R)) → All Q es → All Q (own p es)
  own_all p [] h = h
  own_all p (e ∷ es) h = all_kept (e.pass == p) e (own p es) (All-head Q e es h) (own_all p es (All-tail Q e es h))

  -- and what holds of those of the first pass and of each that it has met holds of all these
  pub all_listed : (xs : List (ℕ × List (Entry A R))) → ((i : ℕ) (x : ℕ × List (Entry A R)) → get_elem? xs i ≡ some x → All Q x.1) → All Q (listed_calls xs)
  all_listed [] each = λ i d h. absurd (omega (arith, h))
  all_listed (x ∷ xs) each = All-append Q x.1 (listed_calls xs) (each 0 x refl) (all_listed xs (λ i y at. each (suc i) y at))

  front_all : (xs ys : List (Entry A R)) → All Q (xs ++ ys) → All Q xs
  front_all xs ys h = All-weaker (Contains xs) Q (λ x c. All-contains Q (xs ++ ys) x h (Contains-append_left xs ys x c)) xs (All-contains_itself xs)

  back_all : (xs ys : List (Entry A R)) → All Q (xs ++ ys) → All Q ys
  back_all xs ys h = All-weaker (Contains ys) Q (λ x c. All-contains Q (xs ++ ys) x h (Contains-append_right xs ys x c)) ys (All-contains_itself ys)

  pub listed_all : (xs : List (ℕ × List (Entry A R))) → All Q (listed_calls xs) → (i : ℕ) (x : ℕ × List (Entry A R)) → get_elem? xs i ≡ some x → All Q x.1
  listed_all [] h i x at = absurd (some-ne-none x (sym at))
  listed_all (y ∷ xs) h zero x at = subst (λ (z : ℕ × List (Entry A R)). All Q z.1) (some-injective y x at) (front_all y.1 (listed_calls xs) h)
  listed_all (y ∷ xs) h (suc i) x at = listed_all xs (back_all y.1 (listed_calls xs) h) i x at

-- ---- what is true of all calls is true of the whole history, and the other way round

module _ {V A R P G : Type 0} (keeps : ℕ → List (Entry A R) → P → Type 0) (counts : List (Entry A R) → G → Type 0) (AreIts : List (Entry A R) → Type 0) (v : View V A R) (pages : List P) (gates : List G) (log : List (Entry A R))
    (g : HasMet keeps counts AreIts v 0 pages gates) (mine : own 0 log ≡ v.mine)
    (joined : (i : ℕ) (x : ℕ × List (Entry A R)) → get_elem? v.joined i ≡ some x → own x.0 log ≡ x.1)
    (each : (p : ℕ) → 0 < p → p ≤ v.splits → (i : ℕ) × (get_elem? v.joined i ≡ some (p, own p log)))
    (no_other : (p : ℕ) → v.splits < p → own p log ≡ []) where
  pub calls_all : (Q : Entry A R → Type 0) → All Q log → All Q (calls_of_all v)
  calls_all Q h = All-append Q v.mine (listed_calls v.joined) (subst (All Q) mine (own_all Q 0 log h)) (all_listed Q v.joined (λ i x at. subst (All Q) (joined i x at) (own_all Q x.0 log h)))

  pub all_calls : (Q : Entry A R → Type 0) → All Q (calls_of_all v) → All Q log
  all_calls Q h = all_own Q log (λ p. dite (ℕ_discrete p 0)
      (λ zero'. subst (λ (z : ℕ). All Q (own z log)) (sym zero') (subst (All Q) (sym mine) (front_all Q v.mine (listed_calls v.joined) h)))
      (λ more. dite (dec_le p v.splits)
      (λ low. let pos : 0 < p = omega (arith, more) in let at = each p pos low in listed_all Q v.joined (back_all Q v.mine (listed_calls v.joined) h) at.0 (p, own p log) at.1)
      (λ high. let over : v.splits < p = omega (arith, high) in subst (All Q) (sym (no_other p over)) (All-nil Q))))

  pub calls_contain : (e : Entry A R) → Contains log e → Contains (calls_of_all v) e
  calls_contain e at = All-contains (Contains (calls_of_all v)) log e (all_calls (Contains (calls_of_all v)) (All-contains_itself (calls_of_all v))) at

  pub log_contains : (e : Entry A R) → Contains (calls_of_all v) e → Contains log e
  log_contains e at = All-contains (Contains log) (calls_of_all v) e (calls_all (Contains log) (All-contains_itself log)) at

-- the calls of a pass that was met come behind those of all before it
pub listed_more : {A R : Type 0} (xs : List (ℕ × List (Entry A R))) (number : ℕ) (calls : List (Entry A R)) → listed_calls (xs ++ (number, calls) ∷ []) ≡ listed_calls xs ++ calls
listed_more [] number calls = append-nil calls
listed_more (x ∷ xs) number calls = ap (λ l. x.1 ++ l) (listed_more xs number calls) ∙ sym (append_assoc x.1 (listed_calls xs) calls)

-- The entry at the first place that passes a test, and the flat list of headers.
use Rattle.std.proofs.Common.{◌≡◌, ℕ, zero, suc, Bool, true, false, nat_eq, List, [], ◌∷◌, ◌++◌, set, remove, position, slice_get, Option, Some, None, option_map, cond, MatchOption, ◌<◌, length, if◌then◌else◌, refl, sym, ◌∙◌, ap, arith, subst}
use Rattle.std.proofs.lemmas.Option.{slice_get_within}
use Rattle.std.proofs.lemmas.Bool.Decides.{nat_tests}
use Rattle.il_machine.specs.World.{HeaderRecord}
use Rattle.il_machine.specs.Headers.{changed, find_header, without, Once}
use Rattle.il_machine.specs.Places.{first_place, AtMostOne}
use Rattle.il_machine.proofs.Places.{is_first_place, passes_at, place_at}
use Rattle.port_stock.specs.declared.entry.Entry.{Entry}
use Rattle.port_stock.specs.Entries.{Each, headers_of, record_of}

-- ---- the first place that passes

mapped_zero : (o : Option ℕ) → option_map suc o ≡ Some 0 → ⊥
mapped_zero None h = cc
mapped_zero (Some k) h = let e : suc k ≡ 0 = cc in omega arith

mapped_suc : (o : Option ℕ) (i : ℕ) → option_map suc o ≡ Some (suc i) → o ≡ Some i
mapped_suc None i h = absurd cc
mapped_suc (Some k) i h = let e : suc k ≡ suc i = cc in let f : k ≡ i = omega arith in rw f refl

pub mapped_none : (o : Option ℕ) → option_map suc o ≡ None → o ≡ None
mapped_none None h = refl
mapped_none (Some k) h = absurd cc

module _ {X : Type 0} where
  first_zero : (p : X → Bool) (x : X) (xs : List X) → first_place p (x ∷ xs) ≡ Some 0 → p x ≡ true
  first_zero p x xs h = elim (p x) as (λ v. cond v (Some 0) (option_map suc (first_place p xs)) ≡ Some 0 → v ≡ true) [ true ↦ λ e. refl | false ↦ λ e. absurd (mapped_zero (first_place p xs) e) ] h

  -- a later place: the first item doesn't pass
  record Later (p : X → Bool) (x : X) (xs : List X) (i : ℕ) : Type 0 where
    not : p x ≡ false
    rest : first_place p xs ≡ Some i

  first_suc : (p : X → Bool) (x : X) (xs : List X) (i : ℕ) → first_place p (x ∷ xs) ≡ Some (suc i) → Later p x xs i
  first_suc p x xs i h = elim (p x) as (λ v. p x ≡ v → cond v (Some 0) (option_map suc (first_place p xs)) ≡ Some (suc i) → Later p x xs i)
      [ true ↦ λ e f. let z : 0 ≡ suc i = cc in absurd (omega arith) | false ↦ λ e f. record { not = e; rest = mapped_suc (first_place p xs) i f } ] refl h

  record Nowhere (p : X → Bool) (x : X) (xs : List X) : Type 0 where
    not : p x ≡ false
    rest : first_place p xs ≡ None

  first_none : (p : X → Bool) (x : X) (xs : List X) → first_place p (x ∷ xs) ≡ None → Nowhere p x xs
  first_none p x xs h = elim (p x) as (λ v. p x ≡ v → cond v (Some 0) (option_map suc (first_place p xs)) ≡ None → Nowhere p x xs)
      [ true ↦ λ e f. absurd cc | false ↦ λ e f. record { not = e; rest = mapped_none (first_place p xs) f } ] refl h

  -- ---- what is true of each item

  pub Each-at : (P : X → Type 0) (xs : List X) (k : ℕ) (x : X) → Each P xs → slice_get xs k ≡ Some x → P x
  Each-at P [] k x E h = absurd cc
  Each-at P (y ∷ xs) zero x E h = let same : y ≡ x = cc in rw (← same) E.0
  Each-at P (y ∷ xs) (suc k) x E h = Each-at P xs k x E.1 h

  pub Each-set : (P : X → Type 0) (xs : List X) (k : ℕ) (x : X) → Each P xs → P x → Each P (set xs k x)
  Each-set P [] k x E p = tt
  Each-set P (y ∷ xs) zero x E p = (p, E.1)
  Each-set P (y ∷ xs) (suc k) x E p = (E.0, Each-set P xs k x E.1 p)

  pub Each-remove : (P : X → Type 0) (xs : List X) (k : ℕ) → Each P xs → Each P (remove xs k)
  Each-remove P [] zero E = tt
  Each-remove P [] (suc k) E = tt
  Each-remove P (y ∷ xs) zero E = E.1
  Each-remove P (y ∷ xs) (suc k) E = (E.0, Each-remove P xs k E.1)

  pub Each-append : (P : X → Type 0) (xs : List X) (x : X) → Each P xs → P x → Each P (xs ++ x ∷ [])
  Each-append P [] x E p = (p, tt)
  Each-append P (y ∷ xs) x E p = (E.0, Each-append P xs x E.1 p)

-- ---- entries as headers

abbrev pub is_numbered : ℕ → Entry → Bool
is_numbered n e = nat_eq e.state.number n

-- The entry stands at the first place of its number.
pub record Stands (n k : ℕ) (es : List Entry) (e : Entry) : Type 0 where
  pub find : find_header n (headers_of es) ≡ Some (record_of e)
  pub without : headers_of (remove es k) ≡ without n (headers_of es)
  pub changed : (x : Entry) (f : HeaderRecord → HeaderRecord) → record_of x ≡ f (record_of e) → headers_of (set es k x) ≡ changed n f (headers_of es)

stands_first : (n k : ℕ) (es : List Entry) (e : Entry) → first_place (is_numbered n) es ≡ Some k → slice_get es k ≡ Some e → Stands n k es e
stands_first n k [] e h s = absurd cc
stands_first n zero (y ∷ es) e h s =
    let t : is_numbered n y ≡ true = first_zero (is_numbered n) y es h in
    let same : y ≡ e = cc in
    record {
      find = rw (t, same) refl;
      without = rw t refl;
      changed = λ x f r. rw (t, same) (ap (λ (v : HeaderRecord). v ∷ headers_of es) r);
    }
stands_first n (suc k) (y ∷ es) e h s =
    let L = first_suc (is_numbered n) y es k h in
    let t : is_numbered n y ≡ false = L.not in
    let S = stands_first n k es e L.rest s in
    record {
      find = rw t S.find;
      without = rw t (ap (λ (v : List HeaderRecord). record_of y ∷ v) S.without);
      changed = λ x f r. rw t (ap (λ (v : List HeaderRecord). record_of y ∷ v) (S.changed x f r));
    }

pub stands : (n k : ℕ) (es : List Entry) (e : Entry) → position (is_numbered n) es ≡ Some k → slice_get es k ≡ Some e → Stands n k es e
stands n k es e h s = stands_first n k es e (sym (is_first_place (is_numbered n) es) ∙ h) s

find_none : (n : ℕ) (es : List Entry) → first_place (is_numbered n) es ≡ None → find_header n (headers_of es) ≡ None
find_none n [] h = refl
find_none n (y ∷ es) h = let N = first_none (is_numbered n) y es h in let t : is_numbered n y ≡ false = N.not in rw t (find_none n es N.rest)

pub nowhere : (n : ℕ) (es : List Entry) → position (is_numbered n) es ≡ None → find_header n (headers_of es) ≡ None
nowhere n es h = find_none n es (sym (is_first_place (is_numbered n) es) ∙ h)

-- The entry of the number stands there.
pub record At (n k : ℕ) (es : List Entry) : Type 0 where
  pub it : Entry
  pub there : slice_get es k ≡ Some it
  pub stands : Stands n k es it

pub at : (n k : ℕ) (es : List Entry) → position (is_numbered n) es ≡ Some k → At n k es
at n k es h =
    let f : first_place (is_numbered n) es ≡ Some k = sym (is_first_place (is_numbered n) es) ∙ h in
    let P = passes_at (is_numbered n) es k f in
    record { it = P.0; there = P.1; stands = stands_first n k es P.0 f P.1 }

-- ---- numbers differ, so what has the number stands at its place

find_to_place : (n : ℕ) (es : List Entry) → find_header n (headers_of es) ≡ None → first_place (is_numbered n) es ≡ None
find_to_place n [] h = refl
find_to_place n (y ∷ es) h = elim (nat_eq y.state.number n) as (λ v. (if v then Some (record_of y) else find_header n (headers_of es)) ≡ None → cond v (Some 0) (option_map suc (first_place (is_numbered n) es)) ≡ None)
    [ true ↦ λ e. absurd cc | false ↦ λ e. ap (option_map suc) (find_to_place n es e) ] h

once_numbered : (n : ℕ) (es : List Entry) → Once (headers_of es) → AtMostOne (is_numbered n) es
once_numbered n [] o = tt
once_numbered n (y ∷ es) o = (
  (λ t.
      let e : y.state.number ≡ n = grind (arith, nat_tests) in
      find_to_place n es (subst (λ (m : ℕ). find_header m (headers_of es) ≡ None) e o.0)),
  once_numbered n es o.1,
)

module _ {X : Type 0} where
  -- What is there, and what holds of it.
  pub record There (P : X → Type 0) (o : Option X) : Type 0 where
    pub it : X
    pub is : o ≡ Some it
    pub holds : P it

  pub there : (P : X → Type 0) (o : Option X) → MatchOption o ⊥ P → There P o
  there P None h = absurd h
  there P (Some x) h = record { it = x; is = refl; holds = h }

pub numbered_place : (n k : ℕ) (es : List Entry) → Once (headers_of es) → MatchOption (slice_get es k) ⊥ (λ e. e.state.number ≡ n) → position (is_numbered n) es ≡ Some k
numbered_place n k es o h =
    let T = there (λ (e : Entry). e.state.number ≡ n) (slice_get es k) h in
    let same = T.holds in
    let t : is_numbered n T.it ≡ true = grind (arith, nat_tests) in
    is_first_place (is_numbered n) es ∙ place_at (is_numbered n) es k T.it (once_numbered n es o) T.is t

pub within : (n k : ℕ) (es : List Entry) → MatchOption (slice_get es k) ⊥ (λ e. e.state.number ≡ n) → k < length es
within n k es h = let T = there (λ (e : Entry). e.state.number ≡ n) (slice_get es k) h in slice_get_within es k T.it T.is

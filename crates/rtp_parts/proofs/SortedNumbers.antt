-- A list of packets that is sorted by rising number.
use Rattle.std.proofs.Common.{◌≡◌, ◌≢◌, ℕ, zero, suc, ◌+◌, ◌<◌, ◌≤◌, nat_le, ◌==◌, ◌||◌, if◌then◌else◌, true, false, Bool, List, [], ◌∷◌, map, refl, sym, ap, subst, ◌∙◌, arith, ◌⊎◌, inl, inr}
use Rattle.std.specs.List.{range_with_len}
use Rattle.rtp_parts.specs.Sorting.{Numbered, has_number, placed, sorted}

-- all numbers are above n
abbrev pub AllAbove : ℕ → List Numbered → Type 0
AllAbove n [] = Unit {0}
AllAbove n (a ∷ rest) = (n < a.number) × AllAbove n rest

abbrev pub Rising : List Numbered → Type 0
Rising [] = Unit {0}
Rising (a ∷ rest) = AllAbove a.number rest × Rising rest

abbrev pub IsIn : Numbered → List Numbered → Type 0
IsIn a [] = ⊥
IsIn a (b ∷ rest) = (a ≡ b) ⊎ IsIn a rest

-- no number is n
abbrev pub NoneIs : ℕ → List Numbered → Type 0
NoneIs n [] = Unit {0}
NoneIs n (a ∷ rest) = (a.number ≢ n) × NoneIs n rest

-- no two have one number
abbrev pub Distinct : List Numbered → Type 0
Distinct [] = Unit {0}
Distinct (a ∷ rest) = NoneIs a.number rest × Distinct rest

pub NoneIs-found : (n : ℕ) (list : List Numbered) → has_number n list ≡ false → NoneIs n list
NoneIs-found n [] h = tt
NoneIs-found n (a ∷ rest) h =
    elim (a.number == n) as (λ (b : Bool). (a.number == n) ≡ b → (b || has_number n rest) ≡ false → NoneIs n (a ∷ rest)) [
      | true ↦ λ is other. absurd (cc other)
      | false ↦ λ is other. (grind (arith, is), NoneIs-found n rest other)
    ] refl h

-- what an order of two numbers says, as the test of `placed`
le_test : (a b : ℕ) → ((nat_le a b ≡ true) × (a ≤ b)) ⊎ ((nat_le a b ≡ false) × (b < a))
le_test a b = Rattle.std.proofs.lemmas.Bool.Decides.leb_tells a b

pub placed-first : (a b : Numbered) (rest : List Numbered) → a.number ≤ b.number → placed a (b ∷ rest) ≡ a ∷ b ∷ rest
placed-first a b rest le = ap (λ (t : Bool). if t then a ∷ b ∷ rest else b ∷ placed a rest) (let e : nat_le a.number b.number ≡ true = grind (arith, le) in e)

pub placed-later : (a b : Numbered) (rest : List Numbered) → b.number < a.number → placed a (b ∷ rest) ≡ b ∷ placed a rest
placed-later a b rest lt = ap (λ (t : Bool). if t then a ∷ b ∷ rest else b ∷ placed a rest) (let e : nat_le a.number b.number ≡ false = grind (arith, lt) in e)

AllAbove-lower : (m n : ℕ) (list : List Numbered) → m ≤ n → AllAbove n list → AllAbove m list
AllAbove-lower m n [] le h = tt
AllAbove-lower m n (a ∷ rest) le (above, more) = (omega arith, AllAbove-lower m n rest le more)

AllAbove-placed : (n : ℕ) (a : Numbered) (list : List Numbered) → n < a.number → AllAbove n list → AllAbove n (placed a list)
AllAbove-placed n a [] lt h = (lt, tt)
AllAbove-placed n a (b ∷ rest) lt (above, more) = elim (le_test a.number b.number) [
  | inl t ↦ subst (AllAbove n) (sym (placed-first a b rest t.1)) (lt, (above, more))
  | inr t ↦ subst (AllAbove n) (sym (placed-later a b rest t.1)) (above, AllAbove-placed n a rest lt more)
]

pub Rising-placed : (a : Numbered) (list : List Numbered) → NoneIs a.number list → Rising list → Rising (placed a list)
Rising-placed a [] none rising = (tt, tt)
Rising-placed a (b ∷ rest) (other, none) (above, more) = elim (le_test a.number b.number) [
  | inl t ↦
      let lt : a.number < b.number = grind (arith, t.1, other) in
      subst Rising (sym (placed-first a b rest t.1)) ((lt, AllAbove-lower a.number b.number rest t.1 above), (above, more))
  | inr t ↦ subst Rising (sym (placed-later a b rest t.1)) (AllAbove-placed b.number a rest t.1 above, Rising-placed a rest none more)
]

NoneIs-placed : (n : ℕ) (a : Numbered) (list : List Numbered) → a.number ≢ n → NoneIs n list → NoneIs n (placed a list)
NoneIs-placed n a [] other none = (other, tt)
NoneIs-placed n a (b ∷ rest) other (first, none) = elim (le_test a.number b.number) [
  | inl t ↦ subst (NoneIs n) (sym (placed-first a b rest t.1)) (other, (first, none))
  | inr t ↦ subst (NoneIs n) (sym (placed-later a b rest t.1)) (first, NoneIs-placed n a rest other none)
]

NoneIs-sorted : (n : ℕ) (list : List Numbered) → NoneIs n list → NoneIs n (sorted list)
NoneIs-sorted n [] h = tt
NoneIs-sorted n (a ∷ rest) (other, none) = NoneIs-placed n a (sorted rest) other (NoneIs-sorted n rest none)

pub Rising-sorted : (list : List Numbered) → Distinct list → Rising (sorted list)
Rising-sorted [] h = tt
Rising-sorted (a ∷ rest) (none, distinct) = Rising-placed a (sorted rest) (NoneIs-sorted a.number rest none) (Rising-sorted rest distinct)

IsIn-placed_first : (a : Numbered) (list : List Numbered) → IsIn a (placed a list)
IsIn-placed_first a [] = inl refl
IsIn-placed_first a (b ∷ rest) = elim (le_test a.number b.number) [
  | inl t ↦ subst (IsIn a) (sym (placed-first a b rest t.1)) (inl refl)
  | inr t ↦ subst (IsIn a) (sym (placed-later a b rest t.1)) (inr (IsIn-placed_first a rest))
]

IsIn-placed_rest : (x a : Numbered) (list : List Numbered) → IsIn x list → IsIn x (placed a list)
IsIn-placed_rest x a [] h = absurd h
IsIn-placed_rest x a (b ∷ rest) h = elim (le_test a.number b.number) [
  | inl t ↦ subst (IsIn x) (sym (placed-first a b rest t.1)) (inr h)
  | inr t ↦ subst (IsIn x) (sym (placed-later a b rest t.1)) (elim h as (λ _. IsIn x (b ∷ placed a rest)) [ inl e ↦ inl e | inr more ↦ inr (IsIn-placed_rest x a rest more) ])
]

pub IsIn-sorted : (x : Numbered) (list : List Numbered) → IsIn x list → IsIn x (sorted list)
IsIn-sorted x [] h = h
IsIn-sorted x (a ∷ rest) h = elim h as (λ _. IsIn x (placed a (sorted rest))) [
  | inl e ↦ subst (λ (y : Numbered). IsIn x (placed y (sorted rest))) e (IsIn-placed_first x (sorted rest))
  | inr more ↦ IsIn-placed_rest x a (sorted rest) (IsIn-sorted x rest more)
]

-- each is one of the entries from a place on
abbrev pub AllAre : (entry : ℕ → Numbered) → (from count : ℕ) → List Numbered → Type 0
AllAre entry from count [] = Unit {0}
AllAre entry from count (a ∷ rest) = ((k : ℕ) × (from ≤ k) × (k < from + count) × (a ≡ entry k)) × AllAre entry from count rest

AllAre-placed : (entry : ℕ → Numbered) (from count : ℕ) (a : Numbered) (list : List Numbered) → (k : ℕ) × (from ≤ k) × (k < from + count) × (a ≡ entry k) → AllAre entry from count list → AllAre entry from count (placed a list)
AllAre-placed entry from count a [] is all = (is, tt)
AllAre-placed entry from count a (b ∷ rest) is (one, all) = elim (le_test a.number b.number) [
  | inl t ↦ subst (AllAre entry from count) (sym (placed-first a b rest t.1)) (is, (one, all))
  | inr t ↦ subst (AllAre entry from count) (sym (placed-later a b rest t.1)) (one, AllAre-placed entry from count a rest is all)
]

pub AllAre-sorted : (entry : ℕ → Numbered) (from count : ℕ) (list : List Numbered) → AllAre entry from count list → AllAre entry from count (sorted list)
AllAre-sorted entry from count [] h = tt
AllAre-sorted entry from count (a ∷ rest) (is, all) = AllAre-placed entry from count a (sorted rest) is (AllAre-sorted entry from count rest all)

-- what is above one entry is among the later ones
AllAre-later : (entry : ℕ → Numbered) (base from count : ℕ) (list : List Numbered) → ((k : ℕ) → (entry k).number ≡ base + k) → AllAbove (base + from) list → AllAre entry from (suc count) list → AllAre entry (from + 1) count list
AllAre-later entry base from count [] numbers above all = tt
AllAre-later entry base from count (a ∷ rest) numbers (first, above) ((k, low, high, is), all) =
    let number : a.number ≡ base + k = ap (λ (x : Numbered). x.number) is ∙ numbers k in
    ((k, omega (arith, first, number), omega arith, is), AllAre-later entry base from count rest numbers above all)

IsIn-above : (n : ℕ) (x : Numbered) (list : List Numbered) → AllAbove n list → IsIn x list → n < x.number
IsIn-above n x [] above h = absurd h
IsIn-above n x (a ∷ rest) (first, above) h = elim h [
  | inl e ↦ subst (λ (y : Numbered). n < y.number) (sym e) first
  | inr more ↦ IsIn-above n x rest above more
]

-- a rising list of entries in which each of them is found is all of them in their order
pub rising_entries : (entry : ℕ → Numbered) (base from count : ℕ) (list : List Numbered) → ((k : ℕ) → (entry k).number ≡ base + k) → Rising list → AllAre entry from count list → ((k : ℕ) → from ≤ k → k < from + count → IsIn (entry k) list) → list ≡ map entry (range_with_len from count)
rising_entries entry base from zero [] numbers rising all each = refl
rising_entries entry base from zero (a ∷ rest) numbers rising ((k, low, high, is), all) each = absurd (omega (arith, low, high))
rising_entries entry base from (suc count) [] numbers rising all each = absurd (each from (omega arith) (omega arith))
rising_entries entry base from (suc count) (a ∷ rest) numbers (above, rising) ((k, low, high, is), all) each =
    let number : a.number ≡ base + k = ap (λ (x : Numbered). x.number) is ∙ numbers k in
    let first : k ≡ from = elim (each from (omega arith) (omega arith)) [
      | inl e ↦ omega (arith, number, ap (λ (x : Numbered). x.number) e, numbers from)
      | inr more ↦ absurd (omega (arith, number, low, numbers from, IsIn-above a.number (entry from) rest above more))
    ] in
    let is_first : a ≡ entry from = is ∙ ap entry first in
    let higher : AllAbove (base + from) rest = subst (λ (n : ℕ). AllAbove n rest) (number ∙ ap (λ (n : ℕ). base + n) first) above in
    let later = AllAre-later entry base from count rest numbers higher all in
    let found : (j : ℕ) → from + 1 ≤ j → j < from + 1 + count → IsIn (entry j) rest = λ j lo hi.
    elim (each j (omega arith) (omega arith)) [
      | inl e ↦ absurd (omega (arith, lo, numbers j, numbers from, ap (λ (x : Numbered). x.number) e, ap (λ (x : Numbered). x.number) is_first))
      | inr more ↦ more
    ] in
    ap (λ (x : Numbered). x ∷ rest) is_first ∙ ap (λ (r : List Numbered). entry from ∷ r) (rising_entries entry base (from + 1) count rest numbers rising later found)

-- Lists of which a front was taken, and those of some of their elements.
use Rattle.std.proofs.Common.{◌≡◌, ◌⊎◌, inl, inr, ℕ, zero, suc, ◌+◌, ◌<◌, ◌≤◌, Bool, true, false, ◌==◌, List, [], ◌∷◌, ◌++◌, take, drop, length, slice_get, Some, refl, sym, ◌∙◌, ap, append-nil, length-append, arith}
use Rattle.std.specs.Prelude.{All, cond, count_by, filter}
use Rattle.std.proofs.lemmas.List.{append_cancel_left, take_all}
use Rattle.std.proofs.lemmas.List.Elements.{All-cons, All-head, All-nil, All-tail, filter-append}
use Rattle.std.proofs.lemmas.List.Sums.{sum_by-append, sum_by-cons}
use Rattle.machine_laws.proofs.Finding.{either}

-- ---- a front of a list

pub take_next : {A : Type 0} (n : ℕ) (xs : List A) (x : A) → slice_get xs n ≡ Some x → take (suc n) xs ≡ take n xs ++ x ∷ []
take_next n [] x e = absurd cc
take_next {A} zero (y ∷ xs) x e = let is : y ≡ x = cc in ap (λ (t : A). t ∷ []) is
take_next {A} (suc n) (y ∷ xs) x e = ap (λ (t : List A). y ∷ t) (take_next n xs x e)

-- what comes behind a front of two lists: the next of the first one
pub next_here : {A : Type 0} (n : ℕ) (xs ys more : List A) (x : A) → take n xs ++ x ∷ more ≡ xs ++ ys → n < length xs → slice_get xs n ≡ Some x
next_here n [] ys more x e b = absurd (omega arith)
next_here zero (z ∷ xs) ys more x e b = let is : z ≡ x = cc in ap Some is
next_here (suc n) (z ∷ xs) ys more x e b = let f : take n xs ++ x ∷ more ≡ xs ++ ys = cc in next_here n xs ys more x f (omega arith)

-- or the first of the other
pub next_behind : {A : Type 0} (n : ℕ) (xs ys more : List A) (x : A) → take n xs ++ x ∷ more ≡ xs ++ ys → length xs ≤ n → x ∷ more ≡ ys
next_behind {A} n xs ys more x e b = append_cancel_left xs (x ∷ more) ys (ap (λ (t : List A). t ++ x ∷ more) (sym (take_all n xs b)) ∙ e)

pub none_behind : {A : Type 0} (n : ℕ) (xs ys : List A) → take n xs ++ [] ≡ xs ++ ys → ys ≡ []
none_behind zero [] ys e = sym e
none_behind (suc n) [] ys e = sym e
none_behind zero (x ∷ xs) ys e = absurd cc
none_behind (suc n) (x ∷ xs) ys e = let f : take n xs ++ [] ≡ xs ++ ys = cc in none_behind n xs ys f

pub cut_at : {A : Type 0} (front rest : List A) (x : A) → slice_get (front ++ x ∷ rest) (length front) ≡ Some x
cut_at [] rest x = refl
cut_at (y ∷ front) rest x = cut_at front rest x

pub cut_next : {A : Type 0} (front rest : List A) (x y : A) → slice_get (front ++ x ∷ y ∷ rest) (length front + 1) ≡ Some y
cut_next [] rest x y = refl
cut_next (z ∷ front) rest x y = let e : length (z ∷ front) + 1 ≡ suc (length front + 1) = omega arith in rw e (cut_next front rest x y)

pub cut_take : {A : Type 0} (front rest : List A) (x : A) → take (length front + 1) (front ++ x ∷ rest) ≡ front ++ x ∷ []
cut_take [] rest x = refl
cut_take {A} (z ∷ front) rest x = let e : length (z ∷ front) + 1 ≡ suc (length front + 1) = omega arith in rw e (ap (λ (t : List A). z ∷ t) (cut_take front rest x))

pub cut_before : {A : Type 0} (xs ys : List A) (k : ℕ) (y : A) → slice_get (xs ++ ys) k ≡ Some y → k < length xs → slice_get xs k ≡ Some y
cut_before [] ys k y e b = absurd (omega arith)
cut_before (x ∷ xs) ys zero y e b = e
cut_before (x ∷ xs) ys (suc k) y e b = cut_before xs ys k y e (omega arith)

-- ---- one more at the end

pub none_there : {A : Type 0} (before after : List A) (x : A) → [] ≡ before ++ x ∷ after → ⊥
none_there [] after x e = absurd cc
none_there (b ∷ before) after x e = absurd cc

-- a place in a list with one more is the last, or one of the list
pub cut_last : {A : Type 0} (xs before after : List A) (y x : A) → xs ++ y ∷ [] ≡ before ++ x ∷ after → ((before ≡ xs) × (x ≡ y)) ⊎ ((rest : List A) × (xs ≡ before ++ x ∷ rest))
cut_last [] [] after y x e = inl (refl, cc)
cut_last [] (b ∷ before) after y x e = let z : [] ≡ before ++ x ∷ after = cc in absurd (none_there before after x z)
cut_last {A} (z ∷ xs) [] after y x e = let s : z ≡ x = cc in inr (xs, ap (λ (t : A). t ∷ xs) s)
cut_last (z ∷ xs) (b ∷ before) after y x e =
    let s : z ≡ b = cc in
    let t : xs ++ y ∷ [] ≡ before ++ x ∷ after = cc in
    elim (cut_last xs before after y x t) [
      | inl c ↦ inl ((λ i. sym s i ∷ c.0 i), c.1)
      | inr c ↦ inr (c.0, (λ i. s i ∷ c.1 i))
    ]

-- the one at the last place is behind all others
pub last_at : {A : Type 0} (ys : List A) (k : ℕ) (y : A) → slice_get ys k ≡ Some y → k + 1 ≡ length ys → (front : List A) × (ys ≡ front ++ y ∷ [])
last_at [] k y g q = absurd (omega arith)
last_at {A} (z ∷ ys) zero y g q = let is : z ≡ y = cc in ([], by_rest ys (omega arith) ∙ ap (λ (t : A). t ∷ []) is)
  where
    by_rest : (us : List A) → length us ≡ 0 → z ∷ us ≡ z ∷ []
    by_rest [] e = refl
    by_rest (u ∷ us) e = absurd (omega arith)
last_at {A} (z ∷ ys) (suc k) y g q = let r = last_at ys k y g (omega arith) in (z ∷ r.0, ap (λ (t : List A). z ∷ t) r.1)

pub last_is : {A : Type 0} (xs front : List A) (y z : A) → xs ++ y ∷ [] ≡ front ++ z ∷ [] → z ≡ y
last_is xs front y z e = elim (cut_last xs front [] y z e) [
  | inl c ↦ c.1
  | inr c ↦
      let a = ap length e in
      let b = length-append xs (y ∷ []) in
      let d = length-append front (z ∷ []) in
      let f = ap length c.1 in
      let g = length-append front (z ∷ c.0) in
      absurd (omega (arith, a, b, d, f, g))
]

-- ---- what is left

pub drop_here : {A : Type 0} (n : ℕ) (xs : List A) (x : A) → slice_get xs n ≡ Some x → drop n xs ≡ x ∷ drop (suc n) xs
drop_here n [] x e = absurd cc
drop_here {A} zero (y ∷ xs) x e = let is : y ≡ x = cc in ap (λ (t : A). t ∷ xs) is
drop_here (suc n) (y ∷ xs) x e = drop_here n xs x e

pub none_left : {A : Type 0} (n : ℕ) (xs : List A) → length xs ≤ n → drop n xs ≡ []
none_left zero [] l = refl
none_left (suc n) [] l = refl
none_left zero (x ∷ xs) l = absurd (omega arith)
none_left (suc n) (x ∷ xs) l = none_left n xs (omega arith)

-- ---- some of the elements

module _ {A : Type 0} (p : A → Bool) where
  pub kept_not : (xs : List A) (x : A) → p x ≡ false → filter p (xs ++ x ∷ []) ≡ filter p xs
  kept_not xs x e = filter-append p xs (x ∷ []) ∙ (ap (λ (b : Bool). filter p xs ++ cond b (x ∷ []) []) e ∙ append-nil (filter p xs))

  pub kept_too : (xs : List A) (x : A) → p x ≡ true → filter p (xs ++ x ∷ []) ≡ filter p xs ++ x ∷ []
  kept_too xs x e = filter-append p xs (x ∷ []) ∙ ap (λ (b : Bool). filter p xs ++ cond b (x ∷ []) []) e

  pub kept_at : (before after : List A) (x : A) → p x ≡ true → filter p (before ++ x ∷ after) ≡ filter p before ++ x ∷ filter p after
  kept_at before after x e = filter-append p before (x ∷ after) ∙ ap (λ (b : Bool). filter p before ++ cond b (x ∷ filter p after) (filter p after)) e

-- where one of them is in the list
pub kept_cut : {A : Type 0} (p : A → Bool) (xs front rest : List A) (x : A) → filter p xs ≡ front ++ x ∷ rest → (ys : List A) × (zs : List A) × (xs ≡ ys ++ x ∷ zs) × (filter p ys ≡ front)
kept_cut p [] front rest x e = absurd (none_there front rest x e)
kept_cut {A} p (y ∷ xs) [] rest x e = either (p y)
    (λ t.
    let f : y ∷ filter p xs ≡ x ∷ rest = sym (ap (λ (b : Bool). cond b (y ∷ filter p xs) (filter p xs)) t) ∙ e in
    let is : y ≡ x = cc in
    ([], xs, ap (λ (z : A). z ∷ xs) is, refl))
    (λ f.
    let r = kept_cut p xs [] rest x (sym (ap (λ (b : Bool). cond b (y ∷ filter p xs) (filter p xs)) f) ∙ e) in
    (y ∷ r.0, r.1, ap (λ (zs : List A). y ∷ zs) r.2, ap (λ (b : Bool). cond b (y ∷ filter p r.0) (filter p r.0)) f ∙ r.3))
kept_cut {A} p (y ∷ xs) (z ∷ front) rest x e = either (p y)
    (λ t.
    let f : y ∷ filter p xs ≡ z ∷ (front ++ x ∷ rest) = sym (ap (λ (b : Bool). cond b (y ∷ filter p xs) (filter p xs)) t) ∙ e in
    let is : y ≡ z = cc in
    let r = kept_cut p xs front rest x (let g : filter p xs ≡ front ++ x ∷ rest = cc in g) in
    (y ∷ r.0, r.1, ap (λ (zs : List A). y ∷ zs) r.2, ap (λ (b : Bool). cond b (y ∷ filter p r.0) (filter p r.0)) t ∙ (λ j. is j ∷ r.3 j)))
    (λ f.
    let r = kept_cut p xs (z ∷ front) rest x (sym (ap (λ (b : Bool). cond b (y ∷ filter p xs) (filter p xs)) f) ∙ e) in
    (y ∷ r.0, r.1, ap (λ (zs : List A). y ∷ zs) r.2, ap (λ (b : Bool). cond b (y ∷ filter p r.0) (filter p r.0)) f ∙ r.3))

-- what all are, a front of them and what is behind it are
pub all_before : {A : Type 0} (P : A → Type 0) (xs ys : List A) → All P (xs ++ ys) → All P xs
all_before P [] ys H = All-nil P
all_before P (x ∷ xs) ys H = All-cons P x xs (All-head P x (xs ++ ys) H) (all_before P xs ys (All-tail P x (xs ++ ys) H))

pub all_behind : {A : Type 0} (P : A → Type 0) (xs ys : List A) → All P (xs ++ ys) → All P ys
all_behind P [] ys H = H
all_behind P (x ∷ xs) ys H = all_behind P xs ys (All-tail P x (xs ++ ys) H)

-- ---- how often a number is in a list

abbrev pub times : ℕ → List ℕ → ℕ
times l links = count_by (λ (k : ℕ). k == l) links

pub times_cut : (l : ℕ) (front rest : List ℕ) (k : ℕ) → times l (front ++ k ∷ rest) ≡ times l front + (cond (k == l) 1 0 + times l rest)
times_cut l front rest k = sum_by-append (λ (k : ℕ). cond (k == l) 1 0) front (k ∷ rest) ∙ ap (λ (n : ℕ). times l front + n) (sum_by-cons (λ (k : ℕ). cond (k == l) 1 0) k rest)

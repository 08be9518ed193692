-- The first of the heads of several lists.
use Rattle.std.proofs.Common.{◌≡◌, ℕ, zero, suc, ◌+◌, ◌<◌, ◌≤◌, ltb, cond, Bool, true, false, List, [], ◌∷◌, ◌++◌, length, drop, Option, Some, None, option_map, slice_get, refl, sym, ap, ◌∙◌, arith}
use Rattle.std.specs.Prelude.{map, slice_index_or, slice_set}
use Rattle.std.proofs.lemmas.Bool.{lt-ltb, le-ltb}
use Rattle.play_log.specs.Merged.{IsLeader, Leads, left_of, merged, merged_all, rest, rest_without, weave}

-- ---- places of lists

pub drop_some : {T : Type 0} (xs : List T) (n : ℕ) (x : T) → slice_get xs n ≡ Some x → drop n xs ≡ x ∷ drop (n + 1) xs
drop_some [] n x e = absurd cc
drop_some (a ∷ xs) zero x e = let s : a ≡ x = cc in ap (λ y. y ∷ xs) s
drop_some (a ∷ xs) (suc n) x e = let s : suc n + 1 ≡ suc (n + 1) = omega arith in drop_some xs n x e ∙ ap (λ (k : ℕ). x ∷ drop k (a ∷ xs)) (sym s)

pub drop_none : {T : Type 0} (xs : List T) (n : ℕ) → slice_get xs n ≡ None → drop n xs ≡ []
drop_none [] zero e = refl
drop_none [] (suc n) e = refl
drop_none (a ∷ xs) zero e = absurd cc
drop_none (a ∷ xs) (suc n) e = drop_none xs n e

pub drop_at : {T : Type 0} (xs : List T) (i : ℕ) (d : T) → i < length xs → drop i xs ≡ slice_index_or xs i d ∷ drop (i + 1) xs
drop_at [] i d b = absurd (omega (arith, b))
drop_at (a ∷ xs) zero d b = refl
drop_at (a ∷ xs) (suc i) d b =
    let c : i < length xs = omega (arith, b) in
    let s : suc i + 1 ≡ suc (i + 1) = omega arith in
    drop_at xs i d c ∙ ap (λ (k : ℕ). slice_index_or xs i d ∷ drop k (a ∷ xs)) (sym s)

-- a place before which nothing is looked at
drop_after : {T : Type 0} (xs : List T) (i : ℕ) (v : T) → drop (i + 1) (slice_set xs i v) ≡ drop (i + 1) xs
drop_after [] i v = refl
drop_after (a ∷ xs) zero v = refl
drop_after (a ∷ xs) (suc i) v =
    let s : suc i + 1 ≡ suc (i + 1) = omega arith in
    ap (λ (k : ℕ). drop k (a ∷ slice_set xs i v)) s ∙ (drop_after xs i v ∙ ap (λ (k : ℕ). drop k (a ∷ xs)) (sym s))

set_length : {T : Type 0} (xs : List T) (i : ℕ) (v : T) → length (slice_set xs i v) ≡ length xs
set_length [] i v = refl
set_length (a ∷ xs) zero v = refl
set_length (a ∷ xs) (suc i) v = ap suc (set_length xs i v)

get_set : {T : Type 0} (xs : List T) (i : ℕ) (v d : T) → i < length xs → slice_index_or (slice_set xs i v) i d ≡ v
get_set [] i v d b = absurd (omega (arith, b))
get_set (a ∷ xs) zero v d b = refl
get_set (a ∷ xs) (suc i) v d b = let c : i < length xs = omega (arith, b) in get_set xs i v d c

get_other : {T : Type 0} (xs : List T) (i p : ℕ) (v d : T) → i < p → slice_index_or (slice_set xs p v) i d ≡ slice_index_or xs i d
get_other [] i p v d b = refl
get_other (a ∷ xs) i zero v d b = absurd (omega (arith, b))
get_other (a ∷ xs) zero (suc p) v d b = refl
get_other (a ∷ xs) (suc i) (suc p) v d b = let c : i < p = omega (arith, b) in get_other xs i p v d c

-- ---- the heads of the lists from the place i on

module _ {T : Type 0} (place : T → ℕ) (at : List ℕ) (lists : List (List T)) where
  abbrev Rest : ℕ → List T
  Rest i = rest place at lists i

  abbrev Without : ℕ → ℕ → List T
  Without i p = rest_without place at lists p i

  abbrev LeadsAt : ℕ → ℕ → ℕ → Type 0
  LeadsAt i p least = Leads place at lists i p least

  parted : (i : ℕ) → i < length at → i < length lists → Rest i ≡ merged place (drop (slice_index_or at i 0) (slice_index_or lists i [])) (Rest (i + 1))
  parted i b c = λ k. merged_all place (left_of (drop_at at i 0 b k) (drop_at lists i [] c k))

  others : (i p : ℕ) → i < p → i < length at → i < length lists → Without i p ≡ merged place (drop (slice_index_or at i 0) (slice_index_or lists i [])) (Without (i + 1) p)
  others i p lt b c =
      let up = slice_set at p (slice_index_or at p 0 + 1) in
      let long : i < length up = omega (arith, b, set_length at p (slice_index_or at p 0 + 1)) in
      (λ k. merged_all place (left_of (drop_at up i 0 long k) (drop_at lists i [] c k)))
      ∙ ap (λ (n : ℕ). merged place (drop n (slice_index_or lists i [])) (Without (i + 1) p)) (get_other at i p (slice_index_or at p 0 + 1) 0 lt)

  itself : (i : ℕ) → i < length at → i < length lists → Without i i ≡ merged place (drop (slice_index_or at i 0 + 1) (slice_index_or lists i [])) (Rest (i + 1))
  itself i b c =
      let n : ℕ = slice_index_or at i 0 + 1 in
      let up = slice_set at i n in
      let long : i < length up = omega (arith, b, set_length at i n) in
      (λ k. merged_all place (left_of (drop_at up i 0 long k) (drop_at lists i [] c k)))
      ∙ (λ k. merged place (drop (get_set at i n 0 b k) (slice_index_or lists i [])) (merged_all place (left_of (drop_after at i n k) (drop (i + 1) lists))))

  -- a list of which nothing is left
  pub none_none : (i : ℕ) → i < length at → i < length lists → slice_get (slice_index_or lists i []) (slice_index_or at i 0) ≡ None → Rest (i + 1) ≡ [] → Rest i ≡ []
  none_none i b c e r = parted i b c ∙ ((λ k. merged place (drop_none (slice_index_or lists i []) (slice_index_or at i 0) e k) (r k)))

  pub none_some : (i p least : ℕ) → i < length at → i < length lists → slice_get (slice_index_or lists i []) (slice_index_or at i 0) ≡ None → LeadsAt (i + 1) p least → LeadsAt i p least
  none_some i p least b c e L =
      let lt : i < p = omega (arith, L.from) in
      let nothing = drop_none (slice_index_or lists i []) (slice_index_or at i 0) e in record {
        value = L.value;
        there = L.there;
        from = omega (arith, L.from);
        within = L.within;
        lowest = L.lowest;
        first = parted i b c ∙ (ap (λ xs. merged place xs (Rest (i + 1))) nothing ∙ (L.first
            ∙ ap (λ xs. L.value ∷ xs) (sym (others i p lt b c ∙ ap (λ xs. merged place xs (Without (i + 1) p)) nothing))));
      }

  -- a list with a value left, where the others have none
  pub some_none : (i : ℕ) (x : T) → i < length at → i < length lists → slice_get (slice_index_or lists i []) (slice_index_or at i 0) ≡ Some x → Rest (i + 1) ≡ [] → LeadsAt i i (place x)
  some_none i x b c e r = record {
    value = x;
    there = e;
    from = omega arith;
    within = c;
    lowest = refl;
    first =
        let n = slice_index_or at i 0 in
        let list = slice_index_or lists i [] in
        parted i b c ∙ ((λ k. merged place (drop_some list n x e k) (r k)) ∙ ap (λ xs. x ∷ xs) (sym (itself i b c ∙ ap (merged place (drop (n + 1) list)) r)));
  }

  -- one whose value is before theirs
  pub some_before : (i p least : ℕ) (x : T) → i < length at → i < length lists → slice_get (slice_index_or lists i []) (slice_index_or at i 0) ≡ Some x → LeadsAt (i + 1) p least → place x < least → LeadsAt i i (place x)
  some_before i p least x b c e L lt = record {
    value = x;
    there = e;
    from = omega arith;
    within = c;
    lowest = refl;
    first =
        let n = slice_index_or at i 0 in
        let list = slice_index_or lists i [] in
        let before : place x < place L.value = omega (arith, lt, L.lowest) in
        let other = Without (i + 1) p in
        parted i b c ∙ ((λ k. merged place (drop_some list n x e k) (L.first k))
        ∙ (ap (λ t. cond t (x ∷ merged place (drop (n + 1) list) (L.value ∷ other)) (L.value ∷ merged place (x ∷ drop (n + 1) list) other)) (lt-ltb (place x) (place L.value) before)
        ∙ ap (λ xs. x ∷ xs) (sym (itself i b c ∙ ap (merged place (drop (n + 1) list)) L.first))));
  }

  -- one whose value isn't
  pub some_behind : (i p least : ℕ) (x : T) → i < length at → i < length lists → slice_get (slice_index_or lists i []) (slice_index_or at i 0) ≡ Some x → LeadsAt (i + 1) p least → least ≤ place x → LeadsAt i p least
  some_behind i p least x b c e L le =
      let n = slice_index_or at i 0 in
      let list = slice_index_or lists i [] in
      let lt : i < p = omega (arith, L.from) in
      let behind : place L.value ≤ place x = omega (arith, le, L.lowest) in
      let other = Without (i + 1) p in
      let has = drop_some list n x e in record {
        value = L.value;
        there = L.there;
        from = omega (arith, L.from);
        within = L.within;
        lowest = L.lowest;
        first = parted i b c ∙ ((λ k. merged place (has k) (L.first k))
            ∙ (ap (λ t. cond t (x ∷ merged place (drop (n + 1) list) (L.value ∷ other)) (L.value ∷ merged place (x ∷ drop (n + 1) list) other)) (le-ltb (place x) (place L.value) behind)
            ∙ ap (λ xs. L.value ∷ xs) (sym (others i p lt b c ∙ ap (λ xs. merged place xs other) has))));
      }

-- ---- the heads by their places alone

pub placed_some : {T : Type 0} (f : T → ℕ) (o : Option T) (n : ℕ) → Some n ≡ option_map f o → (x : T) × (o ≡ Some x) × (f x ≡ n)
placed_some f None n e = absurd cc
placed_some f (Some x) n e = let s : f x ≡ n = cc in (x, refl, s)

pub placed_none : {T : Type 0} (f : T → ℕ) (o : Option T) → None ≡ option_map f o → o ≡ None
placed_none f None e = refl
placed_none f (Some x) e = absurd cc

pub mapped_length : {A B : Type 0} (f : A → B) (xs : List A) → length (map f xs) ≡ length xs
mapped_length f [] = refl
mapped_length f (x ∷ xs) = ap suc (mapped_length f xs)

-- an element of a list that is mapped
pub mapped_get : {A B : Type 0} (f : A → B) (xs : List A) (i : ℕ) (x : A) (d : B) → i < length xs → x ≡ slice_index_or xs i x → f x ≡ slice_index_or (map f xs) i d
mapped_get f [] i x d b e = absurd (omega (arith, b))
mapped_get f (y ∷ xs) zero x d b e = ap f e
mapped_get f (y ∷ xs) (suc i) x d b e = let c : i < length xs = omega (arith, b) in mapped_get f xs i x d c e

module _ {T : Type 0} (place : T → ℕ) (at : List ℕ) (lists : List (List T)) (i : ℕ) (within_at : i < length at) (within : i < length lists) where
  -- a list of which nothing is left leads nothing
  pub leader_kept : (best : Option (ℕ × ℕ)) → slice_get (slice_index_or lists i []) (slice_index_or at i 0) ≡ None → IsLeader place at lists (i + 1) best → IsLeader place at lists i best
  leader_kept None e r = none_none place at lists i within_at within e r
  leader_kept (Some it) e L = none_some place at lists i it.0 it.1 within_at within e L

-- ---- how many values there are

by_cond : {T : Type 0} (b : Bool) (P : List T → Type 0) (l r : List T) → P l → P r → P (cond b l r)
by_cond true P l r p q = p
by_cond false P l r p q = q

abbrev pub total : {T : Type 0} → List (List T) → ℕ
total [] = 0
total (list ∷ lists) = length list + total lists

weave_length : {T : Type 0} (place : T → ℕ) (x : T) (xs ys : List T) → ((zs : List T) → length (merged place xs zs) ≡ length xs + length zs) → length (merged place (x ∷ xs) ys) ≡ length (x ∷ xs) + length ys
weave_length place x xs [] h = let e = h [] in omega (arith, e)
weave_length {T} place x xs (y ∷ ys) h =
    let one = h (y ∷ ys) in
    let other = weave_length place x xs ys h in
    let left : length (x ∷ merged place xs (y ∷ ys)) ≡ length (x ∷ xs) + length (y ∷ ys) = omega (arith, one) in
    let right : length (y ∷ weave place x (merged place xs) ys) ≡ length (x ∷ xs) + length (y ∷ ys) = omega (arith, other) in
    by_cond (ltb (place x) (place y)) (λ l. length l ≡ length (x ∷ xs) + length (y ∷ ys)) (x ∷ merged place xs (y ∷ ys)) (y ∷ weave place x (merged place xs) ys) left right

merged_length : {T : Type 0} (place : T → ℕ) (xs ys : List T) → length (merged place xs ys) ≡ length xs + length ys
merged_length place [] ys = omega arith
merged_length place (x ∷ xs) ys = weave_length place x xs ys (λ zs. merged_length place xs zs)

pub all_length : {T : Type 0} (place : T → ℕ) (lists : List (List T)) → length (merged_all place lists) ≡ total lists
all_length place [] = refl
all_length place (list ∷ lists) = let e = all_length place lists in merged_length place list (merged_all place lists) ∙ omega (arith, e)

pub total_more : {T : Type 0} (lists : List (List T)) (list : List T) → total (lists ++ list ∷ []) ≡ total lists + length list
total_more [] list = omega arith
total_more (l ∷ lists) list = let e = total_more lists list in omega (arith, e)

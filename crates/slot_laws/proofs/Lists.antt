-- Lists and options, each element of which is changed.
use Rattle.std.proofs.Common.{◌≡◌, ℕ, zero, suc, ◌+◌, Bool, cond, ◌||◌, ◌&&◌, is_some, is_none, List, [], ◌∷◌, ◌++◌, take, drop, length, set, remove, filter, find, map, Option, Some, None, option_map, position, refl, sym, ◌∙◌, ap}
use Rattle.std.specs.List.{fold, list_all, list_any}
use Rattle.il_machine.specs.Lists.{better, best_of, first_of_these, holds_at}
use Rattle.il_machine.specs.Places.{first_place}
use Rattle.il_machine.proofs.Places.{is_first_place}
use Rattle.machine_laws.proofs.Finding.{either}

module _ {A B : Type 0} (g : A → B) where
  pub map_set : (xs : List A) (i : ℕ) (x : A) → set (map g xs) i (g x) ≡ map g (set xs i x)
  map_set [] i x = refl
  map_set (y ∷ ys) zero x = refl
  map_set (y ∷ ys) (suc i) x = ap (λ (l : List B). g y ∷ l) (map_set ys i x)

  pub map_append : (xs ys : List A) → map g xs ++ map g ys ≡ map g (xs ++ ys)
  map_append [] ys = refl
  map_append (x ∷ xs) ys = ap (λ (l : List B). g x ∷ l) (map_append xs ys)

  map_take : (n : ℕ) (xs : List A) → take n (map g xs) ≡ map g (take n xs)
  map_take zero xs = refl
  map_take (suc n) [] = refl
  map_take (suc n) (x ∷ xs) = ap (λ (l : List B). g x ∷ l) (map_take n xs)

  map_drop : (n : ℕ) (xs : List A) → drop n (map g xs) ≡ map g (drop n xs)
  map_drop zero xs = refl
  map_drop (suc n) [] = refl
  map_drop (suc n) (x ∷ xs) = map_drop n xs

  pub map_remove : (xs : List A) (i : ℕ) → remove (map g xs) i ≡ map g (remove xs i)
  map_remove xs i =
      let a = map_take i xs in
      let b = map_drop (suc i) xs in
      (λ j. a j ++ b j) ∙ map_append (take i xs) (drop (suc i) xs)

  pub map_length : (xs : List A) → length (map g xs) ≡ length xs
  map_length [] = refl
  map_length (x ∷ xs) = ap suc (map_length xs)

  pub all_moved : (p : B → Bool) (q : A → Bool) (xs : List A) → ((x : A) → p (g x) ≡ q x) → list_all p (map g xs) ≡ list_all q xs
  all_moved p q [] same = refl
  all_moved p q (x ∷ xs) same =
      let a = same x in
      let b = all_moved p q xs same in
      λ j. a j && b j

  pub any_moved : (p : B → Bool) (q : A → Bool) (xs : List A) → ((x : A) → p (g x) ≡ q x) → list_any p (map g xs) ≡ list_any q xs
  any_moved p q [] same = refl
  any_moved p q (x ∷ xs) same =
      let a = same x in
      let b = any_moved p q xs same in
      λ j. a j || b j

  first_moved : (p : B → Bool) (q : A → Bool) (xs : List A) → ((x : A) → p (g x) ≡ q x) → first_place p (map g xs) ≡ first_place q xs
  first_moved p q [] same = refl
  first_moved p q (x ∷ xs) same =
      let a = same x in
      let b = first_moved p q xs same in
      λ j. cond (a j) (Some 0) (option_map suc (b j))

  pub position_moved : (p : B → Bool) (q : A → Bool) (xs : List A) → ((x : A) → p (g x) ≡ q x) → position p (map g xs) ≡ position q xs
  position_moved p q xs same = is_first_place p (map g xs) ∙ (first_moved p q xs same ∙ sym (is_first_place q xs))

  pub filter_moved : (p : B → Bool) (q : A → Bool) (xs : List A) → ((x : A) → p (g x) ≡ q x) → filter p (map g xs) ≡ map g (filter q xs)
  filter_moved p q [] same = refl
  filter_moved p q (x ∷ xs) same =
      let a = same x in
      let b = filter_moved p q xs same in
      (λ j. cond (a j) (g x ∷ b j) (b j)) ∙ either (q x) (λ t. rw t refl) (λ e. rw e refl)

  pub fold_moved : (h : B → ℕ) (k : A → ℕ) (n : ℕ) (xs : List A) → ((x : A) → h (g x) ≡ k x) → fold (λ a x. a + h x) n (map g xs) ≡ fold (λ a x. a + k x) n xs
  fold_moved h k n [] same = refl
  fold_moved h k n (x ∷ xs) same =
      ap (λ (m : ℕ). fold (λ a y. a + h y) (n + m) (map g xs)) (same x) ∙ fold_moved h k (n + k x) xs same

  -- a list of what is told of each
  pub map_same : {C : Type 0} (h : B → C) (k : A → C) (xs : List A) → ((x : A) → h (g x) ≡ k x) → map h (map g xs) ≡ map k xs
  map_same h k [] same = refl
  map_same h k (x ∷ xs) same =
      let a = same x in
      let b = map_same h k xs same in
      λ j. a j ∷ b j

  pub find_moved : (p : B → Bool) (q : A → Bool) (xs : List A) → ((x : A) → p (g x) ≡ q x) → find p (map g xs) ≡ option_map g (find q xs)
  find_moved p q [] same = refl
  find_moved p q (x ∷ xs) same =
      let a = same x in
      let b = find_moved p q xs same in
      (λ j. cond (a j) (Some (g x)) (b j)) ∙ either (q x) (λ t. rw t refl) (λ e. rw e refl)

  pub some_moved : (o : Option A) → is_some (option_map g o) ≡ is_some o
  some_moved None = refl
  some_moved (Some x) = refl

  pub none_moved : (o : Option A) → is_none (option_map g o) ≡ is_none o
  none_moved None = refl
  none_moved (Some x) = refl

  pub holds_moved : (p : B → Bool) (q : A → Bool) (o : Option A) → ((x : A) → p (g x) ≡ q x) → holds_at (option_map g o) p ≡ holds_at o q
  holds_moved p q None same = refl
  holds_moved p q (Some x) same = same x

module _ {A : Type 0} (g : A → A) (test : A → Bool) (before : A → A → Bool) (tests : (x : A) → test (g x) ≡ test x) (goes : (x y : A) → before (g x) (g y) ≡ before x y) where
  better_moved : (x : A) (o : Option A) → better before (g x) (option_map g o) ≡ g (better before x o)
  better_moved x None = refl
  better_moved x (Some y) =
      let a = goes y x in
      (λ j. cond (a j) (g y) (g x)) ∙ either (before y x) (λ t. rw t refl) (λ e. rw e refl)

  pub best_moved : (xs : List A) → best_of test before (map g xs) ≡ option_map g (best_of test before xs)
  best_moved [] = refl
  best_moved (x ∷ xs) =
      let a = tests x in
      let b = best_moved xs in
      (λ j. cond (a j) (Some (better before (g x) (b j))) (b j))
      ∙ (ap (λ (y : A). cond (test x) (Some y) (option_map g (best_of test before xs))) (better_moved x (best_of test before xs))
      ∙ either (test x) (λ t. rw t refl) (λ e. rw e refl))

module _ {E F : Type 0} (g : E → F) where
  -- the same tests, and each answer changed
  abbrev pub Alike : List (Bool × F) → List (Bool × E) → Type 0
  Alike [] [] = Unit {0}
  Alike (x ∷ xs) (y ∷ ys) = (x.0 ≡ y.0) × (x.1 ≡ g y.1) × Alike xs ys
  Alike _ _ = ⊥

  pub first_alike : (xs : List (Bool × F)) (ys : List (Bool × E)) → Alike xs ys → first_of_these xs ≡ option_map g (first_of_these ys)
  first_alike [] [] same = refl
  first_alike [] (y ∷ ys) same = absurd same
  first_alike (x ∷ xs) [] same = absurd same
  first_alike (x ∷ xs) (y ∷ ys) (test, answer, rest) =
      let b = first_alike xs ys rest in
      (λ j. cond (test j) (Some (answer j)) (b j)) ∙ either y.0 (λ t. rw t refl) (λ e. rw e refl)

  pub alike_append : (xs us : List (Bool × F)) (ys vs : List (Bool × E)) → Alike xs ys → Alike us vs → Alike (xs ++ us) (ys ++ vs)
  alike_append [] us [] vs a b = b
  alike_append [] us (y ∷ ys) vs a b = absurd a
  alike_append (x ∷ xs) us [] vs a b = absurd a
  alike_append (x ∷ xs) us (y ∷ ys) vs (test, answer, rest) b = (test, answer, alike_append xs us ys vs rest b)

pub same_option : {E : Type 0} (o : Option E) → option_map (λ (x : E). x) o ≡ o
same_option None = refl
same_option (Some x) = refl

-- the same tests and the same answers
pub first_same : {E : Type 0} (xs ys : List (Bool × E)) → Alike (λ (x : E). x) xs ys → first_of_these xs ≡ first_of_these ys
first_same xs ys same = first_alike (λ x. x) xs ys same ∙ same_option (first_of_these ys)

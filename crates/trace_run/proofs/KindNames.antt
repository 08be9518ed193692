-- The name of each kind is a text.
use Rattle.std.proofs.Common.{◌≡◌, inl, inr, ℕ, zero, suc, Bool, true, List, [], ◌∷◌, Some, None, option_map, refl, ap, subst, eqb-true, ltb-true, lit<}
use Rattle.std.specs.Prelude.{IsUtf8, IsAscii, find, nat_eq, nat_lt}
use Rattle.std.specs.List.{AllByRecursion, list_all}
use Rattle.std.proofs.lemmas.Bool.{and_parts}
use Rattle.std.proofs.lemmas.Str.{IsUtf8-from_ascii}
use Rattle.omx_types.specs.declared.kind.Kind.{Kind}
use Rattle.il_machine.specs.Kinds.{named_kinds, has_name, kind_of}
use Rattle.il_machine.specs.Lists.{same_numbers}
use Rattle.machine_laws.proofs.Every.{found_one}
use Rattle.machine_laws.proofs.Finding.{either}
use Rattle.machine_laws.proofs.Keys.{none_or_some}

same_are : (xs ys : List ℕ) → same_numbers xs ys ≡ true → xs ≡ ys
same_are [] [] e = refl
same_are [] (y ∷ ys) e = absurd cc
same_are (x ∷ xs) [] e = absurd cc
same_are (x ∷ xs) (y ∷ ys) e =
    let p = and_parts (nat_eq x y) (same_numbers xs ys) e in
    let a : x ≡ y = eqb-true x y p.0 in
    let b : xs ≡ ys = same_are xs ys p.1 in
    λ i. a i ∷ b i

found_passes : (test : (List ℕ × Kind) → Bool) (rows : List (List ℕ × Kind)) (row : List ℕ × Kind) → find test rows ≡ Some row → test row ≡ true
found_passes test [] row e = absurd cc
found_passes test (x ∷ xs) row e = either (test x)
    (λ t. let s : Some x ≡ Some row = rw t at e in let is : x ≡ row = cc in rw (← is) t)
    (λ f. found_passes test xs row (rw f at e))

is_small : ℕ → Bool
is_small byte = nat_lt byte 128

are_ascii : (bytes : List ℕ) → list_all is_small bytes ≡ true → IsAscii bytes
unfolding is_small
are_ascii [] e i = lit< tt
are_ascii (b ∷ bs) e zero = let p = and_parts (is_small b) (list_all is_small bs) e in ltb-true b 128 p.0
are_ascii (b ∷ bs) e (suc i) = let p = and_parts (is_small b) (list_all is_small bs) e in are_ascii bs p.1 i

-- each name is ASCII
IsText : (List ℕ × Kind) → Type 0
IsText row = IsUtf8 row.0

text : (row : List ℕ × Kind) → list_all is_small row.0 ≡ true → IsText row
unfolding IsText
text row e = IsUtf8-from_ascii row.0 (are_ascii row.0 e)

all_text : (rows : List (List ℕ × Kind)) → list_all (λ row. list_all is_small row.0) rows ≡ true → AllByRecursion IsText rows
all_text [] e = tt
all_text (row ∷ rows) e = let p = and_parts _ _ e in (text row p.0, all_text rows p.1)

texts : AllByRecursion IsText named_kinds
unfolding is_small
texts = all_text named_kinds refl

-- what is no text names no kind
pub no_kind : (name : List ℕ) → ¬ (IsUtf8 name) → kind_of name ≡ None
unfolding IsText
no_kind name n = elim (none_or_some (find (has_name name) named_kinds)) [
  | inl none ↦ ap (option_map (λ row. row.1)) none
  | inr (row, e) ↦
      let text = found_one IsText (has_name name) named_kinds row texts e in
      let is : row.0 ≡ name = same_are row.0 name (found_passes (has_name name) named_kinds row e) in
      absurd (n (subst IsUtf8 is text))
]

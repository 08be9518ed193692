-- A name that differs from each of a table's isn't found in it.
use Rattle.std.proofs.Common.{◌≡◌, ℕ, true, false, List, [], ◌∷◌, None, find, refl, arith}
use Rattle.std.proofs.lemmas.Bool.Decides.{nat_tests}
use Rattle.omx_types.specs.declared.kind.Kind.{Kind}
use Rattle.il_machine.specs.Lists.{same_numbers}
use Rattle.il_machine.specs.Kinds.{has_name}

equal_where_same : (a b : List ℕ) → same_numbers a b ≡ true → b ≡ a
equal_where_same [] [] h = refl
equal_where_same [] (y ∷ ys) h = absurd cc
equal_where_same (x ∷ xs) [] h = absurd cc
equal_where_same (x ∷ xs) (y ∷ ys) h = grind (arith, nat_tests, equal_where_same xs ys)

differs : (a b : List ℕ) → (b ≡ a → ⊥) → same_numbers a b ≡ false
differs a b d = elim (same_numbers a b) as (λ v. same_numbers a b ≡ v → v ≡ false) [ true ↦ λ e. absurd (d (equal_where_same a b e)) | false ↦ λ e. refl ] refl

abbrev pub AllDiffer : List (List ℕ × Kind) → List ℕ → Type 0
AllDiffer [] name = Unit {0}
AllDiffer (row ∷ rows) name = (name ≡ row.0 → ⊥) × AllDiffer rows name

pub unnamed : (rows : List (List ℕ × Kind)) (name : List ℕ) → AllDiffer rows name → find (has_name name) rows ≡ None
unnamed [] name h = refl
unnamed (row ∷ rows) name h = let d = differs row.0 name h.0 in let i = unnamed rows name h.1 in grind arith

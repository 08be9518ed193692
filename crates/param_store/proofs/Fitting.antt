-- The first format that is known is that of the list of those that are.
use Rattle.std.proofs.Common.{◌≡◌, Bool, true, false, not, ◌&&◌, ◌||◌, List, [], ◌∷◌, filter, find, Some, None, refl, arith}
use Rattle.std.specs.List.{list_all}
use Rattle.std.proofs.lemmas.Bool.Decides.{nat_tests}
use Rattle.omx_types.specs.declared.format.Format.{Format}
use Rattle.omx_types.specs.declared.format.Format.TheVariants.{Pcm, Alaw, Mulaw, Auto}
use Rattle.omx_types.specs.declared.kind.Kind.{Kind}
use Rattle.il_machine.specs.Settings.{are_fitting, same_format, same_rate_and_channels, is_splitter}

module _ {X : Type 0} (test : X → Bool) where
  pub first_of_filter : (xs : List X) (x : X) → find test xs ≡ Some x → (rest : List X) × (filter test xs ≡ x ∷ rest)
  first_of_filter [] x e = absurd cc
  first_of_filter (y ∷ xs) x e = elim (test y) as (λ b. test y ≡ b → (rest : List X) × (filter test (y ∷ xs) ≡ x ∷ rest)) [
    | true ↦ λ t. let q : y ≡ x = grind arith in (filter test xs, grind arith)
    | false ↦ λ t. let q : find test xs ≡ Some x = grind arith in let i = first_of_filter xs x q in (i.0, grind arith)
  ] refl

  pub none_of_filter : (xs : List X) → find test xs ≡ None → filter test xs ≡ []
  none_of_filter [] e = refl
  none_of_filter (y ∷ xs) e = elim (test y) as (λ b. test y ≡ b → filter test (y ∷ xs) ≡ []) [
    | true ↦ λ t. let q : Some y ≡ None = grind arith in absurd cc
    | false ↦ λ t. let q : find test xs ≡ None = grind arith in let i = none_of_filter xs q in grind arith
  ] refl

alike_itself : (f : Format) → same_rate_and_channels f f ≡ true
alike_itself f = grind (arith, nat_tests)

format_itself : (f : Format) → same_format f f ≡ true
format_itself (Pcm rate channels) = grind (arith, nat_tests)
format_itself (Alaw rate channels) = grind (arith, nat_tests)
format_itself (Mulaw rate channels) = grind (arith, nat_tests)
format_itself Auto = refl

pub fits_by_first : (kind : Kind) (test : Format → Bool) (fs : List Format) (first : Format) → find test fs ≡ Some first
    → are_fitting kind (filter test fs) ≡ list_all (λ f. same_rate_and_channels f first) (filter test fs) && (not (is_splitter kind) || list_all (λ f. same_format f first) (filter test fs))
fits_by_first kind test fs first e =
    let x = first_of_filter test fs first e in
    rw (x.1, alike_itself first, format_itself first) refl

-- The component that a handle names.
use Rattle.std.proofs.Common.{◌≡◌, ℕ, zero, suc, true, nat_eq, eqb-true, List, [], ◌∷◌, slice_get, Option, Some, None, option_map, refl, ◌∙◌, ap, arith}
use Rattle.std.proofs.lemmas.Bool.Decides.{nat_tests}
use Rattle.std.proofs.lemmas.Bool.{and_parts}
use Rattle.omx_types.specs.declared.handle.Handle.{Handle}
use Rattle.il_machine.specs.World.{Component, World, is_at, number_of, place_of, same_handle}
use Rattle.il_machine.specs.Look.{look}
use Rattle.il_machine.specs.Components.{handle_at}
use Rattle.il_machine.specs.Places.{first_place}
use Rattle.il_machine.specs.Sound.{AreRising, Sound}
use Rattle.il_machine.proofs.Places.{is_first_place}
use Rattle.machine_laws.proofs.Finding.{either}
use Rattle.machine_laws.proofs.Lookups.{rises_at}

same_itself : (h : Handle) → same_handle h h ≡ true
same_itself h = grind (arith, nat_tests)

-- the first of the handle is the one at the place, since numbers rise
first_is : (from next : ℕ) (cs : List Component) (h : Handle) (i : ℕ) (c : Component) → AreRising from cs next → slice_get cs i ≡ Some c → c.handle ≡ h → first_place (is_at h) cs ≡ Some i
first_is from next [] h i c R at e = absurd cc
first_is from next (x ∷ cs) h zero c R at e =
    let s : x ≡ c = cc in
    let t : is_at h x ≡ true = rw (ap (λ (y : Component). y.handle) s ∙ e) (same_itself h) in
    rw t refl
first_is from next (x ∷ cs) h (suc i) c R at e =
    let r = rises_at (suc (number_of x)) next i cs c R.1 at in
    let n : number_of c ≡ h.generation = ap (λ (k : Handle). k.generation) e in
    either (is_at h x)
    (λ t.
    let p = and_parts (nat_eq x.handle.slot h.slot) (nat_eq x.handle.generation h.generation) t in
    let g : number_of x ≡ h.generation = eqb-true _ _ p.1 in
    absurd (omega (arith, r.0, n, g)))
    (λ f. rw f (ap (option_map suc) (first_is (suc (number_of x)) next cs h i c R.1 at e)))

pub record IsThere (w : World) (place : ℕ) (h : Handle) : Type 0 where
  pub component : Component
  pub there : slice_get w.components place ≡ Some component
  pub handle : component.handle ≡ h

handle_there : (o : Option Component) (h : Handle) → option_map (λ c. c.handle) o ≡ Some h → (c : Component) × (o ≡ Some c) × (c.handle ≡ h)
handle_there None h e = absurd cc
handle_there (Some c) h e = (c, refl, cc)

pub at_handle : (w : World) (place : ℕ) (h : Handle) → handle_at place (look w) ≡ Some h → IsThere w place h
at_handle w place h e = let x = handle_there (slice_get w.components place) h e in record { component = x.0; there = x.1; handle = x.2 }

pub named_at : (w : World) (place : ℕ) (h : Handle) → Sound w → handle_at place (look w) ≡ Some h → place_of h w.components ≡ Some place
named_at w place h S e =
    let x = at_handle w place h e in
    is_first_place (is_at h) w.components ∙ first_is 0 w.numbered w.components h place x.component S.rising x.there x.handle

-- Handles of a sound world: one of a live component has a number below the next one and names it, and no two have one number.
use Rattle.std.proofs.Common.{◌≡◌, ℕ, zero, suc, ◌<◌, ◌∙◌, sym, ap, subst, refl, true, false, nat_eq, eqb-true, eq-eqb, Option, Some, None, option_map, List, [], ◌∷◌, slice_get, arith}
use Rattle.std.specs.Prelude.{option_and_then}
use Rattle.std.proofs.lemmas.Bool.{and_parts}
use Rattle.omx_types.specs.declared.handle.Handle.{Handle}
use Rattle.il_machine.specs.World.{Component, World, number_of, is_at, place_of, same_handle}
use Rattle.il_machine.specs.Answers.{component_named}
use Rattle.il_machine.specs.Places.{first_place}
use Rattle.il_machine.specs.Sound.{AreRising, Sound}
use Rattle.il_machine.proofs.Places.{is_first_place, passes_at}
use Rattle.machine_laws.proofs.Finding.{either}
use Rattle.machine_laws.proofs.Lookups.{rises_at, same_place}

pub handle_is : (a b : Handle) → same_handle a b ≡ true → a ≡ b
handle_is a b h =
    let p = and_parts (nat_eq a.slot b.slot) (nat_eq a.generation b.generation) h in
    let s : a.slot ≡ b.slot = eqb-true _ _ p.0 in
    let g : a.generation ≡ b.generation = eqb-true _ _ p.1 in
    λ i. record { slot = s i; generation = g i }

pub handle_itself : (a : Handle) → same_handle a a ≡ true
handle_itself a = rw (eq-eqb a.slot a.slot refl, eq-eqb a.generation a.generation refl) refl

and_then_there : {X Y : Type 0} (f : X → Option Y) (o : Option X) (y : Y) → option_and_then f o ≡ Some y → (x : X) × (o ≡ Some x) × (f x ≡ Some y)
and_then_there f None y e = absurd cc
and_then_there f (Some x) y e = (x, refl, e)

pub named_place : (h : Handle) (cs : List Component) (c : Component) → component_named h cs ≡ Some c → (i : ℕ) × (slice_get cs i ≡ Some c) × (c.handle ≡ h)
named_place h cs c e =
    let x = and_then_there (slice_get cs) (place_of h cs) c e in
    let y = passes_at (is_at h) cs x.0 (sym (is_first_place (is_at h) cs) ∙ x.1) in
    let s : Some y.0 ≡ Some c = sym y.1 ∙ x.2 in
    let is : y.0 ≡ c = cc in
    let t : is_at h c ≡ true = ap (is_at h) (sym is) ∙ y.2 in
    (x.0, x.2, handle_is c.handle h t)

pub named_below : (w : World) (h : Handle) (c : Component) → Sound w → component_named h w.components ≡ Some c → h.generation < w.numbered
named_below w h c S e =
    let x = named_place h w.components c e in
    subst (λ n. n < w.numbered) (ap (λ (k : Handle). k.generation) x.2) (rises_at 0 w.numbered x.0 w.components c S.rising x.1).1

-- two live components of one number have one handle
pub named_one : (w : World) (h k : Handle) (c d : Component) → Sound w → component_named h w.components ≡ Some c → component_named k w.components ≡ Some d → h.generation ≡ k.generation → h ≡ k
named_one w h k c d S e f n =
    let x = named_place h w.components c e in
    let y = named_place k w.components d f in
    let a : number_of c ≡ h.generation = ap (λ (z : Handle). z.generation) x.2 in
    let b : number_of d ≡ k.generation = ap (λ (z : Handle). z.generation) y.2 in
    let i : x.0 ≡ y.0 = same_place 0 w.numbered x.0 y.0 w.components c d S.rising x.1 y.1 (a ∙ (n ∙ sym b)) in
    let s : Some c ≡ Some d = sym x.1 ∙ (ap (slice_get w.components) i ∙ y.1) in
    let is : c ≡ d = cc in
    sym x.2 ∙ (ap (λ (z : Component). z.handle) is ∙ y.2)

-- a component's own handle names it
own_place : (from next i : ℕ) (cs : List Component) (c : Component) → AreRising from cs next → slice_get cs i ≡ Some c → first_place (is_at c.handle) cs ≡ Some i
own_place from next i [] c R at = absurd cc
own_place from next zero (x ∷ cs) c R at =
    let s : x ≡ c = cc in
    let t : is_at c.handle x ≡ true = rw s (handle_itself c.handle) in
    rw t refl
own_place from next (suc i) (x ∷ cs) c R at =
    let r = rises_at (suc (number_of x)) next i cs c R.1 at in
    let f : is_at c.handle x ≡ false = either (is_at c.handle x)
    (λ t. let e : number_of x ≡ number_of c = ap (λ (h : Handle). h.generation) (handle_is x.handle c.handle t) in absurd (omega (arith, r.0, e)))
    (λ f. f) in
    rw f (ap (option_map suc) (own_place (suc (number_of x)) next i cs c R.1 at))

pub own_named : (w : World) (i : ℕ) (c : Component) → Sound w → slice_get w.components i ≡ Some c → component_named c.handle w.components ≡ Some c
own_named w i c S at = ap (option_and_then (slice_get w.components)) (is_first_place (is_at c.handle) w.components ∙ own_place 0 w.numbered i w.components c S.rising at) ∙ at

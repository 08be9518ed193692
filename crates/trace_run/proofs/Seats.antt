-- The component that a handle names is found by the seats alone.
use Rattle.std.proofs.Common.{◌≡◌, ℕ, suc, true, nat_eq, eqb-true, List, [], ◌∷◌, map, cond, slice_get, Option, Some, None, option_map, refl, sym, ◌∙◌, ap}
use Rattle.std.specs.Prelude.{option_and_then}
use Rattle.std.proofs.lemmas.Bool.{and_parts}
use Rattle.omx_types.specs.declared.handle.Handle.{Handle}
use Rattle.il_machine.specs.World.{Component, same_handle, is_at}
use Rattle.il_machine.specs.Answers.{component_named}
use Rattle.il_machine.specs.Places.{first_place}
use Rattle.il_machine.proofs.Places.{is_first_place}
use Rattle.machine_laws.proofs.Finding.{either}
use Rattle.trace_run.proofs.Closed.{Seat, seat}

unfoldable pub found : Handle → List Component → Option Component
found h [] = None
found h (c ∷ cs) = cond (is_at h c) (Some c) (found h cs)

one_later : (c : Component) (cs : List Component) (o : Option ℕ) → option_and_then (slice_get (c ∷ cs)) (option_map suc o) ≡ option_and_then (slice_get cs) o
one_later c cs None = refl
one_later c cs (Some i) = refl

by_place : (h : Handle) (cs : List Component) → option_and_then (slice_get cs) (first_place (is_at h) cs) ≡ found h cs
unfolding found
by_place h [] = refl
by_place h (c ∷ cs) = either (is_at h c)
    (λ t. rw t refl)
    (λ f. rw f (one_later c cs (first_place (is_at h) cs) ∙ by_place h cs))

pub named_found : (h : Handle) (cs : List Component) → component_named h cs ≡ found h cs
named_found h cs = ap (option_and_then (slice_get cs)) (is_first_place (is_at h) cs) ∙ by_place h cs

found_seat : (h : Handle) (cs ds : List Component) (c : Component) → map seat ds ≡ map seat cs → found h cs ≡ Some c → (d : Component) × (found h ds ≡ Some d) × (seat d ≡ seat c)
unfolding found
found_seat h [] ds c e f = absurd cc
found_seat h (x ∷ cs) [] c e f = absurd cc
found_seat h (x ∷ cs) (y ∷ ds) c e f =
    let s : seat y ≡ seat x = cc in
    let r : map seat ds ≡ map seat cs = cc in
    let t : is_at h y ≡ is_at h x = ap (λ (k : Seat). same_handle k.handle h) s in
    either (is_at h x)
    (λ a.
    let is : Some x ≡ Some c = rw a at f in
    let same : x ≡ c = cc in
    (y, (rw (t, a) refl), (rw (← same) s)))
    (λ a.
    let g = found_seat h cs ds c r (rw a at f) in
    (g.0, (rw (t, a) g.1), g.2))

pub handle_is : (a b : Handle) → same_handle a b ≡ true → a ≡ b
handle_is a b s =
    let p = and_parts (nat_eq a.slot b.slot) (nat_eq a.generation b.generation) s in
    let x : a.slot ≡ b.slot = eqb-true _ _ p.0 in
    let y : a.generation ≡ b.generation = eqb-true _ _ p.1 in
    λ i. record { slot = x i; generation = y i }

-- the component that the handle names has that handle
pub place_named : (h : Handle) (cs : List Component) (c : Component) → component_named h cs ≡ Some c → (i : ℕ) × (slice_get cs i ≡ Some c) × (c.handle ≡ h)
unfolding found
place_named h cs c e = at_found cs (sym (named_found h cs) ∙ e)
  where
    at_found : (ds : List Component) → found h ds ≡ Some c → (i : ℕ) × (slice_get ds i ≡ Some c) × (c.handle ≡ h)
    at_found [] f = absurd cc
    at_found (d ∷ ds) f = either (is_at h d)
        (λ t.
        let s : Some d ≡ Some c = rw t at f in
        let is : d ≡ c = cc in
        (0, s, ap (λ (x : Component). x.handle) (sym is) ∙ handle_is d.handle h t))
        (λ t. let r = at_found ds (rw t at f) in (suc r.0, r.1, r.2))

-- the component that the handle names has its seat still
pub named_seat : (h : Handle) (cs ds : List Component) (c : Component) → map seat ds ≡ map seat cs → component_named h cs ≡ Some c → (d : Component) × (component_named h ds ≡ Some d) × (seat d ≡ seat c)
named_seat h cs ds c e f =
    let x = found_seat h cs ds c e (sym (named_found h cs) ∙ f) in
    (x.0, named_found h ds ∙ x.1, x.2)

-- Two new handles in one world.
use Rattle.std.proofs.Common.{◌≡◌, ℕ, Bool, true, false, not, ◌||◌, List, [], ◌∷◌, ◌++◌, Result, Ok, refl, sym, ◌∙◌, ap, subst, eq-eqb}
use Rattle.std.specs.Prelude.{map, nat_eq}
use Rattle.std.specs.List.{list_any}
use Rattle.omx_types.specs.declared.handle.Handle.{Handle}
use Rattle.omx_types.specs.declared.error.CallError.{CallError}
use Rattle.omx_types.specs.declared.kind.Kind.{Kind}
use Rattle.il_machine.specs.World.{Component, World, same_handle, fresh}
use Rattle.il_machine.specs.Look.{look}
use Rattle.il_machine.specs.Kinds.{kind_of}
use Rattle.il_machine.specs.Due.{ClosesTo}
use Rattle.il_machine.specs.Components.{GetHandle, get_handle_refusal, is_vacant, with_new_component}
use Rattle.il_machine.specs.Acts.{Act, Reply}
use Rattle.il_machine.specs.Acts as acts
use Rattle.machine_laws.proofs.Closing.{closes_once}
use Rattle.history_laws.specs.Determined.{reseated, with_slot, AreAlike, Equal, FirstWants, SecondWants, GotBoth}
use Rattle.history_laws.proofs.Slots.{slot_closes}
use Rattle.history_laws.proofs.Twice.{IsSame, both_there, answers_or_memory_twice}

pub alike : {R : Type 0} (f : R → Reply) (w : World) (x y : R) (v u : World) → IsSame x y v u → AreAlike w (f x) v (f y) u
alike f w x y v u S = Equal (ap f S.result) S.world

-- ---- a new handle

apart_from : (b c : Bool) → (b || c) ≡ false → (b ≡ false) × (c ≡ false)
apart_from true c e = absurd cc
apart_from false c e = (refl, e)

not_true : (b : Bool) → not b ≡ true → b ≡ false
not_true true e = absurd cc
not_true false e = refl

seat_kept : (h : Handle) (slot : ℕ) (c : Component) → nat_eq c.handle.slot h.slot ≡ false → reseated h slot c ≡ c
seat_kept h slot c e = rw e refl

seats_kept : (h : Handle) (slot : ℕ) (cs : List Component) (d : Component) → list_any (λ c. nat_eq c.handle.slot h.slot) cs ≡ false → map (reseated h slot) (cs ++ d ∷ []) ≡ cs ++ reseated h slot d ∷ []
seats_kept h slot [] d e = refl
seats_kept h slot (c ∷ cs) d e =
    let a = apart_from (nat_eq c.handle.slot h.slot) (list_any (λ x. nat_eq x.handle.slot h.slot) cs) e in
    ap (λ (x : Component). x ∷ map (reseated h slot) (cs ++ d ∷ [])) (seat_kept h slot c a.0)
    ∙ ap (λ (l : List Component). c ∷ l) (seats_kept h slot cs d a.1)

own_seat : (h k : Handle) (kind : Kind) → k.generation ≡ h.generation → reseated h k.slot (fresh h kind) ≡ fresh k kind
own_seat h k kind e =
    let t : same_handle h h ≡ true = rw (eq-eqb h.slot h.slot refl, eq-eqb h.generation h.generation refl) refl in
    let f = sym e in
    rw t (λ i. fresh (record { slot = k.slot; generation = f i }) kind)

-- the world with the one new component, or with the other
new_alike : (w : World) (h k : Handle) (kind : Kind) → is_vacant h.slot w.components ≡ true → k.generation ≡ h.generation → with_slot h k.slot (with_new_component h kind w) ≡ with_new_component k kind w
new_alike w h k kind vacant e =
    let none : list_any (λ c. nat_eq c.handle.slot h.slot) w.components ≡ false = not_true (list_any (λ c. nat_eq c.handle.slot h.slot) w.components) vacant in
    let a = seats_kept h k.slot w.components (fresh h kind) none ∙ ap (λ (c : Component). w.components ++ c ∷ []) (own_seat h k kind e) in
    λ i. record (with_new_component h kind w) { components = a i }

both_got : (w : World) (x y : Result Handle CallError) (v u : World) (h k : Handle) (kind : Kind) → x ≡ Ok h → y ≡ Ok k → k.generation ≡ h.generation → is_vacant h.slot w.components ≡ true
    → ClosesTo (with_new_component h kind w) v → ClosesTo (with_new_component k kind w) u → AreAlike w (acts.Got x) v (acts.Got y) u
both_got w x y v u h k kind e f g vacant C D =
    let moved : ClosesTo (with_new_component k kind w) (with_slot h k.slot v) = subst (λ (m : World). ClosesTo m (with_slot h k.slot v)) (new_alike w h k kind vacant g) (slot_closes h k.slot (with_new_component h kind w) v C) in
    GotBoth (record {
      first = h;
      second = k;
      one = ap (λ r. acts.Got r) e;
      other = ap (λ r. acts.Got r) f;
      generation = g;
      worlds = closes_once (with_new_component k kind w) u (with_slot h k.slot v) D moved;
    })

pub get_handle_twice : (w : World) (name : List ℕ) (x y : Result Handle CallError) (v u : World) → GetHandle w name x v → GetHandle w name y u → AreAlike w (acts.Got x) v (acts.Got y) u
get_handle_twice w name x y v u a b =
    answers_or_memory_twice (get_handle_refusal (look w) name) w x y v u _ _ (AreAlike w (acts.Got x) v (acts.Got y) u) a b
    (alike (λ r. acts.Got r) w x y v u)
    (λ e s. FirstWants (rw e tt) s)
    (λ e s. SecondWants (rw e tt) s)
    (λ h k e f p q. both_there (kind_of name) _ _ p.2 q.2 (λ kind t C D. both_got w x y v u h k kind e f (q.0 ∙ sym p.0) p.1 C D))

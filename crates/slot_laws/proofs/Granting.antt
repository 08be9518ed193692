-- Units go from one component to another, in a world whose handles moved.
use Rattle.std.proofs.Common.{◌≡◌, ℕ, ◌+◌, Bool, not, nat_le, nat_lt, List, [], ◌∷◌, filter, Option, Some, None, option_map, option_and_then, refl, sym, ◌∙◌, ap, subst, sum_by}
use Rattle.std.specs.Prelude.{map}
use Rattle.omx_types.specs.declared.state.State.TheVariants as states
use Rattle.il_machine.specs.declared.answer.Granted.{Granted}
use Rattle.il_machine.specs.declared.answer.Preempted.{Preempted}
use Rattle.il_machine.specs.declared.answer.Why.{Why}
use Rattle.il_machine.specs.declared.answer.Why.TheVariants as why
use Rattle.il_machine.specs.Lists.{first_of_these}
use Rattle.il_machine.specs.Look.{look}
use Rattle.il_machine.specs.Ports.{is_going_to}
use Rattle.il_machine.specs.States.{is_running}
use Rattle.il_machine.specs.Units.{Grant, Grants, Preempt, Preempts, at_one, coming_units, first_waiter, free_units, gives_first, grant_idle, granted_units, is_before, is_giving_back, is_waiter, is_weaker, lacks_event_room, need_of, preempt_idle, preempted_units, victim, weakest, with_changed}
use Rattle.il_machine.specs.World.{Component, World, changed_at, number_of, place_numbered, with_component}
use Rattle.machine_laws.proofs.Finding.{either}
use Rattle.slot_laws.specs.Seating.{Seating, moved, moved_component, moved_granted, moved_preempted, moved_why}
use Rattle.slot_laws.proofs.Lists.{Alike, best_moved, filter_moved, first_alike, fold_moved}
use Rattle.slot_laws.proofs.Closings.{component_put}
use Rattle.slot_laws.proofs.Naming.{closes_from, number_moved}
use Rattle.slot_laws.proofs.Rooms.{free_moved, room_moved}

module _ (f : Seating) where
  -- ---- who waits, and who gives up its units

  waiter_moved : (cs : List Component) → first_waiter (map (moved_component f) cs) ≡ option_map (moved_component f) (first_waiter cs)
  waiter_moved cs = best_moved (moved_component f) is_waiter is_before (λ c. refl) (λ c d. refl) cs

  weakest_moved : (c : Component) (cs : List Component) → weakest (moved_component f c) (map (moved_component f) cs) ≡ option_map (moved_component f) (weakest c cs)
  weakest_moved c cs = best_moved (moved_component f) (is_weaker c) gives_first (λ d. refl) (λ d e. refl) cs

  victim_moved : (cs : List Component) → victim (map (moved_component f) cs) ≡ option_map (moved_component f) (victim cs)
  victim_moved cs = ap (λ (o : Option Component). option_and_then (λ waiter. weakest waiter (map (moved_component f) cs)) o) (waiter_moved cs) ∙ go (first_waiter cs)
    where
      go : (o : Option Component) → option_and_then (λ waiter. weakest waiter (map (moved_component f) cs)) (option_map (moved_component f) o) ≡ option_map (moved_component f) (option_and_then (λ waiter. weakest waiter cs) o)
      go None = refl
      go (Some c) = weakest_moved c cs

  coming_moved : (w : World) → coming_units (look (moved f w)) ≡ coming_units (look w)
  coming_moved w =
      let a = free_moved f w in
      let b = ap (λ (l : List Component). sum_by need_of l) (filter_moved (moved_component f) is_giving_back is_giving_back w.components (λ c. refl))
      ∙ fold_moved (moved_component f) need_of need_of 0 (filter is_giving_back w.components) (λ c. refl) in
      λ j. a j + b j

  -- ---- a component is changed where it stands

  changed_there : (change : Component → Component) (c : Component) (w : World) → change (moved_component f c) ≡ moved_component f (change c)
      → with_changed change (moved_component f c) (moved f w) ≡ moved f (with_changed change c w)
  changed_there change c w same =
      ap (λ (o : Option ℕ). changed_at o (moved f w) (λ i. with_component i (change (moved_component f c)) (moved f w))) (number_moved f (number_of c) w.components) ∙ go (place_numbered (number_of c) w.components)
    where
      go : (o : Option ℕ) → changed_at o (moved f w) (λ i. with_component i (change (moved_component f c)) (moved f w)) ≡ moved f (changed_at o w (λ i. with_component i (change c) w))
      go None = refl
      go (Some i) = component_put f i (change (moved_component f c)) (change c) w same

  -- ---- grant

  abbrev grant_list : ℕ → Option Component → List (Bool × Why)
  grant_list free o = at_one o why.NoWaiter (λ c.
      (nat_lt free (need_of c), why.Short free (need_of c))
      ∷ lacks_event_room c
      ∷ [])

  grant_alike : (free : ℕ) (o : Option Component) → Alike (moved_why f) (grant_list free (option_map (moved_component f) o)) (grant_list free o)
  grant_alike free None = (refl, refl, tt)
  grant_alike free (Some c) = (refl, refl, (ap (λ (n : ℕ). nat_lt n 2) (room_moved f c), ap (λ (n : ℕ). why.Events n 2) (room_moved f c), tt))

  grant_reason : (w : World) → grant_idle (look (moved f w)) ≡ option_map (moved_why f) (grant_idle (look w))
  grant_reason w =
      (λ j. first_of_these (grant_list (free_moved f w j) (waiter_moved w.components j)))
      ∙ first_alike (moved_why f) (grant_list (free_units (look w)) (option_map (moved_component f) (first_waiter w.components))) (grant_list (free_units (look w)) (first_waiter w.components))
      (grant_alike (free_units (look w)) (first_waiter w.components))

  grants_moved : (o : Option Why) (waiter : Option Component) (w : World) (answer : Granted) (v : World)
      → Grants o waiter w answer v → Grants (option_map (moved_why f) o) (option_map (moved_component f) waiter) (moved f w) (moved_granted f answer) (moved f v)
  grants_moved (Some reason) waiter w answer v h = (ap (moved_granted f) h.0, ap (moved f) h.1)
  grants_moved None None w answer v h = h
  grants_moved None (Some c) w answer v h =
      (ap (moved_granted f) h.0, closes_from f (with_changed granted_units (moved_component f c) (moved f w)) (with_changed granted_units c w) v (changed_there granted_units c w refl) h.1)

  pub grant_goes : (w : World) (answer : Granted) (v : World) → Grant w answer v → Grant (moved f w) (moved_granted f answer) (moved f v)
  grant_goes w answer v G =
      subst (λ (o : Option Component). Grants (grant_idle (look (moved f w))) o (moved f w) (moved_granted f answer) (moved f v)) (sym (waiter_moved w.components))
      (subst (λ (o : Option Why). Grants o (option_map (moved_component f) (first_waiter w.components)) (moved f w) (moved_granted f answer) (moved f v)) (sym (grant_reason w))
      (grants_moved (grant_idle (look w)) (first_waiter w.components) w answer v G))

  -- ---- preempt

  abbrev preempt_list : ℕ → Option Component → (Component → Option Component) → List (Bool × Why)
  preempt_list coming o weak = at_one o why.NoWaiter (λ c.
      (nat_le (need_of c) coming, why.Enough coming (need_of c))
      ∷ at_one (weak c) why.NoVictim (λ d. lacks_event_room d ∷ []))

  weak_alike : (o : Option Component) → Alike (moved_why f) (at_one (option_map (moved_component f) o) why.NoVictim (λ d. lacks_event_room d ∷ [])) (at_one o why.NoVictim (λ d. lacks_event_room d ∷ []))
  weak_alike None = (refl, refl, tt)
  weak_alike (Some d) = (ap (λ (n : ℕ). nat_lt n 2) (room_moved f d), ap (λ (n : ℕ). why.Events n 2) (room_moved f d), tt)

  preempt_alike : (coming : ℕ) (cs : List Component) (o : Option Component)
      → Alike (moved_why f) (preempt_list coming (option_map (moved_component f) o) (λ c. weakest c (map (moved_component f) cs))) (preempt_list coming o (λ c. weakest c cs))
  preempt_alike coming cs None = (refl, refl, tt)
  preempt_alike coming cs (Some c) = (
    refl,
    refl,
    subst (λ (o : Option Component). Alike (moved_why f) (at_one o why.NoVictim (λ d. lacks_event_room d ∷ [])) (at_one (weakest c cs) why.NoVictim (λ d. lacks_event_room d ∷ [])))
        (sym (weakest_moved c cs)) (weak_alike (weakest c cs)),
  )

  preempt_reason : (w : World) → preempt_idle (look (moved f w)) ≡ option_map (moved_why f) (preempt_idle (look w))
  preempt_reason w =
      (λ j. first_of_these (preempt_list (coming_moved w j) (waiter_moved w.components j) (λ c. weakest c (map (moved_component f) w.components))))
      ∙ first_alike (moved_why f) (preempt_list (coming_units (look w)) (option_map (moved_component f) (first_waiter w.components)) (λ c. weakest c (map (moved_component f) w.components)))
      (preempt_list (coming_units (look w)) (first_waiter w.components) (λ c. weakest c w.components))
      (preempt_alike (coming_units (look w)) w.components (first_waiter w.components))

  preempted_moved : (c : Component) → preempted_units (moved_component f c) ≡ moved_component f (preempted_units c)
  preempted_moved c = either (not (is_running c.state)) (λ t. rw t refl) (λ e. rw e (either (is_going_to states.Idle c) (λ t. rw t refl) (λ g. rw g refl)))

  preempts_moved : (o : Option Why) (weak : Option Component) (w : World) (answer : Preempted) (v : World)
      → Preempts o weak w answer v → Preempts (option_map (moved_why f) o) (option_map (moved_component f) weak) (moved f w) (moved_preempted f answer) (moved f v)
  preempts_moved (Some reason) weak w answer v h = (ap (moved_preempted f) h.0, ap (moved f) h.1)
  preempts_moved None None w answer v h = h
  preempts_moved None (Some c) w answer v h =
      (ap (moved_preempted f) h.0, closes_from f (with_changed preempted_units (moved_component f c) (moved f w)) (with_changed preempted_units c w) v (changed_there preempted_units c w (preempted_moved c)) h.1)

  pub preempt_goes : (w : World) (answer : Preempted) (v : World) → Preempt w answer v → Preempt (moved f w) (moved_preempted f answer) (moved f v)
  preempt_goes w answer v P =
      subst (λ (o : Option Component). Preempts (preempt_idle (look (moved f w))) o (moved f w) (moved_preempted f answer) (moved f v)) (sym (victim_moved w.components))
      (subst (λ (o : Option Why). Preempts o (option_map (moved_component f) (victim w.components)) (moved f w) (moved_preempted f answer) (moved f v)) (sym (preempt_reason w))
      (preempts_moved (preempt_idle (look w)) (victim w.components) w answer v P))

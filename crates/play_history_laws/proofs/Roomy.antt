-- At a component of a play to which the conductor sends a command few places are used.
use Rattle.std.proofs.Common.{◌≡◌, ◌≢◌, ◌⊎◌, inl, inr, ℕ, ◌<◌, ◌≤◌, Bool, true, false, [], ◌++◌, length, length-append, slice_get, Some, None, refl, ◌∙◌, ap, subst, arith}
use Rattle.std.proofs.lemmas.List.Sums.{count_by-le-length}
use Rattle.il_machine.specs.declared.port.Link.{Link}
use Rattle.il_machine.specs.Finishing.{end_note}
use Rattle.il_machine.specs.Queued.{notes_given}
use Rattle.il_machine.specs.Room.{events_in, is_event, port_reserve, room}
use Rattle.il_machine.specs.World.{Component, World, number_of}
use Rattle.machine_laws.proofs.Keys.{none_or_some}
use Rattle.play_model.specs.Acts.{Act, CanAct}
use Rattle.play_model.specs.Changes.{Change, IsInOrder, port_at}
use Rattle.play_model.specs.Play.{Play, component_at}
use Rattle.play_world_laws.specs.Cast.{components_of, script_place}
use Rattle.play_world_laws.specs.Changing.{commands_of_port, notes_of_port, state_by}
use Rattle.play_world_laws.specs.Standing.{pending_at, standing}
use Rattle.play_world_laws.specs.Telling.{out_of, state_note}
use Rattle.play_world_laws.specs.Worlds.{ends_untold}
use Rattle.play_world_laws.proofs.Rooms.{end_notes, state_notes, used_at_rest}
use Rattle.play_world_laws.specs.PlayWorlds.{IsActorAt, IsPlayWorld, PlayCast, port_notes, port_number, settings_notes}
use Rattle.play_world_laws.specs.Conducting.{IsSendAt}
use Rattle.play_world_laws.proofs.ChangeEnds.{end_inside}
use Rattle.play_world_laws.proofs.Sending.{IsTurnOf, turn_of}
use Rattle.play_world_laws.proofs.Standing.{late_commands_are, no_loss, pending_is}
use Rattle.play_world_laws.proofs.Turning.{calm_ports, commands_here, no_work_at, notes_here, settings_here}
use Rattle.play_world_laws.proofs.Calm.{calm, few_events, stands_so}

module _ (x : PlayCast) (recent : ℕ) (p : Play) (w : World) (W : IsPlayWorld x recent p w) where
  -- ---- a StateSet

  module _ (c : ℕ) (l : c < components_of x.cast) (z : p.stage c ≡ 0) (a : Component) (e : slice_get w.components (script_place x.cast c) ≡ Some a) where
    A : IsActorAt x recent p w c a
    A = W.actors c a l e

    early : p.stage c ≢ 4
    early h = omega (arith, h, z)

    stood : a ≡ standing p.phase 0 a
    stood = subst (λ (k : ℕ). a ≡ standing p.phase k a) z (stands_so x recent p w W c l a e A early)

    no_work : a.work ≡ None
    no_work = elim (none_or_some a.work) [
      | inl n ↦ n
      | inr k ↦ let K = A.work k.0 k.1 in let s = K.stage in absurd (omega (arith, s, z))
    ]

    pub roomy_stage : 253 ≤ room a
    roomy_stage =
        let s = stood in
        let u = used_at_rest a (ap (λ (y : Component). y.commands) s) (ap (λ (y : Component). y.pending) s) (ap (λ (y : Component). y.loss_mark) s) no_work (calm x recent p w W c l a e A early) in
        let f = few_events x recent p w W c l a e A early in
        omega (arith, u, f)

  -- ---- a command to a port

  module _ (l : ℕ) (C : CanAct (x.cast).layout p (Act.Conduct l)) (o disables : Bool) (is : IsSendAt o disables (p.change l).step) (a : Component)
      (e : slice_get w.components (script_place x.cast (component_at (x.cast).layout o l)) ≡ Some a) where
    abbrev c : ℕ
    c = component_at (x.cast).layout o l

    abbrev k : Change
    k = p.change l

    inside : c < components_of x.cast
    inside = end_inside x recent p w W o l C.below

    B : IsActorAt x recent p w c a
    B = W.actors c a inside e

    T : IsTurnOf x recent p l
    T = turn_of x recent p w l W C

    -- nothing of it is on its way
    still : (o disables : Bool) → IsSendAt o disables k.step → (port_at o k ≡ 0) ⊎ (port_at o k ≡ 4)
    still = by ((W.reached).changes l C.below).order
      where
        by : IsInOrder k → (o disables : Bool) → IsSendAt o disables k.step → (port_at o k ≡ 0) ⊎ (port_at o k ≡ 4)
        by O true true s = inl (O.output_unsent (omega (arith, s)))
        by O false true s = inl (O.input_unsent (omega (arith, s)))
        by O true false s = inr (let t = (O.told (omega (arith, s))).0 in let m = O.output_waits (omega (arith, s)) in omega (arith, t, m))
        by O false false s = inr (let t = (O.told (omega (arith, s))).1 in let m = O.input_waits (omega (arith, s)) in omega (arith, t, m))

    begun : (o disables : Bool) → IsSendAt o disables k.step → 2 ≤ k.step
    begun true true s = omega (arith, s)
    begun false true s = omega (arith, s)
    begun true false s = omega (arith, s)
    begun false false s = omega (arith, s)

    two : 2 ≤ k.step
    two = begun o disables is

    unsteady : port_at o k < 7
    unsteady = elim (still o disables is) [ inl z ↦ omega (arith, z) | inr z ↦ omega (arith, z) ]

    none_queued : (j : ℕ) → commands_of_port (port_at o k) j ≡ []
    none_queued j = elim (still o disables is) [ inl z ↦ ap (λ (n : ℕ). commands_of_port n j) z | inr z ↦ ap (λ (n : ℕ). commands_of_port n j) z ]

    none_noted : (j : ℕ) → notes_of_port (port_at o k) j ≡ []
    none_noted j = elim (still o disables is) [ inl z ↦ ap (λ (n : ℕ). notes_of_port n j) z | inr z ↦ ap (λ (n : ℕ). notes_of_port n j) z ]

    calm_end : (link : Link) → port_reserve (state_by o k link) ≡ 0
    calm_end link = elim (still o disables is) [ inl z ↦ rw z refl | inr z ↦ rw z refl ]

    four : p.stage c ≡ 4
    four = (T.up).1 c inside

    nothing_queued : a.commands ≡ []
    nothing_queued =
        let s = four in
        late_commands_are x recent p w c a B (omega (arith, s)) ∙ (commands_here x recent p w W l C.below C.late c o refl a e B T.alone ∙ none_queued (port_number x.cast o l))

    its_events : events_in a.notes ≤ 2
    its_events =
        let s : settings_notes x.cast p c ≡ [] = settings_here x recent p w W l C.below C.late c o refl a e B two in
        let n : port_notes x.cast p c ≡ [] = notes_here x recent p w W l C.below C.late c o refl a e B T.alone ∙ none_noted (port_number x.cast o l) in
        let all : out_of a.client_out (notes_given (number_of a) w) ++ a.notes ≡ state_note p.phase (p.stage c) ++ ([] ++ ([] ++ end_note (ends_untold x.cast p c))) = B.notes ∙ (λ i. state_note p.phase (p.stage c) ++ (s i ++ (n i ++ end_note (ends_untold x.cast p c)))) in
        let m = ap length all in
        let f = length-append (out_of a.client_out (notes_given (number_of a) w)) a.notes in
        let g = length-append (state_note p.phase (p.stage c)) (end_note (ends_untold x.cast p c)) in
        let u = state_notes p.phase (p.stage c) in
        let t = end_notes (ends_untold x.cast p c) in
        let r = count_by-le-length is_event a.notes in
        omega (arith, m, f, g, u, t, r)

    pub roomy_port : 253 ≤ room a
    roomy_port =
        let pending : a.pending ≡ None = pending_is x recent p w c a B ∙ ap (pending_at p.phase) four in
        let free = no_work_at x recent p w W l C.below C.late c o refl a e B unsteady (let t = two in omega (arith, t)) in
        let quiet = calm_ports x recent p w W l C.below C.late c o refl a e B T.alone calm_end inside in
        let u = used_at_rest a nothing_queued pending (no_loss x recent p w c a B) free quiet in
        let f = its_events in
        omega (arith, u, f)

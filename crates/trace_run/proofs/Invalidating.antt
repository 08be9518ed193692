-- StateSet(Invalid) isn't refused where no note is queued, and makes the component Invalid.
use Rattle.std.proofs.Common.{◌≡◌, inl, inr, ℕ, zero, suc, true, false, ◌-◌, ◌≤◌, List, [], ◌∷◌, length, set, slice_get, Option, Some, None, option_map, All, MatchOption, Result, Ok, Err, refl, sym, ◌∙◌, ap, subst, eqb-true, eq-eqb, arith}
use Rattle.std.specs.Prelude.{nat_eq, unwrap_or, option_and_then}
use Rattle.std.proofs.lemmas.Bool.{and_parts}
use Rattle.std.proofs.lemmas.Bool.Decides.{nat_tests}
use Rattle.omx_types.specs.declared.handle.Handle.{Handle}
use Rattle.omx_types.specs.declared.state.State.{State}
use Rattle.omx_types.specs.declared.state.State.TheVariants.{Invalid, Loaded, Idle, Executing, Pause, WaitForResources}
use Rattle.omx_types.specs.declared.command.Command.TheVariants.{StateSet}
use Rattle.omx_types.specs.declared.command.Note.{Note}
use Rattle.omx_types.specs.declared.error.OmxError.{OmxError}
use Rattle.omx_types.specs.declared.error.OmxError.TheVariants as errors
use Rattle.il_machine.specs.States.{is_invalid}
use Rattle.il_machine.specs.World.{Component, Picked, Work, World, number_of, place_of, is_at, same_handle, with_component}
use Rattle.il_machine.specs.Look.{Look, look}
use Rattle.il_machine.specs.Answers.{component_named, looked, Answers}
use Rattle.il_machine.specs.Components.{state_answer}
use Rattle.il_machine.specs.Commands.{SendCommand, send_refusal, sent, invalidated}
use Rattle.il_machine.specs.Room.{used, events_in, work_reserve, room}
use Rattle.il_machine.specs.Due.{ClosesTo}
use Rattle.il_machine.specs.Acts.{Act, Reply}
use Rattle.il_machine.specs.Acts as acts
use Rattle.il_machine.specs.Sound.{Sound, IsSound, IsConnected, ArePicked, AreRising}
use Rattle.il_machine.specs.Whole.{Kept, Stands}
use Rattle.il_machine.proofs.Places.{is_first_place, passes_at}
use Rattle.param_store.proofs.Weights.{few_ports}
use Rattle.il_component.proofs.Queueing.{used_invalidated}
use Rattle.machine_laws.proofs.Every.{at_place, from_places, at_set}
use Rattle.machine_laws.proofs.Finding.{either}
use Rattle.machine_laws.proofs.Keys.{there_is}
use Rattle.machine_laws.proofs.Lookups.{rises_at, same_place}
use Rattle.history_laws.proofs.Calm.{Fit}
use Rattle.history_laws.proofs.Cores.{core}
use Rattle.trace_run.specs.declared.names.NamedComponent.{NamedComponent}
use Rattle.trace_run.specs.declared.slots.Slot.{Slot}
use Rattle.trace_run.specs.Standing.{Parts, IsSeated, HasNamesFor, HasMoment}
use Rattle.trace_run.specs.Closing.{KeepMoments, StayEnded, IsEnded, IsMadeInvalid, notes_left}
use Rattle.trace_run.proofs.Ends.{seated_there}
use Rattle.trace_run.proofs.Lasting.{Any, AreEnding, ending_of, ended_of, ending_step, ending_closes, none_step, none_there, none_here}
use Rattle.trace_run.proofs.Seats.{found, named_found}
use Rattle.trace_run.proofs.Standing.{stood_after}

-- ---- the component of a handle

pub handle_itself : (a h : Handle) → a ≡ h → same_handle a h ≡ true
handle_itself a h e =
    let s : nat_eq a.slot h.slot ≡ true = eq-eqb a.slot h.slot (ap (λ (x : Handle). x.slot) e) in
    let g : nat_eq a.generation h.generation ≡ true = eq-eqb a.generation h.generation (ap (λ (x : Handle). x.generation) e) in
    rw (s, g) refl

same_generation : (a h : Handle) → same_handle a h ≡ true → a.generation ≡ h.generation
same_generation a h s = let p = and_parts (nat_eq a.slot h.slot) (nat_eq a.generation h.generation) s in eqb-true _ _ p.1

found_at : (from next i : ℕ) (cs : List Component) (c : Component) (h : Handle) → AreRising from cs next → slice_get cs i ≡ Some c → c.handle ≡ h → found h cs ≡ Some c
unfolding found
found_at from next i [] c h R at e = absurd cc
found_at from next zero (x ∷ cs) c h R at e =
    let s : x ≡ c = cc in
    let t : is_at h x ≡ true = handle_itself x.handle h (ap (λ (y : Component). y.handle) s ∙ e) in
    rw (t, s) refl
found_at from next (suc i) (x ∷ cs) c h R at e = either (is_at h x)
    (λ t.
    let r = rises_at (suc (number_of x)) next i cs c R.1 at in
    let a = same_generation x.handle h t in
    let b : number_of c ≡ h.generation = ap (λ (y : Handle). y.generation) e in
    absurd (omega (arith, r.0, a, b)))
    (λ f. rw f (found_at (suc (number_of x)) next i cs c h R.1 at e))

-- it is the one that the handle names
pub named_there : (w : World) (i : ℕ) (c : Component) (h : Handle) → Sound w → slice_get w.components i ≡ Some c → c.handle ≡ h → component_named h w.components ≡ Some c
named_there w i c h S at e = named_found h w.components ∙ found_at 0 w.numbered i w.components c h S.rising at e

ended_when : (h : Handle) (k : Kept) (w : World) → Stands k w → Sound w → ((c : Component) → component_named h w.components ≡ Some c → c.state ≡ Invalid) → IsEnded h k.looks
ended_when h k w B S f =
    let E : Component → Type 0 = λ (c : Component). c.handle ≡ h → c.state ≡ Invalid in
    subst (All E) (ap (λ (l : Look). l.components) B.looks) (from_places E w.components (λ i c at e. f c (named_there w i c h S at e)))

-- ---- the answer of get_state

-- no component has the handle
not_there : (o : Option Component) (error : OmxError) (c : Component) → looked o (λ c. Ok c.state) ≡ Err error → o ≡ Some c → ⊥
not_there None error c e s = cc
not_there (Some x) error c e s = cc

was_invalid : (o : Option Component) (state : State) (c : Component) → looked o (λ c. Ok c.state) ≡ Ok state → o ≡ Some c → c.state ≡ state
was_invalid None state c e s = absurd cc
was_invalid (Some x) state c e s =
    let a : x ≡ c = cc in
    let b : x.state ≡ state = cc in
    ap (λ (y : Component). y.state) (sym a) ∙ b

pub ended_gone : (h : Handle) (k : Kept) (w : World) (error : OmxError) → Stands k w → Sound w → state_answer h (look w) ≡ Err error → IsEnded h k.looks
ended_gone h k w error B S e = ended_when h k w B S (λ c n. absurd (not_there (component_named h w.components) error c e n))

only_invalid : (s : State) → is_invalid s ≡ true → s ≡ Invalid
only_invalid Invalid t = refl
only_invalid Loaded t = absurd cc
only_invalid Idle t = absurd cc
only_invalid Executing t = absurd cc
only_invalid Pause t = absurd cc
only_invalid WaitForResources t = absurd cc

pub ended_already : (h : Handle) (k : Kept) (w : World) (state : State) → Stands k w → Sound w → state_answer h (look w) ≡ Ok state → is_invalid state ≡ true → IsEnded h k.looks
ended_already h k w state B S e t = ended_when h k w B S (λ c n. was_invalid (component_named h w.components) state c e n ∙ only_invalid state t)

-- ---- the room for the event

picked_few : (from ports : ℕ) (xs : List Picked) → ArePicked from xs ports → length xs ≤ ports - from
picked_few from ports [] P = omega arith
picked_few from ports (x ∷ xs) P =
    let a = P.0 in
    let b = P.1 in
    let k = picked_few (suc x.port) ports xs P.2 in
    omega (arith, a, b, k)

-- a work has no more headers than its component has ports, which are nine at most
work_few : (c : Component) (o : Option Work) → IsSound c → ((work : Work) → o ≡ Some work → ArePicked 0 work.headers (length c.ports)) → work_reserve o ≤ 11
work_few c None S P = omega arith
work_few c (Some work) S P =
    let k = picked_few 0 (length c.ports) work.headers (P work refl) in
    let n = S.ports in
    let f = few_ports c.settings.kind S.whole.sized in
    omega (arith, k, n, f)

some_left : (taken : ℕ) → taken ≤ 11 → nat_eq (256 - taken) 0 ≡ false
some_left taken h = grind (arith, nat_tests)

room_left : (c : Component) (ns : List Note) → c.notes ≡ ns → length ns ≡ 0 → work_reserve c.work ≤ 11 → nat_eq (room (invalidated c)) 0 ≡ false
room_left c [] e l p =
    let u = used_invalidated c in
    let n : events_in c.notes ≡ 0 = ap events_in e in
    some_left (used (invalidated c)) (omega (arith, u, n, p))
room_left c (n ∷ ns) e l p = absurd cc

sendable : (l : Look) (c : Component) → is_invalid c.state ≡ false → length c.notes ≡ 0 → work_reserve c.work ≤ 11 → send_refusal l c (StateSet Invalid) ≡ None
sendable l c i e p =
    let r = room_left c c.notes refl e p in
    rw (i, r) refl

work_there : (w : World) (i : ℕ) (c : Component) → Sound w → slice_get w.components i ≡ Some c → work_reserve c.work ≤ 11
work_there w i c S at =
    let K = at_place (IsConnected w) w.components i c S.connected at in
    work_few c c.work (at_place IsSound w.components i c S.components at) (λ work e. (K.work work e).rising)

left_none : (h : Handle) (w : World) (c : Component) → component_named h w.components ≡ Some c → notes_left h (look w) ≡ 0 → length c.notes ≡ 0
left_none h w c n e = sym (ap (λ (o : Option Component). unwrap_or (option_map (λ (x : Component). length x.notes) o) 0) n) ∙ e

refused_not : {T : Type 0} (o : Option OmxError) (error : OmxError) (w v : World) (P : T → Type 0) → o ≡ None → Answers o (Err error) w v P → ⊥
refused_not None error w v P e a = a
refused_not (Some x) error w v P e a = cc

accepted : {T : Type 0} (o : Option OmxError) (w v : World) (P : T → Type 0) {x : T} → Answers o (Ok x) w v P → P x
accepted None w v P a = a
accepted (Some error) w v P a = let e = a.0 in absurd cc

module _ (w : World) (h : Handle) (state : State) (error : OmxError) (v : World) (S : Sound w) (none : notes_left h (look w) ≡ 0) (e : state_answer h (look w) ≡ Ok state) (n : is_invalid state ≡ false) where
  sent_at : (o : Option ℕ) → place_of h w.components ≡ o
      → MatchOption o (Path (Result (Unit {0}) OmxError) (Err error) (Err errors.InvalidComponent) × (v ≡ w)) (λ i. MatchOption (slice_get w.components i) ⊥ (λ c. Answers {T = Unit {0}} (send_refusal (look w) c (StateSet Invalid)) (Err error) w v (λ _. ClosesTo (with_component i (sent (StateSet Invalid) c) w) v)))
      → ⊥
  sent_at None p a =
      let gone : component_named h w.components ≡ None = ap (option_and_then (slice_get w.components)) p in
      let x : Path (Result State OmxError) (Err errors.InvalidComponent) (Ok state) = sym (ap (λ (o : Option Component). looked o (λ c. Ok c.state)) gone) ∙ e in
      cc
  sent_at (Some i) p a =
      let x = there_is (slice_get w.components i) _ a in
      let c = x.0 in
      let named : component_named h w.components ≡ Some c = ap (option_and_then (slice_get w.components)) p ∙ x.1 in
      let is = was_invalid (component_named h w.components) state c e named in
      refused_not (send_refusal (look w) c (StateSet Invalid)) error w v _ (sendable (look w) c (ap is_invalid is ∙ n) (left_none h w c named none) (work_there w i c S x.1)) x.2

  -- it isn't refused
  pub sent_always : SendCommand w h (StateSet Invalid) (Err error) v → ⊥
  sent_always a = sent_at (place_of h w.components) refl a

-- ---- once it was sent

module _ (components : List NamedComponent) (h : Handle) (w v : World) (S : Sound w) (A : All (IsSeated components) w.components) where
  made_so : (i : ℕ) (c : Component) → place_of h w.components ≡ Some i → slice_get w.components i ≡ Some c → ClosesTo (with_component i (sent (StateSet Invalid) c) w) v → AreEnding h v
  made_so i c p at C =
      let F : Component → Type 0 = λ (c : Component). Fit Any (λ (k : Handle). k ≡ h) (core c) in
      let x = passes_at (is_at h) w.components i (sym (is_first_place (is_at h) w.components) ∙ p) in
      ending_closes h (with_component i (sent (StateSet Invalid) c) w) v C (from_places F (set w.components i (sent (StateSet Invalid) c)) (λ j d e. elim (at_set w.components i j (sent (StateSet Invalid) c) d e) [
        | inl y ↦ subst F (sym y.1) (tt, (λ k. refl), (λ k. refl))
        | inr y ↦ (
          tt,
          (at_place (IsSeated components) w.components j d A y.1).1,
          λ k.
              let a : number_of d ≡ h.generation = ap (λ (z : Handle). z.generation) k in
              let b : number_of x.0 ≡ h.generation = same_generation (x.0).handle h x.2 in
              absurd (y.0 (same_place 0 w.numbered j i w.components d x.0 S.rising y.1 x.1 (a ∙ sym b))),
        )
      ]))

  sent_to : (o : Option ℕ) → place_of h w.components ≡ o
      → MatchOption o (Path (Result (Unit {0}) OmxError) (Ok tt) (Err errors.InvalidComponent) × (v ≡ w)) (λ i. MatchOption (slice_get w.components i) ⊥ (λ c. Answers {T = Unit {0}} (send_refusal (look w) c (StateSet Invalid)) (Ok tt) w v (λ _. ClosesTo (with_component i (sent (StateSet Invalid) c) w) v)))
      → AreEnding h v
  sent_to None p a = let e = a.0 in absurd cc
  sent_to (Some i) p a =
      let x = there_is (slice_get w.components i) _ a in
      made_so i x.0 p x.1 (accepted (send_refusal (look w) x.0 (StateSet Invalid)) w v _ x.2)

  pub made_ending : SendCommand w h (StateSet Invalid) (Ok tt) v → AreEnding h v
  made_ending a = sent_to (place_of h w.components) refl a

-- ---- what the act leaves

module _ (old new : Kept) (slots : List Slot) (h : Handle) (M : IsMadeInvalid h old new) where
  pub made_stood : KeepMoments old slots new slots
  made_stood components S = elim M [
    | inl m ↦ subst (λ (k : Kept). HasMoment (record { graph = k; components = components; slots = slots })) (sym m.0) S
    | inr steps ↦
        let kept : Parts = record { graph = old; components = components; slots = slots } in
        let x = steps S.at.world S.stood.world in
        record {
          at = record S.at { world = x.0 };
          stood = stood_after kept S.at new (acts.SendCommand h (StateSet Invalid)) (acts.Plain (Ok tt)) x.0 S.stood tt x.2 x.1 tt refl refl tt;
        }
  ]

  module _ (has : HasNamesFor old slots) where
    pub made_stay : StayEnded old.looks new.looks
    made_stay = elim M [
      | inl m ↦ subst (λ (x : Kept). StayEnded old.looks x.looks) (sym m.0) (record { ended = λ k E. E; works = λ A. A })
      | inr steps ↦
          let S = (has.1).stood in
          let w = (has.1).at.world in
          let x = steps w S.world in
          let a : Act = acts.SendCommand h (StateSet Invalid) in
          let r : Reply = acts.Plain (Ok tt) in
          record {
            ended = λ k E. ended_of k new x.0 x.1 (ending_step k w a r x.0 S.sound tt x.2 tt (ending_of has.0 k old w S.world S.ends.seated E));
            works = λ A. none_here new x.0 x.1 (none_step w a r x.0 S.sound tt x.2 (λ n. refl) (none_there old w S.world A));
          }
    ]

    pub made_ended : IsEnded h new.looks
    made_ended = elim M [
      | inl m ↦ subst (λ (x : Kept). IsEnded h x.looks) (sym m.0) m.1
      | inr steps ↦
          let S = (has.1).stood in
          let w = (has.1).at.world in
          let x = steps w S.world in
          ended_of h new x.0 x.1 (made_ending has.0 h w x.0 S.sound (seated_there has.0 old w S.world S.ends.seated) x.2)
    ]

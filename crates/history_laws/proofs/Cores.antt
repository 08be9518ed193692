-- What acts and the close-out leave of each component's handle, client object, state and pending transition, and of whether its work is out.
use Rattle.std.proofs.Common.{◌≡◌, ◌⊎◌, inl, inr, ℕ, zero, suc, Bool, true, false, nat_eq, List, [], ◌∷◌, ◌++◌, set, remove, slice_get, Option, Some, None, is_some, All, Ok, refl, sym, subst, not}
use Rattle.omx_types.specs.declared.state.State.{State}
use Rattle.omx_types.specs.declared.handle.Handle.{Handle}
use Rattle.omx_types.specs.declared.command.Command.{Command}
use Rattle.omx_types.specs.declared.command.Event.{Event}
use Rattle.omx_types.specs.declared.param.Param.{Param}
use Rattle.omx_types.specs.declared.param.ParamKey.{ParamKey}
use Rattle.il_machine.specs.declared.answer.Acted.TheVariants.{Did}
use Rattle.il_machine.specs.declared.answer.Pending.{Pending}
use Rattle.il_machine.specs.declared.port.Link.{Link}
use Rattle.il_machine.specs.declared.port.Mode.TheVariants.{Steady}
use Rattle.il_machine.specs.declared.port.Port.{Port}
use Rattle.il_machine.specs.declared.port.PortKey.{PortKey}
use Rattle.il_machine.specs.declared.header.Spot.{Spot}
use Rattle.il_machine.specs.declared.header.Spot.TheVariants.{TodoBack}
use Rattle.il_machine.specs.World.{changed_at, Component, HeaderRecord, Work, World, fresh, number_of, place_of, place_numbered, port_of, stream_of, with_port}
use Rattle.il_machine.specs.Headers.{seen, unchanged, cleared}
use Rattle.il_machine.specs.Kinds.{kind_of}
use Rattle.omx_types.specs.declared.kind.Kind.{Kind}
use Rattle.il_machine.specs.Look.{Look, look}
use Rattle.il_machine.specs.Ports.{is_input_port}
use Rattle.il_machine.specs.Due.{Thing, Transition, Flush, PortMode, WaitingMark, arrived, mode_completion, all_told, transition_happened, at_port, flush_happened, mode_happened, mark_happened, happened, Happens, HappenTimes, ClosesTo}
use Rattle.il_machine.specs.Settings.{changed_by}
use Rattle.il_machine.specs.Parameters.{unheld_at, with_value}
use Rattle.il_machine.specs.Commands.{is_at_once, invalidated, sent, run_front}
use Rattle.il_machine.specs.Buffers.{is_unpopulating, unpopulated}
use Rattle.il_machine.specs.Notes.{TakenEvent, TakenEmpty, TakenFilled, TookNote, first_taken, back_in}
use Rattle.il_machine.specs.Flow.{in_port, front_unmade, front_put, at_link, handed_back, returned, front_noticed, supplied_spot}
use Rattle.il_machine.specs.declared.answer.Granted.TheVariants as granted
use Rattle.il_machine.specs.declared.answer.Preempted.TheVariants as preempted
use Rattle.il_machine.specs.States.{is_invalid}
use Rattle.il_machine.specs.Units.{is_waiter, is_before, first_waiter, victim, with_changed, granted_units, preempted_units}
use Rattle.il_machine.specs.Sound.{Sound}
use Rattle.il_machine.specs.Settings.{same_format}
use Rattle.il_machine.specs.Parts.{file_format}
use Rattle.il_machine.specs.Claims.{ClaimedWork, WorkSeen, work_of}
use Rattle.il_machine.specs.Stepping.{WorkDone}
use Rattle.il_machine.specs.Finishing.{announced, announced_at, stepped_back, finished_by}
use Rattle.il_machine.specs.Acts.{Act, Reply}
use Rattle.il_machine.specs.Acts as acts
use Rattle.il_machine.specs.Effect.{at_named, at_named_port, at_both, effect}
use Rattle.machine_laws.proofs.Finding.{either}
use Rattle.machine_laws.proofs.Accepting.{is_not}
use Rattle.machine_laws.proofs.Granting.{best_among, victim_there}
use Rattle.machine_laws.proofs.Every.{at_place, from_places, at_push, at_set, at_remove}
use Rattle.history_laws.proofs.Outcome.{turn, Outcome, Nothing, Done, same_number}

pub record Core : Type 0 where
  pub handle : Handle
  pub out : Bool
  pub state : State
  pub pending : Option Pending
  pub busy : Bool

abbrev pub core : Component → Core
core c = record { handle = c.handle; out = c.client_out; state = c.state; pending = c.pending; busy = is_some c.work }

-- no component is made
abbrev pub NoneGot : Act → Reply → Type 0
NoneGot (acts.GetHandle name) (acts.Got (Ok h)) = ⊥
NoneGot a r = Unit {0}

-- no note is taken
abbrev pub NoneTaken : Act → Reply → Type 0
NoneTaken (acts.TakeNote h) (acts.Took (Ok (TookNote taken))) = ⊥
NoneTaken a r = Unit {0}

module _ (P : Core → Type 0) where
  -- it stays true of a component that changes
  pub record IsLasting : Type 0 where
    pub arrives : (number : ℕ) (p : Pending) (c : Component) → c.pending ≡ Some p → P (core c) → P (core (arrived number p c))
    pub runs : (l : Look) (commands : List Command) (c : Component) → P (core c) → P (core (run_front l commands c))
    pub drops : (c : Component) → P (core c) → P (core (invalidated c))
    pub ends : (c : Component) → P (core c) → P (core (back_in c))
    pub grants : (c : Component) → is_waiter c ≡ true → P (core c) → P (core (granted_units c))
    pub loses : (c : Component) → is_invalid c.state ≡ false → P (core c) → P (core (preempted_units c))
    pub returns : (c : Component) → P (core c) → P (core (record c { work = None }))

  -- it stays true of the component whose work the act takes out
  abbrev pub Goes : Act → Reply → Type 0
  Goes a r = (h : Handle) (x : WorkSeen) (c : Component) (work : Work) → a ≡ acts.Claim h → r ≡ acts.Claimed (Ok (ClaimedWork x)) → number_of c ≡ h.generation → P (core c) → P (core (record c { work = Some work }))

  -- it is true of each component
  abbrev pub Each : World → Type 0
  Each w = All (λ (c : Component). P (core c)) w.components

  pub each_set : (cs : List Component) (i : ℕ) (d : Component) → All (λ (c : Component). P (core c)) cs → P (core d) → All (λ (c : Component). P (core c)) (set cs i d)
  each_set cs i d A p = from_places (λ (c : Component). P (core c)) (set cs i d) (λ j x e. elim (at_set cs i j d x e) [
    | inl here ↦ subst (λ (y : Component). P (core y)) (sym here.1) p
    | inr else ↦ at_place (λ (c : Component). P (core c)) cs j x A else.1
  ])

  each_push : (cs : List Component) (d : Component) → All (λ (c : Component). P (core c)) cs → P (core d) → All (λ (c : Component). P (core c)) (cs ++ d ∷ [])
  each_push cs d A p = from_places (λ (c : Component). P (core c)) (cs ++ d ∷ []) (λ j x e. elim (at_push cs j d x e) [
    | inl old ↦ at_place (λ (c : Component). P (core c)) cs j x A old
    | inr new ↦ subst (λ (y : Component). P (core y)) (sym new) p
  ])

  each_removed : (cs : List Component) (i : ℕ) → All (λ (c : Component). P (core c)) cs → All (λ (c : Component). P (core c)) (remove cs i)
  each_removed cs i A = from_places (λ (c : Component). P (core c)) (remove cs i) (λ j x e. let k = at_remove cs i j x e in at_place (λ (c : Component). P (core c)) cs k.0 x A k.2)

  module _ (L : IsLasting) where
    -- ---- what happens

    told_core : (events : List Event) (c : Component) → P (core c) → P (core (all_told events c))
    told_core [] c p = p
    told_core (event ∷ events) c p = told_core events _ p

    at_port_each : (o : Option Port) (change : Port → World → World) (w : World) → Each w → ((p : Port) → Each (change p w)) → Each (at_port o change w)
    at_port_each None change w E k = E
    at_port_each (Some p) change w E k = k p

    transition_each : (i : ℕ) (c : Component) (o : Option Pending) (w : World) → c.pending ≡ o → P (core c) → Each w → Each (transition_happened i c o w)
    transition_each i c None w e p E = E
    transition_each i c (Some pending) w e p E = each_set w.components i (arrived w.waits pending c) E (L.arrives w.waits pending c e p)

    happened_each : (i : ℕ) (c : Component) (thing : Thing) (w : World) → slice_get w.components i ≡ Some c → Each w → Each (happened i c thing w)
    happened_each i c thing w at E = let p = at_place (λ (d : Component). P (core d)) w.components i c E at in by_thing i c thing w p E
      where
        by_thing : (i : ℕ) (c : Component) (thing : Thing) (w : World) → P (core c) → Each w → Each (happened i c thing w)
        by_thing i c Transition w p E = transition_each i c c.pending w refl p E
        by_thing i c (Flush port) w p E = at_port_each (port_of c port) (flush_happened i c) w E (λ q. each_set w.components i _ E p)
        by_thing i c (PortMode port) w p E = at_port_each (port_of c port) (mode_happened i c) w E (λ q.
            each_set w.components i _ E (told_core (mode_completion q.state.mode q.key.port) (with_port q.key.port (record q.state { mode = Steady }) c) p))
        by_thing i c (WaitingMark port) w p E = at_port_each (port_of c port) (mark_happened i c) w E (λ q. each_set w.components i _ E p)

    happens_each : (w v : World) → Happens w v → Each w → Each v
    happens_each w v H E = subst Each (sym H.after) (happened_each H.place H.component H.thing w H.there E)

    times_each : (n : ℕ) (w v : World) → HappenTimes n w v → Each w → Each v
    times_each zero w v e E = subst Each (sym e) E
    times_each (suc n) w v (mid, before, last) E = happens_each mid v last (times_each n w mid before E)

    pub closes_each : (w v : World) → ClosesTo w v → Each w → Each v
    closes_each w v C E = times_each C.steps w v C.by_steps E

    -- ---- what acts do

    changed_each : {T : Type 0} (o : Option T) (w : World) (change : T → World) → Each w → ((x : T) → o ≡ Some x → Each (change x)) → Each (changed_at o w change)
    changed_each None w change E k = E
    changed_each (Some x) w change E k = k x refl

    named_each : (h : Handle) (w : World) (change : ℕ → Component → World) → Each w → ((i : ℕ) (c : Component) → P (core c) → Each (change i c)) → Each (at_named h w change)
    named_each h w change E k = changed_each (place_of h w.components) w _ E (λ i p.
        changed_each (slice_get w.components i) w _ E (λ c at. k i c (at_place (λ (d : Component). P (core d)) w.components i c E at)))

    -- with its number
    at_named_each : (h : Handle) (w : World) (change : ℕ → Component → World) → Each w → ((i : ℕ) (c : Component) → P (core c) → number_of c ≡ h.generation → Each (change i c)) → Each (at_named h w change)
    at_named_each h w change E k = changed_each (place_of h w.components) w _ E (λ i p.
        changed_each (slice_get w.components i) w _ E (λ c at. k i c (at_place (λ (d : Component). P (core d)) w.components i c E at) (same_number w h i c p at)))

    port_each : (h : Handle) (port : ℕ) (w : World) (change : ℕ → Component → Port → World) → Each w → ((i : ℕ) (c : Component) (p : Port) → P (core c) → Each (change i c p)) → Each (at_named_port h port w change)
    port_each h port w change E k = named_each h w _ E (λ i c p. changed_each (port_of c port) w _ E (λ q e. k i c q p))

    both_each : (p q : Option Port) (w : World) (change : Port → Port → World) → Each w → ((a b : Port) → Each (change a b)) → Each (at_both p q w change)
    both_each p q w change E k = changed_each p w _ E (λ a e. changed_each q w _ E (λ b f. k a b))

    unmade_each : (ns : List ℕ) (w : World) → Each w → Each (front_unmade ns w)
    unmade_each [] w E = E
    unmade_each (n ∷ ns) w E = E

    put_each : (key : PortKey) (spot : Spot) (change : HeaderRecord → HeaderRecord) (ns : List ℕ) (w : World) → Each w → Each (front_put key spot change ns w)
    put_each key spot change [] w E = E
    put_each key spot change (n ∷ ns) w E = E

    over_each : (p : Port) (o : Option Link) (w : World) → Each w → Each (at_link o (λ peer. front_put peer TodoBack unchanged ((seen w.headers).done p.key)) w)
    over_each p None w E = E
    over_each p (Some link) w E = put_each link.peer TodoBack unchanged ((seen w.headers).done p.key) w E

    returned_each : (key : PortKey) (input : Bool) (done todo : List ℕ) (w : World) → Each w → Each (returned key input done todo w)
    returned_each key input [] todo w E = put_each key (supplied_spot (not input)) cleared todo w E
    returned_each key input (n ∷ ns) todo w E = E

    noticed_each : (i : ℕ) (c : Component) (p : Port) (todo : List ℕ) (w : World) → P (core c) → Each w → Each (front_noticed i c p todo w)
    noticed_each i c p [] w k E = E
    noticed_each i c p (n ∷ ns) w k E = each_set w.components i _ E k

    back_each : (i : ℕ) (c : Component) (p : Port) (o : Option Link) (w : World) → P (core c) → Each w → Each (handed_back i c p o w)
    back_each i c p None w k E = noticed_each i c p ((seen w.headers).todo p.key) w k E
    back_each i c p (Some link) w k E = returned_each link.peer (is_input_port p) ((seen w.headers).done p.key) ((seen w.headers).todo p.key) w E

    sent_core : (command : Command) (c : Component) → P (core c) → P (core (sent command c))
    sent_core command c p = either (is_at_once command) (λ t. rw t (L.drops c p)) (λ f. rw f p)

    unheld_core : (o : Option Port) (c : Component) → P (core c) → P (core (unheld_at o c))
    unheld_core None c p = p
    unheld_core (Some q) c p = p

    value_core : (key : ParamKey) (value : Param) (c : Component) → P (core c) → P (core (with_value key value c))
    value_core key value c p = either (nat_eq key.index 1)
        (λ t. rw t (unheld_core (port_of c key.port) (record c { settings = changed_by key.port value c.settings }) p))
        (λ f. rw f p)

    unpopulated_core : (q : Port) (c : Component) → P (core c) → P (core (unpopulated q c))
    unpopulated_core q c p = either (is_unpopulating c q) (λ t. rw t p) (λ f. rw f p)

    granted_each : (o : Option Component) (w : World) → first_waiter w.components ≡ o → Each w → Each (changed_at o w (λ c. with_changed granted_units c w))
    granted_each None w e E = E
    granted_each (Some c) w e E =
        let A = best_among is_waiter is_before w.components c e in
        changed_each (place_numbered (number_of c) w.components) w _ E (λ i f. each_set w.components i _ E (L.grants c A.passes (at_place (λ (d : Component). P (core d)) w.components A.place c E A.there)))

    preempted_each : (o : Option Component) (w : World) → Sound w → victim w.components ≡ o → Each w → Each (changed_at o w (λ c. with_changed preempted_units c w))
    preempted_each None w S e E = E
    preempted_each (Some c) w S e E =
        let A = victim_there w c S e in
        changed_each (place_numbered (number_of c) w.components) w _ E (λ i f.
        each_set w.components i _ E (L.loses c (is_not (is_invalid c.state) A.passes) (at_place (λ (d : Component). P (core d)) w.components A.place c E A.there)))

    announced_core : (o : Option Port) (c : Component) → P (core c) → P (core (announced_at o c))
    announced_core None c p = p
    announced_core (Some q) c p = either (same_format q.setting.definition.format (file_format c.file)) (λ t. rw t p) (λ f. rw f p)

    finished_each : (i : ℕ) (c : Component) (done : WorkDone) (o : Option Work) (w : World) → P (core c) → Each w → Each (finished_by i c done o w)
    finished_each i c done None w p E = E
    finished_each i c done (Some work) w p E = either work.announces
        (λ t. rw t (each_set w.components i (announced c) E (announced_core (port_of c 0) (record c { work = None }) (L.returns c p))))
        (λ f. rw f (changed_each (stream_of (number_of c) w) w _ E (λ s e. each_set w.components i (stepped_back c s done) E (L.returns c p))))

    module _ (w : World) (S : Sound w) (E : Each w) where
      noted_each : (i : ℕ) (c : Component) → P (core (first_taken c)) → Each (record w { components = set w.components i (first_taken c) })
      noted_each i c p = each_set w.components i (first_taken c) E p

      -- an act that makes no component and takes no note, or of which it is true all the same
      pub effect_each : (a : Act) (r : Reply) → (NoneGot a r ⊎ ((h : Handle) (kind : Kind) → P (core (fresh h kind)))) → Goes a r → (NoneTaken a r ⊎ ((c : Component) → P (core c) → P (core (first_taken c)))) → Each (effect w a r)
      effect_each (acts.GetHandle name) (acts.Got (Ok h)) (inl n) m t = absurd n
      effect_each (acts.GetHandle name) (acts.Got (Ok h)) (inr f) m t = changed_each (kind_of name) w _ E (λ kind e. each_push w.components (fresh h kind) E (f h kind))
      effect_each (acts.FreeHandle h) (acts.Removed (Ok file)) n m t = named_each h w _ E (λ i c p. each_removed w.components i E)
      effect_each (acts.Attach h file) (acts.Plain (Ok done)) n m t = named_each h w _ E (λ i c p. each_set w.components i _ E p)
      effect_each (acts.SetParameter h key value) (acts.Plain (Ok done)) n m t = named_each h w _ E (λ i c p. each_set w.components i _ E (value_core key value c p))
      effect_each (acts.SetConfig h key value) (acts.Plain (Ok done)) n m t = named_each h w _ E (λ i c p. each_set w.components i _ E (value_core key value c p))
      effect_each (acts.SetupTunnel output input) (acts.Joined (Ok supplier)) n m t =
          named_each output.handle w _ E (λ i c p. named_each input.handle w _ E (λ j d q. both_each (port_of c output.index) (port_of d input.index) w _ E (λ x y.
          each_set (set w.components i _) j _ (each_set w.components i _ E p) q)))
      effect_each (acts.DropTunnel output input) (acts.Plain (Ok done)) n m t =
          named_each output.handle w _ E (λ i c p. named_each input.handle w _ E (λ j d q. both_each (port_of c output.index) (port_of d input.index) w _ E (λ x y.
          each_set (set w.components i _) j _ (each_set w.components i _ E p) q)))
      effect_each (acts.SendCommand h command) (acts.Plain (Ok done)) n m t = named_each h w _ E (λ i c p. each_set w.components i _ E (sent_core command c p))
      effect_each (acts.RunCommand h) (acts.Acted (Ok Did)) n m t = named_each h w _ E (λ i c p. each_set w.components i _ E (L.runs (look w) c.commands c p))
      effect_each (acts.AllocateBuffer h port) (acts.Allocated (Ok header)) n m t = port_each h port w _ E (λ i c q p. E)
      effect_each (acts.UseBuffer h port bytes) (acts.Used (Ok header)) n m t = port_each h port w _ E (λ i c q p. E)
      effect_each (acts.FreeBuffer h port header) (acts.Freed (Ok memory)) n m t = port_each h port w _ E (λ i c q p. each_set w.components i _ E (unpopulated_core q c p))
      effect_each (acts.EmptyThisBuffer h port header) (acts.Plain (Ok done)) n m t = port_each h port w _ E (λ i c q p. E)
      effect_each (acts.FillThisBuffer h port header) (acts.Plain (Ok done)) n m t = port_each h port w _ E (λ i c q p. E)
      effect_each (acts.TakeNote h) (acts.Took (Ok (TookNote (TakenEvent event)))) n m (inr f) = named_each h w _ E (λ i c p. each_set w.components i _ E (f c p))
      effect_each (acts.TakeNote h) (acts.Took (Ok (TookNote (TakenEmpty header)))) n m (inr f) = named_each h w _ E (λ i c p. each_set w.components i _ E (f c p))
      effect_each (acts.TakeNote h) (acts.Took (Ok (TookNote (TakenFilled header)))) n m (inr f) = named_each h w _ E (λ i c p. each_set w.components i _ E (f c p))
      effect_each (acts.TakeNote h) (acts.Took (Ok (TookNote taken))) n m (inl t) = absurd t
      effect_each (acts.EndNote h progress) acts.Ended n m t = named_each h w _ E (λ i c p. each_set w.components i _ E (L.ends c p))
      effect_each (acts.Supply h port) (acts.Supplied (Ok Did)) n m t = port_each h port w _ E (λ i c q p. E)
      effect_each (acts.Release h port) (acts.Acted (Ok Did)) n m t = port_each h port w _ E (λ i c q p. unmade_each (in_port (seen w.headers) q) w E)
      effect_each (acts.HandOver h port) (acts.Acted (Ok Did)) n m t = port_each h port w _ E (λ i c q p. over_each q q.state.link w E)
      effect_each (acts.HandBack h port) (acts.Acted (Ok Did)) n m t = port_each h port w _ E (λ i c q p. back_each i c q q.state.link w p E)
      effect_each acts.Grant (acts.Granted (granted.Granted h)) n m t = granted_each (first_waiter w.components) w refl E
      effect_each acts.Preempt (acts.Preempted (preempted.Victim h)) n m t = preempted_each (victim w.components) w S refl E
      effect_each (acts.Claim h) (acts.Claimed (Ok (ClaimedWork work))) n m t = at_named_each h w _ E (λ i c p number. each_set w.components i _ E (m h work c (work_of (seen w.headers) c) refl refl number p))
      effect_each (acts.Finish done) acts.Finished n m t = changed_each (place_numbered done.component w.components) w _ E (λ i e.
          changed_each (slice_get w.components i) w _ E (λ c at. finished_each i c done c.work w (at_place (λ (d : Component). P (core d)) w.components i c E at) E))
      effect_each _ _ n m t = E

    pub outcome_each : (w : World) (a : Act) (r : Reply) (v : World) → Sound w → (NoneGot a r ⊎ ((h : Handle) (kind : Kind) → P (core (fresh h kind)))) → Goes a r → (NoneTaken a r ⊎ ((c : Component) → P (core c) → P (core (first_taken c)))) → Outcome w (turn w a r) v → Each w → Each v
    outcome_each w a r v S n g t (Nothing e m) E = subst Each (sym e) E
    outcome_each w a r v S n g t (Done C F) E = closes_each (effect w a r) v C (effect_each w S E a r n g t)

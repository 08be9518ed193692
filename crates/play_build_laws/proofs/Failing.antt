-- A work comes back, and what is due happens: the joints of all components stay, and none becomes Invalid.
use Rattle.std.proofs.Common.{◌≡◌, ℕ, zero, suc, Bool, true, false, not, ◌||◌, length, slice_get, Option, Some, None, All, MatchOption, refl, sym, ◌∙◌, ap, subst}
use Rattle.omx_types.specs.declared.state.State.{State}
use Rattle.omx_types.specs.declared.state.State.TheVariants.{Invalid, Loaded, Idle, Executing, Pause, WaitForResources}
use Rattle.omx_types.specs.declared.command.Completion.TheVariants as completions
use Rattle.omx_types.specs.declared.command.Event.TheVariants.{CmdComplete}
use Rattle.il_machine.specs.declared.answer.Pending.{Pending}
use Rattle.il_machine.specs.declared.port.Mode.{Mode}
use Rattle.il_machine.specs.declared.port.Mode.TheVariants.{Steady, Enabling, Disabling}
use Rattle.il_machine.specs.declared.port.Port.{Port}
use Rattle.il_machine.specs.declared.port.PortKey.{PortKey}
use Rattle.il_machine.specs.Due.{ClosesTo, Flush, HappenTimes, PortMode, Thing, Transition, WaitingMark, all_given_back, all_told, arrived, arrived_at, at_port, completed_for, flush_happened, happened, lost_by, mark_happened, mode_completion, mode_happened, reached, restarted, transition_happened, with_part}
use Rattle.il_machine.specs.Finishing.{Finish, announced, announced_at, finished, finished_by, stepped_back, with_landed}
use Rattle.il_machine.specs.Parts.{file_format}
use Rattle.il_machine.specs.Room.{is_by_client}
use Rattle.il_machine.specs.Settings.{same_format}
use Rattle.il_machine.specs.States.{is_down, is_invalid}
use Rattle.il_machine.specs.Stepping.{WorkDone}
use Rattle.il_machine.specs.World.{Component, Stream, Work, World, changed_at, number_of, place_numbered, port_of, stream_of, told, with_port}
use Rattle.machine_laws.proofs.Arriving.{change_arrived, change_let_go, change_with_port, state_there}
use Rattle.machine_laws.proofs.Every.{at_place, from_places}
use Rattle.machine_laws.proofs.Finding.{either}
use Rattle.machine_laws.proofs.Keys.{there_is}
use Rattle.play_build_laws.specs.Halting.{HasLinks, IsValid}
use Rattle.play_build_laws.proofs.Linked.{Each, KeepsTies, each_by, each_same, each_set, each_then, links_kept, ties_changed, ties_same}

-- it keeps its ties, and stays valid
abbrev Stays : Component → Component → Type 0
Stays a b = KeepsTies a b × (IsValid a → IsValid b)

stays_same : (a : Component) → Stays a a
stays_same a = (ties_same a, λ V. V)

stays_then : (a b c : Component) → Stays a b → Stays b c → Stays a c
stays_then a b c A B = (record { number = B.0.number ∙ A.0.number; settings = B.0.settings ∙ A.0.settings; links = B.0.links ∙ A.0.links }, λ V. B.1 (A.1 V))

same_valid : (a b : Component) → b.state ≡ a.state → b.pending ≡ a.pending → IsValid a → IsValid b
same_valid a b s p V = record { state = ap is_invalid s ∙ V.state; pending = λ q e. V.pending q (sym p ∙ e) }

-- ---- a transition

-- where a component comes to the target, nothing is pending then, or Loaded is
record HasCome (target : State) (b : Component) : Type 0 where
  state : b.state ≡ target
  pending : (q : Pending) → b.pending ≡ Some q → q.target ≡ Loaded

none_pending : (o : Option Pending) → o ≡ None → (q : Pending) → o ≡ Some q → q.target ≡ Loaded
none_pending o n q e = let z : None ≡ Some q = sym n ∙ e in absurd cc

come_for : (p : Pending) (r : Component) → r.pending ≡ None → HasCome r.state (completed_for p r)
come_for p r n = either (is_by_client p.cause)
    (λ t. rw t (record { state = refl; pending = none_pending r.pending n }))
    (λ f. rw f (record { state = refl; pending = none_pending r.pending n }))

come_lost : (p : Pending) (target : State) (r : Component) → HasCome target r → HasCome target (lost_by p r)
come_lost p target r H = either (r.loss_mark || not (is_by_client p.cause))
    (λ t. rw t (record { state = H.state; pending = λ q e. cc }))
    (λ f. rw f H)

comes : (number : ℕ) (target : State) (p : Pending) (c : Component) → HasCome p.target (arrived_at number target p c)
comes number Idle p c = either (is_down c.state)
    (λ t. rw t (record { state = refl; pending = none_pending None refl }))
    (λ f. rw f (come_lost p p.target (completed_for p (with_part (restarted c) (reached p c))) (come_for p (with_part (restarted c) (reached p c)) refl)))
comes number Loaded p c = come_for p (all_given_back (reached p c)) refl
comes number Invalid p c = record { state = refl; pending = none_pending None refl }
comes number Executing p c = record { state = refl; pending = none_pending None refl }
comes number Pause p c = record { state = refl; pending = none_pending None refl }
comes number WaitForResources p c = record { state = refl; pending = none_pending None refl }

arrives : (number : ℕ) (p : Pending) (c : Component) → c.pending ≡ Some p → Stays c (arrived number p c)
arrives number p c e =
    let H = comes number p.target p c in (
      ties_changed c (arrived number p c) (change_arrived number p c),
      λ V. record { state = ap is_invalid H.state ∙ V.pending p e; pending = λ q f. ap is_invalid (H.pending q f) },
    )

-- ---- what happens

by_transition : (i : ℕ) (c : Component) (o : Option Pending) (w : World) → slice_get w.components i ≡ Some c → c.pending ≡ o → Each Stays w (transition_happened i c o w)
by_transition i c None w at e = each_same Stays stays_same w w refl
by_transition i c (Some p) w at e = each_set Stays stays_same w (transition_happened i c (Some p) w) i c (arrived w.waits p c) at refl (arrives w.waits p c e)

at_port_each : (w : World) (change : Port → World → World) (o : Option Port) → ((p : Port) → o ≡ Some p → Each Stays w (change p w)) → Each Stays w (at_port o change w)
at_port_each w change None h = each_same Stays stays_same w w refl
at_port_each w change (Some p) h = h p refl

mode_stays : (c : Component) (port : ℕ) (p : Port) (m : Mode) → port_of c port ≡ Some p → Stays c (all_told (mode_completion m p.key.port) (with_port p.key.port (record p.state { mode = Steady }) c))
mode_stays c port p Steady f =
    let b : Component = with_port p.key.port (record p.state { mode = Steady }) c in
    (ties_changed c b (change_with_port p.key.port (record p.state { mode = Steady }) p.state c (state_there c port p f) refl), same_valid c b refl refl)
mode_stays c port p Enabling f =
    let b : Component = told (CmdComplete (completions.Enable p.key.port)) (with_port p.key.port (record p.state { mode = Steady }) c) in
    (ties_changed c b (change_let_go (CmdComplete (completions.Enable p.key.port)) p.key.port (record p.state { mode = Steady }) p.state c (state_there c port p f) refl), same_valid c b refl refl)
mode_stays c port p Disabling f =
    let b : Component = told (CmdComplete (completions.Disable p.key.port)) (with_port p.key.port (record p.state { mode = Steady }) c) in
    (ties_changed c b (change_let_go (CmdComplete (completions.Disable p.key.port)) p.key.port (record p.state { mode = Steady }) p.state c (state_there c port p f) refl), same_valid c b refl refl)

by_thing : (i : ℕ) (c : Component) (thing : Thing) (w : World) → slice_get w.components i ≡ Some c → Each Stays w (happened i c thing w)
by_thing i c Transition w at = by_transition i c c.pending w at refl
by_thing i c (Flush port) w at = at_port_each w (flush_happened i c) (port_of c port) (λ p f.
    let b : Component = told (CmdComplete (completions.Flush p.key.port)) (with_port p.key.port (record p.state { flushing = false }) c) in
    each_set Stays stays_same w (flush_happened i c p w) i c b at refl (
      ties_changed c b (change_let_go (CmdComplete (completions.Flush p.key.port)) p.key.port (record p.state { flushing = false }) p.state c (state_there c port p f) refl),
      same_valid c b refl refl,
    ))
by_thing i c (PortMode port) w at = at_port_each w (mode_happened i c) (port_of c port) (λ p f.
    each_set Stays stays_same w (mode_happened i c p w) i c (all_told (mode_completion p.state.mode p.key.port) (with_port p.key.port (record p.state { mode = Steady }) c)) at refl (mode_stays c port p p.state.mode f))
by_thing i c (WaitingMark port) w at = at_port_each w (mark_happened i c) (port_of c port) (λ p f.
    let b : Component = told (CmdComplete (completions.Mark p.key.port)) (with_port p.key.port (record p.state { waiting_mark = None }) c) in
    each_set Stays stays_same w (mark_happened i c p w) i c b at refl (
      ties_changed c b (change_let_go (CmdComplete (completions.Mark p.key.port)) p.key.port (record p.state { waiting_mark = None }) p.state c (state_there c port p f) refl),
      same_valid c b refl refl,
    ))

by_times : (n : ℕ) (w v : World) → HappenTimes n w v → Each Stays w v
by_times zero w v e = each_same Stays stays_same w v (ap (λ (y : World). y.components) e)
by_times (suc n) w v (mid, before, H) =
    each_then Stays stays_then w mid v (by_times n w mid before) (subst (Each Stays mid) (sym H.after) (by_thing H.place H.component H.thing mid H.there))

-- ---- a work comes back

abbrev without_work : Component → Component
without_work c = record c { work = None }

announces : (c : Component) → Stays c (announced c)
announces c = by_port (port_of c 0) refl
  where
    by_port : (o : Option Port) → port_of c 0 ≡ o → Stays c (announced_at o (without_work c))
    by_port None e = (record { number = refl; settings = refl; links = refl }, same_valid c (without_work c) refl refl)
    by_port (Some p) e = either (same_format p.setting.definition.format (file_format c.file))
        (λ t. rw t (record { number = refl; settings = refl; links = refl }, same_valid c (without_work c) refl refl))
        (λ f.
        let C = change_with_port p.key.port (record p.state { held = true }) p.state c (state_there c 0 p e) refl in
        rw f (record { number = refl; settings = refl; links = C.links }, (λ V. record { state = V.state; pending = V.pending })))

comes_back : (w : World) (i : ℕ) (c : Component) (done : WorkDone) → slice_get w.components i ≡ Some c → Each Stays w (finished i c done w)
comes_back w i c done at = by_work c.work
  where
    by_stream : (o : Option Stream) → Each Stays w (changed_at o w (λ s. with_landed i c done s w))
    by_stream None = each_same Stays stays_same w w refl
    by_stream (Some s) = each_set Stays stays_same w (with_landed i c done s w) i c (stepped_back c s done) at refl (record { number = refl; settings = refl; links = refl }, same_valid c (stepped_back c s done) refl refl)

    by_work : (o : Option Work) → Each Stays w (finished_by i c done o w)
    by_work None = each_same Stays stays_same w w refl
    by_work (Some work) = either work.announces
        (λ t. rw t (each_set Stays stays_same w _ i c (announced c) at refl (announces c)))
        (λ f. rw f (by_stream (stream_of (number_of c) w)))

finishes_each : (w v : World) (done : WorkDone) → Finish w done v → Each Stays w v
finishes_each w v done F =
    let i = there_is (place_numbered done.component w.components) (λ i. MatchOption (slice_get w.components i) ⊥ (λ c. ClosesTo (finished i c done w) v)) F in
    let c = there_is (slice_get w.components i.0) (λ c. ClosesTo (finished i.0 c done w) v) i.2 in
    each_then Stays stays_then w (finished i.0 c.0 done w) v (comes_back w i.0 c.0 done c.1) (by_times (c.2).steps (finished i.0 c.0 done w) v (c.2).by_steps)

pub still_there : (end : Bool → ℕ → PortKey) (links : ℕ) (w v : World) (done : WorkDone) → HasLinks end links w → All IsValid w.components → Finish w done v → HasLinks end links v × All IsValid v.components × (length v.components ≡ length w.components)
still_there end links w v done L V F =
    let K = finishes_each w v done F in (
      links_kept end links w v L (each_by Stays KeepsTies (λ a b h. h.0) w v K),
      from_places IsValid v.components (λ i b e. let a = K.each i b e in a.2.1 (at_place IsValid w.components i a.0 V a.1)),
      K.many,
    )

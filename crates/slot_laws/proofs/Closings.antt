-- What is due in a world whose handles moved, what happens, and the close-out.
use Rattle.std.proofs.Common.{◌≡◌, ℕ, zero, suc, not, ◌||◌, ◌&&◌, Bool, is_some, false, List, [], ◌∷◌, set, Option, Some, None, option_map, refl, sym, ◌∙◌, ap}
use Rattle.std.specs.Prelude.{map}
use Rattle.std.proofs.lemmas.Option.{slice_get-map}
use Rattle.omx_types.specs.declared.command.Completion.TheVariants as completions
use Rattle.omx_types.specs.declared.command.Event.TheVariants.{CmdComplete}
use Rattle.omx_types.specs.declared.state.State.{State}
use Rattle.omx_types.specs.declared.state.State.TheVariants.{Invalid, Loaded, Idle, Executing, Pause, WaitForResources}
use Rattle.il_machine.specs.declared.answer.Pending.{Pending}
use Rattle.il_machine.specs.declared.port.Mark.{Mark}
use Rattle.il_machine.specs.declared.port.Mode.{Mode}
use Rattle.il_machine.specs.declared.port.Mode.TheVariants.{Steady, Disabling, Enabling}
use Rattle.il_machine.specs.declared.port.Port.{Port}
use Rattle.il_machine.specs.declared.port.PortState.{PortState}
use Rattle.il_machine.specs.Lists.{first_of_these, is_empty}
use Rattle.il_machine.specs.Ports.{has_no_header, is_populated, is_supplier, is_input_port, settled}
use Rattle.il_machine.specs.States.{is_down}
use Rattle.il_machine.specs.World.{Component, HeaderRecord, World, port_of, ports_of, told, with_component, with_port}
use Rattle.il_machine.specs.Headers.{Seen, seen}
use Rattle.il_machine.specs.Look.{look}
use Rattle.il_machine.specs.Room.{is_by_client}
use Rattle.il_machine.specs.Due.{Thing, Transition, Flush, PortMode, WaitingMark, due_in, first_marked, has_due, first_due, is_due_to, is_mark_due, is_mode_due, is_transition_due, reset_on, reset_port, reset_ports, reached, completed_for, lost_by, marked, arrived_at, arrived, mode_completion, all_told, things_of, transition_happened, at_port, flush_happened, mode_happened, mark_happened, happened, Happens, HappenTimes, ClosesTo, restarted, unheld, with_part, all_given_back}
use Rattle.machine_laws.proofs.Finding.{either}
use Rattle.slot_laws.specs.Seating.{Seating, moved, moved_component, moved_header, moved_mark, moved_port, moved_state}
use Rattle.slot_laws.proofs.Lists.{Alike, first_same, map_set, position_moved, some_moved}
use Rattle.slot_laws.proofs.Ports.{all_ports, port_moved, port_put, ports_moved}
use Rattle.slot_laws.proofs.Headers.{changed_moved, reset_moved, seen_moved}

module _ (f : Seating) where
  -- ---- what is due

  due_to_moved : (headers : Seen) (c : Component) (target : State) → is_due_to headers (moved_component f c) target ≡ is_due_to headers c target
  due_to_moved headers c Idle =
      let a = all_ports f c (λ p. not p.state.enabled || is_populated headers p) (λ p. not p.state.enabled || is_populated headers p) (λ p. refl) in
      let b = all_ports f c (settled headers) (settled headers) (λ p. refl) in
      either (is_down c.state) (λ t. rw t (rw a refl)) (λ e. rw e (rw b refl))
  due_to_moved headers c Loaded = rw (all_ports f c (has_no_header headers) (has_no_header headers) (λ p. refl)) refl
  due_to_moved headers c WaitForResources = refl
  due_to_moved headers c Executing = refl
  due_to_moved headers c Pause = refl
  due_to_moved headers c Invalid = refl

  transition_due_moved : (headers : Seen) (c : Component) (o : Option Pending) → c.pending ≡ o → is_transition_due headers (moved_component f c) ≡ is_transition_due headers c
  transition_due_moved headers c None is = rw is refl
  transition_due_moved headers c (Some p) is = rw is (due_to_moved headers c p.target)

  mode_due_moved : (headers : Seen) (c : Component) (p : Port) (mode : Mode) → is_mode_due headers (moved_component f c) (moved_port f p) mode ≡ is_mode_due headers c p mode
  mode_due_moved headers c p Steady = refl
  mode_due_moved headers c p Disabling = refl
  mode_due_moved headers c p Enabling = refl

  mark_due_moved : (headers : Seen) (p : Port) → is_mark_due headers (moved_port f p) ≡ is_mark_due headers p
  mark_due_moved headers p = ap (λ (b : Bool). b && not (is_empty (headers.unmarked p.key))) (some_moved (moved_mark f) p.state.waiting_mark)

  things_moved : (headers : Seen) (c : Component) (ps : List Port) → Alike (λ (t : Thing). t) (things_of headers (moved_component f c) (map (moved_port f) ps)) (things_of headers c ps)
  things_moved headers c [] = tt
  things_moved headers c (p ∷ ps) =
      (refl, refl, ((mode_due_moved headers c p p.state.mode), refl, (mark_due_moved headers p, refl, things_moved headers c ps)))

  pub due_moved : (headers : Seen) (c : Component) → due_in headers (moved_component f c) ≡ due_in headers c
  due_moved headers c =
      ap (λ (ps : List Port). first_of_these ((is_transition_due headers (moved_component f c), Transition) ∷ things_of headers (moved_component f c) ps)) (ports_moved f c)
      ∙ first_same ((is_transition_due headers (moved_component f c), Transition) ∷ things_of headers (moved_component f c) (map (moved_port f) (ports_of c)))
      ((is_transition_due headers c, Transition) ∷ things_of headers c (ports_of c))
      (transition_due_moved headers c c.pending refl, refl, things_moved headers c (ports_of c))

  pub first_due_moved : (w : World) → first_due (look (moved f w)) ≡ first_due (look w)
  first_due_moved w =
      ap (λ (s : Seen). first_due (record (look (moved f w)) { headers = s })) (seen_moved f w.headers)
      ∙ position_moved (moved_component f) (has_due (seen w.headers)) (has_due (seen w.headers)) w.components (λ c. ap is_some (due_moved (seen w.headers) c))

  -- ---- the headers of a port that are reset

  pub port_reset : (p : Port) (hs : List HeaderRecord) → reset_port (moved_port f p) (map (moved_header f) hs) ≡ map (moved_header f) (reset_port p hs)
  port_reset p hs = either (is_supplier p) (λ t. rw t (reset_moved f (is_input_port p) p.key hs)) (λ e. rw e refl)

  ports_reset : (ps : List Port) (hs : List HeaderRecord) → reset_ports (map (moved_port f) ps) (map (moved_header f) hs) ≡ map (moved_header f) (reset_ports ps hs)
  ports_reset [] hs = refl
  ports_reset (p ∷ ps) hs = ap (reset_ports (map (moved_port f) ps)) (port_reset p hs) ∙ ports_reset ps (reset_port p hs)

  all_reset : (c : Component) (hs : List HeaderRecord) → reset_ports (ports_of (moved_component f c)) (map (moved_header f) hs) ≡ map (moved_header f) (reset_ports (ports_of c) hs)
  all_reset c hs = ap (λ (ps : List Port). reset_ports ps (map (moved_header f) hs)) (ports_moved f c) ∙ ports_reset (ports_of c) hs

  reset_on_moved : (c : Component) (target : State) (hs : List HeaderRecord) → reset_on (moved_component f c) target (map (moved_header f) hs) ≡ map (moved_header f) (reset_on c target hs)
  reset_on_moved c Idle hs = either (is_down c.state) (λ t. rw t refl) (λ e. rw e (all_reset c hs))
  reset_on_moved c Invalid hs = refl
  reset_on_moved c Loaded hs = refl
  reset_on_moved c Executing hs = refl
  reset_on_moved c Pause hs = refl
  reset_on_moved c WaitForResources hs = refl

  -- ---- a component whose transition happens

  client_moved : (p : Pending) (c : Component) → completed_for p (moved_component f c) ≡ moved_component f (completed_for p c)
  client_moved p c = either (is_by_client p.cause) (λ t. rw t refl) (λ e. rw e refl)

  lost_moved : (p : Pending) (c : Component) → lost_by p (moved_component f c) ≡ moved_component f (lost_by p c)
  lost_moved p c = either (c.loss_mark || not (is_by_client p.cause)) (λ t. rw t refl) (λ e. rw e refl)

  unheld_moved : (ps : List PortState) → map unheld (map (moved_state f) ps) ≡ map (moved_state f) (map unheld ps)
  unheld_moved [] = refl
  unheld_moved (p ∷ ps) = ap (λ (l : List PortState). moved_state f (unheld p) ∷ l) (unheld_moved ps)

  given_back_moved : (c : Component) → all_given_back (moved_component f c) ≡ moved_component f (all_given_back c)
  given_back_moved c = let a = unheld_moved c.ports in λ j. record (moved_component f (all_given_back c)) { ports = a j }

  arrived_moved : (number : ℕ) (target : State) (p : Pending) (c : Component) → arrived_at number target p (moved_component f c) ≡ moved_component f (arrived_at number target p c)
  arrived_moved number Idle p c = either (is_down c.state)
      (λ t. rw t refl)
      (λ e.
      let r : Component = with_part (restarted c) (reached p c) in
      rw e (ap (lost_by p) (client_moved p r) ∙ lost_moved p (completed_for p r)))
  arrived_moved number Loaded p c = ap (completed_for p) (given_back_moved (reached p c)) ∙ client_moved p (all_given_back (reached p c))
  arrived_moved number Invalid p c = refl
  arrived_moved number Executing p c = refl
  arrived_moved number Pause p c = refl
  arrived_moved number WaitForResources p c = refl

  mode_told : (mode : Mode) (port : ℕ) (c : Component) → all_told (mode_completion mode port) (moved_component f c) ≡ moved_component f (all_told (mode_completion mode port) c)
  mode_told Steady port c = refl
  mode_told Enabling port c = refl
  mode_told Disabling port c = refl

  -- ---- the world when a thing happens

  -- the components, where one gave way to another
  pub put_there : (cs : List Component) (i : ℕ) (d e : Component) → d ≡ moved_component f e → set (map (moved_component f) cs) i d ≡ map (moved_component f) (set cs i e)
  put_there cs i d e s = ap (λ (x : Component). set (map (moved_component f) cs) i x) s ∙ map_set (moved_component f) cs i e

  pub component_put : (i : ℕ) (d e : Component) (w : World) → d ≡ moved_component f e → with_component i d (moved f w) ≡ moved f (with_component i e w)
  component_put i d e w s = let a = put_there w.components i d e s in λ j. record (moved f w) { components = a j }

  transition_moved : (i : ℕ) (c : Component) (o : Option Pending) (w : World) → transition_happened i (moved_component f c) o (moved f w) ≡ moved f (transition_happened i c o w)
  transition_moved i c None w = refl
  transition_moved i c (Some p) w =
      let a = put_there w.components i (arrived w.waits p (moved_component f c)) (arrived w.waits p c) (arrived_moved w.waits p.target p c) in
      let b = reset_on_moved c p.target w.headers in
      λ j. record (transition_happened i (moved_component f c) (Some p) (moved f w)) { components = a j; headers = b j }

  flush_moved : (i : ℕ) (c : Component) (o : Option Port) (w : World) → at_port (option_map (moved_port f) o) (flush_happened i (moved_component f c)) (moved f w) ≡ moved f (at_port o (flush_happened i c) w)
  flush_moved i c None w = refl
  flush_moved i c (Some p) w =
      let s : PortState = record p.state { flushing = false } in
      let m = port_put f p.key.port (moved_state f s) s c refl in
      let a = put_there w.components i _ _ (ap (told (CmdComplete (completions.Flush p.key.port))) m) in
      let b = port_reset p w.headers in
      λ j. record (moved f w) { components = a j; headers = b j }

  port_mode_moved : (i : ℕ) (c : Component) (o : Option Port) (w : World) → at_port (option_map (moved_port f) o) (mode_happened i (moved_component f c)) (moved f w) ≡ moved f (at_port o (mode_happened i c) w)
  port_mode_moved i c None w = refl
  port_mode_moved i c (Some p) w =
      let s : PortState = record p.state { mode = Steady } in
      let m = port_put f p.key.port (moved_state f s) s c refl in
      component_put i _ (all_told (mode_completion p.state.mode p.key.port) (with_port p.key.port s c)) w
      (ap (all_told (mode_completion p.state.mode p.key.port)) m ∙ mode_told p.state.mode p.key.port (with_port p.key.port s c))

  first_marked_moved : (ns : List ℕ) (mark : Option Mark) (hs : List HeaderRecord) → first_marked ns (option_map (moved_mark f) mark) (map (moved_header f) hs) ≡ map (moved_header f) (first_marked ns mark hs)
  first_marked_moved [] mark hs = refl
  first_marked_moved (n ∷ ns) mark hs = changed_moved f n (marked (option_map (moved_mark f) mark)) (marked mark) hs (λ r. refl)

  mark_moved : (i : ℕ) (c : Component) (o : Option Port) (w : World) → at_port (option_map (moved_port f) o) (mark_happened i (moved_component f c)) (moved f w) ≡ moved f (at_port o (mark_happened i c) w)
  mark_moved i c None w = refl
  mark_moved i c (Some p) w =
      let s : PortState = record p.state { waiting_mark = None } in
      let m = port_put f p.key.port (moved_state f s) s c refl in
      let a = put_there w.components i _ _ (ap (told (CmdComplete (completions.Mark p.key.port))) m) in
      let b = ap (λ (l : Seen). first_marked (l.unmarked p.key) (option_map (moved_mark f) p.state.waiting_mark) (map (moved_header f) w.headers)) (seen_moved f w.headers)
      ∙ first_marked_moved ((seen w.headers).unmarked p.key) p.state.waiting_mark w.headers in
      λ j. record (moved f w) { components = a j; headers = b j }

  happened_moved : (i : ℕ) (c : Component) (thing : Thing) (w : World) → happened i (moved_component f c) thing (moved f w) ≡ moved f (happened i c thing w)
  happened_moved i c Transition w = transition_moved i c c.pending w
  happened_moved i c (Flush port) w =
      ap (λ (o : Option Port). at_port o (flush_happened i (moved_component f c)) (moved f w)) (port_moved f c port) ∙ flush_moved i c (port_of c port) w
  happened_moved i c (PortMode port) w =
      ap (λ (o : Option Port). at_port o (mode_happened i (moved_component f c)) (moved f w)) (port_moved f c port) ∙ port_mode_moved i c (port_of c port) w
  happened_moved i c (WaitingMark port) w =
      ap (λ (o : Option Port). at_port o (mark_happened i (moved_component f c)) (moved f w)) (port_moved f c port) ∙ mark_moved i c (port_of c port) w

  happens_moved : (w v : World) → Happens w v → Happens (moved f w) (moved f v)
  happens_moved w v H = record {
    place = H.place;
    component = moved_component f H.component;
    thing = H.thing;
    first = first_due_moved w ∙ H.first;
    there = slice_get-map (moved_component f) w.components H.place ∙ ap (option_map (moved_component f)) H.there;
    due = ap (λ (s : Seen). due_in s (moved_component f H.component)) (seen_moved f w.headers) ∙ (due_moved (seen w.headers) H.component ∙ H.due);
    after = ap (moved f) H.after ∙ sym (happened_moved H.place H.component H.thing w);
  }

  times_moved : (n : ℕ) (w v : World) → HappenTimes n w v → HappenTimes n (moved f w) (moved f v)
  times_moved zero w v e = ap (moved f) e
  times_moved (suc n) w v (mid, before, last) = (moved f mid, times_moved n w mid before, happens_moved mid v last)

  -- The close-out goes the same way.
  pub moved_closes : (w v : World) → ClosesTo w v → ClosesTo (moved f w) (moved f v)
  moved_closes w v C = record { steps = C.steps; by_steps = times_moved C.steps w v C.by_steps; closed = first_due_moved v ∙ C.closed }

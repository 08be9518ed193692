-- How many of a component's notes tell a step's fault: no act but a step that fails adds one.
use Rattle.std.proofs.Common.{◌≡◌, ℕ, ◌+◌, ◌≤◌, Bool, true, false, not, ◌||◌, if◌then◌else◌, List, [], ◌∷◌, ◌++◌, set, drop, slice_get, count_by, Option, Some, None, refl, sym, ◌∙◌, ap, arith}
use Rattle.std.proofs.lemmas.List.Sums.{sum_by-append, sum_by-cons, sum_by-take-drop}
use Rattle.omx_types.specs.declared.command.Command.{Command}
use Rattle.omx_types.specs.declared.command.Command.TheVariants as commands
use Rattle.omx_types.specs.declared.command.Completion.TheVariants as completions
use Rattle.omx_types.specs.declared.command.Event.{Event}
use Rattle.omx_types.specs.declared.command.Event.TheVariants as events
use Rattle.omx_types.specs.declared.command.Note.{Note}
use Rattle.omx_types.specs.declared.command.Note.TheVariants.{Told}
use Rattle.omx_types.specs.declared.error.OmxError.{OmxError}
use Rattle.omx_types.specs.declared.error.OmxError.TheVariants as errors
use Rattle.omx_types.specs.declared.state.State.{State}
use Rattle.omx_types.specs.declared.state.State.TheVariants as states
use Rattle.il_machine.specs.declared.answer.Cause.TheVariants as causes
use Rattle.il_machine.specs.declared.answer.Pending.{Pending}
use Rattle.il_machine.specs.declared.port.Mark.{Mark}
use Rattle.il_machine.specs.declared.port.Mode.{Mode}
use Rattle.il_machine.specs.declared.port.Mode.TheVariants as modes
use Rattle.il_machine.specs.declared.port.Port.{Port}
use Rattle.il_machine.specs.declared.port.PortState.{PortState}
use Rattle.il_machine.specs.Claims.{CarriedHeader}
use Rattle.il_machine.specs.Commands.{begun, carried_out, invalidated, is_at_once, run_front, sent, state_fault}
use Rattle.il_machine.specs.Due.{Flush, PortMode, Thing, Transition, WaitingMark, all_given_back, all_told, arrived, arrived_at, at_port, completed, completed_for, flush_happened, happened, lost, lost_by, mark_happened, mode_completion, mode_happened, reached, restarted, transition_happened, with_part}
use Rattle.il_machine.specs.Finishing.{Again, Landing, Noted, Onward, end_note, is_an_input, landing, landing_note, mark_note, notes_of_header, notes_of_headers, tells_end, tells_mark}
use Rattle.il_machine.specs.Flow.{done_note}
use Rattle.il_machine.specs.Look.{Look}
use Rattle.il_machine.specs.Room.{events_in, is_by_client, is_event, used}
use Rattle.il_machine.specs.States.{is_down}
use Rattle.il_machine.specs.Stepping.{WorkDone}
use Rattle.il_machine.specs.World.{Component, Stream, World, noted, port_of, told, with_port}
use Rattle.machine_laws.proofs.Finding.{either}
use Rattle.machine_laws.proofs.Pairs.{set_same}
use Rattle.machine_laws.proofs.Rooms.{costs_same}
use Rattle.read_world_laws.specs.Mended.{is_fault, mended, without_faults}
use Rattle.read_world_laws.proofs.Calls.{fault_tells}

abbrev pub faults_in : List Note → ℕ
faults_in notes = count_by is_fault notes

abbrev pub one_if : Bool → ℕ
one_if b = if b then 1 else 0

-- ---- lists

pub faults_cons : (n : Note) (notes : List Note) → faults_in (n ∷ notes) ≡ one_if (is_fault n) + faults_in notes
faults_cons n notes = sum_by-cons (λ (y : Note). one_if (is_fault y)) n notes

pub faults_append : (xs ys : List Note) → faults_in (xs ++ ys) ≡ faults_in xs + faults_in ys
faults_append xs ys = sum_by-append (λ (y : Note). one_if (is_fault y)) xs ys

pub no_fault : (n : Note) → is_fault n ≡ false → faults_in (n ∷ []) ≡ 0
no_fault n f =
    let a = faults_cons n [] in
    let b : one_if (is_fault n) ≡ 0 = ap one_if f in
    let z : faults_in [] ≡ 0 = refl in
    omega (arith, a, b, z)

pub faults_drop : (i : ℕ) (notes : List Note) → faults_in (drop i notes) ≤ faults_in notes
faults_drop i notes = let e = sum_by-take-drop (λ (y : Note). one_if (is_fault y)) notes i in omega arith

-- ---- room

at_most_one : (b : Bool) → one_if b ≤ 1
at_most_one true = omega arith
at_most_one false = omega arith

pub events_more : (notes : List Note) → events_in notes ≤ events_in (without_faults notes) + faults_in notes
events_more [] = omega arith
events_more (n ∷ notes) =
    let r = events_more notes in
    let f = faults_cons n notes in
    let a : events_in (n ∷ notes) ≡ one_if (is_event n) + events_in notes = sum_by-cons (λ (y : Note). one_if (is_event y)) n notes in
    let b : events_in (n ∷ without_faults notes) ≡ one_if (is_event n) + events_in (without_faults notes) = sum_by-cons (λ (y : Note). one_if (is_event y)) n (without_faults notes) in
    let one = at_most_one (is_event n) in
    either (is_fault n)
    (λ t.
    let g : events_in (without_faults (n ∷ notes)) ≡ events_in (without_faults notes) = ap (λ (q : Bool). events_in (if q then without_faults notes else n ∷ without_faults notes)) t in
    let h : one_if (is_fault n) ≡ 1 = ap one_if t in
    omega (arith, r, f, a, one, g, h))
    (λ t.
    let g : events_in (without_faults (n ∷ notes)) ≡ events_in (n ∷ without_faults notes) = ap (λ (q : Bool). events_in (if q then without_faults notes else n ∷ without_faults notes)) t in
    omega (arith, r, f, a, b, g))

-- a fault's note takes a place
pub used_more : (c : Component) → used c ≤ used (mended c) + faults_in c.notes
used_more c =
    let k = costs_same c (mended c) c.commands refl in
    let e = events_more c.notes in
    omega (arith, k)

-- ---- what a component becomes, but by a step that fails

-- no fault of it is told, and its part fails no more than before
pub record IsAsWell (c d : Component) : Type 0 where
  pub failed : d.part.failed ≡ c.part.failed
  pub faults : faults_in d.notes ≤ faults_in c.notes

pub well_itself : (c : Component) → IsAsWell c c
well_itself c = record { failed = refl; faults = omega arith }

pub well_through : (c d e : Component) → IsAsWell c d → IsAsWell d e → IsAsWell c e
well_through c d e A B = record { failed = B.failed ∙ A.failed; faults = let a = A.faults in let b = B.faults in omega (arith, a, b) }

-- its notes and its part stay
pub well_beside : (c d : Component) → d.part.failed ≡ c.part.failed → d.notes ≡ c.notes → IsAsWell c d
well_beside c d f n = record { failed = f; faults = let e = ap faults_in n in omega (arith, e) }

-- a note comes behind the others
pub well_noted : (c : Component) (n : Note) → is_fault n ≡ false → IsAsWell c (noted n c)
well_noted c n f = record { failed = refl; faults = let a = faults_append c.notes (n ∷ []) in let b = no_fault n f in omega (arith, a, b) }

pub well_told : (c : Component) (event : Event) → is_fault (Told event) ≡ false → IsAsWell c (told event c)
well_told c event f = well_noted c (Told event) f

-- ---- commands

well_begun : (o : Option OmxError) → ((e : OmxError) → o ≡ Some e → is_fault (Told (events.Error e)) ≡ false) → (c : Component) (target : State) → IsAsWell c (begun o target c)
well_begun None h c target = well_beside c (begun None target c) refl refl
well_begun (Some error) h c target = well_told c (events.Error error) (h error refl)

well_carried : (l : Look) (command : Command) (c : Component) → IsAsWell c (carried_out l command c)
well_carried l (commands.StateSet target) c = well_begun (state_fault l c target) (fault_tells l c target) c target
well_carried l (commands.Flush sel) c = well_beside c (carried_out l (commands.Flush sel) c) refl refl
well_carried l (commands.PortDisable sel) c = well_beside c (carried_out l (commands.PortDisable sel) c) refl refl
well_carried l (commands.PortEnable sel) c = well_beside c (carried_out l (commands.PortEnable sel) c) refl refl
well_carried l (commands.MarkBuffer port target value) c = well_beside c (carried_out l (commands.MarkBuffer port target value) c) refl refl

pub well_run : (l : Look) (cs : List Command) (c : Component) → IsAsWell c (run_front l cs c)
well_run l [] c = well_itself c
well_run l (command ∷ rest) c =
    let d : Component = record c { commands = rest } in
    well_through c d (carried_out l command d) (well_beside c d refl refl) (well_carried l command d)

pub well_sent : (command : Command) (c : Component) → IsAsWell c (sent command c)
well_sent command c = either (is_at_once command)
    (λ t. rw t (well_through c (invalidated c) (told (events.Error errors.InvalidState) (invalidated c)) (well_beside c (invalidated c) refl refl) (well_told (invalidated c) (events.Error errors.InvalidState) refl)))
    (λ t. rw t (well_beside c (record c { commands = c.commands ++ command ∷ [] }) refl refl))

-- ---- the close-out

well_completed : (target : State) (c : Component) → IsAsWell c (completed target c)
well_completed target c = well_told c (events.CmdComplete (completions.State target)) refl

well_completed_for : (p : Pending) (c : Component) → IsAsWell c (completed_for p c)
well_completed_for p c = either (is_by_client p.cause) (λ t. rw t (well_completed p.target c)) (λ t. rw t (well_itself c))

well_lost : (c : Component) → IsAsWell c (lost c)
well_lost c =
    let d : Component = record c { loss_mark = false; pending = Some (record { target = states.Loaded; cause = causes.Loss }) } in
    well_through c d (lost c) (well_beside c d refl refl) (well_told d (events.Error errors.ResourcesLost) refl)

well_lost_by : (p : Pending) (c : Component) → IsAsWell c (lost_by p c)
well_lost_by p c = either (c.loss_mark || not (is_by_client p.cause)) (λ t. rw t (well_lost c)) (λ t. rw t (well_itself c))

well_reached : (p : Pending) (c : Component) → IsAsWell c (reached p c)
well_reached p c = well_beside c (reached p c) refl refl

well_arrived : (number : ℕ) (s : State) (p : Pending) (c : Component) → IsAsWell c (arrived_at number s p c)
well_arrived number states.Idle p c =
    let r : Component = reached p c in
    let t : Component = with_part (restarted c) r in
    either (is_down c.state)
    (λ d. rw d (well_through c r (completed states.Idle r) (well_reached p c) (well_completed states.Idle r)))
    (λ d. rw d (well_through c t (lost_by p (completed_for p t)) (well_beside c t refl refl) (well_through t (completed_for p t) (lost_by p (completed_for p t)) (well_completed_for p t) (well_lost_by p (completed_for p t)))))
well_arrived number states.Loaded p c =
    let d : Component = all_given_back (reached p c) in
    well_through c d (completed_for p d) (well_beside c d refl refl) (well_completed_for p d)
well_arrived number states.WaitForResources p c =
    let d : Component = record (reached p c) { waiting = Some number } in
    well_through c d (completed states.WaitForResources d) (well_beside c d refl refl) (well_completed states.WaitForResources d)
well_arrived number states.Executing p c = well_through c (reached p c) (completed states.Executing (reached p c)) (well_reached p c) (well_completed states.Executing (reached p c))
well_arrived number states.Pause p c = well_through c (reached p c) (completed states.Pause (reached p c)) (well_reached p c) (well_completed states.Pause (reached p c))
well_arrived number states.Invalid p c = well_through c (reached p c) (completed states.Invalid (reached p c)) (well_reached p c) (well_completed states.Invalid (reached p c))

well_mode : (m : Mode) (n : ℕ) (c : Component) → IsAsWell c (all_told (mode_completion m n) c)
well_mode modes.Steady n c = well_itself c
well_mode modes.Enabling n c = well_told c (events.CmdComplete (completions.Enable n)) refl
well_mode modes.Disabling n c = well_told c (events.CmdComplete (completions.Disable n)) refl

-- one component is changed, and is as well as before
abbrev pub IsWellSet : ℕ → Component → World → World → Type 0
IsWellSet i c w v = (d : Component) × (v.components ≡ set w.components i d) × IsAsWell c d

module _ (i : ℕ) (c : Component) (w : World) (e : slice_get w.components i ≡ Some c) where
  well_same : IsWellSet i c w w
  well_same = (c, sym (set_same w.components i c e), well_itself c)

  well_transition : (o : Option Pending) → IsWellSet i c w (transition_happened i c o w)
  well_transition None = well_same
  well_transition (Some p) = (arrived w.waits p c, refl, well_arrived w.waits p.target p c)

  well_port : (o : Option Port) (f : Port → World → World) → ((p : Port) → IsWellSet i c w (f p w)) → IsWellSet i c w (at_port o f w)
  well_port None f h = well_same
  well_port (Some p) f h = h p

  well_event : (n : ℕ) (s : PortState) (event : Event) → is_fault (Told event) ≡ false → IsAsWell c (told event (with_port n s c))
  well_event n s event f = well_through c (with_port n s c) (told event (with_port n s c)) (well_beside c (with_port n s c) refl refl) (well_told (with_port n s c) event f)

  pub well_happened : (thing : Thing) → IsWellSet i c w (happened i c thing w)
  well_happened Transition = well_transition c.pending
  well_happened (Flush port) = well_port (port_of c port) (flush_happened i c) (λ p. (
    told (events.CmdComplete (completions.Flush p.key.port)) (with_port p.key.port (record p.state { flushing = false }) c),
    refl,
    well_event p.key.port (record p.state { flushing = false }) (events.CmdComplete (completions.Flush p.key.port)) refl,
  ))
  well_happened (PortMode port) = well_port (port_of c port) (mode_happened i c) (λ p.
      let d : Component = with_port p.key.port (record p.state { mode = modes.Steady }) c in
      (all_told (mode_completion p.state.mode p.key.port) d, refl, well_through c d (all_told (mode_completion p.state.mode p.key.port) d) (well_beside c d refl refl) (well_mode p.state.mode p.key.port d)))
  well_happened (WaitingMark port) = well_port (port_of c port) (mark_happened i c) (λ p. (
    told (events.CmdComplete (completions.Mark p.key.port)) (with_port p.key.port (record p.state { waiting_mark = None }) c),
    refl,
    well_event p.key.port (record p.state { waiting_mark = None }) (events.CmdComplete (completions.Mark p.key.port)) refl,
  ))

-- ---- a work comes back

pub done_note_well : (b : Bool) (n : ℕ) → is_fault (done_note b n) ≡ false
done_note_well true n = refl
done_note_well false n = refl

module _ (c : Component) (s : Stream) (done : WorkDone) where
  mark_well : (o : Option Mark) → faults_in (mark_note o) ≡ 0
  mark_well None = refl
  mark_well (Some mark) = refl

  landing_well : (l : Landing) (x : CarriedHeader) → faults_in (landing_note l c x) ≡ 0
  landing_well Again x = refl
  landing_well Onward x = refl
  landing_well Noted x = no_fault (done_note (is_an_input c x) x.header.number) (done_note_well (is_an_input c x) x.header.number)

  told_mark_well : (b : Bool) (o : Option Mark) → faults_in (if b then mark_note o else []) ≡ 0
  told_mark_well true o = mark_well o
  told_mark_well false o = refl

  header_well : (x : CarriedHeader) → faults_in (notes_of_header c s done x) ≡ 0
  header_well x =
      let a = faults_append (if tells_mark c s done x then mark_note x.header.mark else []) (landing_note (landing c s done x) c x) in
      let b = told_mark_well (tells_mark c s done x) x.header.mark in
      let d = landing_well (landing c s done x) x in
      omega (arith, a, b, d)

  headers_well : (xs : List CarriedHeader) → faults_in (notes_of_headers c s done xs) ≡ 0
  headers_well [] = refl
  headers_well (x ∷ xs) =
      let a = faults_append (notes_of_header c s done x) (notes_of_headers c s done xs) in
      let b = header_well x in
      let d = headers_well xs in
      omega (arith, a, b, d)

  end_well : (b : Bool) → faults_in (end_note b) ≡ 0
  end_well true = refl
  end_well false = refl

  -- before its fault's note no fault is told
  pub step_faults : (more : List Note) → faults_in (notes_of_headers c s done done.headers ++ end_note (tells_end c done) ++ more) ≡ faults_in more
  step_faults more =
      let a = faults_append (notes_of_headers c s done done.headers ++ end_note (tells_end c done)) more in
      let b = faults_append (notes_of_headers c s done done.headers) (end_note (tells_end c done)) in
      let d = headers_well done.headers in
      let e = end_well (tells_end c done) in
      omega (arith, a, b, d, e)

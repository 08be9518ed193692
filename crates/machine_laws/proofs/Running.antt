-- A component whose first command was carried out: the command's places become those of what it begins.
use Rattle.std.proofs.Common.{◌≡◌, ℕ, suc, ◌+◌, ◌<◌, ◌≤◌, Bool, true, false, not, ◌&&◌, ◌||◌, nat_eq, nat_lt, List, [], ◌∷◌, length, map, sum_by, if◌then◌else◌, Option, Some, None, refl, sym, ◌∙◌, ap, eqb-true, ne_eqb, ltb-false, arith}
use Rattle.std.proofs.lemmas.List.Elements.{All-nil, All-cons, All-head, All-tail}
use Rattle.std.proofs.lemmas.List.Sums.{sum_by-cons}
use Rattle.omx_types.specs.declared.state.State.{State}
use Rattle.omx_types.specs.declared.state.State.TheVariants as states
use Rattle.omx_types.specs.declared.handle.Handle.{Handle}
use Rattle.omx_types.specs.declared.command.Command.{Command}
use Rattle.omx_types.specs.declared.command.Command.TheVariants as commands
use Rattle.omx_types.specs.declared.command.PortSel.{PortSel}
use Rattle.omx_types.specs.declared.command.PortSel.TheVariants as sels
use Rattle.omx_types.specs.declared.command.Event.TheVariants.{Error}
use Rattle.omx_types.specs.declared.error.OmxError.{OmxError}
use Rattle.il_machine.specs.declared.answer.Pending.{Pending}
use Rattle.il_machine.specs.declared.answer.Cause.TheVariants as causes
use Rattle.il_machine.specs.declared.port.PortSetting.{PortSetting}
use Rattle.il_machine.specs.declared.port.PortState.{PortState}
use Rattle.il_machine.specs.States.{same_state, is_lawful, is_loaded, is_running, is_up}
use Rattle.il_machine.specs.Look.{Look}
use Rattle.il_machine.specs.World.{Component, Work, ports_from, ports_of, number_of, told}
use Rattle.il_machine.specs.Headers.{weight}
use Rattle.il_machine.specs.Ports.{is_going_to}
use Rattle.il_machine.specs.Room.{cost_of, sel_cost, port_reserve, used}
use Rattle.il_machine.specs.Commands.{is_selected, busy_port, is_flushing, is_changing, is_waiting, pending_reason, run_reason, run_idle, state_fault, begun, selected_from, with_selected, flushing, disabling, enabling, awaiting_mark, carried_out, run_front}
use Rattle.il_machine.specs.Settings.{fits}
use Rattle.il_machine.specs.Units.{need_of, free_units}
use Rattle.il_machine.specs.Sound.{IsSound, IsUnitSound, is_fit, may_work}
use Rattle.machine_laws.proofs.Finding.{either}
use Rattle.machine_laws.specs.Changes.{IsChange, link_of}
use Rattle.machine_laws.proofs.Change.{change_none, change_twice}
use Rattle.machine_laws.proofs.Rooms.{costs, asked, loss, costs_same, used_told, IsLawful, lawful_of, sound_with, lawful_told, change_told, aside_told}
use Rattle.machine_laws.proofs.Fitting.{is_loaded_or_invalid, fit_with, fit_above}
use Rattle.machine_laws.proofs.Units.{IsAside, IsFair, AreHeldIf, units_aside, fair_aside, fair_more}
use Rattle.machine_laws.proofs.Fairness.{aside_then_fair, fair_begun}
use Rattle.machine_laws.proofs.Accepting.{passed, not_not}

-- ---- the ports that a command names

length_selected : (index : ℕ) (sel : PortSel) (change : PortState → PortState) (ps : List PortState) → length (selected_from index sel change ps) ≡ length ps
length_selected index sel change [] = refl
length_selected index sel change (p ∷ ps) = ap suc (length_selected (index + 1) sel change ps)

-- the change keeps links and what is held, and takes a place at most where the test fails
record IsTaking (test : PortState → Bool) (change : PortState → PortState) : Type 0 where
  pub link : (s : PortState) → (change s).link ≡ s.link
  pub held : (s : PortState) → (change s).held ≡ s.held
  pub place : (s : PortState) → test s ≡ false → port_reserve (change s) ≤ port_reserve s + 1

links_selected : (test : PortState → Bool) (index : ℕ) (sel : PortSel) (change : PortState → PortState) (ps : List PortState) → IsTaking test change
    → map link_of (selected_from index sel change ps) ≡ map link_of ps
links_selected test index sel change [] T = refl
links_selected test index sel change (p ∷ ps) T =
    let i = links_selected test (index + 1) sel change ps T in
    let l = T.link p in
    either (is_selected sel index) (λ t. rw t cc) (λ f. rw f cc)

not_busy : (sel : PortSel) (test : PortState → Bool) (number index : ℕ) (s : PortSetting) (ss : List PortSetting) (p : PortState) (ps : List PortState)
    → busy_port sel test (ports_from number index (s ∷ ss) (p ∷ ps)) ≡ None → ((is_selected sel index && test p) ≡ false) × (busy_port sel test (ports_from number (index + 1) ss ps) ≡ None)
not_busy sel test number index s ss p ps h = either (is_selected sel index && test p) (λ t. let n = rw t at h in absurd cc) (λ f. (f, rw f at h))

places_all : (test : PortState → Bool) (change : PortState → PortState) (number index : ℕ) (ss : List PortSetting) (ps : List PortState) → IsTaking test change → length ss ≡ length ps
    → busy_port sels.All test (ports_from number index ss ps) ≡ None → sum_by port_reserve (selected_from index sels.All change ps) ≤ sum_by port_reserve ps + length ps
places_all test change number index [] [] T l h = omega arith
places_all test change number index [] (p ∷ ps) T l h = absurd (omega arith)
places_all test change number index (s ∷ ss) [] T l h = absurd (omega arith)
places_all test change number index (s ∷ ss) (p ∷ ps) T l h =
    let b = not_busy sels.All test number index s ss p ps h in
    let i = places_all test change number (index + 1) ss ps T (omega arith) b.1 in
    let a = T.place p b.0 in
    let x = sum_by-cons port_reserve (change p) (selected_from (index + 1) sels.All change ps) in
    let y = sum_by-cons port_reserve p ps in
    omega arith

places_past : (port index : ℕ) (change : PortState → PortState) (ps : List PortState) → port < index → sum_by port_reserve (selected_from index (sels.One port) change ps) ≡ sum_by port_reserve ps
places_past port index change [] l = refl
places_past port index change (p ∷ ps) l =
    let f : nat_eq index port ≡ false = ne_eqb index port (λ e. omega arith) in
    let i = places_past port (index + 1) change ps (omega arith) in
    let x = sum_by-cons port_reserve p (selected_from (index + 1) (sels.One port) change ps) in
    let y = sum_by-cons port_reserve p ps in
    rw f (omega arith)

places_one : (port : ℕ) (test : PortState → Bool) (change : PortState → PortState) (number index : ℕ) (ss : List PortSetting) (ps : List PortState) → IsTaking test change → length ss ≡ length ps
    → busy_port (sels.One port) test (ports_from number index ss ps) ≡ None → sum_by port_reserve (selected_from index (sels.One port) change ps) ≤ sum_by port_reserve ps + 1
places_one port test change number index [] [] T l h = omega arith
places_one port test change number index [] (p ∷ ps) T l h = absurd (omega arith)
places_one port test change number index (s ∷ ss) [] T l h = absurd (omega arith)
places_one port test change number index (s ∷ ss) (p ∷ ps) T l h =
    let b = not_busy (sels.One port) test number index s ss p ps h in
    let y = sum_by-cons port_reserve p ps in
    either (nat_eq index port)
    (λ t.
    let e : index ≡ port = eqb-true index port t in
    let f : test p ≡ false = rw t at b.0 in
    let a = T.place p f in
    let i = places_past port (index + 1) change ps (omega arith) in
    let x = sum_by-cons port_reserve (change p) (selected_from (index + 1) (sels.One port) change ps) in
    rw t (omega arith))
    (λ f.
    let i = places_one port test change number (index + 1) ss ps T (omega arith) b.1 in
    let x = sum_by-cons port_reserve p (selected_from (index + 1) (sels.One port) change ps) in
    rw f (omega arith))

places_selected : (sel : PortSel) (test : PortState → Bool) (change : PortState → PortState) (c : Component) → IsTaking test change → IsSound c
    → busy_port sel test (ports_of c) ≡ None → sum_by port_reserve (selected_from 0 sel change c.ports) ≤ sum_by port_reserve c.ports + sel_cost c sel
places_selected (sels.One port) test change c T S h = places_one port test change (number_of c) 0 c.settings.ports c.ports T (S.whole.ports ∙ sym S.ports) h
places_selected sels.All test change c T S h = places_all test change (number_of c) 0 c.settings.ports c.ports T (S.whole.ports ∙ sym S.ports) h

-- ---- what a command begins

used_selected : (sel : PortSel) (test : PortState → Bool) (change : PortState → PortState) (c : Component) → IsTaking test change → IsSound c
    → busy_port sel test (ports_of c) ≡ None → used (with_selected sel change c) ≤ used c + sel_cost c sel
used_selected sel test change c T S h =
    let p = places_selected sel test change c T S h in
    let l : length (selected_from 0 sel change c.ports) ≡ length c.ports = length_selected 0 sel change c.ports in
    let k : costs (with_selected sel change c) ≡ costs c = costs_same c (with_selected sel change c) c.commands l in
    omega arith

lawful_selected : (sel : PortSel) (change : PortState → PortState) (c : Component) → IsLawful c → IsLawful (with_selected sel change c)
lawful_selected sel change c L = record { whole = L.whole; ports = length_selected 0 sel change c.ports ∙ L.ports; settings = L.settings; fit = L.fit; file = L.file; cause = L.cause; mark = L.mark; commands = L.commands }

change_selected : (sel : PortSel) (test : PortState → Bool) (change : PortState → PortState) (c : Component) → IsTaking test change → IsChange c (with_selected sel change c)
change_selected sel test change c T = record { handle = refl; ports = refl; links = links_selected test 0 sel change c.ports T; notes = refl }

takes_flush : IsTaking is_flushing flushing
takes_flush = record { link = λ s. refl; held = λ s. refl; place = λ s f. let w : weight s.flushing ≡ 0 = rw f refl in omega arith }

takes_disable : IsTaking is_changing disabling
takes_disable = record { link = λ s. refl; held = λ s. refl; place = λ s f. omega arith }

takes_enable : IsTaking is_changing enabling
takes_enable = record { link = λ s. refl; held = λ s. refl; place = λ s f. omega arith }

takes_mark : (target : Handle) (value : ℕ) → IsTaking is_waiting (awaiting_mark target value)
takes_mark target value = record { link = λ s. refl; held = λ s. refl; place = λ s f. omega arith }

-- ---- the command that leaves the queue

abbrev without_front : List Command → Component → Component
without_front rest c = record c { commands = rest }

used_front : (command : Command) (rest : List Command) (c : Component) → c.commands ≡ command ∷ rest → used (without_front rest c) + cost_of c command ≡ used c
used_front command rest c e =
    let k : costs (without_front rest c) ≡ sum_by (cost_of c) rest = costs_same c (without_front rest c) rest refl in
    let s : sum_by (cost_of c) c.commands ≡ cost_of c command + sum_by (cost_of c) rest = rw e (sum_by-cons (cost_of c) command rest) in
    omega arith

lawful_front : (command : Command) (rest : List Command) (c : Component) → c.commands ≡ command ∷ rest → IsLawful c → IsLawful (without_front rest c)
lawful_front command rest c e L =
    let n : length c.commands ≡ suc (length rest) = ap length e in
    record { whole = L.whole; ports = L.ports; settings = L.settings; fit = L.fit; file = L.file; cause = L.cause; mark = L.mark; commands = omega (arith, L.commands) }

change_front : (rest : List Command) (c : Component) → IsChange c (without_front rest c)
change_front rest c = record { handle = refl; ports = refl; links = refl; notes = refl }

no_such : (b : Bool) → (b && false) ≡ true → ⊥
no_such true h = cc
no_such false h = cc

no_loss : (b : Bool) → weight (b && (false || false)) ≡ 0
no_loss true = refl
no_loss false = refl

sel_front : (sel : PortSel) (rest : List Command) (c : Component) → sel_cost (without_front rest c) sel ≡ sel_cost c sel
sel_front (sels.One port) rest c = refl
sel_front sels.All rest c = refl

no_pending : (o : Option Pending) → pending_reason o ≡ None → o ≡ None
no_pending None h = refl
no_pending (Some p) h = absurd cc

unlawful : (t : State) → is_lawful states.Invalid t ≡ true → ⊥
unlawful t h = cc

-- a transition that isn't refused begins with formats that fit
begins_fit : (l : Look) (c : Component) (target : State) → is_fit c ≡ true → state_fault l c target ≡ None → fits c.settings ≡ true
begins_fit l c target h f =
    let a = passed (same_state c.state target) _ _ f in
    let b = passed (not (is_lawful c.state target)) _ _ a.1 in
    let d = passed (is_loaded c.state && not (fits c.settings)) _ _ b.1 in
    either (fits c.settings) (λ t. t) (λ n.
    let r : (is_loaded c.state && true) ≡ false = rw n at d.0 in
    fit_above c h (neither c.state r (not_not (is_lawful c.state target) b.0)))
  where
    neither : (s : State) → (is_loaded s && true) ≡ false → is_lawful s target ≡ true → is_loaded_or_invalid s ≡ false
    neither states.Invalid r w = absurd (unlawful target w)
    neither states.Loaded r w = absurd cc
    neither states.Idle r w = refl
    neither states.Executing r w = refl
    neither states.Pause r w = refl
    neither states.WaitForResources r w = refl

sound_begun : (fault : Option OmxError) (target : State) (c : Component) → IsLawful c → c.pending ≡ None → (fault ≡ None → fits c.settings ≡ true) → used c + 1 ≤ 256 → IsSound (begun fault target c)
sound_begun (Some error) target c L e f u =
    let t = used_told (Error error) c in
    sound_with (told (Error error) c) (lawful_told (Error error) c L) (omega arith)
sound_begun None target c L e f u =
    let p : Pending = record { target = target; cause = causes.Client } in
    let d : Component = record c { pending = Some p; holds = c.holds || same_state target states.Idle } in
    let a : asked c ≡ 0 = rw e refl in
    let m : c.loss_mark ≡ false = either c.loss_mark (λ t. let g = L.mark t in let z : (is_running c.state && false) ≡ true = rw e at g in absurd (no_such (is_running c.state) z)) (λ f. f) in
    let l : loss d ≡ 0 = rw m (no_loss (is_going_to states.Idle d)) in
    let k : costs d ≡ costs c = costs_same c d c.commands refl in
    sound_with d (record {
      whole = L.whole;
      ports = L.ports;
      settings = L.settings;
      fit = fit_with d (f refl);
      file = L.file;
      cause = λ q g. let s : p ≡ q = cc in rw (← s) refl;
      mark = λ t. absurd cc;
      commands = L.commands;
    }) (omega arith)

change_begun : (fault : Option OmxError) (target : State) (c : Component) → IsChange c (begun fault target c)
change_begun (Some error) target c = change_told (Error error) c
change_begun None target c = record { handle = refl; ports = refl; links = refl; notes = refl }

sound_taking : (sel : PortSel) (test : PortState → Bool) (change : PortState → PortState) (c : Component) → IsTaking test change → IsSound c
    → busy_port sel test (ports_of c) ≡ None → used c + sel_cost c sel ≤ 256 → IsSound (with_selected sel change c)
sound_taking sel test change c T S h u = let v = used_selected sel test change c T S h in sound_with (with_selected sel change c) (lawful_selected sel change c (lawful_of c S)) (omega arith)

sound_carried : (l : Look) (command : Command) (rest : List Command) (c : Component) → IsSound c → c.commands ≡ command ∷ rest → run_reason c command ≡ None → IsSound (carried_out l command (without_front rest c))
sound_carried l (commands.StateSet target) rest c S e h =
    let u = used_front (commands.StateSet target) rest c e in
    sound_begun (state_fault l (without_front rest c) target) target (without_front rest c) (lawful_front (commands.StateSet target) rest c e (lawful_of c S)) (no_pending c.pending h)
    (begins_fit l (without_front rest c) target S.fit) (omega (arith, S.room))
sound_carried l (commands.Flush sel) rest c S e h =
    let u = used_front (commands.Flush sel) rest c e in
    let F = sound_with (without_front rest c) (lawful_front (commands.Flush sel) rest c e (lawful_of c S)) (omega (arith, S.room)) in
    sound_taking sel is_flushing flushing (without_front rest c) takes_flush F h (omega (arith, S.room, sel_front sel rest c))
sound_carried l (commands.PortDisable sel) rest c S e h =
    let u = used_front (commands.PortDisable sel) rest c e in
    let F = sound_with (without_front rest c) (lawful_front (commands.PortDisable sel) rest c e (lawful_of c S)) (omega (arith, S.room)) in
    sound_taking sel is_changing disabling (without_front rest c) takes_disable F h (omega (arith, S.room, sel_front sel rest c))
sound_carried l (commands.PortEnable sel) rest c S e h =
    let u = used_front (commands.PortEnable sel) rest c e in
    let F = sound_with (without_front rest c) (lawful_front (commands.PortEnable sel) rest c e (lawful_of c S)) (omega (arith, S.room)) in
    sound_taking sel is_changing enabling (without_front rest c) takes_enable F h (omega (arith, S.room, sel_front sel rest c))
sound_carried l (commands.MarkBuffer port target value) rest c S e h =
    let u = used_front (commands.MarkBuffer port target value) rest c e in
    let F = sound_with (without_front rest c) (lawful_front (commands.MarkBuffer port target value) rest c e (lawful_of c S)) (omega (arith, S.room)) in
    sound_taking (sels.One port) is_waiting (awaiting_mark target value) (without_front rest c) (takes_mark target value) F h (omega (arith, S.room))

change_carried : (l : Look) (command : Command) (c : Component) → IsChange c (carried_out l command c)
change_carried l (commands.StateSet target) c = change_begun (state_fault l c target) target c
change_carried l (commands.Flush sel) c = change_selected sel is_flushing flushing c takes_flush
change_carried l (commands.PortDisable sel) c = change_selected sel is_changing disabling c takes_disable
change_carried l (commands.PortEnable sel) c = change_selected sel is_changing enabling c takes_enable
change_carried l (commands.MarkBuffer port target value) c = change_selected (sels.One port) is_waiting (awaiting_mark target value) c (takes_mark target value)

run_of : (l : Look) (xs : List Command) (c : Component) → IsSound c → c.commands ≡ xs → run_idle c xs ≡ None → IsSound (run_front l xs c)
run_of l [] c S e h = absurd cc
run_of l (command ∷ rest) c S e h = sound_carried l command rest c S e h

pub sound_run : (l : Look) (c : Component) → IsSound c → run_idle c c.commands ≡ None → IsSound (run_front l c.commands c)
sound_run l c S h = run_of l c.commands c S refl h

change_of_run : (l : Look) (xs : List Command) (c : Component) → IsChange c (run_front l xs c)
change_of_run l [] c = change_none c
change_of_run l (command ∷ rest) c = change_twice c (without_front rest c) (carried_out l command (without_front rest c)) (change_front rest c) (change_carried l command (without_front rest c))

pub change_run : (l : Look) (c : Component) → IsChange c (run_front l c.commands c)
change_run l c = change_of_run l c.commands c

-- ---- its units and its work

held_selected : (busy : PortState → Bool) (late : Bool) (index : ℕ) (sel : PortSel) (change : PortState → PortState) (ps : List PortState) → IsTaking busy change
    → AreHeldIf late ps → AreHeldIf late (selected_from index sel change ps)
held_selected busy late index sel change [] T A = All-nil (λ p. p.held ≡ true → late ≡ true)
held_selected busy late index sel change (p ∷ ps) T A =
    let a : p.held ≡ true → late ≡ true = All-head (λ q. q.held ≡ true → late ≡ true) p ps A in
    let i = held_selected busy late (index + 1) sel change ps T (All-tail (λ q. q.held ≡ true → late ≡ true) p ps A) in
    let b : (if is_selected sel index then change p else p).held ≡ true → late ≡ true = either (is_selected sel index)
    (λ t. let s : (if is_selected sel index then change p else p) ≡ change p = rw t refl in λ h. a (sym (T.held p) ∙ (ap (λ (q : PortState). q.held) (sym s) ∙ h)))
    (λ f. let s : (if is_selected sel index then change p else p) ≡ p = rw f refl in λ h. a (ap (λ (q : PortState). q.held) (sym s) ∙ h)) in
    All-cons (λ q. q.held ≡ true → late ≡ true) (if is_selected sel index then change p else p) (selected_from (index + 1) sel change ps) b i

aside_selected : (sel : PortSel) (test : PortState → Bool) (change : PortState → PortState) (c : Component) → IsTaking test change → IsAside c (with_selected sel change c)
aside_selected sel test change c T = record {
  keeps = record { kind = refl; weights = refl; count = length_selected 0 sel change c.ports; work = refl };
  state = refl;
  pending = refl;
  holds = refl;
  waiting = refl;
  part = refl;
  held = λ late A. held_selected test late 0 sel change c.ports T A;
}

aside_front : (rest : List Command) (c : Component) → IsAside c (without_front rest c)
aside_front rest c = record { keeps = record { kind = refl; weights = refl; count = refl; work = refl }; state = refl; pending = refl; holds = refl; waiting = refl; part = refl; held = λ test h. h }

-- a transition without a fault is lawful
lawful_target : (l : Look) (c : Component) (target : State) → state_fault l c target ≡ None → is_lawful c.state target ≡ true
lawful_target l c target h =
    let a = passed (same_state c.state target) _ _ h in
    not_not (is_lawful c.state target) (passed (not (is_lawful c.state target)) _ _ a.1).0

-- the lawful way to Idle from a state that isn't up begins in Loaded
from_loaded : (s t : State) → is_lawful s t ≡ true → same_state t states.Idle ≡ true → is_up s ≡ false → is_loaded s ≡ true
from_loaded s states.Invalid l i u = absurd cc
from_loaded s states.Loaded l i u = absurd cc
from_loaded s states.Executing l i u = absurd cc
from_loaded s states.Pause l i u = absurd cc
from_loaded s states.WaitForResources l i u = absurd cc
from_loaded states.Invalid states.Idle l i u = absurd cc
from_loaded states.Loaded states.Idle l i u = refl
from_loaded states.Idle states.Idle l i u = absurd cc
from_loaded states.Executing states.Idle l i u = absurd cc
from_loaded states.Pause states.Idle l i u = absurd cc
from_loaded states.WaitForResources states.Idle l i u = absurd cc

-- so the units that are taken are free
units_spare : (l : Look) (target : State) (waits : ℕ) (c : Component) → state_fault l c target ≡ None → IsUnitSound waits c → c.holds ≡ false → same_state target states.Idle ≡ true → need_of c ≤ free_units l
units_spare l target waits c h U z i =
    let a = passed (same_state c.state target) _ _ h in
    let b = passed (not (is_lawful c.state target)) _ _ a.1 in
    let d = passed (is_loaded c.state && not (fits c.settings)) _ _ b.1 in
    let e = (passed (is_loaded c.state && same_state target states.Idle && nat_lt (free_units l) (need_of c)) _ _ d.1).0 in
    let u : is_up c.state ≡ false = either (is_up c.state) (λ t. let x = U.holds (rw t refl) in absurd cc) (λ f. f) in
    let s = from_loaded c.state target (not_not (is_lawful c.state target) b.0) i u in
    let g : nat_lt (free_units l) (need_of c) ≡ false = rw (s, i) at e in
    ltb-false (free_units l) (need_of c) g

fair_started : (l : Look) (fault : Option OmxError) (target : State) (waits : ℕ) (c : Component) → state_fault l c target ≡ fault → IsUnitSound waits c → c.pending ≡ None
    → ((work : Work) → c.work ≡ Some work → may_work c ≡ true) → IsFair (free_units l) waits waits c (begun fault target c)
fair_started l (Some error) target waits c h U e m = fair_more (free_units l) waits waits c (told (Error error) c) (fair_aside waits c (told (Error error) c) (aside_told (Error error) c) U m)
fair_started l None target waits c h U e m = fair_begun (free_units l) waits (record { target = target; cause = causes.Client }) c U e (lawful_target l c target h) (units_spare l target waits c h U) m

fair_taking : (l : Look) (sel : PortSel) (test : PortState → Bool) (change : PortState → PortState) (waits : ℕ) (c : Component) → IsTaking test change → IsUnitSound waits c
    → ((work : Work) → c.work ≡ Some work → may_work c ≡ true) → IsFair (free_units l) waits waits c (with_selected sel change c)
fair_taking l sel test change waits c T U m =
    fair_more (free_units l) waits waits c (with_selected sel change c) (fair_aside waits c (with_selected sel change c) (aside_selected sel test change c T) U m)

fair_carried : (l : Look) (command : Command) (waits : ℕ) (c : Component) → IsUnitSound waits c → ((work : Work) → c.work ≡ Some work → may_work c ≡ true) → run_reason c command ≡ None
    → IsFair (free_units l) waits waits c (carried_out l command c)
fair_carried l (commands.StateSet target) waits c U m h = fair_started l (state_fault l c target) target waits c refl U (no_pending c.pending h) m
fair_carried l (commands.Flush sel) waits c U m h = fair_taking l sel is_flushing flushing waits c takes_flush U m
fair_carried l (commands.PortDisable sel) waits c U m h = fair_taking l sel is_changing disabling waits c takes_disable U m
fair_carried l (commands.PortEnable sel) waits c U m h = fair_taking l sel is_changing enabling waits c takes_enable U m
fair_carried l (commands.MarkBuffer port target value) waits c U m h = fair_taking l (sels.One port) is_waiting (awaiting_mark target value) waits c (takes_mark target value) U m

reason_front : (command : Command) (rest : List Command) (c : Component) → run_reason c command ≡ None → run_reason (without_front rest c) command ≡ None
reason_front (commands.StateSet target) rest c h = h
reason_front (commands.Flush sel) rest c h = h
reason_front (commands.PortDisable sel) rest c h = h
reason_front (commands.PortEnable sel) rest c h = h
reason_front (commands.MarkBuffer port target value) rest c h = h

fair_of_run : (l : Look) (xs : List Command) (waits : ℕ) (c : Component) → IsUnitSound waits c → ((work : Work) → c.work ≡ Some work → may_work c ≡ true) → run_idle c xs ≡ None → IsFair (free_units l) waits waits c (run_front l xs c)
fair_of_run l [] waits c U m h = absurd cc
fair_of_run l (command ∷ rest) waits c U m h =
    let d : Component = without_front rest c in
    let A = aside_front rest c in
    aside_then_fair (free_units l) waits waits c d (carried_out l command d) A (fair_carried l command waits d (units_aside waits c d A U) m (reason_front command rest c h))

pub fair_run : (l : Look) (waits : ℕ) (c : Component) → IsUnitSound waits c → ((work : Work) → c.work ≡ Some work → may_work c ≡ true) → run_idle c c.commands ≡ None → IsFair (free_units l) waits waits c (run_front l c.commands c)
fair_run l waits c U m h = fair_of_run l c.commands waits c U m h

-- A command that is carried out in a closed graph takes no number that there isn't.
use Rattle.std.proofs.Common.{◌≡◌, ℕ, ◌+◌, ◌≤◌, Bool, true, false, not, ◌&&◌, List, [], ◌∷◌, ◌++◌, if◌then◌else◌, set, slice_get, nat_eq, nat_lt, get_or, Option, Some, None, refl, ap, arith}
use Rattle.std.proofs.lemmas.Bool.Decides.{nat_tests}
use Rattle.std.proofs.lemmas.Option.{slice_get_within, get_or_from_slice_get}
use Rattle.std.proofs.lemmas.List.Sums.{sum_by-set, get_or-le-sum_by}
use Rattle.omx_types.specs.declared.command.Command.{Command}
use Rattle.omx_types.specs.declared.command.Command.TheVariants as commands
use Rattle.omx_types.specs.declared.command.Event.TheVariants.{Error}
use Rattle.omx_types.specs.declared.error.OmxError.{OmxError}
use Rattle.omx_types.specs.declared.state.State.{State}
use Rattle.omx_types.specs.declared.state.State.TheVariants.{Idle, WaitForResources}
use Rattle.omx_types.specs.declared.error.OmxError.TheVariants as errors
use Rattle.il_machine.specs.States.{same_state, is_lawful, is_loaded}
use Rattle.il_machine.specs.Settings.{fits}
use Rattle.il_machine.specs.Lists.{first_of_these}
use Rattle.il_machine.specs.Units.{units_of, free_units}
use Rattle.il_machine.specs.Headers.{weight}
use Rattle.il_machine.specs.Look.{Look}
use Rattle.il_machine.specs.Ports.{is_going_to}
use Rattle.il_machine.specs.Due.{first_due}
use Rattle.il_machine.specs.World.{Component, told}
use Rattle.il_machine.specs.Commands.{begun, state_fault, carried_out, run_front, has_no_wait, sent, invalidated, is_at_once}
use Rattle.il_component.specs.Entries.{Entry, component_of}
use Rattle.graph_core.specs.Entries.{Entries, look_of, waits_next, waiters}
use Rattle.graph_core.proofs.Waiters.{none_waiting}

abbrev next_of : Component → ℕ
next_of c = weight (is_going_to WaitForResources c)

few_zero : (w n : ℕ) → n ≡ 0 → w ≤ 18446744073709551615 → w + n ≤ 18446744073709551615
few_zero w n z b = omega arith

last_false : {E : Type 0} (a b d s f : Bool) (x y z t u : E) → None ≡ first_of_these ((a, x) ∷ (b, y) ∷ (d, z) ∷ (s, t) ∷ (f, u) ∷ []) → f ≡ false
last_false true b d s f x y z t u e = absurd cc
last_false false true d s f x y z t u e = absurd cc
last_false false false true s f x y z t u e = absurd cc
last_false false false false true f x y z t u e = absurd cc
last_false false false false false true x y z t u e = absurd cc
last_false false false false false false x y z t u e = refl

-- a transition to WaitForResources that may begin has a number left
number_there : (l : Look) (c : Component) (target : State) → None ≡ state_fault l c target → same_state target WaitForResources ≡ true → has_no_wait l ≡ false
number_there l c target e t =
    let f = last_false (same_state c.state target) (not (is_lawful c.state target)) (is_loaded c.state && not (fits c.settings))
    (is_loaded c.state && same_state target Idle && nat_lt (free_units l) (units_of c.settings.kind)) (same_state target WaitForResources && has_no_wait l)
    errors.SameState errors.IncorrectStateTransition errors.UnsupportedSetting errors.InsufficientResources errors.InsufficientResources e in
    rw t at f

below_last : (n : ℕ) → nat_eq n 18446744073709551615 ≡ false → n ≤ 18446744073709551615 → n + 1 ≤ 18446744073709551615
below_last n h b = grind (arith, nat_tests)

few_begun : (l : Look) (c : Component) (target : State) (fault : Option OmxError) → fault ≡ state_fault l c target → next_of c ≡ 0 → l.waits ≤ 18446744073709551615 → l.waits + next_of (begun fault target c) ≤ 18446744073709551615
few_begun l c target (Some error) e z b = few_zero l.waits (next_of c) z b
few_begun l c target None e z b = elim (same_state target WaitForResources) as (λ t. same_state target WaitForResources ≡ t → l.waits + weight t ≤ 18446744073709551615)
    [ true ↦ λ t. below_last l.waits (number_there l c target e t) b | false ↦ λ t. few_zero l.waits 0 refl b ] refl

few_carried : (l : Look) (command : Command) (c : Component) → next_of c ≡ 0 → l.waits ≤ 18446744073709551615 → l.waits + next_of (carried_out l command c) ≤ 18446744073709551615
few_carried l (commands.StateSet target) c z b = few_begun l c target (state_fault l c target) refl z b
few_carried l (commands.Flush sel) c z b = few_zero l.waits (next_of c) z b
few_carried l (commands.PortDisable sel) c z b = few_zero l.waits (next_of c) z b
few_carried l (commands.PortEnable sel) c z b = few_zero l.waits (next_of c) z b
few_carried l (commands.MarkBuffer port target value) c z b = few_zero l.waits (next_of c) z b

few_front : (l : Look) (xs : List Command) (c : Component) → next_of c ≡ 0 → l.waits ≤ 18446744073709551615 → l.waits + next_of (run_front l xs c) ≤ 18446744073709551615
few_front l [] c z b = few_zero l.waits (next_of c) z b
few_front l (command ∷ rest) c z b = few_carried l command (record c { commands = rest }) z b

pub run_few : {C : Type 0} (l : Look) (g : Entries C) (i : ℕ) (e d : Entry C) → slice_get g.entries i ≡ Some e → first_due (look_of g) ≡ None → l.waits ≡ g.waits → component_of d ≡ run_front l (component_of e).commands (component_of e)
    → g.waits + waiters g.entries ≤ 18446744073709551615 → g.waits + waiters (set g.entries i d) ≤ 18446744073709551615
run_few l g i e d at closed same q few =
    let z = none_waiting g closed in
    let b = slice_get_within g.entries i e at in
    let r : get_or g.entries i e ≡ e = get_or_from_slice_get g.entries i e e at in
    let m : waits_next (get_or g.entries i e) ≡ waits_next e = ap waits_next r in
    let le = get_or-le-sum_by waits_next g.entries i e b in
    let none : waits_next e ≡ 0 = omega arith in
    let bound : l.waits ≤ 18446744073709551615 = omega arith in
    let f = few_front l (component_of e).commands (component_of e) none bound in
    let n : waits_next d ≡ next_of (run_front l (component_of e).commands (component_of e)) = ap next_of q in
    let s = sum_by-set waits_next g.entries i d e b in
    omega arith

sent_either : (b : Bool) (waits : ℕ) (c d e : Component) → next_of d ≤ next_of c → next_of e ≤ next_of c → waits + next_of (if b then d else e) ≤ waits + next_of c
sent_either true waits c d e x y = omega arith
sent_either false waits c d e x y = omega arith

-- a command that is sent lets none wait
pub few_sent : (waits : ℕ) (command : Command) (c : Component) → waits + next_of (sent command c) ≤ waits + next_of c
few_sent waits command c = sent_either (is_at_once command) waits c (told (Error errors.InvalidState) (invalidated c)) (record c { commands = c.commands ++ command ∷ [] })
    (let z : next_of (told (Error errors.InvalidState) (invalidated c)) ≡ 0 = refl in omega arith) (let z : next_of (record c { commands = c.commands ++ command ∷ [] }) ≡ next_of c = refl in omega arith)

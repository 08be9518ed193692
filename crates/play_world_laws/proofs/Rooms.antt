-- A component of a play's world has few notes and no busy port, so there is room for events.
use Rattle.std.proofs.Common.{◌≡◌, ℕ, zero, suc, ◌+◌, ◌≤◌, Bool, true, false, [], length, slice_get, Some, None, sum_by, refl, sym, ◌∙◌, arith}
use Rattle.std.proofs.lemmas.Option.{slice_get_within}
use Rattle.il_machine.specs.declared.port.Port.{Port}
use Rattle.il_machine.specs.Sound.{Sound}
use Rattle.il_machine.specs.declared.port.PortState.{PortState}
use Rattle.il_machine.specs.World.{Component, World, number_of, port_of}
use Rattle.il_machine.specs.Room.{events_in, port_reserve, used}
use Rattle.il_machine.specs.Finishing.{end_note}
use Rattle.il_machine.proofs.Joined.{port_there}
use Rattle.machine_laws.proofs.Parts.{parts_of}
use Rattle.play_world_laws.specs.Telling.{state_note}
use Rattle.play_world_laws.proofs.Lists.{get_there}

-- ---- notes

pub state_notes : (phase stage : ℕ) → length (state_note phase stage) ≤ 1
state_notes phase zero = omega arith
state_notes phase (suc zero) = omega arith
state_notes phase (suc (suc zero)) = omega arith
state_notes phase (suc (suc (suc zero))) = omega arith
state_notes phase (suc (suc (suc (suc n)))) = omega arith

pub end_notes : (b : Bool) → length (end_note b) ≤ 1
end_notes true = omega arith
end_notes false = omega arith

-- ---- ports

-- every port state belongs to a port
pub port_of_state : (w : World) (i k : ℕ) (a : Component) (s : PortState) → Sound w → slice_get w.components i ≡ Some a → slice_get a.ports k ≡ Some s → (q : Port) × (port_of a k ≡ Some q) × (q.state ≡ s)
port_of_state w i k a s S e f =
    let I = (parts_of w S).components i a e in
    let l : length a.settings.ports ≡ length a.ports = (I.whole).ports ∙ sym I.ports in
    let b = slice_get_within a.ports k s f in
    let g = get_there a.settings.ports k (omega arith) in
    (record { key = record { component = number_of a; port = k }; setting = g.0; state = s }, port_there a k g.0 s g.1 f, refl)

-- ---- room

-- nothing is queued or pending at it, and no work of it is out
pub used_at_rest : (a : Component) → a.commands ≡ [] → a.pending ≡ None → a.loss_mark ≡ false → a.work ≡ None → sum_by port_reserve a.ports ≡ 0 → used a ≡ events_in a.notes
used_at_rest a c p m k z =
    let d : used a ≡ used (record a { commands = []; pending = None; loss_mark = false; work = None }) = λ i. used (record a { commands = c i; pending = p i; loss_mark = m i; work = k i }) in
    let e : used (record a { commands = []; pending = None; loss_mark = false; work = None }) ≡ events_in a.notes + (sum_by port_reserve a.ports) = omega arith in
    omega arith

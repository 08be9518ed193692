-- An announcement that comes back.
use Rattle.std.proofs.Common.{◌≡◌, ℕ, ◌-◌, ◌<◌, ◌≤◌, true, false, List, [], ◌∷◌, length, set, sum_by, slice_get, Option, Some, None, refl, ap, arith, length-set}
use Rattle.std.specs.Prelude.{IsSome}
use Rattle.std.proofs.lemmas.List.Sums.{sum_by-cons}
use Rattle.omx_types.specs.declared.command.Event.TheVariants.{PortSettingsChanged}
use Rattle.il_machine.specs.declared.port.Port.{Port}
use Rattle.il_machine.specs.declared.port.PortSetting.{PortSetting}
use Rattle.il_machine.specs.declared.port.PortState.{PortState}
use Rattle.il_machine.specs.Settings.{same_format}
use Rattle.il_machine.specs.World.{Component, Work, number_of, ports_from, port_of, told, with_port}
use Rattle.il_machine.specs.Parts.{file_format}
use Rattle.il_machine.specs.Room.{port_reserve, room, used, work_reserve}
use Rattle.il_machine.specs.Finishing.{announced}
use Rattle.il_component.proofs.Fit.{same_costs}
use Rattle.il_component.proofs.Named.{held_state}
use Rattle.il_component.proofs.Ports.{port_numbered}

pub work_some : (work : Option Work) → IsSome work → 2 ≤ work_reserve work
work_some None h = absurd cc
work_some (Some work) h = omega arith

pub announced_none : (c : Component) → port_of c 0 ≡ None → announced c ≡ record c { work = None }
announced_none c e = rw e refl

pub announced_held : (c : Component) (p : Port) → port_of c 0 ≡ Some p → same_format p.setting.definition.format (file_format c.file) ≡ false
    → announced c ≡ told (PortSettingsChanged 0) (with_port 0 (record p.state { held = true }) (record c { work = None }))
announced_held c p e f =
    let n : p.key.port ≡ 0 = omega (arith, (port_numbered (number_of c) 0 0 c.settings.ports c.ports p e).0) in
    rw (e, f, n) refl

-- ---- a held port takes no place

first_state : (number index : ℕ) (ss : List PortSetting) (ps : List PortState) (p : Port) → slice_get (ports_from number index ss ps) 0 ≡ Some p → (q : List PortState) × (ps ≡ p.state ∷ q)
first_state number index [] ps p e = absurd cc
first_state number index (s ∷ ss) [] p e = absurd cc
first_state number index (s ∷ ss) (x ∷ ps) p e =
    let own : Port = record { key = record { component = number; port = index }; setting = s; state = x } in
    let o : Some own ≡ Some p = e in
    let is : own ≡ p = cc in
    (ps, ap (λ (y : Port). y.state ∷ ps) is)

sum_first : (ps q : List PortState) (x y : PortState) → ps ≡ x ∷ q → port_reserve y ≡ port_reserve x → sum_by port_reserve (set ps 0 y) ≡ sum_by port_reserve ps
sum_first ps q x y e h = rw e (omega (arith, sum_by-cons port_reserve y q, sum_by-cons port_reserve x q, h))

pub used_held : (c : Component) (p : Port) → port_of c 0 ≡ Some p → used (with_port 0 (held_state p.state) c) ≡ used c
used_held c p e =
    let h = first_state (number_of c) 0 c.settings.ports c.ports p e in
    let s = sum_first c.ports h.0 p.state (held_state p.state) h.1 refl in
    let l : length (set c.ports 0 (held_state p.state)) ≡ length c.ports = length-set c.ports 0 (held_state p.state) in
    omega (arith, s, same_costs (with_port 0 (held_state p.state) c) c l c.commands)

-- the places of the work that came back are enough to tell it
pub room_to_tell : (d k : Component) (p : Port) (places : ℕ) → port_of k 0 ≡ Some p → d ≡ with_port 0 (held_state p.state) k → 2 ≤ places → places ≤ room k → 0 < room d
room_to_tell d k p places e m two left =
    let u = used_held k p e in
    let r : room (with_port 0 (held_state p.state) k) ≡ room k = ap (λ (n : ℕ). 256 - n) u in
    rw m (omega (arith, r, two, left))

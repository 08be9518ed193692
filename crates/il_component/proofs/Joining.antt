-- A port that is linked or unlinked is joined or parted as the machine says.
use Rattle.std.proofs.Common.{◌≡◌, ℕ, zero, suc, ◌+◌, List, [], ◌∷◌, set, slice_get, Some, None, refl, ap, arith}
use Rattle.omx_types.specs.declared.param.Supplier.{Supplier}
use Rattle.il_machine.specs.declared.port.Port.{Port}
use Rattle.il_machine.specs.declared.port.PortSetting.{PortSetting}
use Rattle.il_machine.specs.declared.port.PortState.{PortState}
use Rattle.il_machine.specs.declared.port.Link.{Link}
use Rattle.il_machine.specs.Settings.{with_setting}
use Rattle.il_machine.specs.World.{Component, ports_from, port_of, number_of}
use Rattle.il_machine.specs.Tunnels.{widened, joined_to, parted}
use Rattle.il_component.specs.PortChanges.{at_port, with_link, linked, unlinked}

-- the port of a place has its number and its state
pub record StandsAt (c : Component) (index : ℕ) (p : Port) : Type 0 where
  pub number : p.key.port ≡ index
  pub state : slice_get c.ports index ≡ Some p.state

state_from : (number index i : ℕ) (ss : List PortSetting) (ps : List PortState) (p : Port) → slice_get (ports_from number index ss ps) i ≡ Some p → (p.key.port ≡ index + i) × (slice_get ps i ≡ Some p.state)
state_from number index i [] ps p h = absurd cc
state_from number index i (s ∷ ss) [] p h = absurd cc
state_from number index zero (s ∷ ss) (x ∷ ps) p h =
    let e : record { key = record { component = number; port = index }; setting = s; state = x } ≡ p = cc in
    let z : index + 0 ≡ index = omega arith in
    rw (← e, z) (refl, refl)
state_from number index (suc i) (s ∷ ss) (x ∷ ps) p h =
    let z : index + suc i ≡ index + 1 + i = omega arith in
    rw z (state_from number (index + 1) i ss ps p h)

pub stands_at : (c : Component) (index : ℕ) (p : Port) → port_of c index ≡ Some p → StandsAt c index p
stands_at c index p h =
    let s = state_from (number_of c) 0 index c.settings.ports c.ports p h in
    let z : 0 + index ≡ index = omega arith in
    record { number = rw z at s.0; state = s.1 }

changed_at : (index : ℕ) (change : PortState → PortState) (ps : List PortState) (s : PortState) → slice_get ps index ≡ Some s → at_port index change ps ≡ set ps index (change s)
changed_at index change [] s h = absurd cc
changed_at zero change (p ∷ ps) s h = let e : p ≡ s = cc in rw e refl
changed_at (suc i) change (p ∷ ps) s h = ap (λ qs. p ∷ qs) (changed_at i change ps s h)

pub linked_is : (c : Component) (index : ℕ) (p q : Port) (supplier : Supplier) → port_of c index ≡ Some p → linked index (widened p q) (record { peer = q.key; supplier = supplier }) c ≡ joined_to q supplier p c
linked_is c index p q supplier h =
    let s = stands_at c index p h in
    let link : Link = record { peer = q.key; supplier = supplier } in
    rw s.number (ap (λ ps. record c { settings = with_setting index (widened p q) c.settings; ports = ps }) (changed_at index (with_link (Some link)) c.ports p.state s.state))

pub unlinked_is : (c : Component) (index : ℕ) (p : Port) → port_of c index ≡ Some p → unlinked index c ≡ parted p c
unlinked_is c index p h =
    let s = stands_at c index p h in
    rw s.number (ap (λ ps. record c { ports = ps }) (changed_at index (with_link None) c.ports p.state s.state))

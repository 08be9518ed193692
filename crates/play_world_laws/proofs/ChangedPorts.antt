-- The ports of a component of which the state or the setting of one is another.
use Rattle.std.proofs.Common.{◌≡◌, ◌≢◌, ℕ, zero, suc, ◌+◌, ◌<◌, true, false, nat_eq, List, [], ◌∷◌, set, slice_get, Some, refl, sym, ◌∙◌, ap, eq-eqb, ne_eqb, arith}
use Rattle.omx_types.specs.declared.command.PortSel.TheVariants.{One}
use Rattle.il_machine.specs.declared.port.Port.{Port}
use Rattle.il_machine.specs.declared.port.PortSetting.{PortSetting}
use Rattle.il_machine.specs.declared.port.PortState.{PortState}
use Rattle.il_machine.specs.Commands.{selected_from, with_selected}
use Rattle.il_machine.specs.Settings.{with_setting}
use Rattle.il_machine.specs.World.{Component, number_of, port_of, ports_from, with_port}
use Rattle.machine_laws.proofs.Lookups.{port_parts}

state_else : (number index i j : ℕ) (ss : List PortSetting) (ps : List PortState) (s : PortState) → i ≢ j → slice_get (ports_from number index ss (set ps j s)) i ≡ slice_get (ports_from number index ss ps) i
state_else number index i j [] ps s n = refl
state_else number index i j (x ∷ ss) [] s n = refl
state_else number index zero zero (x ∷ ss) (y ∷ ps) s n = absurd (n refl)
state_else number index (suc i) zero (x ∷ ss) (y ∷ ps) s n = refl
state_else number index zero (suc j) (x ∷ ss) (y ∷ ps) s n = refl
state_else number index (suc i) (suc j) (x ∷ ss) (y ∷ ps) s n = state_else number (index + 1) i j ss ps s (λ e. n (ap suc e))

state_here : (number index j : ℕ) (ss : List PortSetting) (ps : List PortState) (s : PortState) (q : Port) → slice_get (ports_from number index ss ps) j ≡ Some q
    → slice_get (ports_from number index ss (set ps j s)) j ≡ Some (record q { state = s })
state_here number index j [] ps s q e = absurd cc
state_here number index j (x ∷ ss) [] s q e = absurd cc
state_here number index zero (x ∷ ss) (y ∷ ps) s q e =
    let z : Port = record { key = record { component = number; port = index }; setting = x; state = y } in
    let is : z ≡ q = cc in
    ap (λ (u : Port). Some (record u { state = s })) is
state_here number index (suc j) (x ∷ ss) (y ∷ ps) s q e = state_here number (index + 1) j ss ps s q e

setting_else : (number index i j : ℕ) (ss : List PortSetting) (ps : List PortState) (s : PortSetting) → i ≢ j → slice_get (ports_from number index (set ss j s) ps) i ≡ slice_get (ports_from number index ss ps) i
setting_else number index i j [] ps s n = refl
setting_else number index zero zero (x ∷ ss) ps s n = absurd (n refl)
setting_else number index (suc i) zero (x ∷ ss) [] s n = refl
setting_else number index (suc i) zero (x ∷ ss) (y ∷ ps) s n = refl
setting_else number index i (suc j) (x ∷ ss) [] s n = refl
setting_else number index zero (suc j) (x ∷ ss) (y ∷ ps) s n = refl
setting_else number index (suc i) (suc j) (x ∷ ss) (y ∷ ps) s n = setting_else number (index + 1) i j ss ps s (λ e. n (ap suc e))

setting_here : (number index j : ℕ) (ss : List PortSetting) (ps : List PortState) (s : PortSetting) (q : Port) → slice_get (ports_from number index ss ps) j ≡ Some q
    → slice_get (ports_from number index (set ss j s) ps) j ≡ Some (record q { setting = s })
setting_here number index j [] ps s q e = absurd cc
setting_here number index j (x ∷ ss) [] s q e = absurd cc
setting_here number index zero (x ∷ ss) (y ∷ ps) s q e =
    let z : Port = record { key = record { component = number; port = index }; setting = x; state = y } in
    let is : z ≡ q = cc in
    ap (λ (u : Port). Some (record u { setting = s })) is
setting_here number index (suc j) (x ∷ ss) (y ∷ ps) s q e = setting_here number (index + 1) j ss ps s q e

module _ (a : Component) where
  pub port_else : (i j : ℕ) (s : PortState) → i ≢ j → port_of (with_port j s a) i ≡ port_of a i
  port_else i j s n = state_else (number_of a) 0 i j a.settings.ports a.ports s n

  pub port_here : (j : ℕ) (s : PortState) (q : Port) → port_of a j ≡ Some q → port_of (with_port j s a) j ≡ Some (record q { state = s })
  port_here j s q e = state_here (number_of a) 0 j a.settings.ports a.ports s q e

  pub set_port_else : (i j : ℕ) (s : PortSetting) → i ≢ j → port_of (record a { settings = with_setting j s a.settings }) i ≡ port_of a i
  set_port_else i j s n = setting_else (number_of a) 0 i j a.settings.ports a.ports s n

  pub set_port_here : (j : ℕ) (s : PortSetting) (q : Port) → port_of a j ≡ Some q → port_of (record a { settings = with_setting j s a.settings }) j ≡ Some (record q { setting = s })
  set_port_here j s q e = setting_here (number_of a) 0 j a.settings.ports a.ports s q e

-- ---- a command that names one port changes that alone

selected_past : (index port : ℕ) (change : PortState → PortState) (ps : List PortState) → port < index → selected_from index (One port) change ps ≡ ps
selected_past index port change [] l = refl
selected_past index port change (y ∷ ps) l =
    let f : nat_eq index port ≡ false = ne_eqb index port (λ e. omega arith) in
    let i = selected_past (index + 1) port change ps (omega arith) in
    rw (f, i) refl

selected_there : (index j : ℕ) (change : PortState → PortState) (ps : List PortState) (y : PortState) → slice_get ps j ≡ Some y → selected_from index (One (index + j)) change ps ≡ set ps j (change y)
selected_there index j change [] y e = absurd cc
selected_there index zero change (z ∷ ps) y e =
    let is : z ≡ y = cc in
    let t : nat_eq index (index + 0) ≡ true = eq-eqb index (index + 0) (omega arith) in
    let i = selected_past (index + 1) (index + 0) change ps (omega arith) in
    rw (t, i, is) refl
selected_there index (suc j) change (z ∷ ps) y e =
    let f : nat_eq index (index + suc j) ≡ false = ne_eqb index (index + suc j) (λ n. omega arith) in
    let i : selected_from (index + 1) (One (index + 1 + j)) change ps ≡ set ps j (change y) = selected_there (index + 1) j change ps y e in
    let m : index + suc j ≡ index + 1 + j = omega arith in
    let n : selected_from (index + 1) (One (index + suc j)) change ps ≡ set ps j (change y) = ap (λ (k : ℕ). selected_from (index + 1) (One k) change ps) m ∙ i in
    rw (f, n) refl

pub selected_one : (a : Component) (j : ℕ) (change : PortState → PortState) (q : Port) → port_of a j ≡ Some q → with_selected (One j) change a ≡ with_port j (change q.state) a
selected_one a j change q e =
    let z : 0 + j ≡ j = omega arith in
    ap (λ (ps : List PortState). record a { ports = ps }) (ap (λ (k : ℕ). selected_from 0 (One k) change a.ports) (sym z) ∙ selected_there 0 j change a.ports q.state (port_parts a j q e).state)

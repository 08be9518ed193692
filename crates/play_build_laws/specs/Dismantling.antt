-- How far a graph is taken apart: first its links are parted, one after the other, then its components are freed, from the last to the
-- first. A component's number is its place.
use Rattle.std.specs.Prelude.{◌≡◌, ◌≢◌, ℕ, ◌<◌, ◌≤◌, Bool, true, false, not, ◌||◌, [], All, length, slice_get, Some, None, is_some}
use Rattle.il_machine.specs.declared.port.Link.{Link}
use Rattle.il_machine.specs.declared.port.PortKey.{PortKey}
use Rattle.il_machine.specs.declared.port.PortSetting.{PortSetting}
use Rattle.il_machine.specs.declared.port.PortState.{PortState}
use Rattle.il_machine.specs.Ports.{IsCalm}
use Rattle.il_machine.specs.Sound.{Sound}
use Rattle.il_machine.specs.States.{is_invalid, is_loaded}
use Rattle.il_machine.specs.World.{Component, World, number_of}

-- The component is Loaded or Invalid with nothing pending, and neither its work nor its client object is out.
pub record IsResting (a : Component) : Type 0 where
  pub down : (is_loaded a.state || is_invalid a.state) ≡ true
  pub calm : IsCalm a
  pub work : a.work ≡ None
  pub client : a.client_out ≡ false

-- All components rest, and there is no header.
pub record IsQuiet (w : World) : Type 0 where
  pub sound : Sound w
  pub headers : w.headers ≡ []
  pub components : All IsResting w.components
  pub numbered : (i : ℕ) (a : Component) → slice_get w.components i ≡ Some a → number_of a ≡ i

-- ---- links, by their outputs (false) and inputs (true)

pub record AreLinks (end : Bool → ℕ → PortKey) (links : ℕ) : Type 0 where
  -- no two ends are one port
  pub one : (side other : Bool) (k l : ℕ) → k < links → l < links → end side k ≡ end other l → (side ≡ other) × (k ≡ l)
  -- a component gives nothing to itself
  pub apart : (l : ℕ) → l < links → (end false l).component ≢ (end true l).component

-- the component has this end of the link, joined to the other one
pub record HasEnd (end : Bool → ℕ → PortKey) (side : Bool) (l : ℕ) (a : Component) : Type 0 where
  pub setting : PortSetting
  pub set : slice_get a.settings.ports (end side l).port ≡ Some setting
  pub direction : setting.definition.input ≡ side
  pub state : PortState
  pub there : slice_get a.ports (end side l).port ≡ Some state
  pub link : Link
  pub joined : state.link ≡ Some link
  pub peer : link.peer ≡ end (not side) l

-- the port is an end of one of the links from one on
pub record IsSomeEnd (end : Bool → ℕ → PortKey) (parted links : ℕ) (key : PortKey) : Type 0 where
  pub side : Bool
  pub number : ℕ
  pub later : parted ≤ number
  pub below : number < links
  pub is : end side number ≡ key

-- so many links are parted, and the others are joined
pub record IsParted (end : Bool → ℕ → PortKey) (links parted : ℕ) (w : World) : Type 0 where
  pub quiet : IsQuiet w
  pub inside : (side : Bool) (l : ℕ) → l < links → (end side l).component < length w.components
  pub joined : (side : Bool) (l : ℕ) (a : Component) → parted ≤ l → l < links → slice_get w.components (end side l).component ≡ Some a → HasEnd end side l a
  pub only : (i port : ℕ) (a : Component) (s : PortState) → slice_get w.components i ≡ Some a → slice_get a.ports port ≡ Some s → is_some s.link ≡ true → IsSomeEnd end parted links (record { component = i; port = port })

-- only the ports of its components differ
pub record IsSameButPorts (w v : World) : Type 0 where
  pub many : length v.components ≡ length w.components
  pub each : (i : ℕ) (b : Component) → slice_get v.components i ≡ Some b → (a : Component) × (slice_get w.components i ≡ Some a) × (b ≡ record a { ports = b.ports })

-- ---- components

-- so many components are left, none of them joined
pub record IsUnjoined (left : ℕ) (w : World) : Type 0 where
  pub quiet : IsQuiet w
  pub many : length w.components ≡ left
  pub loose : (i port : ℕ) (a : Component) (s : PortState) → slice_get w.components i ≡ Some a → slice_get a.ports port ≡ Some s → s.link ≡ None

-- those before the place are as they were
abbrev pub AreFirst : ℕ → World → World → Type 0
AreFirst left w v = (i : ℕ) → i < left → slice_get v.components i ≡ slice_get w.components i

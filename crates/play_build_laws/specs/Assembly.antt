-- What a graph is assembled from: its components, what is set of them, their files, and the links between them. A component is named by
-- its place, which is its number, and a link by its number.
use Rattle.std.specs.Prelude.{◌≡◌, ◌≢◌, ℕ, ◌<◌, ◌≤◌, Bool, true, false, List, length, slice_get, Option, Some}
use Rattle.omx_types.specs.declared.format.Format.{Format}
use Rattle.omx_types.specs.declared.kind.Kind.{Kind}
use Rattle.omx_types.specs.declared.kind.Kind.TheVariants.{Gain, Mixer}
use Rattle.omx_types.specs.declared.param.PortDefinition.{PortDefinition}
use Rattle.il_machine.specs.declared.port.PortKey.{PortKey}
use Rattle.il_machine.specs.Files.{Offered, is_bad_file, is_for_kind}
use Rattle.il_machine.specs.Kinds.{is_auto, is_input, is_port_format, ports_in}
use Rattle.il_machine.specs.Settings.{IsSized, is_definition_of, is_splitter, same_format, same_rate_and_channels}

pub record Assembly : Type 0 where
  pub units : ℕ
  pub components : ℕ
  pub kind : ℕ → Kind
  -- the gain of a gain, a weight for each input of a mixer, and else none
  pub factors : ℕ → List ℕ
  pub file : ℕ → Option Offered
  pub links : ℕ
  -- the output of a link (false), and its input (true)
  pub end : Bool → ℕ → PortKey
  -- what is set of both its ends
  pub format : ℕ → Format
  pub count : ℕ → ℕ
  pub size : ℕ → ℕ

-- the component at that end
abbrev pub component_at : Assembly → Bool → ℕ → ℕ
component_at s side l = (s.end side l).component

abbrev pub kind_at : Assembly → Bool → ℕ → Kind
kind_at s side l = s.kind (component_at s side l)

abbrev pub definition_of : Assembly → Bool → ℕ → PortDefinition
definition_of s side l = record { input = side; format = s.format l; count = s.count l; size = s.size l }

abbrev pub factors_in : Kind → ℕ
factors_in Gain = 1
factors_in (Mixer inputs) = inputs
factors_in _ = 0

-- ---- what may be assembled

pub record IsLawfulEnd (s : Assembly) (side : Bool) (l : ℕ) : Type 0 where
  pub there : component_at s side l < s.components
  pub port : (s.end side l).port < ports_in (kind_at s side l)
  pub direction : is_input (kind_at s side l) (s.end side l).port ≡ side
  pub definition : is_definition_of side (definition_of s side l) ≡ true
  pub format : is_port_format (kind_at s side l) side (s.format l) ≡ true

-- the file is one for the kind, and suits what is set of its port, which is the first
pub record IsLawfulFile (s : Assembly) (c : ℕ) (file : Offered) : Type 0 where
  pub kind : is_for_kind (s.kind c) file ≡ true
  pub format : (side : Bool) (l : ℕ) → l < s.links → s.end side l ≡ record { component = c; port = 0 } → is_bad_file (s.kind c) (s.format l) file ≡ false

-- the formats of two links of one component fit, where both are known
pub record AreAlike (s : Assembly) (c k l : ℕ) : Type 0 where
  pub alike : same_rate_and_channels (s.format k) (s.format l) ≡ true
  pub same : is_splitter (s.kind c) ≡ true → same_format (s.format k) (s.format l) ≡ true

pub record IsEndOf (s : Assembly) (c port : ℕ) : Type 0 where
  pub side : Bool
  pub link : ℕ
  pub below : link < s.links
  pub end : s.end side link ≡ record { component = c; port = port }

pub record IsLawful (s : Assembly) : Type 0 where
  pub few : s.components ≤ 32
  pub sized : (c : ℕ) → c < s.components → IsSized (s.kind c)
  pub factors : (c : ℕ) → c < s.components → length (s.factors c) ≡ factors_in (s.kind c)
  pub small : (c i factor : ℕ) → c < s.components → slice_get (s.factors c) i ≡ Some factor → factor ≤ 65535
  pub files : (c : ℕ) (file : Offered) → c < s.components → s.file c ≡ Some file → IsLawfulFile s c file
  -- a component gives nothing to itself
  pub apart : (l : ℕ) → l < s.links → component_at s false l ≢ component_at s true l
  pub ends : (side : Bool) (l : ℕ) → l < s.links → IsLawfulEnd s side l
  -- each port is one end of one link
  pub each : (c port : ℕ) → c < s.components → port < ports_in (s.kind c) → IsEndOf s c port
  pub one : (side other : Bool) (k l : ℕ) → k < s.links → l < s.links → s.end side k ≡ s.end other l → (side ≡ other) × (k ≡ l)
  pub fit : (side other : Bool) (k l : ℕ) → k < s.links → l < s.links → component_at s side k ≡ component_at s other l
      → is_auto (s.format k) ≡ false → is_auto (s.format l) ≡ false → AreAlike s (component_at s side k) k l

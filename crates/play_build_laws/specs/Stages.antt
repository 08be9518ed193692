-- How far an assembly has come, and the world then. First the components are made, then their factors are set, then the ports, then the
-- files come, and last the tunnels are set up: each in the order of places or numbers.
use Rattle.std.specs.Prelude.{◌≡◌, ℕ, ◌+◌, ◌<◌, Bool, true, false, not, ◌&&◌, ◌||◌, nat_eq, nat_lt, if◌then◌else◌, All, List, [], ◌∷◌, ◌++◌, codes, length, map, slice_get, Option, Some, None, option_map}
use Rattle.omx_types.specs.declared.handle.Handle.{Handle}
use Rattle.omx_types.specs.declared.handle.PortId.{PortId}
use Rattle.omx_types.specs.declared.kind.Kind.{Kind}
use Rattle.omx_types.specs.declared.kind.Kind.TheVariants.{Source, Late, Decoder, Alaw, Mulaw, Gain, Mixer, Splitter, Sink}
use Rattle.omx_types.specs.declared.param.Param.{Param}
use Rattle.omx_types.specs.declared.param.Param.TheVariants as params
use Rattle.omx_types.specs.declared.param.ParamKey.{ParamKey}
use Rattle.omx_types.specs.declared.param.Supplier.TheVariants.{Unspecified, Input}
use Rattle.omx_types.specs.declared.param.Version.{Version}
use Rattle.il_machine.specs.declared.port.PortSetting.{PortSetting}
use Rattle.il_machine.specs.declared.port.PortState.{PortState}
use Rattle.il_machine.specs.Files.{Offered, attached, stream_with}
use Rattle.il_machine.specs.Parts.{factors_by}
use Rattle.il_machine.specs.Ports.{IsCalmPort}
use Rattle.il_machine.specs.Settings.{default_setting, default_settings, is_gain}
use Rattle.il_machine.specs.Sound.{Sound}
use Rattle.il_machine.specs.World.{Component, Stream, World, fresh, fresh_port, fresh_stream, number_of}
use Rattle.play_build_laws.specs.Assembly.{Assembly, component_at, definition_of, kind_at}

pub data Stage : Type 0 where
  -- so many components are made
  Making : (made : ℕ) → Stage
  -- the factors of those before this one are set, and so many of its own
  Factoring : (place set : ℕ) → Stage
  -- the ends of the links before this one are set, and its output
  Setting : (link : ℕ) (output : Bool) → Stage
  -- those before this one have their files
  Filing : (place : ℕ) → Stage
  -- so many links are set up
  Joining : (links : ℕ) → Stage

-- what is done of the assembly
pub record Progress : Type 0 where
  pub made : ℕ
  pub factored : ℕ → ℕ → Bool
  pub set : Bool → ℕ → Bool
  pub filed : ℕ → Bool
  pub joined : Bool → ℕ → Bool

abbrev pub progress_of : Assembly → Stage → Progress
progress_of s (Making made) = record { made = made; factored = λ c i. false; set = λ side l. false; filed = λ c. false; joined = λ side l. false }
progress_of s (Factoring place set) = record {
  made = s.components;
  factored = λ c i. nat_lt c place || (nat_eq c place && nat_lt i set);
  set = λ side l. false;
  filed = λ c. false;
  joined = λ side l. false;
}
progress_of s (Setting link output) = record {
  made = s.components;
  factored = λ c i. true;
  set = λ side l. nat_lt l link || (nat_eq l link && output && not side);
  filed = λ c. false;
  joined = λ side l. false;
}
progress_of s (Filing place) = record { made = s.components; factored = λ c i. true; set = λ side l. true; filed = λ c. nat_lt c place; joined = λ side l. false }
progress_of s (Joining links) = record { made = s.components; factored = λ c i. true; set = λ side l. true; filed = λ c. true; joined = λ side l. nat_lt l links }

-- ---- the world

abbrev pub setting_of : Assembly → Bool → ℕ → PortSetting
setting_of s side l = record { definition = definition_of s side l; supplier = Unspecified }

abbrev pub setting_by : Assembly → Bool → Bool → ℕ → PortSetting
setting_by s false side l = default_setting (kind_at s side l) side
setting_by s true side l = setting_of s side l

-- the input supplies each link
abbrev pub state_by : Assembly → Bool → Bool → ℕ → PortState
state_by s false side l = fresh_port
state_by s true side l = record fresh_port { link = Some (record { peer = s.end (not side) l; supplier = Input }) }

-- the component has this end of the link
pub record HasEnd (s : Assembly) (p : Progress) (side : Bool) (l : ℕ) (a : Component) : Type 0 where
  pub setting : slice_get a.settings.ports (s.end side l).port ≡ Some (setting_by s (p.set side l) side l)
  pub state : slice_get a.ports (s.end side l).port ≡ Some (state_by s (p.joined side l) side l)

abbrev pub file_by : Assembly → Bool → ℕ → Option Offered
file_by s false c = None
file_by s true c = s.file c

abbrev pub stream_by : Option Offered → ℕ → Stream
stream_by None c = fresh_stream c
stream_by (Some file) c = stream_with file (fresh_stream c)

-- the component at the place, but for its ports
pub record IsBuiltAs (s : Assembly) (p : Progress) (c : ℕ) (a : Component) : Type 0 where
  pub number : number_of a ≡ c
  pub fresh_else : a ≡ record (fresh a.handle (s.kind c)) { settings = a.settings; file = a.file; ports = a.ports }
  pub settings : a.settings ≡ record (default_settings (s.kind c)) { ports = a.settings.ports; gain = a.settings.gain; weights = a.settings.weights }
  -- a component that is no gain keeps the default, which nothing uses
  pub gain : is_gain (s.kind c) ≡ false → a.settings.gain ≡ (default_settings (s.kind c)).gain
  pub factors : (i factor : ℕ) → slice_get (s.factors c) i ≡ Some factor → p.factored c i ≡ true → slice_get (factors_by (s.kind c) a.settings.gain a.settings.weights) i ≡ Some factor
  pub file : a.file ≡ option_map attached (file_by s (p.filed c) c)
  pub calm : All IsCalmPort a.ports

pub record AreBuilt (s : Assembly) (p : Progress) (components : List Component) : Type 0 where
  pub each : (c : ℕ) (a : Component) → slice_get components c ≡ Some a → IsBuiltAs s p c a
  pub ends : (side : Bool) (l : ℕ) (a : Component) → l < s.links → slice_get components (component_at s side l) ≡ Some a → HasEnd s p side l a

-- the world, with the handles of its components
pub record IsBuilt (s : Assembly) (p : Progress) (handles : List Handle) (w : World) : Type 0 where
  pub units : w.units ≡ s.units
  pub handles_are : map (λ a. a.handle) w.components ≡ handles
  pub many : length w.components ≡ p.made
  pub numbered : w.numbered ≡ p.made
  pub components : AreBuilt s p w.components
  pub streams : (c : ℕ) → c < p.made → slice_get w.streams c ≡ Some (stream_by (file_by s (p.filed c) c) c)
  pub headers : w.headers ≡ []
  pub unmade : w.made ≡ 0
  pub unwaited : w.waits ≡ 0
  pub given : w.given ≡ []

pub record IsStage (s : Assembly) (stage : Stage) (handles : List Handle) (w : World) : Type 0 where
  pub sound : Sound w
  pub built : IsBuilt s (progress_of s stage) handles w

-- ---- what the acts name

-- of a mixer or a splitter with its number of ports, as a digit
abbrev pub name_of : Kind → List ℕ
name_of Source = codes "OMX.lab.source.wav"
name_of Late = codes "OMX.lab.source.late"
name_of Decoder = codes "OMX.lab.decoder.g711"
name_of Alaw = codes "OMX.lab.encoder.alaw"
name_of Mulaw = codes "OMX.lab.encoder.mulaw"
name_of Gain = codes "OMX.lab.gain"
name_of (Mixer inputs) = codes "OMX.lab.mixer." ++ (48 + inputs) ∷ []
name_of (Splitter outputs) = codes "OMX.lab.splitter." ++ (48 + outputs) ∷ []
name_of Sink = codes "OMX.lab.sink.wav"

abbrev pub v112 : Version
v112 = record { major = 1; minor = 1; revision = 2; step = 0 }

-- the number of a port's definition is 1, of a gain 4, of a weight 5
abbrev pub port_key : ℕ → ParamKey
port_key port = record { version = v112; index = 1; port = port }

abbrev pub factor_key : Kind → ℕ → ParamKey
factor_key kind i = record { version = v112; index = if is_gain kind then 4 else 5; port = i }

abbrev pub factor_value : Kind → ℕ → Param
factor_value Gain factor = params.Gain factor
factor_value _ factor = params.Weight factor

abbrev pub port_value : Assembly → Bool → ℕ → Param
port_value s side l = params.Port (definition_of s side l)

-- the port of this end, where its component has the handle
abbrev pub id_at : Assembly → Bool → ℕ → Handle → PortId
id_at s side l h = record { handle = h; index = (s.end side l).port }

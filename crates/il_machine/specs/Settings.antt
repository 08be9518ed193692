-- What a client sets of a component: its ports' definitions and preferences, its priority, its factors.
-- How they are got and set, and the refusals of both, in their order.
use Rattle.std.specs.Prelude.{◌≡◌, ℕ, length, map, Bool, true, false, not, ◌&&◌, ◌||◌, nat_eq, nat_lt, nat_le, List, [], ◌∷◌, ◌++◌, filter, replicate, slice_set, Option, Some, None, Result, Ok, Err, if◌then◌else◌}
use Rattle.std.specs.List.{list_all}
use Rattle.std.proofs.Math.ListN.{get_or}
use Rattle.omx_types.specs.declared.kind.Kind.{Kind}
use Rattle.omx_types.specs.declared.kind.Kind.TheVariants.{Gain as GainKind, Mixer, Splitter}
use Rattle.omx_types.specs.declared.format.Format.{Format}
use Rattle.omx_types.specs.declared.format.Format.TheVariants.{Pcm, Alaw, Mulaw, Auto}
use Rattle.omx_types.specs.declared.error.OmxError.{OmxError}
use Rattle.omx_types.specs.declared.error.OmxError.TheVariants as errors
use Rattle.omx_types.specs.declared.param.PortDefinition.{PortDefinition}
use Rattle.omx_types.specs.declared.param.Param.{Param}
use Rattle.omx_types.specs.declared.param.Param.TheVariants as params
use Rattle.omx_types.specs.declared.param.ParamKey.{ParamKey}
use Rattle.omx_types.specs.declared.param.Supplier.TheVariants.{Unspecified}
use Rattle.omx_types.specs.declared.param.Version.{Version}
use Rattle.omx_types.specs.Formats.{rate_of, channels_of, frame_bytes_of}
pub use Rattle.part_forms.specs.Kinds.{IsSized}
use Rattle.part_forms.specs.Kinds.{known_format}
use Rattle.il_machine.specs.declared.port.PortSetting.{PortSetting}
use Rattle.il_machine.specs.Lists.{all_of, first_of_these}
use Rattle.il_machine.specs.Kinds.{inputs_of, outputs_of, ports_in, is_input, is_port_format, is_auto, is_late}

pub record Settings : Type 0 where
  pub kind : Kind
  pub ports : List PortSetting
  pub priority : ℕ
  pub gain : ℕ
  -- one weight for each input of a mixer
  pub weights : List ℕ

-- ---- defaults

-- one that isn't known yet for a late source
abbrev pub default_format : Kind → Bool → Format
default_format kind input = if is_late kind then Auto else known_format kind input

abbrev pub default_setting : Kind → Bool → PortSetting
default_setting kind input = record { definition = record { input = input; format = default_format kind input; count = 2; size = 4096 }; supplier = Unspecified }

abbrev pub weights_in : Kind → ℕ
weights_in (Mixer inputs) = inputs
weights_in _ = 0

abbrev pub default_settings : Kind → Settings
default_settings kind = record {
  kind = kind;
  ports = replicate (inputs_of kind) (default_setting kind true) ++ replicate (outputs_of kind) (default_setting kind false);
  priority = 128;
  gain = 4096;
  weights = replicate (weights_in kind) 4096;
}

-- Each port has its setting, and each input of a mixer its weight.
pub record IsWhole (s : Settings) : Type 0 where
  pub sized : IsSized s.kind
  pub ports : length s.ports ≡ ports_in s.kind
  pub weights : length s.weights ≡ weights_in s.kind

-- ---- get

abbrev pub is_v112 : Version → Bool
is_v112 v = nat_eq v.major 1 && nat_eq v.minor 1 && nat_eq v.revision 2 && nat_eq v.step 0

abbrev pub is_gain : Kind → Bool
is_gain GainKind = true
is_gain _ = false

abbrev pub is_mixer : Kind → Bool
is_mixer (Mixer inputs) = true
is_mixer _ = false

-- parameters are 1 port definition, 2 buffer supplier and 3 priority; configs are 4 gain of a gain, 5 weight of a mixer
abbrev pub is_index_of : Kind → Bool → ℕ → Bool
is_index_of kind false index = nat_eq index 1 || nat_eq index 2 || nat_eq index 3
is_index_of kind true index = (nat_eq index 4 && is_gain kind) || (nat_eq index 5 && is_mixer kind)

-- priority and gain have no port; a weight has an input
abbrev pub is_port_of : Kind → ParamKey → Bool
is_port_of kind key =
    if nat_eq key.index 3 || nat_eq key.index 4 then true
    else if nat_eq key.index 5 then nat_lt key.port (inputs_of kind)
    else nat_lt key.port (ports_in kind)

abbrev pub get_refusals : Settings → ParamKey → Bool → List (Bool × OmxError)
get_refusals s key config =
    (not (is_v112 key.version), errors.VersionMismatch)
    ∷ (not (is_index_of s.kind config key.index), errors.UnsupportedIndex)
    ∷ (not (is_port_of s.kind key), errors.BadPortIndex)
    ∷ []

abbrev pub get_refusal : Settings → ParamKey → Bool → Option OmxError
get_refusal s key config = first_of_these (get_refusals s key config)

-- the setting of the port, which is there
abbrev pub setting_at : Settings → ℕ → PortSetting
setting_at s port = get_or s.ports port (default_setting s.kind (is_input s.kind port))

abbrev pub value_of : Settings → ParamKey → Param
value_of s key =
    if nat_eq key.index 1 then params.Port (setting_at s key.port).definition
    else if nat_eq key.index 2 then params.Supplier (setting_at s key.port).supplier
    else if nat_eq key.index 3 then params.Priority s.priority
    else if nat_eq key.index 4 then params.Gain s.gain
    else params.Weight (get_or s.weights key.port 4096)

abbrev pub refused_or : {T : Type 0} → Option OmxError → T → Result T OmxError
refused_or (Some error) value = Err error
refused_or None value = Ok value

abbrev pub got : Settings → ParamKey → Bool → Result Param OmxError
got s key config = refused_or (get_refusal s key config) (value_of s key)

-- ---- set

-- the value is of the index's variant
abbrev pub is_value_of : ℕ → Param → Bool
is_value_of index (params.Port definition) = nat_eq index 1
is_value_of index (params.Supplier supplier) = nat_eq index 2
is_value_of index (params.Priority priority) = nat_eq index 3
is_value_of index (params.Gain gain) = nat_eq index 4
is_value_of index (params.Weight weight) = nat_eq index 5

abbrev pub is_between : ℕ → ℕ → ℕ → Bool
is_between low high n = nat_le low n && nat_le n high

abbrev pub is_within_limits : Format → Bool
is_within_limits format = is_auto format || (is_between 1 768000 (rate_of format) && is_between 1 8 (channels_of format))

abbrev pub same_bool : Bool → Bool → Bool
same_bool true b = b
same_bool false b = not b

abbrev pub same_format : Format → Format → Bool
same_format (Pcm rate channels) (Pcm rate' channels') = nat_eq rate rate' && nat_eq channels channels'
same_format (Alaw rate channels) (Alaw rate' channels') = nat_eq rate rate' && nat_eq channels channels'
same_format (Mulaw rate channels) (Mulaw rate' channels') = nat_eq rate rate' && nat_eq channels channels'
same_format Auto Auto = true
same_format _ _ = false

-- every number is in its limits, a header has one frame at least, and the direction is the port's
abbrev pub is_definition_of : Bool → PortDefinition → Bool
is_definition_of input d = all_of
    (is_within_limits d.format
    ∷ is_between 1 32 d.count
    ∷ is_between 1 4096 d.size
    ∷ nat_le (frame_bytes_of d.format) d.size
    ∷ same_bool d.input input
    ∷ [])

abbrev pub is_good_value : Bool → Param → Bool
is_good_value input (params.Port definition) = is_definition_of input definition
is_good_value input (params.Supplier supplier) = true
is_good_value input (params.Priority priority) = nat_le priority 255
is_good_value input (params.Gain gain) = nat_le gain 65535
is_good_value input (params.Weight weight) = nat_le weight 65535

-- a format that the port may have, and the change to it is free
abbrev pub is_supported : Settings → ℕ → Bool → Param → Bool
is_supported s port free (params.Port d) =
    is_port_format s.kind (is_input s.kind port) d.format && free
is_supported s port free _ = true

abbrev pub value_refusals : Settings → ParamKey → Param → Bool → List (Bool × OmxError)
value_refusals s key value free =
    (not (is_value_of key.index value) || not (is_good_value (is_input s.kind key.port) value), errors.BadParameter)
    ∷ (not (is_supported s key.port free value), errors.UnsupportedSetting)
    ∷ []

-- those of get, and then two more
abbrev pub set_refusals : Settings → ParamKey → Bool → Param → Bool → List (Bool × OmxError)
set_refusals s key config value free = get_refusals s key config ++ value_refusals s key value free

abbrev pub set_refusal : Settings → ParamKey → Bool → Param → Bool → Option OmxError
set_refusal s key config value free = first_of_these (set_refusals s key config value free)

abbrev pub with_setting : ℕ → PortSetting → Settings → Settings
with_setting port setting s = record s { ports = slice_set s.ports port setting }

-- the settings after a value is set
abbrev pub changed_by : ℕ → Param → Settings → Settings
changed_by port (params.Port definition) s = with_setting port (record (setting_at s port) { definition = definition }) s
changed_by port (params.Supplier supplier) s = with_setting port (record (setting_at s port) { supplier = supplier }) s
changed_by port (params.Priority priority) s = record s { priority = priority }
changed_by port (params.Gain gain) s = record s { gain = gain }
changed_by port (params.Weight weight) s = record s { weights = slice_set s.weights port weight }

-- the two keys name values of their own: another index, or another port where the index has ports
abbrev pub is_apart : ParamKey → ParamKey → Bool
is_apart key other = not (nat_eq key.index other.index) || (not (nat_eq key.port other.port) && not (nat_eq key.index 3) && not (nat_eq key.index 4))

-- ---- formats that fit

abbrev pub same_rate_and_channels : Format → Format → Bool
same_rate_and_channels a b = nat_eq (rate_of a) (rate_of b) && nat_eq (channels_of a) (channels_of b)

abbrev pub is_splitter : Kind → Bool
is_splitter (Splitter outputs) = true
is_splitter _ = false

-- the formats have one rate and one number of channels, and those of a splitter are one
abbrev pub are_fitting : Kind → List Format → Bool
are_fitting kind [] = true
are_fitting kind (first ∷ rest) =
    list_all (λ format. same_rate_and_channels format first) rest
    && (not (is_splitter kind) || list_all (λ format. same_format format first) rest)

abbrev pub is_known : Format → Bool
is_known format = not (is_auto format)

abbrev pub formats_of : List PortSetting → List Format
formats_of ports = map (λ p. p.definition.format) ports

-- all ports fit whose format is known
abbrev pub fits : Settings → Bool
fits s = are_fitting s.kind (filter is_known (formats_of s.ports))

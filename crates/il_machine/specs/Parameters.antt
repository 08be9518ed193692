-- Parameters and configs of a component.
use Rattle.std.specs.Prelude.{ℕ, ◌*◌, Bool, true, false, not, ◌&&◌, ◌||◌, nat_eq, nat_lt, [], ◌∷◌, ◌++◌, Option, None, Some, is_some, Result, if◌then◌else◌}
use Rattle.omx_types.specs.declared.handle.Handle.{Handle}
use Rattle.omx_types.specs.declared.error.OmxError.{OmxError}
use Rattle.omx_types.specs.declared.error.OmxError.TheVariants as errors
use Rattle.omx_types.specs.declared.format.Format.{Format}
use Rattle.omx_types.specs.declared.param.Param.{Param}
use Rattle.omx_types.specs.declared.param.Param.TheVariants as params
use Rattle.omx_types.specs.declared.param.ParamKey.{ParamKey}
use Rattle.omx_types.specs.declared.param.PortDefinition.{PortDefinition}
use Rattle.omx_types.specs.Formats.{frame_bytes_of}
use Rattle.part_api.specs.declared.attached.Attached.{Attached}
use Rattle.part_api.specs.declared.attached.Attached.TheVariants.{To}
use Rattle.il_machine.specs.declared.port.Port.{Port}
use Rattle.il_machine.specs.States.{is_invalid, is_loaded}
use Rattle.il_machine.specs.Kinds.{is_auto}
use Rattle.il_machine.specs.Lists.{any_of, first_of_these, holds_at}
use Rattle.il_machine.specs.Settings.{get_refusals, set_refusals, value_of, changed_by, refused_or, same_format, fits}
use Rattle.il_machine.specs.Parts.{file_format}
use Rattle.il_machine.specs.World.{Component, World, with_component, with_port, port_of}
use Rattle.il_machine.specs.Headers.{Seen}
use Rattle.il_machine.specs.Look.{Look, look}
use Rattle.il_machine.specs.Ports.{is_at_rest, is_joined, has_no_header}
use Rattle.il_machine.specs.Due.{ClosesTo}
use Rattle.il_machine.specs.Answers.{plain, Resolving, Answers, component_named, looked}

-- Loaded with nothing pending
abbrev pub is_settable : Component → Bool
is_settable c = is_loaded c.state && is_at_rest c

-- The port's format is known and stays: the port isn't held, and its component has a file or isn't Loaded with nothing pending.
abbrev pub keeps_format : Component → Port → Bool
keeps_format c p = not p.state.held && not (is_auto p.setting.definition.format) && (is_some c.file || not (is_settable c))

-- the port is held, and the format isn't its file's
abbrev pub is_off_file : Component → Port → Format → Bool
is_off_file c p format = p.state.held && not (same_format format (file_format c.file))

-- the component's ports fit with this definition of the port
abbrev pub would_fit : Component → ℕ → PortDefinition → Bool
would_fit c port d = fits (changed_by port (params.Port d) c.settings)

-- more bytes than a file may have
abbrev pub is_too_large : ℕ → Format → Bool
is_too_large frames format = nat_lt 134217728 (frames * frame_bytes_of format)

-- the frames that are planned for a file that is written have too many bytes
abbrev pub overflows : Option Attached → Format → Bool
overflows (Some (To planned)) format = is_too_large planned format
overflows _ format = false

-- The port may not get the definition for its format: that is off the file's, or differs from one that stays, or wouldn't fit while the
-- component isn't Loaded with nothing pending, or makes the planned file too large.
abbrev pub is_format_fixed : Component → Port → PortDefinition → Bool
is_format_fixed c p d = any_of
    (is_off_file c p d.format
    ∷ (keeps_format c p && not (same_format d.format p.setting.definition.format))
    ∷ (not (is_settable c) && not (would_fit c p.key.port d))
    ∷ overflows c.file d.format
    ∷ [])

-- the value may be set of the port, as far as its format goes
abbrev pub is_format_free : Component → ℕ → Param → Bool
is_format_free c port (params.Port d) = holds_at (port_of c port) (λ p. not (is_format_fixed c p d))
is_format_free c port _ = true

-- The port is joined, or has headers, or is enabled while its component isn't Loaded with nothing pending.
abbrev pub is_fixed : Seen → Component → Port → Bool
is_fixed headers c p = any_of
    (is_joined p
    ∷ not (has_no_header headers p)
    ∷ (p.state.enabled && not (is_settable c))
    ∷ [])

-- ---- get_parameter and get_config

abbrev pub get_parameter_refusal : Component → ParamKey → Bool → Option OmxError
get_parameter_refusal c key config = first_of_these ((is_invalid c.state, errors.InvalidState) ∷ get_refusals c.settings key config)

abbrev pub parameter_answer : Handle → ParamKey → Bool → Look → Result Param OmxError
parameter_answer h key config l =
    looked (component_named h l.components) (λ c. refused_or (get_parameter_refusal c key config) (value_of c.settings key))

-- ---- set_parameter and set_config

-- the priority is fixed outside Loaded; a port's values are where the port is fixed
abbrev pub is_wrong_time : Seen → Component → ParamKey → Bool
is_wrong_time headers c key =
    if nat_eq key.index 3 then not (is_settable c) else holds_at (port_of c key.port) (is_fixed headers c)

abbrev pub set_parameter_refusal : Seen → Component → ParamKey → Param → Option OmxError
set_parameter_refusal headers c key value = first_of_these
    ((is_invalid c.state, errors.InvalidState)
    ∷ set_refusals c.settings key false value (is_format_free c key.port value)
    ++ (is_wrong_time headers c key, errors.IncorrectStateOperation) ∷ [])

abbrev pub set_config_refusal : Component → ParamKey → Param → Option OmxError
set_config_refusal c key value = first_of_these
    ((is_invalid c.state, errors.InvalidState)
    ∷ set_refusals c.settings key true value true)

-- the port, where it is there, is held no more
abbrev pub unheld_at : Option Port → Component → Component
unheld_at None c = c
unheld_at (Some p) c = with_port p.key.port (record p.state { held = false }) c

-- a port whose definition is set is held no more
abbrev pub with_value : ParamKey → Param → Component → Component
with_value key value c =
    let d = record c { settings = changed_by key.port value c.settings } in
    if nat_eq key.index 1 then unheld_at (port_of c key.port) d else d

abbrev pub SetParameter : World → Handle → ParamKey → Param → Result (Unit {0}) OmxError → World → Type 0
SetParameter w h key value result v = Resolving plain w h result v (λ i c.
    Answers (set_parameter_refusal (look w).headers c key value) result w v (λ _. ClosesTo (with_component i (with_value key value c) w) v))

abbrev pub SetConfig : World → Handle → ParamKey → Param → Result (Unit {0}) OmxError → World → Type 0
SetConfig w h key value result v = Resolving plain w h result v (λ i c.
    Answers (set_config_refusal c key value) result w v (λ _. ClosesTo (with_component i (with_value key value c) w) v))

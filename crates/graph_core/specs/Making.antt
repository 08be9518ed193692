-- Why a value of a component isn't set, as a config or as a parameter.
use Rattle.std.specs.Prelude.{Bool, true, false, Option}
use Rattle.omx_types.specs.declared.error.OmxError.{OmxError}
use Rattle.omx_types.specs.declared.param.Param.{Param}
use Rattle.omx_types.specs.declared.param.ParamKey.{ParamKey}
use Rattle.il_machine.specs.World.{Component}
use Rattle.il_machine.specs.Headers.{Seen}
use Rattle.il_machine.specs.Parameters.{set_parameter_refusal, set_config_refusal}

-- why the value isn't set as a config, or as a parameter
abbrev pub value_refusal : Bool → Seen → Component → ParamKey → Param → Option OmxError
value_refusal true headers c key value = set_config_refusal c key value
value_refusal false headers c key value = set_parameter_refusal headers c key value

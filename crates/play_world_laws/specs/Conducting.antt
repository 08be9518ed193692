-- What the conductor makes of a link that is being changed, by how far the change has gone.
use Rattle.std.specs.Prelude.{◌≡◌, ℕ, Bool, true, false, not}
use Rattle.play_model.specs.Numbers.{settings_told, output_disable_sent, tunnel_dropped, output_set, tunnel_set_up, output_enable_sent}
use Rattle.omx_types.specs.declared.command.Command.{Command}
use Rattle.omx_types.specs.declared.command.Command.TheVariants.{PortDisable, PortEnable}
use Rattle.omx_types.specs.declared.command.PortSel.TheVariants.{One}
use Rattle.omx_types.specs.declared.param.ParamKey.{ParamKey}
use Rattle.omx_types.specs.declared.param.PortDefinition.{PortDefinition}
use Rattle.play_world_laws.specs.PlayWorlds.{PlayCast}

-- ---- a disable of the port, else an enable

abbrev pub port_command : Bool → ℕ → Command
port_command true port = PortDisable (One port)
port_command false port = PortEnable (One port)

-- it is sent to the output's component, else to the input's, once so many acts were made
abbrev pub IsSendAt : Bool → Bool → ℕ → Type 0
IsSendAt true true step = step ≡ settings_told
IsSendAt false true step = step ≡ output_disable_sent
IsSendAt true false step = step ≡ tunnel_set_up
IsSendAt false false step = step ≡ output_enable_sent

-- ---- a port's definition

-- the format is set of the output, and then of the input
abbrev pub IsSetStep : Bool → ℕ → Type 0
IsSetStep true step = step ≡ tunnel_dropped
IsSetStep false step = step ≡ output_set

-- that of an end of a link, with the format of its late source's file
abbrev pub planned : PlayCast → Bool → ℕ → PortDefinition
planned x output l = record { input = not output; format = x.format l; count = (((x.cast).layout).network).count l; size = (x.cast).size l }

abbrev pub definition_key : ℕ → ParamKey
definition_key port = record { version = record { major = 1; minor = 1; revision = 2; step = 0 }; index = 1; port = port }

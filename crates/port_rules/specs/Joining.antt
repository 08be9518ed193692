-- What keeps two ports that are there from being joined.
use Rattle.std.specs.Prelude.{not, ◌||◌, [], ◌∷◌, Option}
use Rattle.omx_types.specs.declared.error.OmxError.{OmxError}
use Rattle.omx_types.specs.declared.error.OmxError.TheVariants as errors
use Rattle.il_machine.specs.declared.port.Port.{Port}
use Rattle.il_machine.specs.Lists.{first_of_these}
use Rattle.il_machine.specs.Settings.{same_format}
use Rattle.il_machine.specs.World.{Component, same_handle}
use Rattle.il_machine.specs.Headers.{Seen}
use Rattle.il_machine.specs.Parameters.{is_fixed}
use Rattle.il_machine.specs.Tunnels.{are_output_and_input}

-- the refusals of setup_tunnel from that of the ports' directions on
abbrev pub ports_refusal : Seen → Component → Component → Port → Port → Option OmxError
ports_refusal headers c d p q = first_of_these
    ((not (are_output_and_input p q), errors.BadPortIndex)
    ∷ (same_handle c.handle d.handle, errors.BadParameter)
    ∷ (is_fixed headers c p || is_fixed headers d q, errors.IncorrectStateOperation)
    ∷ (not (same_format p.setting.definition.format q.setting.definition.format), errors.PortsNotCompatible)
    ∷ [])

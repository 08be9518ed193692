-- What an accepted command tells.
use Rattle.std.proofs.Common.{◌≡◌, false, None, arith}
use Rattle.omx_types.specs.declared.command.Command.{Command}
use Rattle.il_machine.specs.World.{Component}
use Rattle.il_machine.specs.Look.{Look}
use Rattle.il_machine.specs.Commands.{send_refusal, lacks_command_room}

pub fits : (l : Look) (c : Component) (command : Command) → send_refusal l c command ≡ None → lacks_command_room c command ≡ false
fits l c command h = grind arith

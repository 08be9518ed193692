use Rattle.std.proofs.Common.{Bool, subst}
use Rattle.omx_types.specs.declared.param.Param.TheVariants.{Port}
use Rattle.il_machine.specs.Acts as acts
use Rattle.il_machine.specs.World.{World}
use Rattle.il_machine.specs.Whole.{Stands}
use Rattle.trace_run.specs.Asking.{key}
use Rattle.trace_run.specs.Standing.{graph_kept, Replied}
use Rattle.trace_run.proofs.acts.parameters.set_definition.Goals as goal

pub returns : goal.returns
returns c components w S =
    let by_side : Bool → Type 0 = λ input. (v : World) × Stands (graph_kept c.set_parameter.new.graph) v × Replied components
    (acts.SetParameter c.args.at.handle (key 1 c.args.at.index) (Port (record { input = input; format = c.args.format; count = c.args.count; size = c.args.size }))) c.set_parameter.result w v in
    subst by_side (c.is_input.ensures w S) (c.set_parameter.ensures components w S)

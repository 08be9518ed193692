-- The setting of each line is the one that it asks for, by what its names stand for.
use Rattle.omx_types.specs.declared.param.Param.TheVariants as params
use Rattle.il_machine.specs.Acts as acts
use Rattle.il_machine.specs.Look.{look}
use Rattle.il_machine.specs.Components.{view_answer}
use Rattle.trace_run.specs.Asking.{key, input_side}
use Rattle.trace_run.specs.Naming.{handle_in, port_in}
use Rattle.trace_run.specs.Standing.{graph_kept}
use Rattle.trace_run.proofs.Replying.{at_name, as_asked}
use Rattle.trace_run.proofs.asking.set.Goals as goal

pub returns-in-SetPort : goal.returns-in-SetPort
returns-in-SetPort c headers = as_asked c.args.components.now headers c.set_definition.result (graph_kept c.args.graph.now) (graph_kept c.set_definition.new.graph) c.args.act.now _ c.in-SetPort.is
    (at_name c.args.components.now (λ w x. acts.SetParameter x.handle (key 1 x.index) (params.Port (record { input = input_side (view_answer x.handle x.index (look w)); format = c.in-SetPort.format; count = c.in-SetPort.count; size = c.in-SetPort.size }))) c.set_definition.result (graph_kept c.args.graph.now) (graph_kept c.set_definition.new.graph) c.port_id.result (port_in c.args.components.now c.in-SetPort.port) c.port_id.ensures
    (c.set_definition.ensures c.args.components.now))

pub returns-in-SetSupplier : goal.returns-in-SetSupplier
returns-in-SetSupplier c headers = as_asked c.args.components.now headers c.set_parameter.result (graph_kept c.args.graph.now) (graph_kept c.set_parameter.new.graph) c.args.act.now _ c.in-SetSupplier.is
    (at_name c.args.components.now (λ w x. acts.SetParameter x.handle (key 2 x.index) (params.Supplier c.in-SetSupplier.supplier)) c.set_parameter.result (graph_kept c.args.graph.now) (graph_kept c.set_parameter.new.graph) c.port_id-at.result (port_in c.args.components.now c.in-SetSupplier.port) c.port_id-at.ensures
    (c.set_parameter.ensures c.args.components.now))

pub returns-in-SetPriority : goal.returns-in-SetPriority
returns-in-SetPriority c headers = as_asked c.args.components.now headers c.set_parameter-in-SetPriority.result (graph_kept c.args.graph.now) (graph_kept c.set_parameter-in-SetPriority.new.graph) c.args.act.now _ c.in-SetPriority.is
    (at_name c.args.components.now (λ w x. acts.SetParameter x (key 3 0) (params.Priority c.in-SetPriority.priority)) c.set_parameter-in-SetPriority.result (graph_kept c.args.graph.now) (graph_kept c.set_parameter-in-SetPriority.new.graph) c.handle_of-h.result (handle_in c.args.components.now c.in-SetPriority.component) c.handle_of-h.ensures
    (c.set_parameter-in-SetPriority.ensures c.args.components.now))

pub returns-in-Gain : goal.returns-in-Gain
returns-in-Gain c headers = as_asked c.args.components.now headers c.set_config.result (graph_kept c.args.graph.now) (graph_kept c.set_config.new.graph) c.args.act.now _ c.in-Gain.is
    (at_name c.args.components.now (λ w x. acts.SetConfig x (key 4 0) (params.Gain c.in-Gain.gain)) c.set_config.result (graph_kept c.args.graph.now) (graph_kept c.set_config.new.graph) c.handle_of-h-in-Gain.result (handle_in c.args.components.now c.in-Gain.component) c.handle_of-h-in-Gain.ensures
    (c.set_config.ensures c.args.components.now))

pub returns-in-Weight : goal.returns-in-Weight
returns-in-Weight c headers = as_asked c.args.components.now headers c.set_config-in-Weight.result (graph_kept c.args.graph.now) (graph_kept c.set_config-in-Weight.new.graph) c.args.act.now _ c.in-Weight.is
    (at_name c.args.components.now (λ w x. acts.SetConfig x.handle (key 5 x.index) (params.Weight c.in-Weight.weight)) c.set_config-in-Weight.result (graph_kept c.args.graph.now) (graph_kept c.set_config-in-Weight.new.graph) c.port_id-at-in-Weight.result (port_in c.args.components.now c.in-Weight.port) c.port_id-at-in-Weight.ensures
    (c.set_config-in-Weight.ensures c.args.components.now))

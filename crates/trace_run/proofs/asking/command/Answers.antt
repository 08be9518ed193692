-- The command of each line is the one that it asks for, by what its names stand for.
use Rattle.omx_types.specs.declared.command.Command.TheVariants as commands
use Rattle.il_machine.specs.Acts as acts
use Rattle.trace_run.specs.Naming.{handle_in}
use Rattle.trace_run.specs.Standing.{graph_kept}
use Rattle.trace_run.proofs.Replying.{at_name, as_asked}
use Rattle.trace_run.proofs.asking.command.Goals as goal

pub returns-in-SendState : goal.returns-in-SendState
returns-in-SendState c headers = as_asked c.args.components.now headers c.send.result (graph_kept c.args.graph.now) (graph_kept c.send.new.graph) c.args.act.now _ c.in-SendState.is
    (at_name c.args.components.now (λ w x. acts.SendCommand x (commands.StateSet c.in-SendState.state)) c.send.result (graph_kept c.args.graph.now) (graph_kept c.send.new.graph) c.handle_of-h.result (handle_in c.args.components.now c.in-SendState.component) c.handle_of-h.ensures
    (c.send.ensures c.args.components.now))

pub returns-in-SendFlush : goal.returns-in-SendFlush
returns-in-SendFlush c headers = as_asked c.args.components.now headers c.send-in-SendFlush.result (graph_kept c.args.graph.now) (graph_kept c.send-in-SendFlush.new.graph) c.args.act.now _ c.in-SendFlush.is
    (at_name c.args.components.now (λ w x. acts.SendCommand x (commands.Flush c.in-SendFlush.ports)) c.send-in-SendFlush.result (graph_kept c.args.graph.now) (graph_kept c.send-in-SendFlush.new.graph) c.handle_of-h-in-SendFlush.result (handle_in c.args.components.now c.in-SendFlush.component) c.handle_of-h-in-SendFlush.ensures
    (c.send-in-SendFlush.ensures c.args.components.now))

pub returns-in-SendDisable : goal.returns-in-SendDisable
returns-in-SendDisable c headers = as_asked c.args.components.now headers c.send-in-SendDisable.result (graph_kept c.args.graph.now) (graph_kept c.send-in-SendDisable.new.graph) c.args.act.now _ c.in-SendDisable.is
    (at_name c.args.components.now (λ w x. acts.SendCommand x (commands.PortDisable c.in-SendDisable.ports)) c.send-in-SendDisable.result (graph_kept c.args.graph.now) (graph_kept c.send-in-SendDisable.new.graph) c.handle_of-h-in-SendDisable.result (handle_in c.args.components.now c.in-SendDisable.component) c.handle_of-h-in-SendDisable.ensures
    (c.send-in-SendDisable.ensures c.args.components.now))

pub returns-in-SendEnable : goal.returns-in-SendEnable
returns-in-SendEnable c headers = as_asked c.args.components.now headers c.send-in-SendEnable.result (graph_kept c.args.graph.now) (graph_kept c.send-in-SendEnable.new.graph) c.args.act.now _ c.in-SendEnable.is
    (at_name c.args.components.now (λ w x. acts.SendCommand x (commands.PortEnable c.in-SendEnable.ports)) c.send-in-SendEnable.result (graph_kept c.args.graph.now) (graph_kept c.send-in-SendEnable.new.graph) c.handle_of-h-in-SendEnable.result (handle_in c.args.components.now c.in-SendEnable.component) c.handle_of-h-in-SendEnable.ensures
    (c.send-in-SendEnable.ensures c.args.components.now))

pub returns-in-SendMark : goal.returns-in-SendMark
returns-in-SendMark c headers = as_asked c.args.components.now headers c.send_mark.result (graph_kept c.args.graph.now) (graph_kept c.send_mark.new.graph) c.args.act.now _ c.in-SendMark.is c.send_mark.ensures

-- The act of each line is the one that it asks for, by what its names stand for.
use Rattle.il_machine.specs.Acts as acts
use Rattle.trace_run.specs.Naming.{handle_in, port_in}
use Rattle.trace_run.specs.Standing.{graph_kept}
use Rattle.trace_run.proofs.Replying.{at_name, as_asked}
use Rattle.trace_run.proofs.asking.ask.Goals as goal

pub returns-in-Free : goal.returns-in-Free
returns-in-Free c headers = as_asked c.args.components.now headers c.free.result (graph_kept c.args.graph.now) (graph_kept c.free.new.graph) c.args.act.now _ c.in-Free.is
    (at_name c.args.components.now (λ w x. acts.FreeHandle x) c.free.result (graph_kept c.args.graph.now) (graph_kept c.free.new.graph) c.handle_of.result (handle_in c.args.components.now c.in-Free.component) c.handle_of.ensures
    (c.free.ensures c.args.components.now))

pub returns-in-State : goal.returns-in-State
returns-in-State c headers = as_asked c.args.components.now headers c.state.result (graph_kept c.args.graph.now) (graph_kept c.args.graph.now) c.args.act.now _ c.in-State.is
    (at_name c.args.components.now (λ w x. acts.GetState x) c.state.result (graph_kept c.args.graph.now) (graph_kept c.args.graph.now) c.handle_of-in-State.result (handle_in c.args.components.now c.in-State.component) c.handle_of-in-State.ensures
    (c.state.ensures c.args.components.now))

pub returns-in-Port : goal.returns-in-Port
returns-in-Port c headers = as_asked c.args.components.now headers c.port.result (graph_kept c.args.graph.now) (graph_kept c.args.graph.now) c.args.act.now _ c.in-Port.is
    (at_name c.args.components.now (λ w x. acts.PortView x c.in-Port.at.index) c.port.result (graph_kept c.args.graph.now) (graph_kept c.args.graph.now) c.handle_of-in-Port.result (handle_in c.args.components.now c.in-Port.at.component) c.handle_of-in-Port.ensures
    (c.port.ensures c.args.components.now))

pub returns-in-Run : goal.returns-in-Run
returns-in-Run c headers = as_asked c.args.components.now headers c.run.result (graph_kept c.args.graph.now) (graph_kept c.run.new.graph) c.args.act.now _ c.in-Run.is
    (at_name c.args.components.now (λ w x. acts.RunCommand x) c.run.result (graph_kept c.args.graph.now) (graph_kept c.run.new.graph) c.handle_of-in-Run.result (handle_in c.args.components.now c.in-Run.component) c.handle_of-in-Run.ensures
    c.run.ensures)

pub returns-in-Supply : goal.returns-in-Supply
returns-in-Supply c headers = as_asked c.args.components.now headers c.supply.result (graph_kept c.args.graph.now) (graph_kept c.supply.new.graph) c.args.act.now _ c.in-Supply.is
    (at_name c.args.components.now (λ w x. acts.Supply x.handle x.index) c.supply.result (graph_kept c.args.graph.now) (graph_kept c.supply.new.graph) c.port_id.result (port_in c.args.components.now c.in-Supply.at) c.port_id.ensures
    c.supply.ensures)

pub returns-in-Release : goal.returns-in-Release
returns-in-Release c headers = as_asked c.args.components.now headers c.release.result (graph_kept c.args.graph.now) (graph_kept c.release.new.graph) c.args.act.now _ c.in-Release.is
    (at_name c.args.components.now (λ w x. acts.Release x.handle x.index) c.release.result (graph_kept c.args.graph.now) (graph_kept c.release.new.graph) c.port_id-in-Release.result (port_in c.args.components.now c.in-Release.at) c.port_id-in-Release.ensures
    c.release.ensures)

pub returns-in-Over : goal.returns-in-Over
returns-in-Over c headers = as_asked c.args.components.now headers c.over.result (graph_kept c.args.graph.now) (graph_kept c.over.new.graph) c.args.act.now _ c.in-Over.is
    (at_name c.args.components.now (λ w x. acts.HandOver x.handle x.index) c.over.result (graph_kept c.args.graph.now) (graph_kept c.over.new.graph) c.port_id-in-Over.result (port_in c.args.components.now c.in-Over.at) c.port_id-in-Over.ensures
    c.over.ensures)

pub returns-in-Back : goal.returns-in-Back
returns-in-Back c headers = as_asked c.args.components.now headers c.back.result (graph_kept c.args.graph.now) (graph_kept c.back.new.graph) c.args.act.now _ c.in-Back.is
    (at_name c.args.components.now (λ w x. acts.HandBack x.handle x.index) c.back.result (graph_kept c.args.graph.now) (graph_kept c.back.new.graph) c.port_id-in-Back.result (port_in c.args.components.now c.in-Back.at) c.port_id-in-Back.ensures
    c.back.ensures)

pub returns-in-Grant : goal.returns-in-Grant
returns-in-Grant c headers = as_asked c.args.components.now headers c.grant.result (graph_kept c.args.graph.now) (graph_kept c.grant.new.graph) c.args.act.now _ c.in-Grant.is c.grant.ensures

pub returns-in-Preempt : goal.returns-in-Preempt
returns-in-Preempt c headers = as_asked c.args.components.now headers c.preempt.result (graph_kept c.args.graph.now) (graph_kept c.preempt.new.graph) c.args.act.now _ c.in-Preempt.is c.preempt.ensures

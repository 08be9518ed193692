-- The tunnel of each line is between the ports that its names stand for.
use Rattle.il_machine.specs.Acts as acts
use Rattle.trace_run.specs.Naming.{port_in}
use Rattle.trace_run.specs.Standing.{graph_kept}
use Rattle.trace_run.proofs.Replying.{at_ports, as_asked}
use Rattle.trace_run.proofs.asking.join.Goals as goal

pub returns-in-Tunnel : goal.returns-in-Tunnel
returns-in-Tunnel c headers = as_asked c.args.components.now headers c.tunnel.result (graph_kept c.args.graph.now) (graph_kept c.tunnel.new.graph) c.args.act.now _ c.in-Tunnel.is
    (at_ports c.args.components.now acts.SetupTunnel c.tunnel.result (graph_kept c.args.graph.now) (graph_kept c.tunnel.new.graph) c.port_id.result c.port_id-in-Tunnel.result (port_in c.args.components.now c.in-Tunnel.first) (port_in c.args.components.now c.in-Tunnel.second) c.port_id.ensures c.port_id-in-Tunnel.ensures
    (c.tunnel.ensures c.args.components.now))

pub returns-in-DropTunnel : goal.returns-in-DropTunnel
returns-in-DropTunnel c headers = as_asked c.args.components.now headers c.drop_tunnel.result (graph_kept c.args.graph.now) (graph_kept c.drop_tunnel.new.graph) c.args.act.now _ c.in-DropTunnel.is
    (at_ports c.args.components.now acts.DropTunnel c.drop_tunnel.result (graph_kept c.args.graph.now) (graph_kept c.drop_tunnel.new.graph) c.port_id-in-DropTunnel.result c.port_id-in-DropTunnel-2.result (port_in c.args.components.now c.in-DropTunnel.first) (port_in c.args.components.now c.in-DropTunnel.second) c.port_id-in-DropTunnel.ensures c.port_id-in-DropTunnel-2.ensures
    (c.drop_tunnel.ensures c.args.components.now))

use Rattle.il_machine.specs.Acts as acts
use Rattle.trace_run.specs.Standing.{graph_kept}
use Rattle.trace_run.proofs.Replying.{replied}
use Rattle.trace_run.proofs.acts.tunnels.drop_tunnel.Goals as goal

pub returns : goal.returns
returns c components = replied components (acts.DropTunnel c.args.output c.args.input) (acts.Plain c.drop_tunnel.result) c.plain_reply.result (graph_kept c.args.graph.now) (graph_kept c.drop_tunnel.new.self)
    (λ headers. c.plain_reply.ensures (record { components = components; headers = headers })) c.drop_tunnel.ensures.step

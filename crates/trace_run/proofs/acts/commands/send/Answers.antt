use Rattle.il_machine.specs.Acts as acts
use Rattle.trace_run.specs.Standing.{graph_kept}
use Rattle.trace_run.proofs.Replying.{replied}
use Rattle.trace_run.proofs.acts.commands.send.Goals as goal

pub returns : goal.returns
returns c components = replied components (acts.SendCommand c.args.h c.args.command) (acts.Plain c.send_command.result) c.plain_reply.result (graph_kept c.args.graph.now) (graph_kept c.send_command.new.self)
    (λ headers. c.plain_reply.ensures (record { components = components; headers = headers })) c.send_command.ensures.step

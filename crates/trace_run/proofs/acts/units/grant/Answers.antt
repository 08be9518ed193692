use Rattle.il_machine.specs.Acts as acts
use Rattle.trace_run.specs.Standing.{graph_kept}
use Rattle.trace_run.proofs.Granting.{grant_named}
use Rattle.trace_run.proofs.Replying.{replied}
use Rattle.trace_run.proofs.acts.units.grant.Goals as goal

pub granted_reply-requires : goal.granted_reply-requires
granted_reply-requires c =
    let x = c.grant.ensures.step c.requires.world c.requires.stands in
    grant_named c.args.components.now c.requires.world x.0 c.requires.sound c.requires.named c.grant.result x.2

pub returns : goal.returns
returns c = replied c.args.components.now acts.Grant (acts.Granted c.grant.result) c.granted_reply.result (graph_kept c.args.graph.now) (graph_kept c.grant.new.self)
    (λ headers. c.granted_reply.ensures) c.grant.ensures.step

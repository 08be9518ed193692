use Rattle.il_machine.specs.Acts as acts
use Rattle.trace_run.specs.Standing.{graph_kept}
use Rattle.trace_run.proofs.Granting.{preempt_named}
use Rattle.trace_run.proofs.Replying.{replied}
use Rattle.trace_run.proofs.acts.units.preempt.Goals as goal

pub preempted_reply-requires : goal.preempted_reply-requires
preempted_reply-requires c =
    let x = c.preempt.ensures.step c.requires.world c.requires.stands in
    preempt_named c.args.components.now c.requires.world x.0 c.requires.sound c.requires.named c.preempt.result x.2

pub returns : goal.returns
returns c = replied c.args.components.now acts.Preempt (acts.Preempted c.preempt.result) c.preempted_reply.result (graph_kept c.args.graph.now) (graph_kept c.preempt.new.self)
    (λ headers. c.preempted_reply.ensures) c.preempt.ensures.step

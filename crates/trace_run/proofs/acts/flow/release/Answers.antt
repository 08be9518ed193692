use Rattle.il_machine.specs.Acts as acts
use Rattle.trace_run.specs.Standing.{graph_kept}
use Rattle.trace_run.proofs.Flowing.{release_answer}
use Rattle.trace_run.proofs.Replying.{replied}
use Rattle.trace_run.proofs.acts.flow.release.Goals as goal

pub answer_reply-requires : goal.answer_reply-requires
answer_reply-requires c =
    let x = c.release.ensures.step c.requires.world c.requires.stands in
    release_answer c.args.components.now c.requires.world c.requires.sound c.requires.named c.args.at.handle c.args.at.index c.release.result x.0 x.2

pub returns : goal.returns
returns c = replied c.args.components.now (acts.Release c.args.at.handle c.args.at.index) (acts.Acted c.release.result) c.answer_reply.result (graph_kept c.args.graph.now) (graph_kept c.release.new.self)
    c.answer_reply.ensures c.release.ensures.step

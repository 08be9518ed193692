use Rattle.il_machine.specs.Acts as acts
use Rattle.trace_run.specs.Standing.{graph_kept}
use Rattle.trace_run.proofs.Flowing.{back_answer}
use Rattle.trace_run.proofs.Replying.{replied}
use Rattle.trace_run.proofs.acts.flow.back.Goals as goal

pub answer_reply-requires : goal.answer_reply-requires
answer_reply-requires c =
    let x = c.hand_back.ensures.step c.requires.world c.requires.stands in
    back_answer c.args.components.now c.requires.world c.requires.sound c.requires.named c.args.at.handle c.args.at.index c.hand_back.result x.0 x.2

pub returns : goal.returns
returns c = replied c.args.components.now (acts.HandBack c.args.at.handle c.args.at.index) (acts.Acted c.hand_back.result) c.answer_reply.result (graph_kept c.args.graph.now) (graph_kept c.hand_back.new.self)
    c.answer_reply.ensures c.hand_back.ensures.step

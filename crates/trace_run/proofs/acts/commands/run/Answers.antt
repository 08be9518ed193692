use Rattle.il_machine.specs.Acts as acts
use Rattle.trace_run.specs.Standing.{graph_kept}
use Rattle.trace_run.proofs.Flowing.{run_answer}
use Rattle.trace_run.proofs.Replying.{replied}
use Rattle.trace_run.proofs.acts.commands.run.Goals as goal

pub answer_reply-requires : goal.answer_reply-requires
answer_reply-requires c =
    let x = c.run_command.ensures.step c.requires.world c.requires.stands in
    run_answer c.args.components.now c.requires.world c.requires.sound c.requires.named c.args.h c.run_command.result x.0 x.2

pub returns : goal.returns
returns c = replied c.args.components.now (acts.RunCommand c.args.h) (acts.Acted c.run_command.result) c.answer_reply.result (graph_kept c.args.graph.now) (graph_kept c.run_command.new.self)
    c.answer_reply.ensures c.run_command.ensures.step

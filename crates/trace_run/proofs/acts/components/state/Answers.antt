use Rattle.std.proofs.Common.{Ok, Err, refl}
use Rattle.act_text.specs.declared.reply.TextReply.TheVariants as texts
use Rattle.il_machine.specs.Acts as acts
use Rattle.il_machine.specs.Look.{look}
use Rattle.il_machine.specs.Components.{state_answer}
use Rattle.trace_run.specs.Standing.{graph_kept}
use Rattle.trace_run.proofs.Replying.{looked, looks_here}
use Rattle.trace_run.proofs.acts.components.state.Goals as goal

pub returns-in-Ok : goal.returns-in-Ok
returns-in-Ok c components = looked components (acts.GetState c.args.h) (acts.Stated (Ok c.in-Ok.state)) (texts.State c.in-Ok.state) (graph_kept c.args.graph.now) c.requires (λ headers. refl)
    (λ w S C. looks_here (state_answer c.args.h (look w)) (Ok c.in-Ok.state) w (c.in-Ok.ensures w S) C)

pub returns-in-Err : goal.returns-in-Err
returns-in-Err c components = looked components (acts.GetState c.args.h) (acts.Stated (Err c.in-Err.error)) (texts.Error c.in-Err.error) (graph_kept c.args.graph.now) c.requires (λ headers. refl)
    (λ w S C. looks_here (state_answer c.args.h (look w)) (Err c.in-Err.error) w (c.in-Err.ensures w S) C)

use Rattle.std.proofs.Common.{Ok, Err, refl}
use Rattle.act_text.specs.declared.reply.TextReply.TheVariants as texts
use Rattle.il_machine.specs.Acts as acts
use Rattle.il_machine.specs.Look.{look}
use Rattle.il_machine.specs.Components.{view_answer}
use Rattle.trace_run.specs.Standing.{graph_kept}
use Rattle.trace_run.proofs.Replying.{looked, looks_here}
use Rattle.trace_run.proofs.acts.components.port.Goals as goal

pub returns-in-Ok : goal.returns-in-Ok
returns-in-Ok c components = looked components (acts.PortView c.args.h c.args.index) (acts.Viewed (Ok c.in-Ok.view)) (texts.Port c.in-Ok.view) (graph_kept c.args.graph.now) c.requires (λ headers. refl)
    (λ w S C. looks_here (view_answer c.args.h c.args.index (look w)) (Ok c.in-Ok.view) w (c.in-Ok.ensures w S) C)

pub returns-in-Err : goal.returns-in-Err
returns-in-Err c components = looked components (acts.PortView c.args.h c.args.index) (acts.Viewed (Err c.in-Err.error)) (texts.Error c.in-Err.error) (graph_kept c.args.graph.now) c.requires (λ headers. refl)
    (λ w S C. looks_here (view_answer c.args.h c.args.index (look w)) (Err c.in-Err.error) w (c.in-Err.ensures w S) C)

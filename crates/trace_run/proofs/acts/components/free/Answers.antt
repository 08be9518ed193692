use Rattle.std.proofs.Common.{Ok, Err, option_map, refl}
use Rattle.act_text.specs.declared.reply.TextReply.TheVariants as texts
use Rattle.il_machine.specs.Acts as acts
use Rattle.audio_parts.specs.AnyParts.{attached_of}
use Rattle.trace_run.specs.Standing.{graph_kept}
use Rattle.trace_run.proofs.Replying.{replied}
use Rattle.trace_run.proofs.acts.components.free.Goals as goal

pub returns-in-Ok : goal.returns-in-Ok
returns-in-Ok c components = replied components (acts.FreeHandle c.args.h) (acts.Removed (Ok (option_map attached_of c.in-Ok._freed.file))) (texts.Done) (graph_kept c.args.graph.now) (graph_kept c.free_handle.new.self) (λ headers. refl) c.in-Ok.ensures.step

pub returns-in-Err : goal.returns-in-Err
returns-in-Err c components = replied components (acts.FreeHandle c.args.h) (acts.Removed (Err c.in-Err.error)) (texts.Error c.in-Err.error) (graph_kept c.args.graph.now) (graph_kept c.free_handle.new.self) (λ headers. refl) c.in-Err.ensures.step

use Rattle.std.proofs.Common.{subst}
use Rattle.omx_types.specs.declared.handle.Handle.{Handle}
use Rattle.omx_types.specs.declared.command.Command.TheVariants.{MarkBuffer}
use Rattle.il_machine.specs.Acts as acts
use Rattle.il_machine.specs.Whole.{Steps}
use Rattle.trace_run.specs.Naming.{handle_in}
use Rattle.trace_run.specs.Standing.{graph_kept, Replied}
use Rattle.trace_run.proofs.asking.send_mark.Goals as goal

pub returns : goal.returns
returns c =
    let named : Handle → Handle → Type 0 = λ h target. Steps (graph_kept c.args.graph.now) (graph_kept c.send.new.graph) (λ w v. Replied c.args.components.now
    (acts.SendCommand h (MarkBuffer c.args.port target c.args.value)) c.send.result w v) in
    subst (λ (h : Handle). named h (handle_in c.args.components.now c.args.target.now)) c.handle_of.ensures (subst (λ (target : Handle). named c.handle_of.result target) c.handle_of-target.ensures (c.send.ensures c.args.components.now))

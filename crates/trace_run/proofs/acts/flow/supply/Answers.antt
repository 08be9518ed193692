use Rattle.std.proofs.Common.{◌≡◌, Ok, Err, refl, subst}
use Rattle.act_text.specs.declared.reply.TextReply.TheVariants as texts
use Rattle.omx_types.specs.declared.error.CallError.{CallError}
use Rattle.omx_types.specs.declared.error.CallError.TheVariants.{Omx}
use Rattle.il_machine.specs.Acts as acts
use Rattle.il_machine.specs.Flow.{Supply}
use Rattle.il_machine.specs.Whole.{Steps}
use Rattle.trace_run.specs.Standing.{graph_kept}
use Rattle.trace_run.proofs.Flowing.{supply_named}
use Rattle.trace_run.proofs.Replying.{replied}
use Rattle.trace_run.proofs.acts.flow.supply.Goals as goal

pub acted_reply-requires : goal.acted_reply-requires
acted_reply-requires c =
    let x = c.in-Ok.ensures.step c.requires.world c.requires.stands in
    supply_named c.args.components.now c.requires.world c.requires.sound c.requires.named c.args.at.handle c.args.at.index c.in-Ok.acted x.0 x.2

pub returns-in-Ok : goal.returns-in-Ok
returns-in-Ok c = replied c.args.components.now (acts.Supply c.args.at.handle c.args.at.index) (acts.Supplied (Ok c.in-Ok.acted)) c.acted_reply.result (graph_kept c.args.graph.now) (graph_kept c.supply.new.self)
    (λ headers. c.acted_reply.ensures) c.in-Ok.ensures.step

pub returns-in-Err-Omx : goal.returns-in-Err-Omx
returns-in-Err-Omx c =
    let old = graph_kept c.args.graph.now in
    let new = graph_kept c.supply.new.self in
    let is : c.in-Err-Omx.field-0 ≡ Omx c.in-Err-Omx.error = c.in-Err-Omx.field-0-is in
    replied c.args.components.now (acts.Supply c.args.at.handle c.args.at.index) (acts.Supplied (Err (Omx c.in-Err-Omx.error))) (texts.Error c.in-Err-Omx.error) old new (λ headers. refl)
    (subst (λ (e : CallError). Steps old new (λ w v. Supply w c.args.at.handle c.args.at.index (Err e) v)) is c.in-Err-Omx.ensures.step)

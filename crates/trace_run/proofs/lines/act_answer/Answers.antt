use Rattle.std.proofs.Common.{refl, sym, subst}
use Rattle.act_text.specs.declared.act.TextAct.{TextAct}
use Rattle.act_text.specs.declared.act.TextAct.TheVariants as lines
use Rattle.script_lang.specs.declared.form.TraceForm.TheVariants as forms
use Rattle.act_text.specs.declared.reply.TextReply.TheVariants as texts
use Rattle.trace_run.specs.declared.reply.LineAnswer.TheVariants as answers
use Rattle.trace_run.specs.Desks.{desk_of}
use Rattle.trace_run.specs.Replying.{Plain}
use Rattle.trace_run.specs.Standing.{parts, graph_kept}
use Rattle.trace_run.specs.Works.{LeadsAllTo}
use Rattle.trace_run.proofs.Asked.{take_leads, asked_leads, plain_unless}
use Rattle.trace_run.proofs.HeldLines.{end_to, keeps_named, leads_claimed, leads_finished, out_somewhere, still_to, still_unless}
use Rattle.trace_run.proofs.lines.act_answer.Goals as goal

pub returns-in-Take-clause-leads : goal.returns-in-Take-clause-leads
returns-in-Take-clause-leads c =
    let cs = c.args.components.now in
    let works = c.args.works.now.items in
    let old = parts c.args.graph.now cs c.args.slots.now.items in
    let new = parts c.take.new.graph cs c.take.new.slots.items in
    subst (λ (a : TextAct). LeadsAllTo (record { parts = old; works = works }) (record { parts = new; works = works }) (forms.Act a) c.take.result) (sym c.in-Take.is)
    (still_to old new works (forms.Act (lines.Take c.in-Take.component)) c.take.result tt (keeps_named old new _ refl)
    (take_leads old new c.handle_of.result c.in-Take.component c.take.result c.handle_of.ensures (c.take.ensures cs)))

pub returns-in_ok-reply-in-Claim-clause-leads : goal.returns-in_ok-reply-in-Claim-clause-leads
returns-in_ok-reply-in-Claim-clause-leads c =
    let component = c.in-Claim.component in
    let works = c.args.works.now.items in
    let news = c.claim.new.works.items in
    let old = parts c.args.graph.now c.args.components.now c.args.slots.now.items in
    let graph = graph_kept c.claim.new.graph in
    let reply = c.in_ok-reply-in-Claim.reply in
    subst (λ (a : TextAct). LeadsAllTo (record { parts = old; works = works }) (record { parts = record old { graph = graph }; works = news }) (forms.Act a) (answers.Plain reply)) (sym c.in-Claim.is)
    (Plain reply, refl, leads_claimed old graph works news c.handle_of-in-Claim.result component reply c.handle_of-in-Claim.ensures c.in_ok-reply-in-Claim.ensures.claimed)

pub finish-reply-requires : goal.finish-reply-requires
finish-reply-requires c place x there = out_somewhere (desk_of c.args.graph.now c.args.components.now c.args.slots.now.items c.args.works.now.items) place x c.requires there

pub returns-in-Finish-clause-leads : goal.returns-in-Finish-clause-leads
returns-in-Finish-clause-leads c =
    let cs = c.args.components.now in
    let component = c.in-Finish.component in
    let slots = c.args.slots.now.items in
    let works = c.args.works.now.items in
    let news = c.finish-reply.new.works.items in
    let old = parts c.args.graph.now cs slots in
    let graph = graph_kept c.finish-reply.new.graph in
    let reply = c.finish-reply.result in
    subst (λ (a : TextAct). LeadsAllTo (record { parts = old; works = works }) (record { parts = record old { graph = graph }; works = news }) (forms.Act a) (answers.Plain reply)) (sym c.in-Finish.is)
    (Plain reply, refl, leads_finished old works c.handle_of-in-Finish.result component c.handle_of-in-Finish.ensures graph news reply c.finish-reply.ensures)

pub returns-in-End-clause-leads : goal.returns-in-End-clause-leads
returns-in-End-clause-leads c =
    let desk = desk_of c.args.graph.now c.args.components.now c.args.slots.now.items c.args.works.now.items in
    subst (λ (a : TextAct). LeadsAllTo desk desk (forms.Act a) (answers.Plain texts.NotOut)) (sym c.in-End.is) (end_to desk c.in-End.field-0)

pub returns-in_default-clause-leads : goal.returns-in_default-clause-leads
returns-in_default-clause-leads c =
    let cs = c.args.components.now in
    let works = c.args.works.now.items in
    let act = c.args.act.now in
    let old = parts c.args.graph.now cs c.args.slots.now.items in
    let new = parts c.ask.new.graph cs c.args.slots.now.items in
    let reply = c.ask.result in
    let d = c.in_default in
    still_to old new works (forms.Act act) (answers.Plain reply) (still_unless act d.not-Claim d.not-Finish) (keeps_named old new (forms.Act act) refl)
    (Plain reply, refl, asked_leads old (graph_kept c.ask.new.graph) act reply (plain_unless act d.not-Take d.not-Claim d.not-Finish d.not-End) c.ask.ensures)

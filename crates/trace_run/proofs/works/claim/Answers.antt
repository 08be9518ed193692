use Rattle.std.proofs.Common.{Ok, Err, Some, refl, ap}
use Rattle.il_graph.specs.Shown.{look_of}
use Rattle.il_graph.specs.Claiming.{told_by}
use Rattle.il_graph.specs.declared.claimed.Claimed.TheVariants as answers
use Rattle.il_graph.proofs.Returning.{are_terms_at, terms_at}
use Rattle.act_text.specs.declared.reply.TextReply.{TextReply}
use Rattle.act_text.specs.declared.reply.TextReply.TheVariants as texts
use Rattle.trace_run.specs.Standing.{graph_kept}
use Rattle.trace_run.specs.Replying.{Plain}
use Rattle.trace_run.proofs.Claims.{answered, none_taken, work_taken}
use Rattle.trace_run.proofs.works.claim.Goals as goal

pub returns-in-Err-clause-claimed : goal.returns-in-Err-clause-claimed
returns-in-Err-clause-claimed c =
    let h = c.args.h in
    let l = look_of c.args.graph.now in
    let same = c.reserve.ensures.items in
    answered (graph_kept c.args.graph.now) (graph_kept c.claim.new.self) h c.args.works.now.items c.reserve.new.self.items (Err c.in-Err.error) (texts.Error c.in-Err.error) (λ v. Unit {0}) (λ v S u. same) (λ names. refl)
    (c.in-Err.ensures.step (terms_at h l) (are_terms_at h l))

pub returns-in-Err-work_or_why-clause-claimed : goal.returns-in-Err-work_or_why-clause-claimed
returns-in-Err-work_or_why-clause-claimed c =
    let h = c.args.h in
    let l = look_of c.args.graph.now in
    let t = terms_at h l in
    let why = c.in-Err-work_or_why.why in
    let x = told_by t c.in-Ok.claimed in
    let works = c.args.works.now.items in
    let idle = c.in-Err-work_or_why.ensures.why t in
    answered (graph_kept c.args.graph.now) (graph_kept c.claim.new.self) h works c.reserve.new.self.items (Ok x) (texts.Idle why) _ (λ v S u. none_taken h works c.reserve.new.self.items x why v idle c.reserve.ensures.items)
    (λ names. ap (λ (r : TextReply). Some (Plain r)) idle) (c.in-Ok.ensures.step t (are_terms_at h l))

pub returns-in-Ok-work_or_why-clause-claimed : goal.returns-in-Ok-work_or_why-clause-claimed
returns-in-Ok-work_or_why-clause-claimed c =
    let h = c.args.h in
    let l = look_of c.args.graph.now in
    let t = terms_at h l in
    let new = graph_kept c.claim.new.self in
    let works = c.args.works.now.items in
    let news = c.push_reserved.new.self.items in
    let is = c.in-Ok-work_or_why.ensures.work in
    let steps = rw is at (c.in-Ok.ensures.step t (are_terms_at h l)) in
    let pushed = rw c.reserve.ensures.items at c.push_reserved.ensures.items in
    let set_so = rw is at (c.in-Ok.ensures.terms t (are_terms_at h l)) in
    let its = rw is at c.in-Ok.ensures.its in
    let whole = rw is at c.in-Ok.ensures.whole in
    let same = rw is at c.in-Ok.ensures.component in
    let lent = rw is at c.in-Ok.ensures.lent in
    answered (graph_kept c.args.graph.now) new h works news (Ok (told_by t (answers.Work c.in-Ok-work_or_why.work))) texts.Work _ (λ v S far. work_taken new h works news t _ v S pushed same set_so far its whole lent) (λ names. refl) steps

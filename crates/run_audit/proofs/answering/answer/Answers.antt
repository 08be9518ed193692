use Rattle.std.proofs.Common.{◌≡◌, Some, None, sym, ◌∙◌, ap}
use Rattle.graph_acts.specs.Plain.{sight_of}
use Rattle.run_audit.specs.Answering.{IsReplyOf}
use Rattle.run_audit.proofs.Plain.{can_plain, replied_plain, so_plain}
use Rattle.run_audit.proofs.Replied.{answered_else, answered_so}
use Rattle.run_audit.proofs.answering.answer.Goals as goal

pub answer-reply-requires : goal.answer-reply-requires
answer-reply-requires g c = record { lawful = can_plain (sight_of g.C.Client g.S.Source g.K.Sink) c.args.served.now.graph c.in-Some.act c.in-Some.ensures.plain }

pub text_of-requires : goal.text_of-requires
text_of-requires g c = replied_plain c.in-Some.act c.answer-reply.result c.in-Some.ensures.plain c.answer-reply.ensures.replied

pub returns-in_default-text_of-clause-other : goal.returns-in_default-text_of-clause-other
returns-in_default-text_of-clause-other g c =
    let see = sight_of g.C.Client g.S.Source g.K.Sink in
    let old = c.args.served.now.graph in
    let new = c.answer-reply.new.self.graph in
    let parts = c.args.parts.now in
    let handles = c.args.handles.now in
    let said = c.args.said.now in
    let act = c.in-Some.act in
    let plain = c.in-Some.ensures.plain in
    let reply = c.answer-reply.result in
    let R : IsReplyOf see old new parts handles said reply = record { act = act; plain = plain; says = c.in-Some.ensures.some; moved = c.answer-reply.ensures } in
    answered_else see old new parts handles said reply R (λ e. let z : None ≡ Some said.reply = sym (c.in_default-text_of.ensures.said (so_plain see old act plain).0) ∙ e in cc)

pub returns-then-is_same_reply-clause-same : goal.returns-then-is_same_reply-clause-same
returns-then-is_same_reply-clause-same g c =
    let see = sight_of g.C.Client g.S.Source g.K.Sink in
    let old = c.args.served.now.graph in
    let new = c.answer-reply.new.self.graph in
    let parts = c.args.parts.now in
    let handles = c.args.handles.now in
    let said = c.args.said.now in
    let act = c.in-Some.act in
    let plain = c.in-Some.ensures.plain in
    let reply = c.answer-reply.result in
    let R : IsReplyOf see old new parts handles said reply = record { act = act; plain = plain; says = c.in-Some.ensures.some; moved = c.answer-reply.ensures } in
    answered_so see old new parts handles said reply R
    (c.in-Some-text_of.ensures.said (so_plain see old act plain).0 ∙ ap Some (sym (c.is_same_reply.ensures.yes c.if-is_same_reply.true)))

pub returns-else-is_same_reply-clause-other : goal.returns-else-is_same_reply-clause-other
returns-else-is_same_reply-clause-other g c =
    let see = sight_of g.C.Client g.S.Source g.K.Sink in
    let old = c.args.served.now.graph in
    let new = c.answer-reply.new.self.graph in
    let parts = c.args.parts.now in
    let handles = c.args.handles.now in
    let said = c.args.said.now in
    let act = c.in-Some.act in
    let plain = c.in-Some.ensures.plain in
    let reply = c.answer-reply.result in
    let R : IsReplyOf see old new parts handles said reply = record { act = act; plain = plain; says = c.in-Some.ensures.some; moved = c.answer-reply.ensures } in
    let text = c.in-Some-text_of.text in
    answered_else see old new parts handles said reply R
    (λ e.
    let z : Some said.reply ≡ Some text = sym e ∙ c.in-Some-text_of.ensures.said (so_plain see old act plain).0 in
    let same : said.reply ≡ text = cc in
    c.is_same_reply.ensures.no c.if-is_same_reply.false same)

use Rattle.std.proofs.Common.{◌≡◌, ◌<◌, subst, sym, ◌∙◌, arith, OnOk}
use Rattle.rtp_parts.specs.Steps.{Line, line_of}
use Rattle.rtp_parts.proofs.WindowLines.{has-map, none-above, judged-repeated, judged-kept, stepped}
use Rattle.rtp_parts.proofs.window.Window.arrive.Goals as goal

pub returns-then-number-self-2-clause-judged : goal.returns-then-number-self-2-clause-judged
returns-then-number-self-2-clause-judged c =
    let line = line_of c.args.self.now in
    let number = c.nearest-number.result in
    let above : line.greatest < number = omega (arith, c.if-number-self-2.true) in
    subst (λ (x : Line). OnOk c.push.result (line_of c.push.new.self ≡ x))
    (sym (judged-kept line number c.args.timestamp c.args.payload.now (omega (arith, above)) (none-above number line.greatest c.args.self.now.held.items c.args.self.now.most above))
    ∙ stepped line c.args.sequence number c.args.timestamp c.args.payload.now c.nearest-number.ensures.number)
    c.push.ensures.kept

pub returns-then-has-clause-judged : goal.returns-then-has-clause-judged
returns-then-has-clause-judged c =
    let line = line_of c.args.self.now in
    let number = c.nearest-number.result in
    sym (judged-repeated line number c.args.timestamp c.args.payload.now (omega (arith, c.if-number-self.false)) (omega (arith, c.if-number-self-2.false)) (has-map number c.args.self.now.held.items ∙ sym c.has.ensures ∙ c.if-has.true))
    ∙ stepped line c.args.sequence number c.args.timestamp c.args.payload.now c.nearest-number.ensures.number

pub returns-clause-judged : goal.returns-clause-judged
returns-clause-judged c =
    let line = line_of c.args.self.now in
    let number = c.nearest-number.result in
    subst (λ (x : Line). OnOk c.insert.result (line_of c.insert.new.self ≡ x))
    (sym (judged-kept line number c.args.timestamp c.args.payload.now (omega (arith, c.if-number-self.false)) (has-map number c.args.self.now.held.items ∙ sym c.has.ensures ∙ c.if-has.false))
    ∙ stepped line c.args.sequence number c.args.timestamp c.args.payload.now c.nearest-number.ensures.number)
    c.insert.ensures.kept

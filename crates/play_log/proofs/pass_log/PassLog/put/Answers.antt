use Rattle.std.proofs.Common.{◌≡◌, ◌+◌, ◌++◌, ◌∷◌, [], length, length-append, refl, ap, ◌∙◌, arith, rules}
use Rattle.play_log.specs.Lines.{LogLine}
use Rattle.play_log.specs.Places.{PassLogValue, rest_text}
use Rattle.play_log.specs.declared.placed.Placed.{Placed}
use Rattle.play_log.proofs.Keeping.{on_err}
use Rattle.play_log.proofs.Placing.{log_still, placed_on, spelled_on}
use Rattle.play_log.proofs.pass_log.PassLog.put.Goals as goal

pub returns-in_err-line-clause-kept : goal.returns-in_err-line-clause-kept
returns-in_err-line-clause-kept c =
    on_err c.from_residual.result (log_still c.self.inside.words c.line.new.self c.self.inside.lines c.self.inside.lines c.self.inside.broken c.line.ensures.stay c.self.invariant.1 refl ∙ c.self.view_is)

pub returns-in_err-push-clause-kept : goal.returns-in_err-push-clause-kept
returns-in_err-push-clause-kept c =
    on_err c.from_residual-in_err-push.result (log_still c.self.inside.words c.line.new.self c.self.inside.lines c.push.new.self c.self.inside.broken c.line.ensures.stay c.self.invariant.1 c.in_err-push.ensures.kept ∙ c.self.view_is)

pub invariant_of-self-2 : goal.invariant_of-self-2
invariant_of-self-2 c =
    let it : Placed = record { place = c.args.place; line = c.in_ok-line.line } in
    let next : c.in-Some.count ≡ c.self.inside.count + 1 = search rules in
    let more : length c.push.new.self ≡ length c.self.inside.lines + 1 = ap length c.in_ok-push.ensures.added ∙ length-append c.self.inside.lines (it ∷ []) in
    let many = c.self.invariant.0 in
    (omega (arith, next, more, many), spelled_on c.self.inside.words c.line.new.self c.self.inside.lines c.push.new.self it c.line.ensures.stay c.self.invariant.1 c.in_ok-push.ensures.added c.in_ok-line.ensures.there)

pub returns-clause-line : goal.returns-clause-line
returns-clause-line c =
    let it : Placed = record { place = c.args.place; line = c.in_ok-line.line } in
    let said : LogLine = record { pass = c.args.pass; said = c.args.act.now } in
    placed_on c.self.inside.words c.line.new.self c.self.inside.lines c.push.new.self it said c.line.ensures.stay c.self.invariant.1 c.in_ok-push.ensures.added c.in_ok-line.ensures.said
    ∙ ap (λ (v : PassLogValue). v.lines ++ record { place = c.args.place; rest = rest_text said } ∷ []) c.self.view_is

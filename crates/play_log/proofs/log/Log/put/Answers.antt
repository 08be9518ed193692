use Rattle.std.proofs.Common.{◌≡◌, ◌+◌, subst, sym, ◌∙◌}
use Rattle.play_log.specs.Kept.{IsKept}
use Rattle.play_log.proofs.Keeping.{on_err}
use Rattle.play_log.proofs.Spelling.{kept_on, line_rest, text_still}
use Rattle.std.proofs.Common.{refl, rules}
use Rattle.play_log.proofs.log.Log.put.Goals as goal

pub returns-in_err-line-clause-kept : goal.returns-in_err-line-clause-kept
returns-in_err-line-clause-kept c =
    on_err c.from_residual.result (text_still c.self.inside.words c.line.new.self c.self.inside.lines c.self.inside.lines c.self.inside.count c.self.inside.broken c.line.ensures.stay c.self.invariant.1 refl ∙ c.self.view_is)

pub returns-in_err-push-clause-kept : goal.returns-in_err-push-clause-kept
returns-in_err-push-clause-kept c =
    on_err c.from_residual-in_err-push.result (text_still c.self.inside.words c.line.new.self c.self.inside.lines c.push.new.self c.self.inside.count c.self.inside.broken c.line.ensures.stay c.self.invariant.1 c.in_err-push.ensures.kept ∙ c.self.view_is)

pub returns-clause-line : goal.returns-clause-line
returns-clause-line c lines K =
    let next : c.in-Some.count ≡ c.self.inside.count + 1 = search rules in
    kept_on c.self.inside.words c.line.new.self c.self.inside.lines c.push.new.self c.in_ok-line.line (record { pass = c.args.pass; said = c.args.act.now }) c.self.inside.count c.in-Some.count c.self.inside.broken
    c.line.ensures.stay c.self.invariant.1 c.self.invariant.0 next c.in_ok-push.ensures.added (line_rest c.line.new.self c.in_ok-line.line (record { pass = c.args.pass; said = c.args.act.now }) c.in_ok-line.ensures.said) lines (subst (IsKept lines) (sym c.self.view_is) K)

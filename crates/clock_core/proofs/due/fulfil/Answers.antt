use Rattle.std.proofs.Common.{◌≡◌, [], length, take, ◌++◌, List, sym, ap, ◌∙◌, append-nil, arith}
use Rattle.std.specs.Prelude.{Some, map}
use Rattle.clock_core.specs.Due.{due_until, note_from}
use Rattle.clock_core.specs.Pace.{media_at}
use Rattle.clock_core.specs.declared.act.Request.{Request}
use Rattle.clock_core.proofs.DueLaws.{due-at_end, left-at_end}
use Rattle.clock_core.proofs.due.fulfil.Goals as goal
use Rattle.clock_core.proofs.due.fulfil.Goals.{In_default}

-- at the end none is due
none_due : (c : In_default) → due_until (Some c.args.pace) c.args.until c.loop-request.requests.items ≡ []
none_due c =
    due-at_end (media_at c.args.pace c.args.until) c.loop-request.requests.items c.loop-request.invariant.ordered (rw c.media_at-reached.ensures at c.in_default.ensures)

pub returns-clause-left : goal.returns-clause-left
returns-clause-left c =
    sym (left-at_end (media_at c.args.pace c.args.until) c.loop-request.requests.items c.loop-request.invariant.ordered (rw c.media_at-reached.ensures at c.in_default.ensures))
    ∙ c.loop-request.invariant.left

pub returns-clause-count : goal.returns-clause-count
returns-clause-count c = omega (arith, c.loop-request.invariant.due, ap length (none_due c))

pub returns-clause-notes : goal.returns-clause-notes
returns-clause-notes c =
    sym (append-nil (take c.loop-request.count c.loop-request.out))
    ∙ (ap (λ (xs : List Request). take c.loop-request.count c.loop-request.out ++ map (note_from (Some c.args.pace) c.args.earliest) xs) (sym (none_due c))
    ∙ c.loop-request.invariant.notes)

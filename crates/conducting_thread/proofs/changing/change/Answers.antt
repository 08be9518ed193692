use Rattle.std.proofs.Common.{All, map, sym, ◌∙◌, ap, subst}
use Rattle.conducting_thread.specs.declared.link_ends.LinkEnds.{LinkEnds}
use Rattle.conducting_thread.specs.Asking.{IsRequestOf, due}
use Rattle.conducting_thread.specs.Changing.{change_acts}
use Rattle.work_signs.specs.Seats.{handles_of}
use Rattle.conducting_thread.proofs.Seats.{requests, steps_are}
use Rattle.conducting_thread.proofs.changing.change.Goals as goal

pub make_step-requires-clause-requests : goal.make_step-requires-clause-requests
make_step-requires-clause-requests g c =
    subst (λ (ends : LinkEnds). All (IsRequestOf c.args.seats.now) (change_acts ends c.args.step)) (sym c.ends_of-ends.ensures)
    (requests c.args.plan.now c.args.seats.now c.requires.seats c.requires.valid c.link_from-link.result c.link_from-link.ensures.below c.args.step)

pub returns-clause-answered : goal.returns-clause-answered
returns-clause-answered g c = λ files. (
  map due (change_acts c.ends_of-ends.result c.args.step),
  (
    c.link_from-link.result,
    c.link_from-link.ensures.below,
    c.link_from-link.ensures.gives,
    ap (λ (ends : LinkEnds). map due (change_acts ends c.args.step)) c.ends_of-ends.ensures ∙ steps_are c.args.plan.now files (handles_of c.args.seats.now) c.link_from-link.result c.args.step,
  ),
  c.make_step.ensures.answered,
)

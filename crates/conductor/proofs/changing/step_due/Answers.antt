use Rattle.std.proofs.Common.{subst}
use Rattle.std.proofs.lemmas.Option.{get_or_from_slice_get}
use Rattle.conductor.specs.Changing.{HasNoStep}
use Rattle.conductor.proofs.Defaults.{no_late}
use Rattle.conductor.proofs.Steps.{none_due_half, none_due_quiet}
use Rattle.conductor.proofs.changing.step_due.Goals as goal

pub returns-in-None-clause-none : goal.returns-in-None-clause-none
returns-in-None-clause-none c =
    let first = c.in-Some.ensures.some in
    none_due_half c.args.told.now c.args.lates.now c.in-Some.number first.late first.there first.passes first.none_before
    (subst HasNoStep (get_or_from_slice_get c.args.lates.now c.in-Some.number first.late no_late first.there) c.in-None.ensures.none)

pub returns-in-None-first_ready-clause-none : goal.returns-in-None-first_ready-clause-none
returns-in-None-first_ready-clause-none c =
    none_due_quiet c.args.told.now c.args.lates.now c.in_default.ensures.none c.in-None-first_ready.ensures.none

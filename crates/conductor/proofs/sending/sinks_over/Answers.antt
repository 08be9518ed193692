use Rattle.std.proofs.Common.{false, refl, ◌∙◌}
use Rattle.il_machine.specs.Components.{no_progress}
use Rattle.conductor.proofs.Hearings.{over_more}
use Rattle.conductor.proofs.sending.sinks_over.Goals as goal
use Rattle.conductor.proofs.sending.sinks_over.Goals.{else-sinks-place-via-then-sinks-place+else-not-told-place, else-sinks-place-via-else-sinks-place}

pub loop-place-preserved : goal.loop-place-preserved
loop-place-preserved c =
    over_more c.args.sinks.now c.args.told.now c.loop-place.place false no_progress c.loop-place-test.true c.requires
    (elim c.else-sinks-place.branch [
      | else-sinks-place-via-then-sinks-place+else-not-told-place w ↦ rw (w.if-sinks-place.true, w.if-not-told-place.false) refl
      | else-sinks-place-via-else-sinks-place w ↦ rw w.if-sinks-place.false refl
    ])
    ∙ c.loop-place.invariant

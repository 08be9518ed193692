use Rattle.std.proofs.Common.{ℕ, ◌+◌, ◌<◌, length, arith, ◌∙◌, refl}
use Rattle.play_build_laws.specs.Halting.{KeepsFiles}
use Rattle.play_graph.specs.Stops.{HasStopped}
use Rattle.play_graph.proofs.Joining.{files_same, files_then, stands_then, steps_none, steps_then}
use Rattle.play_graph.proofs.Stopped.{can_stand, component_stops, events_stand, events_stand_then}
use Rattle.play_graph.proofs.stopping.components.stop_components.Goals as goal

pub take_notes-requires : goal.take_notes-requires
take_notes-requires g c =
    let count = c.count-place-end.ensures in
    let below : c.loop-place.place < length c.args.plan.now.parts = omega arith in
    events_stand c.args.plan.now c.loop-place.place below c.loop-place.graph (stands_then KeepsFiles (HasStopped c.args.plan.now 0) (HasStopped c.args.plan.now c.loop-place.place) c.args.graph.now c.loop-place.graph c.requires.stands c.loop-place.invariant.steps)

pub make_invalid-requires : goal.make_invalid-requires
make_invalid-requires g c =
    let count = c.count-place-end.ensures in
    let below : c.loop-place.place < length c.args.plan.now.parts = omega arith in
    can_stand c.args.plan.now c.loop-place.place below c.loop-place.graph c.take_notes.new.graph c.take_notes.new.graph c.take_notes.ensures.steps c.take_notes.ensures.none
    (stands_then KeepsFiles (HasStopped c.args.plan.now 0) (HasStopped c.args.plan.now c.loop-place.place) c.args.graph.now c.loop-place.graph c.requires.stands c.loop-place.invariant.steps)

pub take_notes-requires-in-loop-place : goal.take_notes-requires-in-loop-place
take_notes-requires-in-loop-place g c =
    let count = c.count-place-end.ensures in
    let below : c.loop-place.place < length c.args.plan.now.parts = omega arith in
    events_stand_then c.args.plan.now c.loop-place.place below c.loop-place.graph c.take_notes.new.graph c.make_invalid.new.graph c.take_notes.ensures.steps c.take_notes.ensures.none c.make_invalid.ensures.steps
    (stands_then KeepsFiles (HasStopped c.args.plan.now 0) (HasStopped c.args.plan.now c.loop-place.place) c.args.graph.now c.loop-place.graph c.requires.stands c.loop-place.invariant.steps)

pub loop-place-init : goal.loop-place-init
loop-place-init g c = record { steps = steps_none KeepsFiles (HasStopped c.args.plan.now 0) files_same c.args.graph.now; files = λ number. refl }

pub loop-place-preserved : goal.loop-place-preserved
loop-place-preserved g c =
    let count = c.count-place-end.ensures in
    let place : ℕ = c.loop-place.place in
    let below : place < length c.args.plan.now.parts = omega arith in
    record {
      steps = steps_then KeepsFiles (HasStopped c.args.plan.now 0) (HasStopped c.args.plan.now place) (HasStopped c.args.plan.now (place + 1)) files_then c.args.graph.now c.loop-place.graph c.take_notes-in-loop-place.new.graph c.loop-place.invariant.steps
          (component_stops c.args.plan.now place below c.loop-place.graph c.take_notes.new.graph c.make_invalid.new.graph c.take_notes.ensures.steps c.take_notes.ensures.none c.make_invalid.ensures.steps c.take_notes-in-loop-place.new.graph c.take_notes-in-loop-place.ensures.steps);
      files = λ number. c.take_notes-in-loop-place.ensures.files number ∙ (c.make_invalid.ensures.files number ∙ (c.take_notes.ensures.files number ∙ c.loop-place.invariant.files number));
    }

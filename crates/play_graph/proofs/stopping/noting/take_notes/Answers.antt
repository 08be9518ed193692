use Rattle.std.proofs.Common.{◌∙◌}
use Rattle.play_build_laws.specs.Halting.{HasEvents, IsSameButNotes}
use Rattle.play_graph.proofs.Joining.{notes_then, stands_then, steps_then}
use Rattle.play_graph.proofs.stopping.noting.take_notes.Goals as goal

pub take_next-requires : goal.take_next-requires
take_next-requires g c = stands_then IsSameButNotes (HasEvents c.args.place) (HasEvents c.args.place) c.args.graph.now c.loop.graph c.requires c.loop.invariant.steps

pub loop-preserved : goal.loop-preserved
loop-preserved g c =
    record {
      steps = steps_then IsSameButNotes (HasEvents c.args.place) (HasEvents c.args.place) (HasEvents c.args.place) notes_then c.args.graph.now c.loop.graph c.take_next.new.graph c.loop.invariant.steps c.take_next.ensures.steps;
      files = λ number. c.take_next.ensures.files number ∙ c.loop.invariant.files number;
    }

pub returns-clause-steps : goal.returns-clause-steps
returns-clause-steps g c = steps_then IsSameButNotes (HasEvents c.args.place) (HasEvents c.args.place) (HasEvents c.args.place) notes_then c.args.graph.now c.loop.graph c.take_next.new.graph c.loop.invariant.steps c.take_next.ensures.steps

pub returns-clause-files : goal.returns-clause-files
returns-clause-files g c = λ number. c.take_next.ensures.files number ∙ c.loop.invariant.files number

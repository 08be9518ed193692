use Rattle.std.proofs.Common.{◌≡◌, ℕ, ◌*◌, ◌≤◌, List, sym, ◌∙◌, ap, subst}
use Rattle.std.specs.List.{slice_index_or}
use Rattle.omx_types.specs.Formats.{IsWithinLimits, frame_bytes_of}
use Rattle.play_forms.specs.declared.flow.Flow.{Flow}
use Rattle.play_course.proofs.Sinks.{sink_flow}
use Rattle.play_course.proofs.summary.line_of.Goals as goal

pub file_size-requires-clause-lawful : goal.file_size-requires-clause-lawful
file_size-requires-clause-lawful c =
    subst (λ (f : Flow). IsWithinLimits f.format) (sym c.flow_into-flow.ensures) (sink_flow c.args.plan.now c.requires.ready.0 c.args.place c.requires.sink.0 c.requires.ready.1 c.requires.sink.1).lawful

pub file_size-requires-clause-fits : goal.file_size-requires-clause-fits
file_size-requires-clause-fits c =
    let S = sink_flow c.args.plan.now c.requires.ready.0 c.args.place c.requires.sink.0 c.requires.ready.1 c.requires.sink.1 in
    let frames : slice_index_or c.frames.result.now c.args.place 0 ≡ c.flow_into-flow.result.frames =
    ap (λ (fs : List ℕ). slice_index_or fs c.args.place 0) c.frames.ensures ∙ (S.frames ∙ ap (λ (f : Flow). f.frames) (sym c.flow_into-flow.ensures)) in
    subst (λ (n : ℕ). n * frame_bytes_of c.flow_into-flow.result.format ≤ 134217728) (sym frames) (subst (λ (f : Flow). f.frames * frame_bytes_of f.format ≤ 134217728) (sym c.flow_into-flow.ensures) S.fits)

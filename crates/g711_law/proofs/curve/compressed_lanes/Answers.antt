use Rattle.std.proofs.Common.{ap, ◌∙◌}
use Rattle.g711_law.proofs.CurveLanes.{compressed_lanes, line, last_line}
use Rattle.g711_law.proofs.curve.compressed_lanes.Goals as goal

pub returns : goal.returns
returns c =
    let q = c.args.q in
    c.lesser.ensures
    ∙ ap (last_line 16 q) (c.lesser-step-6.ensures
    ∙ ap (line 16 1 q) (c.lesser-step-5.ensures
    ∙ ap (line 16 2 q) (c.lesser-step-4.ensures
    ∙ ap (line 16 3 q) (c.lesser-step-3.ensures
    ∙ ap (line 16 4 q) (c.lesser-step-2.ensures
    ∙ ap (line 16 5 q) c.lesser-step.ensures)))))
    ∙ compressed_lanes 16 q c.requires.len c.requires.small

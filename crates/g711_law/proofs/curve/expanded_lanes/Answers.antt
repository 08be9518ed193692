use Rattle.std.proofs.Common.{ap, ◌∙◌}
use Rattle.g711_law.proofs.CurveLanes.{expanded_lanes, rise_by, last_rise}
use Rattle.g711_law.proofs.curve.expanded_lanes.Goals as goal

pub returns : goal.returns
returns c =
    let w = c.args.w in
    c.greater.ensures
    ∙ ap (last_rise w) (rise_by 32 w _ _ _ _ c.greater-height-6.ensures c.excess-6.ensures
    (rise_by 64 w _ _ _ _ c.greater-height-5.ensures c.excess-5.ensures
    (rise_by 96 w _ _ _ _ c.greater-height-4.ensures c.excess-4.ensures
    (rise_by 128 w _ _ _ _ c.greater-height-3.ensures c.excess-3.ensures
    (rise_by 160 w _ _ _ _ c.greater-height-2.ensures c.excess-2.ensures
    (rise_by 192 w _ _ _ _ c.greater-height.ensures c.excess.ensures c.excess-height.ensures))))))
    ∙ expanded_lanes w c.requires.small

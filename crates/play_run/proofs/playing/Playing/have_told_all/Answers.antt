use Rattle.std.proofs.Common.{◌<◌, ℕ, below_more, length, sym, ◌∙◌, ap, arith}
use Rattle.play_run.specs.Playing.{PlayingValue}
use Rattle.play_run.specs.Sending.{IsLoadedAt}
use Rattle.play_run.proofs.Ending.{all_loaded, one_unloaded}
use Rattle.play_run.proofs.playing.Playing.have_told_all.Goals as goal

pub returns-then-not-is_loaded-clause-nope : goal.returns-then-not-is_loaded-clause-nope
returns-then-not-is_loaded-clause-nope g c =
    let count = c.count-place-end.ensures.count in
    let below : c.loop-place.place < length c.args.self.now.plan.parts = omega arith in
    λ e. one_unloaded c.args.self.now c.loop-place.place c.progress-progress.result below c.progress-progress.ensures (sym c.is_loaded.ensures ∙ c.if-not-is_loaded.true)

pub loop-place-preserved : goal.loop-place-preserved
loop-place-preserved g c = below_more (λ (k : ℕ). IsLoadedAt c.args.self.now.graph k) c.loop-place.place c.loop-place.invariant (c.progress-progress.result, c.progress-progress.ensures, sym c.is_loaded.ensures ∙ c.if-not-is_loaded.false)

pub returns-clause-yes : goal.returns-clause-yes
returns-clause-yes g c =
    let count = c.count-place-end.ensures.count in
    let four = ap (λ (z : PlayingValue _ _). z.conductor.sends) (sym c.self.view_is) ∙ (sym c.sends.ensures ∙ c.if-sends-ne4.false) in
    λ e. all_loaded c.args.self.now four (λ k b. c.loop-place.invariant k (omega (arith, b)))

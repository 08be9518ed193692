use Rattle.std.proofs.Common.{◌≡◌, ℕ, length, length-set, Some, ◌∙◌, subst, arith}
use Rattle.play_run.specs.Sending.{AreViews}
use Rattle.play_run.proofs.Conducting.{views_more}
use Rattle.play_run.proofs.playing.Playing.look.Goals as goal

pub loop-place-preserved : goal.loop-place-preserved
loop-place-preserved g c =
    let few = c.count-place-end.ensures.few in
    let many = c.loop-place.invariant.many in
    record {
      many = length-set c.loop-place.views c.loop-place.place (Some c.progress-progress.result) ∙ c.loop-place.invariant.many;
      views = views_more c.args.self.now.graph c.loop-place.views c.loop-place.place c.progress-progress.result (omega arith) c.loop-place.invariant.views c.progress-progress.ensures;
    }

pub returns-clause-many : goal.returns-clause-many
returns-clause-many g c = c.loop-place.invariant.many

pub returns-clause-views : goal.returns-clause-views
returns-clause-views g c =
    let count = c.count-place-end.ensures.count in
    let e : c.loop-place.place ≡ length c.args.self.now.plan.parts = omega arith in
    subst (λ (n : ℕ). AreViews c.args.self.now.graph c.loop-place.views n) e c.loop-place.invariant.views

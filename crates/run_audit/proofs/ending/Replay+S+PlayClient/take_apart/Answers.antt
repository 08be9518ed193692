use Rattle.std.proofs.Common.{◌≤◌, length, subst}
use Rattle.play_build_laws.specs.Dismantling.{AreLinks}
use Rattle.play_forms.specs.Plans.{PlanValue}
use Rattle.play_plan_laws.specs.Endings.{ends_of}
use Rattle.run_audit.specs.Opening.{play_sight}
use Rattle.run_audit.proofs.AtRest as resting
use Rattle.run_audit.proofs.Leaves as leaves
use Rattle.run_audit.proofs.ending.Replay+S+PlayClient.take_apart.Goals as goal

pub let_go_places-requires : goal.let_go_places-requires
let_go_places-requires g c =
    let q = c.requires.rests in
    resting.no_works q.1 q.2 q.3 (play_sight g.S.Source) q.0 c.args.self q.4 q.5

pub end_graph-requires-clause-joints : goal.end_graph-requires-clause-joints
end_graph-requires-clause-joints g c =
    let q = c.requires.rests in
    subst (λ (p : PlanValue). length p.joints ≤ 1024) ((q.4).standing).plan_is (leaves.few q.1 q.2 q.3 (q.2).told (q.2).order (q.2).world (resting.on q.1 q.2 q.3))

pub end_graph-requires-clause-links : goal.end_graph-requires-clause-links
end_graph-requires-clause-links g c =
    let q = c.requires.rests in
    subst (λ (p : PlanValue). AreLinks (ends_of p) (length p.joints)) ((q.4).standing).plan_is (leaves.links q.1 q.2 q.3 (q.2).told (q.2).order (q.2).world (resting.on q.1 q.2 q.3))

pub end_graph-requires-clause-ended : goal.end_graph-requires-clause-ended
end_graph-requires-clause-ended g c =
    let q = c.requires.rests in
    ((q.2).world, ((q.4).standing).stands, resting.ended q.1 q.2 q.3 (play_sight g.S.Source) q.0 c.args.self q.4 q.5)

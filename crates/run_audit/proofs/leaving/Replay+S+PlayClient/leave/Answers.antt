use Rattle.std.proofs.Common.{◌≡◌, ◌≤◌, ◌<◌, ℕ, Option, true, refl, length, slice_get, sym, ◌∙◌, ap, subst, arith}
use Rattle.play_build_laws.specs.Dismantling.{AreLinks}
use Rattle.play_forms.specs.Plans.{PlanValue}
use Rattle.play_graph.specs.Stops.{HasStopped}
use Rattle.play_plan_laws.specs.Endings.{ends_of}
use Rattle.il_graph.specs.Shown.{file_of}
use Rattle.audit_order.specs.Ends.{link_at}
use Rattle.run_audit.specs.Files.{FileGoesOn, file_at}
use Rattle.run_audit.specs.Leaving.{AreTried, rejoining}
use Rattle.run_audit.specs.Opening.{play_sight}
use Rattle.run_audit.proofs.Came.{in_graph}
use Rattle.run_audit.proofs.Files.{files_join, files_same}
use Rattle.run_audit.proofs.Leaves as leaves
use Rattle.run_audit.proofs.Counted as left
use Rattle.run_audit.proofs.leaving.Replay+S+PlayClient.leave.Goals as goal

pub loop-link-init : goal.loop-link-init
loop-link-init g c = record {
  stands = λ tells x now C L. (L.0, L.1, leaves.left_on x now C c.args.self.order L.0 L.2, leaves.none_up x now C c.args.self.order);
  files = files_same (play_sight g.S.Source) _ c.args.self c.args.self (λ place. refl);
  plan = refl;
}

pub rejoin-requires-clause-stands : goal.rejoin-requires-clause-stands
rejoin-requires-clause-stands g c =
    let q = c.requires.left in
    let y = c.loop-link.invariant.stands q.0 q.1 q.2 q.3 q.4 in
    (q.0, q.1, y.0, y.1)

pub loop-link-preserved : goal.loop-link-preserved
loop-link-preserved g c =
    let see = play_sight g.S.Source in
    let old = c.loop-link.self in
    let new = c.rejoin.new.self in
    let l = c.loop-link.link in
    record {
      stands = λ tells x now C L.
          (let y = c.loop-link.invariant.stands tells x now C L in
          let z = c.rejoin.ensures.tried tells x y.0 y.1 in
          let same : x.plan ≡ c.args.self.plan = (y.1).plan_is ∙ c.loop-link.invariant.plan in
          let b : l < length (x.plan).joints = subst (λ (n : ℕ). l < n) (sym (ap (λ (p : PlanValue). length p.joints) same ∙ ap length (sym c.joints-link-end.ensures))) c.loop-link-test.true in
          let T : AreTried x.plan old.told.items x (rejoining (link_at (x.plan).parts (slice_get (x.plan).joints l) (slice_get (x.plan).flows l))) old.order y.0 new.order z.0 =
          subst (λ (p : PlanValue). AreTried p old.told.items x (rejoining (link_at p.parts (slice_get p.joints l) (slice_get p.flows l))) old.order y.0 new.order z.0) (sym (y.1).plan_is) z.2 in
          let M = leaves.one_more_up x now C old.told.items l old.order new.order y.0 z.0 b y.2 y.3 T in
          (z.0, z.1, M.0, M.1));
      files = files_join see c.args.self old new c.loop-link.invariant.files c.rejoin.ensures.files;
      plan = c.rejoin.ensures.plan ∙ c.loop-link.invariant.plan;
    }

pub settle-requires : goal.settle-requires
settle-requires g c =
    let q = c.requires.left in
    let y = c.loop-link.invariant.stands q.0 q.1 q.2 q.3 q.4 in
    (q.0, q.1, y.0, y.1)

pub stop-requires-clause-joints : goal.stop-requires-clause-joints
stop-requires-clause-joints g c =
    let q = c.requires.left in
    let y = c.loop-link.invariant.stands q.0 q.1 q.2 q.3 q.4 in
    let same = (y.1).plan_is ∙ sym c.settle.ensures.plan in
    subst (λ (p : PlanValue). length p.joints ≤ 1024) same (leaves.few q.1 q.2 q.3 c.loop-link.self.told.items c.loop-link.self.order y.0 y.2)

pub stop-requires-clause-gone : goal.stop-requires-clause-gone
stop-requires-clause-gone g c = λ place b.
    (let e = ap (λ (p : PlanValue). length p.parts) (c.settle.ensures.plan ∙ c.loop-link.invariant.plan) in
    c.requires.gone place (omega (arith, b, e)))

pub stop-requires-clause-links : goal.stop-requires-clause-links
stop-requires-clause-links g c =
    let q = c.requires.left in
    let y = c.loop-link.invariant.stands q.0 q.1 q.2 q.3 q.4 in
    let same = (y.1).plan_is ∙ sym c.settle.ensures.plan in
    subst (λ (p : PlanValue). AreLinks (ends_of p) (length p.joints)) same (leaves.links q.1 q.2 q.3 c.loop-link.self.told.items c.loop-link.self.order y.0 y.2)

pub stop-requires-clause-stands : goal.stop-requires-clause-stands
stop-requires-clause-stands g c =
    let q = c.requires.left in
    let see = play_sight g.S.Source in
    let old = c.loop-link.self in
    let new = c.settle.new.self in
    let y = c.loop-link.invariant.stands q.0 q.1 q.2 q.3 q.4 in
    let s = c.settle.ensures.stands q.0 q.1 y.0 y.1 in
    let O = leaves.settled q.1 q.2 q.3 old.order y.0 s.0 y.2 s.2 in
    let planned = ap (λ (p : PlanValue). length p.parts) c.settle.ensures.plan in
    let joined : length (q.1).plan.joints ≡ length c.joints-link-end.result.now = ap (λ (p : PlanValue). length p.joints) ((y.1).plan_is ∙ c.loop-link.invariant.plan) ∙ ap length (sym c.joints-link-end.ensures) in
    let all = c.loop-link-test.false in
    let stops = leaves.stops q.1 q.2 q.3 old.told.items old.order s.0 O see q.0 new s.1
    (λ place b. c.settle.ensures.works place (omega (arith, b, planned))) (λ place b. c.settle.ensures.clients place (omega (arith, b, planned)))
    (λ l b late. y.3 l (left.before l _ _ _ b joined all) late) in
    (s.0, (s.1).stands, subst (λ (p : PlanValue). HasStopped p 0 s.0) (s.1).plan_is stops)

pub stop-requires-clause-works : goal.stop-requires-clause-works
stop-requires-clause-works g c = λ place b.
    (let q = c.requires.left in
    let y = c.loop-link.invariant.stands q.0 q.1 q.2 q.3 q.4 in
    let s = c.settle.ensures.stands q.0 q.1 y.0 y.1 in
    let m = (s.1).many_works in
    let planned = ap (λ (p : PlanValue). length p.parts) c.settle.ensures.plan in
    c.settle.ensures.works place (omega (arith, b, m, planned)))

pub returns-clause-files : goal.returns-clause-files
returns-clause-files g c = λ place b.
    (let see = play_sight g.S.Source in
    let old = c.loop-link.self in
    let new = c.settle.new.self in
    let F = files_join see c.args.self old new c.loop-link.invariant.files c.settle.ensures.files in
    let e = ap (λ (p : PlanValue). length p.parts) c.loop-link.invariant.plan in
    let f = ap (λ (p : PlanValue). length p.parts) c.settle.ensures.plan in
    let is : file_at see new place ≡ file_of place new.served.graph = in_graph see new place (c.settle.ensures.works place (omega (arith, b, e))) in
    (file_of place new.served.graph, c.stop.ensures.files place (omega (arith, b, e, f)), subst (λ (o : Option _). FileGoesOn see true (file_at see c.args.self place) o) is (F place)))

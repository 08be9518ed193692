use Rattle.std.proofs.Common.{ℕ, ◌∙◌, ap, refl, subst, sym}
use Rattle.graph_acts.specs.Plain.{sight_of}
use Rattle.graph_acts.specs.Working.{out_of}
use Rattle.play_worker.specs.Counts.{Raised}
use Rattle.play_worker.specs.Failing.{worse}
use Rattle.play_worker.proofs.Keeping.{claimed_works, done_within, seated, stepped, worker_idles, worker_steps}
use Rattle.play_worker.proofs.worker.Worker.step.Goals as goal

pub returns-in-None-clause-worker : goal.returns-in-None-clause-worker
returns-in-None-clause-worker g c =
    let claim = c.call-reply.ensures in
    worker_idles g.G.Gate.counts (sight_of g.C.Client g.S.Source g.K.Sink) c.args.board.now c.args.seats.now c.args.self.now _ c.args.seat.now.handle c.call-reply.result c.requires.worker
    claim.goes_on claim.added claim.reply (sym c.in-None.ensures) claim.headers claim.clients claim.works refl refl

pub bring_back-requires-clause-seated : goal.bring_back-requires-clause-seated
bring_back-requires-clause-seated g c =
    let claim = c.call-reply.ensures in
    done_within c.args.seats.now c.args.seat.now.handle c.call-reply.result (out_of c.in-Some.work) c.run-done.result (seated c.args.seats.now c.args.seat.now c.requires.seat) claim.reply claim.work (sym c.in-Some.ensures) c.run-done.ensures.component

pub bring_back-requires-clause-holds : goal.bring_back-requires-clause-holds
bring_back-requires-clause-holds g c = (
  out_of c.in-Some.work,
  claimed_works g.G.Gate.counts (sight_of g.C.Client g.S.Source g.K.Sink) c.args.board.now c.args.seats.now c.args.self.now c.call-reply.new.self c.args.seat.now.handle c.call-reply.result (out_of c.in-Some.work) c.requires.worker c.call-reply.ensures.works (sym c.in-Some.ensures),
  c.run-done.ensures,
)

pub returns-in-Some-clause-worker : goal.returns-in-Some-clause-worker
returns-in-Some-clause-worker g c =
    let claim = c.call-reply.ensures in
    let finish = c.bring_back.ensures in
    worker_steps g.G.Gate.counts (sight_of g.C.Client g.S.Source g.K.Sink) c.args.board.now c.args.seats.now c.args.self.now _ c.call-reply.new.self c.args.seat.now.handle c.call-reply.result (out_of c.in-Some.work) c.run-done.result c.requires.worker
    claim.goes_on claim.added claim.few claim.reply (sym c.in-Some.ensures) claim.headers claim.clients
    (subst (λ (n : ℕ). Raised (g.G.Gate.counts c.args.self.now.gate) n (g.G.Gate.counts c.between.new.self)) c.place_of-place.ensures.place c.between.ensures)
    finish.goes_on finish.made finish.headers finish.clients finish.works
    (c.worse-self.ensures ∙ ap (λ o. worse c.args.self.now.worst o) c.failure_of-failed.ensures)

pub returns-in-None-clause-steps : goal.returns-in-None-clause-steps
returns-in-None-clause-steps g c = (c.call-reply.result, sym c.in-None.ensures, c.call-reply.ensures.added)

pub returns-in-Some-clause-steps : goal.returns-in-Some-clause-steps
returns-in-Some-clause-steps g c =
    let claim = c.call-reply.ensures in
    stepped (sight_of g.C.Client g.S.Source g.K.Sink) c.args.board.now c.args.seats.now c.args.self.now.book c.call-reply.new.self c.bring_back.new.book c.args.seat.now.handle c.call-reply.result (out_of c.in-Some.work) c.run-done.result
    claim.goes_on claim.added (sym c.in-Some.ensures) c.run-done.ensures c.bring_back.ensures.made

use Rattle.std.proofs.Common.{◌≡◌, ◌≤◌, length, take, inl, inr, sym, ◌∙◌, refl, arith}
use Rattle.std.proofs.lemmas.List.{length-map, length-take-le}
use Rattle.graph_acts.specs.Plain.{sight_of}
use Rattle.conductor.specs.Hearing.{heard}
use Rattle.work_signs.specs.declared.seat.Seat.{Seat}
use Rattle.work_signs.specs.Seats.{handles_of}
use Rattle.conducting_thread.proofs.Passing.{after_loss, after_refusal, after_round, goes_after}
use Rattle.conducting_thread.proofs.conducting.ConductingPass.conduct_once.Goals as goal

pub returns-in-None-clause-pass : goal.returns-in-None-clause-pass
returns-in-None-clause-pass g c =
    after_loss (sight_of g.C.Client g.S.Source g.K.Sink) c.args.board.now c.args.plan.now c.args.seats.now c.args.self.now _ c.requires.pass c.requires.goes.0 c.look_all.ensures.keeps c.in-None.ensures.none refl refl c.requires.goes.1

pub returns-then-not-make-clause-pass : goal.returns-then-not-make-clause-pass
returns-then-not-make-clause-pass g c =
    let seats = c.args.seats.now in
    let many = c.requires.seats.many in
    let most = c.requires.valid.most in
    let room = c.in-Some.ensures.many in
    let fits : length seats ≤ length c.in-Some.views = omega arith in
    let count : length (take (length seats) c.in-Some.views) ≡ length (handles_of seats) = length-take-le (length seats) c.in-Some.views fits ∙ sym (length-map seats (λ (s : Seat). s.handle)) in
    after_refusal (sight_of g.C.Client g.S.Source g.K.Sink) c.args.board.now c.args.plan.now seats c.args.self.now _ c.requires.pass c.requires.goes.0 c.look_all.new.book (take (length seats) c.in-Some.views) c.hear-phase.result
    c.look_all.ensures.keeps c.make.ensures.keeps count c.in-Some.ensures.some c.hear-phase.ensures.conducts (c.hear-phase.ensures.knows c.args.plan.now c.requires.pass.knows).0 c.if-not-make.ensures.answered refl c.requires.goes.1

pub returns-clause-pass : goal.returns-clause-pass
returns-clause-pass g c =
    let seats = c.args.seats.now in
    let many = c.requires.seats.many in
    let most = c.requires.valid.most in
    let room = c.in-Some.ensures.many in
    let fits : length seats ≤ length c.in-Some.views = omega arith in
    let count : length (take (length seats) c.in-Some.views) ≡ length (handles_of seats) = length-take-le (length seats) c.in-Some.views fits ∙ sym (length-map seats (λ (s : Seat). s.handle)) in
    after_round (sight_of g.C.Client g.S.Source g.K.Sink) c.args.board.now c.args.plan.now seats c.args.self.now _ c.requires.pass c.requires.goes.0 c.look_all.new.book (take (length seats) c.in-Some.views) c.hear-phase.result
    c.look_all.ensures.keeps c.make.ensures.keeps count c.in-Some.ensures.some c.hear-phase.ensures.conducts (c.hear-phase.ensures.knows c.args.plan.now c.requires.pass.knows).0 c.if-not-make.ensures.answered c.requires.goes.0 (λ e. sym c.is_end-self.ensures ∙ e)

pub returns-in-None-clause-goes : goal.returns-in-None-clause-goes
returns-in-None-clause-goes g c = inr (inl refl)

pub returns-then-not-make-clause-goes : goal.returns-then-not-make-clause-goes
returns-then-not-make-clause-goes g c = inr (inl refl)

pub returns-clause-goes : goal.returns-clause-goes
returns-clause-goes g c =
    goes_after (heard c.args.self.now.conductor (take (length c.args.seats.now) c.in-Some.views)) c.hear-phase.result c.round_of.result _ c.hear-phase.ensures.conducts c.round_of.ensures c.is_end-self.ensures c.requires.goes.0

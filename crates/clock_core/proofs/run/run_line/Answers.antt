use Rattle.std.proofs.Common.{◌+◌}
use Rattle.std.proofs.lemmas.Result.{err_from_is_err_and}
use Rattle.clock_core.specs.Clock.{after_call}
use Rattle.clock_core.specs.Printed.{call_text, calls_in, printed}
use Rattle.clock_core.specs.Script.{call_words}
use Rattle.clock_core.proofs.Sent.{failed-more, printed-call, run-call, run-none}
use Rattle.clock_core.proofs.run.run_line.Goals as goal

pub returns-in_ok-run_call-in-Some-clause-ran : goal.returns-in_ok-run_call-in-Some-clause-ran
returns-in_ok-run_call-in-Some-clause-ran g c =
    run-call c.args.number c.args.clock.now c.run_call.new.clock c.args.line.now c.in-Some.call (g.O.Sink.told c.args.out.now) (g.O.Sink.told c.run_call.new.out)
    c.in-Some.ensures.asked c.in-Some.ensures.written c.run_call.ensures.clock c.in_ok-run_call-in-Some.ensures.whole

pub returns-in_err-run_call-in-Some-clause-failed : goal.returns-in_err-run_call-in-Some-clause-failed
returns-in_err-run_call-in-Some-clause-failed g c =
    let p = err_from_is_err_and c.from_residual.result c.from_residual.ensures.1 in
    rw (p.1, p.2) (λ lines. failed-more c.in_err-run_call-in-Some.field-0.0 (g.O.Sink.faults c.args.out.now) (g.O.Sink.faults c.run_call.new.out) (g.O.Sink.told c.args.out.now) (g.O.Sink.told c.run_call.new.out)
    (call_text c.args.number c.args.clock.now (call_words c.in-Some.call) c.in-Some.call)
    (printed (c.args.number + 1) (after_call c.args.clock.now c.in-Some.call.wall c.in-Some.call.act) (calls_in lines)) _
    (printed-call c.args.number c.args.clock.now c.args.line.now c.in-Some.call lines c.in-Some.ensures.asked c.in-Some.ensures.written) c.in_err-run_call-in-Some.ensures.failed)

pub returns-in-None-clause-ran : goal.returns-in-None-clause-ran
returns-in-None-clause-ran g c = run-none c.args.number c.args.clock.now c.args.line.now (g.O.Sink.told c.args.out.now) c.in-None.ensures.asked

use Rattle.std.proofs.Common.{ap}
use Rattle.std.specs.Prelude.{Result, Err}
use Rattle.std.proofs.lemmas.Result.{err_from_is_err_and}
use Rattle.omx_types.specs.declared.fault.Fault.{Fault}
use Rattle.clock_core.proofs.OneFault.{fault-is, script-no_fault}
use Rattle.clock_core.proofs.Sent.{stands-unless}
use Rattle.clock_core.proofs.run.run_clock.Goals as goal

pub returns-clause-faulty : goal.returns-clause-faulty
returns-clause-faulty g c = λ line why faulty. absurd (script-no_fault c.args.bytes.now _ line why c.in_ok-lines_in.ensures.begun c.in_ok-lines_in.ensures.good faulty)

pub returns-in_err-lines_in-clause-faulty : goal.returns-in_err-lines_in-clause-faulty
returns-in_err-lines_in-clause-faulty g c = λ line why faulty.
    let p = err_from_is_err_and c.from_residual.result c.from_residual.ensures.1 in
    rw (p.1, p.2) (ap (λ (fault : Fault). let answer : Result (Unit {0}) Fault = Err fault in answer) (fault-is c.in_err-lines_in.field-0.0 c.args.bytes.now line why c.in_err-lines_in.ensures.faulty faulty))

pub returns-clause-stays : goal.returns-clause-stays
returns-clause-stays g c = stands-unless c.run_lines.result _ _ _ _ _ c.run_lines.ensures.stays c.run_lines.ensures.failed

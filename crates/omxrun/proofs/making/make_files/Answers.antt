use Rattle.std.proofs.Common.{refl}
use Rattle.std.proofs.lemmas.Result.{err_from_is_err_and}
use Rattle.omxrun.proofs.making.make_files.Goals as goal

pub returns-clause-outcome : goal.returns-clause-outcome
returns-clause-outcome g c = record {
  done = refl;
  made = c.in_ok-make.ensures.made;
  partly = λ tells. tt;
  others = c.in_ok-make.ensures.others;
  unabsent = c.in_ok-make.ensures.unabsent;
  reason = tt;
  stand = record { reads = c.in_ok-make.ensures.read_faults; writes = c.in_ok-make.ensures.write_stays (λ same. cc) };
  reads = c.in_ok-make.ensures.read_faults;
  writes = λ other. c.in_ok-make.ensures.write_stays (λ same. cc);
}

pub returns-in_err-make-clause-outcome : goal.returns-in_err-make-clause-outcome
returns-in_err-make-clause-outcome g c =
    let p = err_from_is_err_and c.from_residual.result c.from_residual.ensures.1 in
    rw (p.1, p.2) (record {
      done = tt;
      made = λ tells. tt;
      partly = c.in_err-make.ensures.partly;
      others = c.in_err-make.ensures.others;
      unabsent = c.in_err-make.ensures.unabsent;
      reason = c.in_err-make.ensures.reason;
      stand = tt;
      reads = c.in_err-make.ensures.read_faults;
      writes = λ other. c.in_err-make.ensures.write_stays (λ same. other (cc));
    })

use Rattle.std.proofs.Common.{rules, arith}
use Rattle.line_text.proofs.Digits.{fewer_digits, digits-more, digits_all}
use Rattle.line_text.proofs.numbers.put_digits.Goals as goal

pub loop-rest-preserved : goal.loop-rest-preserved
loop-rest-preserved c =
    let fewer = fewer_digits c.loop-rest.start c.loop-rest.rest c.loop-rest.invariant.some (omega arith) c.loop-rest.invariant.fits in
    record {
      some = fewer.0;
      within = omega arith;
      room = search rules;
      fits = fewer.1;
      digits = digits-more c.args.n c.loop-rest.rest c.loop-rest.start c.loop-rest.buf (omega arith) (omega arith) c.loop-rest.invariant.some (omega arith) c.loop-rest.invariant.digits;
    }

pub returns-clause-digits : goal.returns-clause-digits
returns-clause-digits c = digits_all c.args.n c.loop-rest.rest c.loop-rest.start c.loop-rest.buf (omega arith) c.loop-rest.invariant.some (omega arith) c.loop-rest.invariant.digits

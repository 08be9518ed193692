use Rattle.std.proofs.Common.{◌^◌, Some, sym, arith, refl}
use Rattle.line_text.proofs.Numerals.{number_below-read, number_below-fault}
use Rattle.line_text.proofs.read_numbers.number_in.Goals as goal

pub returns-in-Ok-clause-is : goal.returns-in-Ok-clause-is
returns-in-Ok-clause-is c =
    let is = c.in-Ok.ensures.number in
    number_below-read (2 ^ 64) c.args.word.now c.in-Ok.n (Some c.in-Ok.n) is.value (c.one_numeral.ensures.one c.args.word.now c.in-Ok.n is) (is.fits, refl)

pub returns-in-Err-clause-is : goal.returns-in-Err-clause-is
returns-in-Err-clause-is c =
    sym (number_below-fault c.one_numeral.ensures.reads_back (2 ^ 64) c.args.word.now c.in-Err.field-0.place (omega arith) c.in-Err.ensures.fault)

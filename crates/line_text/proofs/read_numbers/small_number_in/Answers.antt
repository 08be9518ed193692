use Rattle.std.proofs.Common.{◌^◌, sym, arith}
use Rattle.line_text.proofs.Numerals.{below-iff, number_below-read, number_below-fault}
use Rattle.line_text.proofs.read_numbers.small_number_in.Goals as goal

pub returns-in-Ok-clause-is : goal.returns-in-Ok-clause-is
returns-in-Ok-clause-is c =
    let is = c.in-Ok.ensures.number in
    number_below-read (2 ^ 32) c.args.word.now c.in-Ok.n c.ok.result is.value (c.one_numeral.ensures.one c.args.word.now c.in-Ok.n is) (below-iff (2 ^ 32) c.in-Ok.n c.try_from.result c.ok.result c.try_from.ensures c.ok.ensures.value)

pub returns-in-Err-clause-is : goal.returns-in-Err-clause-is
returns-in-Err-clause-is c =
    sym (number_below-fault c.one_numeral.ensures.reads_back (2 ^ 32) c.args.word.now c.in-Err.field-0.place (omega arith) c.in-Err.ensures.fault)

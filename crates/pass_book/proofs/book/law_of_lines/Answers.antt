use Rattle.std.proofs.Common.{◌<◌, ◌^◌, arith}
use Rattle.pass_book.proofs.book.law_of_lines.Goals as goal

pub returns : goal.returns
returns c =
    let small : c.args.pass < 2 ^ 32 = let fits : c.args.pass < 256 = c.ranges.pass.fits in omega (arith, fits) in
    record { pass = small; said = c.law_of_texts.ensures }

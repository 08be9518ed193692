use Rattle.std.proofs.Common.{◌<◌, ◌^◌, arith}
use Rattle.play_log.proofs.Keeping.{keeps_more}
use Rattle.play_log.proofs.log.Log.entry.Goals as goal

pub returns-clause-history : goal.returns-clause-history
returns-clause-history c =
    let small : c.args.pass < 2 ^ 32 = let fits : c.args.pass < 256 = c.ranges.pass.fits in omega (arith, fits) in
    keeps_more c.args.pass c.args.act.now c.args.self.now c.add.new.self c.add.result small c.law_of_texts.ensures c.add.ensures.line c.add.ensures.whole c.add.ensures.broken

use Rattle.std.proofs.Common.{arith}
use Rattle.script_lang.proofs.HexWords.{bytes-more}
use Rattle.script_lang.proofs.hex.pairs_in.Goals as goal

pub loop-rest-preserved : goal.loop-rest-preserved
loop-rest-preserved c =
    bytes-more c.args.digits.now c.loop-rest.rest.now c.split_at.result.1.now c.loop-rest.bytes.items c.push.new.self.items c.in-Some.byte c.loop-rest.invariant (omega arith) c.in-Some.ensures c.split_at.ensures.back c.in_ok-push.ensures.items

use Rattle.std.proofs.Common.{◌∙◌, ap, ◌++◌, ◌∷◌, [], length, length-append, arith, take, ◌+◌}
use Rattle.pass_book.proofs.Calling.{one_made, take_more}
use Rattle.pass_book.proofs.book.Book.calls.Goals as goal

pub loop-i-preserved : goal.loop-i-preserved
loop-i-preserved g c =
    let I = c.loop-i.invariant in
    let made = one_made g.C.Client.progress c.args.board.now c.args.seats.now c.args.self.now c.loop-i.self c.quiet-reply.new.self (take c.loop-i.i c.args.asked.now) (take (c.loop-i.i + 1) c.args.asked.now) c.loop-i.told.items c.act_at-act.result c.quiet-reply.result
    I.0 (take_more c.args.asked.now c.loop-i.i c.act_at-act.result c.act_at-act.ensures.there) c.quiet-reply.ensures.goes_on c.quiet-reply.ensures.added c.quiet-reply.ensures.reply c.quiet-reply.ensures.holds in
    let more = ap length c.push_reserved.ensures.items ∙ length-append c.loop-i.told.items (c.quiet-reply.result ∷ []) in
    let long = I.1 in
    let room = I.2 in
    let kept = c.push_reserved.ensures.capacity in
    (rw c.push_reserved.ensures.items made, omega (arith, more, long), rw kept room)

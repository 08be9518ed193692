use Rattle.std.proofs.Common.{refl, Ok}
use Rattle.note_queues.specs.declared.taken.Took.TheVariants as tooks
use Rattle.graph_acts.specs.declared.act.Act.TheVariants as asks
use Rattle.graph_acts.specs.declared.act.Reply.TheVariants as replies
use Rattle.graph_acts.specs.Plain.{sight_of}
use Rattle.board.specs.Boards.{first_of}
use Rattle.board_uses.proofs.Seen.{made_two}
use Rattle.board_uses.proofs.delivery.deliver.Goals as goal

pub returns-in-Ok-default-TakeNote-Ok-Call-clause-calls : goal.returns-in-Ok-default-TakeNote-Ok-Call-clause-calls
returns-in-Ok-default-TakeNote-Ok-Call-clause-calls g c =
    let see = sight_of g.C.Client g.S.Source g.K.Sink in
    let arm = c.in-Ok-default-TakeNote-Ok-Call in
    let took = rw (arm.field-0-1-is, arm.field-0-1-0-is, arm.field-0-1-0-0-is) at arm.ensures.ok in
    record {
      call = arm.call;
      client = c.tell.new.client;
      note = refl;
      told = c.tell.ensures;
      calls = made_two see g.C.Client.HEADERS (first_of c.args.board.now) c.args.pass.now c.call.new.pass c.end-ended_at.new.pass (asks.TakeNote c.args.h) (asks.EndNote c.args.h c.tell.new.client)
          (replies.TakeNote (Ok (tooks.Call arm.call))) replies.EndNote arm.taken_at c.end-ended_at.result arm.ensures.pass.1.0 took c.end-ended_at.ensures.call;
    }

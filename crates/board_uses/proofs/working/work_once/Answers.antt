use Rattle.std.proofs.Common.{sym, Ok}
use Rattle.graph_acts.specs.declared.act.Act.TheVariants as asks
use Rattle.graph_acts.specs.declared.act.Reply.TheVariants as replies
use Rattle.graph_acts.specs.declared.claimed.LentClaim.TheVariants as claimed
use Rattle.graph_acts.specs.Plain.{sight_of}
use Rattle.board.specs.Boards.{first_of}
use Rattle.board_uses.proofs.Seen.{made_two}
use Rattle.board_uses.proofs.working.work_once.Goals as goal

pub returns-in-Ok-default-Claim-Ok-Work-clause-calls : goal.returns-in-Ok-default-Claim-Ok-Work-clause-calls
returns-in-Ok-default-Claim-Ok-Work-clause-calls g c =
    let see = sight_of g.C.Client g.S.Source g.K.Sink in
    let arm = c.in-Ok-default-Claim-Ok-Work in
    let lent = rw (arm.field-0-1-is, arm.field-0-1-0-is, arm.field-0-1-0-0-is) at arm.ensures.ok in
    record {
      work = arm.work;
      done = c.run-done.result;
      run = c.run-done.ensures;
      many = sym c.frames-frames.ensures;
      calls = made_two see g.C.Client.HEADERS (first_of c.args.board.now) c.args.pass.now c.call.new.pass c.bring_back-finished_at.new.pass (asks.Claim c.args.h) (asks.Finish c.run-done.result)
          (replies.Claim (Ok (claimed.Work arm.work))) replies.Finish arm.claimed_at c.bring_back-finished_at.result arm.ensures.pass.1.0 lent c.bring_back-finished_at.ensures.call;
    }

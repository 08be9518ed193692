use Rattle.std.proofs.Common.{[], refl, ap}
use Rattle.std.specs.Result.{is_ok}
use Rattle.play_log.proofs.Gathering.{puts_failed, puts_held, puts_then, puts_written}
use Rattle.play_log.proofs.gathered.Gathered.put.Goals as goal

pub returns-then-piece-room-clause-puts : goal.returns-then-piece-room-clause-puts
returns-then-piece-room-clause-puts g c = puts_held _ c.args.self.now.held c.hold.new.self.held c.args.piece.now tt c.hold.ensures

pub returns-in_err-flush-clause-puts : goal.returns-in_err-flush-clause-puts
returns-in_err-flush-clause-puts g c =
    puts_failed _ _ c.args.self.now.held c.flush.new.self.held [] c.args.piece.now c.args.piece.now c.flush.result c.from_residual.result c.from_residual.ensures.0 c.flush.ensures.puts refl

pub returns-then-piece-room-2-clause-puts : goal.returns-then-piece-room-2-clause-puts
returns-then-piece-room-2-clause-puts g c =
    puts_then _ _ _ c.args.self.now.held c.flush.new.self.held c.hold-then-piece-room-2.new.self.held [] c.args.piece.now c.args.piece.now c.flush.result _ (ap is_ok c.in_ok-flush.was) c.flush.ensures.puts
    (puts_held _ c.flush.new.self.held c.hold-then-piece-room-2.new.self.held c.args.piece.now tt c.hold-then-piece-room-2.ensures) refl

pub returns-clause-puts : goal.returns-clause-puts
returns-clause-puts g c =
    puts_then _ _ _ c.args.self.now.held c.flush.new.self.held c.flush.new.self.held [] c.args.piece.now c.args.piece.now c.flush.result c.write_all.result (ap is_ok c.in_ok-flush.was) c.flush.ensures.puts
    (puts_written _ _ c.flush.new.self.held c.args.piece.now c.write_all.result c.in_ok-flush.ensures.empty c.write_all.ensures.whole c.write_all.ensures.front) refl

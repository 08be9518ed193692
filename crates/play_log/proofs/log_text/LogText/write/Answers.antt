use Rattle.std.proofs.Common.{[], ap}
use Rattle.std.specs.Result.{is_ok}
use Rattle.play_log.proofs.Gathering.{gathered_none, text_front, text_given}
use Rattle.play_log.proofs.log_text.LogText.write.Goals as goal

pub returns-in_err-put-clause-front : goal.returns-in_err-put-clause-front
returns-in_err-put-clause-front g c = c.put.ensures.puts.front _ [] (gathered_none _ c.args.held.now.held c.requires)

pub returns-clause-whole : goal.returns-clause-whole
returns-clause-whole g c =
    text_given _ _ c.args.held.now.held c.flush.new.self.held c.args.self.now c.put.result c.flush.result (ap is_ok c.in_ok-put.was) c.requires _ c.put.new.held.held c.put.ensures.puts c.flush.ensures.puts c.flush.ensures.empty

pub returns-clause-front : goal.returns-clause-front
returns-clause-front g c =
    text_front _ _ c.args.held.now.held c.flush.new.self.held c.args.self.now c.put.result c.flush.result (ap is_ok c.in_ok-put.was) c.requires _ c.put.new.held.held c.put.ensures.puts c.flush.ensures.puts

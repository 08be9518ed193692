use Rattle.std.proofs.Common.{◌++◌, refl, ap, sym, append_assoc}
use Rattle.std.specs.Prelude.{codes}
use Rattle.std.specs.Fmt.{decimal}
use Rattle.std.specs.Result.{is_ok}
use Rattle.play_log.proofs.Gathering.{puts_failed, puts_then}
use Rattle.play_log.proofs.log_text.put_finished.Goals as goal

pub returns-in_err-put_said-clause-puts : goal.returns-in_err-put_said-clause-puts
returns-in_err-put_said-clause-puts g c =
    puts_failed _ _ c.args.held.now.held _ (decimal c.args.pass ++ codes " " ++ c.args.words.now) (codes " " ++ (decimal c.args.frames)) _ c.put_said.result c.from_residual.result c.from_residual.ensures.0 c.put_said.ensures.puts (sym (append_assoc (decimal c.args.pass ++ codes " " ++ c.args.words.now) (codes " ") (decimal c.args.frames)))

pub returns-in_err-put-clause-puts : goal.returns-in_err-put-clause-puts
returns-in_err-put-clause-puts g c =
    puts_failed _ _ c.args.held.now.held _ ((decimal c.args.pass ++ codes " " ++ c.args.words.now) ++ (codes " ")) (decimal c.args.frames) _ c.put.result c.from_residual-in_err-put.result c.from_residual-in_err-put.ensures.0
    (puts_then _ _ _ c.args.held.now.held _ _ (decimal c.args.pass ++ codes " " ++ c.args.words.now) (codes " ") _ c.put_said.result c.put.result (ap is_ok c.in_ok-put_said.was) c.put_said.ensures.puts c.put.ensures.puts refl) refl

pub returns-clause-puts : goal.returns-clause-puts
returns-clause-puts g c =
    puts_then _ _ _ c.args.held.now.held _ _ ((decimal c.args.pass ++ codes " " ++ c.args.words.now) ++ (codes " ")) (decimal c.args.frames) _ c.put.result c.put_number.result (ap is_ok c.in_ok-put.was)
    (puts_then _ _ _ c.args.held.now.held _ _ (decimal c.args.pass ++ codes " " ++ c.args.words.now) (codes " ") _ c.put_said.result c.put.result (ap is_ok c.in_ok-put_said.was) c.put_said.ensures.puts c.put.ensures.puts refl)
    c.put_number.ensures.puts refl

use Rattle.std.proofs.Common.{◌++◌, List, ap, ◌∙◌}
use Rattle.std.specs.Prelude.{codes}
use Rattle.std.specs.Result.{is_ok}
use Rattle.play_log.specs.Merged.{merged_all}
use Rattle.play_log.specs.Places.{PassLogValue, lists_of, numbered_from, text_place}
use Rattle.play_log.proofs.Gathering.{puts_failed, puts_then}
use Rattle.play_log.proofs.pages.Pages.put.Goals as goal

pub returns-in_err-put_merged-clause-puts : goal.returns-in_err-put_merged-clause-puts
returns-in_err-put_merged-clause-puts g c =
    puts_failed _ _ c.args.held.now.held _ _ (codes "end\n") _ c.put_merged.result c.from_residual.result c.from_residual.ensures.0 c.put_merged.ensures.puts
    (ap (λ (logs : List PassLogValue). numbered_from 1 (merged_all text_place (lists_of logs)) ++ codes "end\n") c.as_slice.ensures.value ∙ c.self.view_is)

pub returns-clause-puts : goal.returns-clause-puts
returns-clause-puts g c =
    puts_then _ _ _ c.args.held.now.held _ _ _ (codes "end\n") _ c.put_merged.result c.put.result (ap is_ok c.in_ok-put_merged.was) c.put_merged.ensures.puts c.put.ensures.puts
    (ap (λ (logs : List PassLogValue). numbered_from 1 (merged_all text_place (lists_of logs)) ++ codes "end\n") c.as_slice.ensures.value ∙ c.self.view_is)

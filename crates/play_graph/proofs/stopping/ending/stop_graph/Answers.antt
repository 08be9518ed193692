use Rattle.std.proofs.Common.{Some, ◌∙◌, ap}
use Rattle.play_graph.proofs.Cleared.{cleared_stand, ended_stand, files_back}
use Rattle.play_graph.proofs.stopping.ending.stop_graph.Goals as goal

pub clear_links-requires-clause-stands : goal.clear_links-requires-clause-stands
clear_links-requires-clause-stands g c = cleared_stand c.args.plan.now c.args.graph c.stop_components.new.graph c.stop_components.new.graph c.stop_components.ensures.steps c.requires.stands

pub end_graph-requires-clause-ended : goal.end_graph-requires-clause-ended
end_graph-requires-clause-ended g c = ended_stand c.args.plan.now c.args.graph c.stop_components.new.graph c.clear_links.new.graph c.stop_components.ensures.steps c.clear_links.ensures.steps c.requires.stands

pub returns-clause-back : goal.returns-clause-back
returns-clause-back g c = files_back c.args.plan.now c.args.graph c.stop_components.new.graph c.clear_links.new.graph c.stop_components.ensures.steps c.clear_links.ensures.steps c.end_graph.new.files c.end_graph.ensures.back

pub returns-clause-files : goal.returns-clause-files
returns-clause-files g c = λ place b. c.end_graph.ensures.files place b ∙ ap (λ o. Some o) (c.clear_links.ensures.files place ∙ c.stop_components.ensures.files place)

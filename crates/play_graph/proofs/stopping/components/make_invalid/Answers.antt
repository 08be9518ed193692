use Rattle.play_graph.proofs.Stopped.{never_refused, stop_steps}
use Rattle.play_graph.proofs.stopping.components.make_invalid.Goals as goal

pub unreachable-requires : goal.unreachable-requires
unreachable-requires g c = never_refused c.args.place c.args.graph.now c.send_command.new.self c.handle-h.result c.handle-h.ensures c.law_of_worlds.ensures.closed c.in-Err.field-0 c.requires c.in-Err.ensures.step

pub returns-clause-steps : goal.returns-clause-steps
returns-clause-steps g c = stop_steps c.args.place c.args.graph.now c.send_command.new.self c.handle-h.result c.handle-h.ensures c.law_of_worlds.ensures.closed c.send_command.result c.send_command.ensures.step

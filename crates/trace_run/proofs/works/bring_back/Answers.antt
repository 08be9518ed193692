use Rattle.trace_run.specs.Standing.{graph_kept}
use Rattle.held_work_laws.proofs.Returned.{brought_back, comes, handed_back, its_own}
use Rattle.trace_run.proofs.works.bring_back.Goals as goal

pub finish-requires-clause-comes : goal.finish-requires-clause-comes
finish-requires-clause-comes c = comes c.args.held c.run-done.result _ _ _ c.run-done.ensures.run (graph_kept c.args.graph.now) c.requires

pub finish-requires-clause-its : goal.finish-requires-clause-its
finish-requires-clause-its c = its_own c.args.held c.run-done.result _ _ _ c.run-done.ensures.run (graph_kept c.args.graph.now) c.requires

pub finish-requires-clause-handed : goal.finish-requires-clause-handed
finish-requires-clause-handed c = handed_back c.args.held c.run-done.result _ _ _ c.run-done.ensures.run (graph_kept c.args.graph.now) c.requires

pub returns : goal.returns
returns c = rw (c.frames-frames.ensures, ← c.run-done.ensures.whole) (brought_back c.args.held c.run-done.result _ _ _ c.run-done.ensures.run (graph_kept c.args.graph.now) (graph_kept c.finish.new.self) c.finish.ensures.step)

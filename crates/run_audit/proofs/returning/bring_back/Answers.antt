use Rattle.graph_acts.specs.Working.{out_of}
use Rattle.graph_acts.proofs.Comeback.{can_finish}
use Rattle.run_audit.proofs.returning.bring_back.Goals as goal

pub finish-requires : goal.finish-requires
finish-requires g c =
    can_finish _ c.requires.0 (out_of c.args.work) c.run-done.result c.requires.2 c.run-done.ensures c.args.served.now.graph (c.law_of_worlds.ensures.sound c.requires.0 c.requires.1) c.requires.1

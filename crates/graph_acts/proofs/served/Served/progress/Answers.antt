use Rattle.std.proofs.Common.{refl}
use Rattle.graph_acts.specs.declared.act.Act.TheVariants as asks
use Rattle.graph_acts.specs.Plain.{sight_of}
use Rattle.graph_acts.proofs.Acts.{looked_moved}
use Rattle.graph_acts.proofs.ObjectActs.{objects_stay}
use Rattle.graph_acts.proofs.Worlds.{looks_here}
use Rattle.graph_acts.proofs.served.Served.progress.Goals as goal

pub returns : goal.returns
returns g c = looked_moved (sight_of g.C.Client g.S.Source g.K.Sink) (asks.Progress c.args.h) _ c.args.self.now.graph (λ u w s. looks_here _ _ w (c.law_of_worlds.ensures.closed w s) (c.progress.ensures w s)) (objects_stay (asks.Progress c.args.h) _ c.args.self.now.graph c.args.self.now.graph (λ k. refl) (λ n. refl) (record { client = refl; file = refl; given = λ clients files. tt })) (record { taken = refl; given = refl; back = refl; gone = refl; done = refl; work = refl; works = λ n u. (refl, refl); replied = tt; sized = tt; leaves = λ n u. (refl, refl) })

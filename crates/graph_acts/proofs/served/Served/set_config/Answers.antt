use Rattle.std.proofs.Common.{refl}
use Rattle.graph_acts.specs.declared.act.Act.TheVariants as asks
use Rattle.graph_acts.specs.Plain.{sight_of}
use Rattle.graph_acts.proofs.Acts.{quiet_moved}
use Rattle.graph_acts.proofs.ObjectActs.{objects_stay}
use Rattle.graph_acts.proofs.served.Served.set_config.Goals as goal

pub returns : goal.returns
returns g c = quiet_moved (sight_of g.C.Client g.S.Source g.K.Sink) (asks.SetConfig c.args.h c.args.key c.args.value) _ c.args.self.now.graph c.set_config.new.self (λ u. c.set_config.ensures.step) c.set_config.ensures.held c.set_config.ensures.clients (objects_stay (asks.SetConfig c.args.h c.args.key c.args.value) _ c.args.self.now.graph c.set_config.new.self c.set_config.ensures.clients c.set_config.ensures.files (record { client = refl; file = refl; given = λ clients files. tt })) (record { taken = refl; given = refl; back = refl; gone = refl; done = refl; work = refl; works = λ n u. (refl, refl); replied = tt; sized = tt; leaves = λ n u. (refl, refl) })

use Rattle.std.proofs.Common.{refl}
use Rattle.graph_acts.specs.declared.act.Act.TheVariants as asks
use Rattle.graph_acts.specs.Plain.{sight_of}
use Rattle.graph_acts.proofs.Acts.{quiet_moved}
use Rattle.graph_acts.proofs.ObjectActs.{objects_stay}
use Rattle.graph_acts.proofs.served.Served.set_parameter.Goals as goal

pub returns : goal.returns
returns g c = quiet_moved (sight_of g.C.Client g.S.Source g.K.Sink) (asks.SetParameter c.args.h c.args.key c.args.value) _ c.args.self.now.graph c.set_parameter.new.self (λ u. c.set_parameter.ensures.step) c.set_parameter.ensures.held c.set_parameter.ensures.clients (objects_stay (asks.SetParameter c.args.h c.args.key c.args.value) _ c.args.self.now.graph c.set_parameter.new.self c.set_parameter.ensures.clients c.set_parameter.ensures.files (record { client = refl; file = refl; given = λ clients files. tt })) (record { taken = refl; given = refl; back = refl; gone = refl; done = refl; work = refl; works = λ n u. (refl, refl); replied = tt; sized = tt; leaves = λ n u. (refl, refl) })

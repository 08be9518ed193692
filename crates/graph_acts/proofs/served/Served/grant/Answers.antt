use Rattle.std.proofs.Common.{refl}
use Rattle.graph_acts.specs.declared.act.Act.TheVariants as asks
use Rattle.graph_acts.specs.Plain.{sight_of}
use Rattle.graph_acts.proofs.Acts.{quiet_moved}
use Rattle.graph_acts.proofs.ObjectActs.{objects_stay}
use Rattle.graph_acts.proofs.served.Served.grant.Goals as goal

pub returns : goal.returns
returns g c = quiet_moved (sight_of g.C.Client g.S.Source g.K.Sink) asks.Grant _ c.args.self.now.graph c.grant.new.self (λ u. c.grant.ensures.step) c.grant.ensures.held c.grant.ensures.clients (objects_stay asks.Grant _ c.args.self.now.graph c.grant.new.self c.grant.ensures.clients c.grant.ensures.files (record { client = refl; file = refl; given = λ clients files. tt })) (record { taken = refl; given = refl; back = refl; gone = refl; done = refl; work = refl; works = λ n u. (refl, refl); replied = tt; sized = tt; leaves = λ n u. (refl, refl) })

use Rattle.std.proofs.Common.{refl}
use Rattle.graph_acts.specs.declared.act.Act.TheVariants as asks
use Rattle.graph_acts.specs.Plain.{sight_of}
use Rattle.graph_acts.proofs.Acts.{quiet_moved}
use Rattle.graph_acts.proofs.ObjectActs.{objects_stay}
use Rattle.graph_acts.proofs.served.Served.hand_over.Goals as goal

pub returns : goal.returns
returns g c = quiet_moved (sight_of g.C.Client g.S.Source g.K.Sink) (asks.HandOver c.args.h c.args.port) _ c.args.self.now.graph c.hand_over.new.self (λ u. c.hand_over.ensures.step) c.hand_over.ensures.held c.hand_over.ensures.clients (objects_stay (asks.HandOver c.args.h c.args.port) _ c.args.self.now.graph c.hand_over.new.self c.hand_over.ensures.clients c.hand_over.ensures.files (record { client = refl; file = refl; given = λ clients files. tt })) (record { taken = refl; given = refl; back = refl; gone = refl; done = refl; work = refl; works = λ n u. (refl, refl); replied = tt; sized = tt; leaves = λ n u. (refl, refl) })

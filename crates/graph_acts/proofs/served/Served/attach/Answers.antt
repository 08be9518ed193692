use Rattle.std.proofs.Common.{refl}
use Rattle.graph_acts.specs.declared.act.Act.TheVariants as asks
use Rattle.graph_acts.specs.Plain.{sight_of}
use Rattle.graph_acts.proofs.Acts.{quiet_moved}
use Rattle.graph_acts.proofs.ObjectActs.{attached_objects}
use Rattle.graph_acts.proofs.served.Served.attach.Goals as goal

pub returns : goal.returns
returns g c = quiet_moved (sight_of g.C.Client g.S.Source g.K.Sink) (asks.Attach c.args.h c.args.file) _ c.args.self.now.graph c.attach.new.self (λ u. c.attach.ensures.step) c.attach.ensures.held c.attach.ensures.clients (attached_objects c.args.h c.args.file c.attach.result c.args.self.now.graph c.attach.new.self c.attach.ensures.file c.attach.ensures.files c.attach.ensures.clients c.attach.ensures.unchanged) (record { taken = refl; given = refl; back = refl; gone = refl; done = refl; work = refl; works = λ n u. (refl, refl); replied = c.attach.ensures.handed_back; sized = tt; leaves = λ n u. (refl, refl) })

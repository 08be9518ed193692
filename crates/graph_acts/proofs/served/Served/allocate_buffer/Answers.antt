use Rattle.std.proofs.Common.{refl}
use Rattle.graph_acts.specs.declared.act.Act.TheVariants as asks
use Rattle.graph_acts.specs.declared.act.Reply.TheVariants as replies
use Rattle.graph_acts.specs.Plain.{sight_of}
use Rattle.graph_acts.proofs.Acts.{clients_stay, works_alone}
use Rattle.graph_acts.proofs.HeaderActs.{headers_given}
use Rattle.graph_acts.proofs.ObjectActs.{objects_stay}
use Rattle.graph_acts.proofs.served.Served.allocate_buffer.Goals as goal

pub returns : goal.returns
returns g c = record {
  step = λ w s u k m. c.allocate_buffer.ensures.step w s;
  replied = tt;
  sized = tt;
  headers = headers_given c.allocate_buffer.result c.args.self.now.graph c.allocate_buffer.new.self c.allocate_buffer.ensures.held c.allocate_buffer.ensures.handed c.allocate_buffer.ensures.unchanged;
  clients = clients_stay c.args.self.now.graph c.allocate_buffer.new.self c.allocate_buffer.ensures.clients;
  objects = objects_stay (asks.AllocateBuffer c.args.h c.args.port) (replies.AllocateBuffer c.allocate_buffer.result) c.args.self.now.graph c.allocate_buffer.new.self c.allocate_buffer.ensures.clients c.allocate_buffer.ensures.files (record { client = refl; file = refl; given = λ clients files. tt });
  leaves = λ h x w s u. (refl, refl);
  told = λ u. tt;
  works = works_alone (sight_of g.C.Client g.S.Source g.K.Sink) (asks.AllocateBuffer c.args.h c.args.port) (replies.AllocateBuffer c.allocate_buffer.result) c.args.self.now.graph c.allocate_buffer.new.self (λ n u. (refl, refl));
}

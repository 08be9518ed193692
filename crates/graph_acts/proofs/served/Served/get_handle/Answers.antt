use Rattle.std.proofs.Common.{refl}
use Rattle.graph_acts.specs.declared.act.Act.TheVariants as asks
use Rattle.graph_acts.specs.declared.act.Reply.TheVariants as replies
use Rattle.graph_acts.specs.Plain.{sight_of}
use Rattle.graph_acts.proofs.Acts.{headers_stay, works_alone}
use Rattle.graph_acts.proofs.ClientActs.{got_clients, got_fresh, got_step}
use Rattle.graph_acts.proofs.ObjectActs.{got_objects}
use Rattle.graph_acts.proofs.served.Served.get_handle.Goals as goal

pub returns : goal.returns
returns g c =
    let e = c.get_handle-reply.ensures in
    let l = c.law_of_worlds.ensures in
    let old = c.args.self.now.graph in
    let new = c.get_handle-reply.new.self in record {
      step = λ w s u k m. got_step g.C.Client.progress old new c.as_str.result.now _ _ c.as_str.ensures.value e.step w s;
      replied = e.handed_back;
      sized = tt;
      headers = headers_stay old new e.held;
      clients = got_clients c.get_handle-reply.result c.args.client old new (got_fresh g.C.Client.progress old new c.as_str.result.now c.get_handle-reply.result l.one l.out e.step) e.client e.clients e.clients_unchanged;
      objects = got_objects c.args.name c.args.client c.get_handle-reply.result old new e.client e.clients e.clients_unchanged e.file e.files e.files_unchanged;
      leaves = λ k gone w s u. (refl, refl);
      told = λ u. tt;
      works = works_alone (sight_of g.C.Client g.S.Source g.K.Sink) (asks.GetHandle c.args.name c.args.client) (replies.GetHandle c.get_handle-reply.result) old new (λ n u. (refl, refl));
    }

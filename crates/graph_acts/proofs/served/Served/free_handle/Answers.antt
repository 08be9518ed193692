use Rattle.std.proofs.Common.{refl}
use Rattle.graph_acts.specs.declared.act.Act.TheVariants as asks
use Rattle.graph_acts.specs.declared.act.Reply.TheVariants as replies
use Rattle.graph_acts.specs.Plain.{sight_of}
use Rattle.graph_acts.proofs.Acts.{headers_stay, works_alone}
use Rattle.graph_acts.proofs.ClientActs.{freed_clients, freed_leaves}
use Rattle.graph_acts.proofs.ObjectActs.{freed_objects}
use Rattle.graph_acts.proofs.served.Served.free_handle.Goals as goal

pub returns : goal.returns
returns g c =
    let e = c.free_handle.ensures in
    let l = c.law_of_worlds.ensures in
    let old = c.args.self.now.graph in
    let new = c.free_handle.new.self in record {
      step = λ w s u k m. e.step w s;
      replied = tt;
      sized = tt;
      headers = headers_stay old new e.held;
      clients = freed_clients c.args.h c.free_handle.result old new e.client e.gone e.clients e.unchanged;
      objects = freed_objects g.C.Client.progress c.args.h c.free_handle.result old new l.one l.told e.step e.client e.file e.gone e.clients e.files e.unchanged;
      leaves = λ k gone w s u. freed_leaves g.C.Client.progress c.args.h c.free_handle.result old k w s (l.sound w s) (l.told w s) l.out e.client gone;
      told = λ u. tt;
      works = works_alone (sight_of g.C.Client g.S.Source g.K.Sink) (asks.FreeHandle c.args.h) (replies.FreeHandle c.free_handle.result) old new (λ n u. (refl, refl));
    }

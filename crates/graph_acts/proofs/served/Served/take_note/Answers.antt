use Rattle.std.proofs.Common.{refl}
use Rattle.graph_acts.specs.declared.act.Act.TheVariants as asks
use Rattle.graph_acts.specs.declared.act.Reply.TheVariants as replies
use Rattle.graph_acts.specs.Plain.{sight_of}
use Rattle.graph_acts.proofs.Acts.{works_alone}
use Rattle.graph_acts.proofs.ClientActs.{took_headers, took_clients, took_leaves, took_told}
use Rattle.graph_acts.proofs.ObjectActs.{took_objects}
use Rattle.graph_acts.proofs.served.Served.take_note.Goals as goal

pub returns : goal.returns
returns g c =
    let e = c.take_note-took.ensures in
    let l = c.law_of_worlds.ensures in
    let n = c.law_of_worlds-2.ensures in
    let old = c.args.self.now.graph in
    let new = c.take_note-took.new.self in
    let took = c.take_note-took.result in
    let p = g.C.Client.progress in record {
      step = λ w s u k m. e.step w s;
      replied = tt;
      sized = tt;
      headers = took_headers took old new e.held e.handed e.unchanged;
      clients = took_clients p c.args.h took old new e.client e.done e.clients e.unchanged;
      objects = took_objects c.args.h took old new e.client e.clients e.files e.unchanged;
      leaves = λ k gone w s u. took_leaves p c.args.h took old new k w s (l.sound w s) (l.told w s) l.out e.client gone;
      told = λ u. took_told p c.args.h took old new l.sound l.told n.out e.client;
      works = works_alone (sight_of g.C.Client g.S.Source g.K.Sink) (asks.TakeNote c.args.h) (replies.TakeNote took) old new (λ n u. (refl, refl));
    }

use Rattle.std.proofs.Common.{refl}
use Rattle.graph_acts.specs.declared.act.Act.TheVariants as asks
use Rattle.graph_acts.specs.declared.act.Reply.TheVariants as replies
use Rattle.graph_acts.specs.Plain.{sight_of}
use Rattle.graph_acts.proofs.Worlds.{meets_told}
use Rattle.graph_acts.proofs.Acts.{headers_stay, works_alone}
use Rattle.graph_acts.proofs.ClientActs.{ended_clients}
use Rattle.graph_acts.proofs.ObjectActs.{ended_objects}
use Rattle.graph_acts.proofs.served.Served.end_note.Goals as goal

pub returns : goal.returns
returns g c =
    let e = c.end_note.ensures in
    let old = c.args.self.now.graph in
    let new = c.end_note.new.self in record {
      step = λ w s u k m. e.step w s (meets_told c.args.h (g.C.Client.progress c.args.client) w m);
      replied = tt;
      sized = tt;
      headers = headers_stay old new e.held;
      clients = ended_clients c.args.h c.args.client old new e.client e.clients;
      objects = ended_objects c.args.h c.args.client replies.EndNote old new e.client e.clients e.files;
      leaves = λ k gone w s u. (refl, refl);
      told = λ u. tt;
      works = works_alone (sight_of g.C.Client g.S.Source g.K.Sink) (asks.EndNote c.args.h c.args.client) replies.EndNote old new (λ n u. (refl, refl));
    }

pub end_note-requires : goal.end_note-requires
end_note-requires g c = record { out = c.law_of_worlds.ensures.out c.args.h c.requires.0; told = c.requires.1 }

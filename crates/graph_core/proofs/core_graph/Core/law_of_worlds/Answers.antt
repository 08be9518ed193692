use Rattle.machine_laws.proofs.Standing.{sound_census}
use Rattle.graph_core.specs.Entries.{Entries}
use Rattle.graph_core.proofs.Telling.{all_sound, all_told, out_there}
use Rattle.graph_core.proofs.Gathered.{gathered}
use Rattle.graph_core.proofs.core_graph.Core.law_of_worlds.Goals as goal

pub returns : goal.returns
returns g c =
    let i = c.self.inside in
    let p = g.C.Client.progress in
    let G : Entries (g.row.C.Denot) = gathered i.components.items i.stock i.book i.registry.given in
    let sound = all_sound p G c.self.invariant.0.worlds in
    rw (← c.self.view_is) (record {
      one = c.self.invariant.0.worlds;
      sound = sound;
      census = λ w S. (sound_census w (sound w S)).0;
      room = λ w S. (sound_census w (sound w S)).1;
      told = all_told p G;
      few = c.self.invariant.0.few;
      out = out_there p G;
    })

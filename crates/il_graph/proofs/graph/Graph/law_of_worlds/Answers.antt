use Rattle.std.proofs.Common.{◌∙◌, ap, refl, Option, option_map, option_and_then}
use Rattle.audio_parts.specs.AnyParts.{attached_of}
use Rattle.audio_parts.specs.Shown.{ShownPart, shown_by}
use Rattle.il_machine.specs.Due.{first_due}
use Rattle.machine_laws.proofs.Closing.{closed_rests}
use Rattle.il_graph.proofs.Looking.{few_of}
use Rattle.il_graph.proofs.Whole.{bare}
use Rattle.il_graph.proofs.Written.{shown_kept, tell_written}
use Rattle.il_graph.proofs.graph.Graph.law_of_worlds.Goals as goal

pub returns : goal.returns
returns g c =
    let laws = c.law_of_worlds.ensures in
    let p = g.C.Client.progress in
    rw (← c.self.view_is) (record {
      one = c.self.invariant.1.worlds;
      sound = λ w S. laws.sound w (bare p _ w S);
      census = λ w S. laws.census w (bare p _ w S);
      room = λ w S. laws.room w (bare p _ w S);
      few = λ w S. few_of p c.self.inside.core w (bare p _ w S) laws.few;
      closed = λ w S. ap first_due S.looks ∙ c.self.invariant.1.closed;
      rests = λ w S. closed_rests w (ap first_due S.looks ∙ c.self.invariant.1.closed);
      told = λ w S. laws.told w (bare p _ w S);
      files = λ i x at none.
          let p = c.self.invariant.1.parts.there i x at none in
          ap (λ (o : Option (Option (ShownPart (g.row.S.Denot) (g.row.K.Denot)))). option_map attached_of (option_and_then (option_and_then (λ (q : ShownPart (g.row.S.Denot) (g.row.K.Denot)). q.file)) o)) p.1 ∙ (p.2).file;
      written = λ w S. tell_written p (shown_by g.S.Source.told g.K.Sink.told g.K.Sink.name) g.K.Sink.told (λ part snk frames file. shown_kept g.S.Source.told g.K.Sink.told g.K.Sink.name part snk frames file) _ c.self.inside.parts.items refl c.self.invariant.1 w S;
      out = laws.out;
    })

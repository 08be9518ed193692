use Rattle.std.proofs.lemmas.Option.{IfSome_then}
use Rattle.il_graph.specs.Shown.{look_of}
use Rattle.graph_uses.proofs.client.note.Goals as goal

pub returns-clause-handed : goal.returns-clause-handed
returns-clause-handed g c =
    let came = rw c.in-Ok-Call.field-0-is at c.in-Ok-Call.ensures.handed in
    let out = c.told-client.ensures.handed (look_of c.args.graph.now) (look_of c.take_note.new.self) came in
    IfSome_then c.told-client.result.1 out (λ header h. c.end_note.ensures.held.stay header h.handed)

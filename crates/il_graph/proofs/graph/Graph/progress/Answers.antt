use Rattle.il_graph.proofs.Looking.{progress_seen, no_progress_seen}
use Rattle.il_graph.proofs.Whole.{bare}
use Rattle.il_graph.proofs.graph.Graph.progress.Goals as goal

pub returns-in_default : goal.returns-in_default
returns-in_default g c = rw (← c.self.view_is) (λ w S. no_progress_seen g.C.Client.progress c.self.inside.core c.args.h w (bare g.C.Client.progress _ w S) c.in_default.ensures)

pub returns : goal.returns
returns g c = rw (← c.self.view_is) (λ w S. progress_seen g.C.Client.progress c.self.inside.core c.args.h w c.in-Some.component.now c.progress.result (bare g.C.Client.progress _ w S) c.in-Some.ensures c.progress.ensures)

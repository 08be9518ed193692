use Rattle.std.proofs.Common.{◌≤◌, length, sym, ap, subst}
use Rattle.il_machine.specs.Whole.{Always}
use Rattle.il_graph.specs.Shown.{TellWritten}
use Rattle.play_build_laws.specs.Dismantling.{AreLinks}
use Rattle.play_plan_laws.specs.Endings.{HasEnded, ends_of}
use Rattle.play_graph.specs.Ending.{AreBack, AreFilesOf, StandsFor}
use Rattle.play_graph.specs.Graphs.{kept_of}
use Rattle.play_graph.specs.Making.{AreGone}
use Rattle.play_run.specs.Playing.{PlayingValue}
use Rattle.play_run.proofs.Closing.{keeps_log, play_links, played_out, stands_ended}
use Rattle.play_run.proofs.Rounding.{few_links}
use Rattle.play_run.proofs.playing.Playing.end.Goals as goal

pub end_graph-requires-clause-joints : goal.end_graph-requires-clause-joints
end_graph-requires-clause-joints g c =
    subst (λ (x : PlayingValue g.row.S.Denot g.row.K.Denot). length x.plan.joints ≤ 1024) (sym c.self.view_is) (few_links c.args.self (c.requires.played.0, c.requires.played.1))

pub end_graph-requires-clause-gone : goal.end_graph-requires-clause-gone
end_graph-requires-clause-gone g c =
    subst (λ (x : PlayingValue g.row.S.Denot g.row.K.Denot). AreGone (length x.plan.parts) c.args.files.now) (sym c.self.view_is) c.requires.gone

pub end_graph-requires-clause-links : goal.end_graph-requires-clause-links
end_graph-requires-clause-links g c =
    subst (λ (x : PlayingValue g.row.S.Denot g.row.K.Denot). AreLinks (ends_of x.plan) (length x.plan.joints)) (sym c.self.view_is) (play_links c.args.self c.requires.played)

pub end_graph-requires-clause-ended : goal.end_graph-requires-clause-ended
end_graph-requires-clause-ended g c =
    subst (λ (x : PlayingValue g.row.S.Denot g.row.K.Denot). StandsFor (HasEnded x.plan) x.graph) (sym c.self.view_is) (stands_ended c.args.self c.requires.played)

pub returns-clause-back : goal.returns-clause-back
returns-clause-back g c = λ p Y over.
    subst (λ (x : PlayingValue g.row.S.Denot g.row.K.Denot). Always (kept_of x.graph) (λ w. HasEnded x.plan w → AreBack w c.end_graph.new.files)) c.self.view_is c.end_graph.ensures.back Y.standing.world Y.standing.stands
    (played_out c.args.self p Y.standing over).ended

pub returns-clause-log : goal.returns-clause-log
returns-clause-log g c = keeps_log c.args.self c.self.inside.log (ap (λ (x : PlayingValue g.row.S.Denot g.row.K.Denot). x.log) c.self.view_is)

pub returns-clause-files : goal.returns-clause-files
returns-clause-files g c = subst (λ (x : PlayingValue g.row.S.Denot g.row.K.Denot). AreFilesOf x.graph (length x.plan.parts) c.end_graph.new.files) c.self.view_is c.end_graph.ensures.files

pub returns-clause-written : goal.returns-clause-written
returns-clause-written g c = subst (λ (x : PlayingValue g.row.S.Denot g.row.K.Denot). Always (kept_of x.graph) (TellWritten g.K.Sink.told x.graph)) c.self.view_is c.law_of_worlds.ensures.written

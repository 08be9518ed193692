use Rattle.std.proofs.Common.{◌≤◌, length, sym, subst}
use Rattle.il_machine.specs.Sound.{Sound}
use Rattle.il_machine.specs.Whole.{Always}
use Rattle.il_graph.specs.Shown.{TellWritten}
use Rattle.play_build_laws.specs.Dismantling.{AreLinks}
use Rattle.play_plan_laws.specs.Endings.{ends_of}
use Rattle.play_graph.specs.Ending.{AreBack, AreFilesOf, StandsFor}
use Rattle.play_graph.specs.Graphs.{kept_of}
use Rattle.play_graph.specs.Making.{AreGone}
use Rattle.play_graph.specs.Stops.{HasStopped}
use Rattle.play_run.specs.Playing.{PlayingValue}
use Rattle.play_run.proofs.Halting.{few_stopped, gives_stopped, links_stopped, most_stopped, stands_stopped}
use Rattle.play_run.proofs.playing.Playing.stop.Goals as goal

pub stop_graph-requires-clause-parts : goal.stop_graph-requires-clause-parts
stop_graph-requires-clause-parts g c = subst (λ (x : PlayingValue g.row.S.Denot g.row.K.Denot). length x.plan.parts ≤ 32) (sym c.self.view_is) (most_stopped c.args.self c.requires.broken_off)

pub stop_graph-requires-clause-joints : goal.stop_graph-requires-clause-joints
stop_graph-requires-clause-joints g c = subst (λ (x : PlayingValue g.row.S.Denot g.row.K.Denot). length x.plan.joints ≤ 1024) (sym c.self.view_is) (few_stopped c.args.self c.requires.broken_off)

pub stop_graph-requires-clause-gone : goal.stop_graph-requires-clause-gone
stop_graph-requires-clause-gone g c = subst (λ (x : PlayingValue g.row.S.Denot g.row.K.Denot). AreGone (length x.plan.parts) c.args.files.now) (sym c.self.view_is) c.requires.gone

pub stop_graph-requires-clause-links : goal.stop_graph-requires-clause-links
stop_graph-requires-clause-links g c = subst (λ (x : PlayingValue g.row.S.Denot g.row.K.Denot). AreLinks (ends_of x.plan) (length x.plan.joints)) (sym c.self.view_is) (links_stopped c.args.self c.requires.broken_off)

pub stop_graph-requires-clause-stands : goal.stop_graph-requires-clause-stands
stop_graph-requires-clause-stands g c =
    let sound = subst (λ (x : PlayingValue g.row.S.Denot g.row.K.Denot). Always (kept_of x.graph) Sound) c.self.view_is c.law_of_worlds.ensures.sound in
    subst (λ (x : PlayingValue g.row.S.Denot g.row.K.Denot). StandsFor (HasStopped x.plan 0) x.graph) (sym c.self.view_is) (stands_stopped c.args.self sound c.requires.broken_off)

pub returns-clause-back : goal.returns-clause-back
returns-clause-back g c =
    let sound = subst (λ (x : PlayingValue g.row.S.Denot g.row.K.Denot). Always (kept_of x.graph) Sound) c.self.view_is c.law_of_worlds.ensures.sound in
    let back = subst (λ (x : PlayingValue g.row.S.Denot g.row.K.Denot). Always (kept_of x.graph) (λ w. HasStopped x.plan 0 w → AreBack w c.stop_graph.new.files)) c.self.view_is c.stop_graph.ensures.back in
    gives_stopped c.args.self sound c.stop_graph.new.files back

pub returns-clause-files : goal.returns-clause-files
returns-clause-files g c = subst (λ (x : PlayingValue g.row.S.Denot g.row.K.Denot). AreFilesOf x.graph (length x.plan.parts) c.stop_graph.new.files) c.self.view_is c.stop_graph.ensures.files

pub returns-clause-written : goal.returns-clause-written
returns-clause-written g c = subst (λ (x : PlayingValue g.row.S.Denot g.row.K.Denot). Always (kept_of x.graph) (TellWritten g.K.Sink.told x.graph)) c.self.view_is c.law_of_worlds.ensures.written

pub returns-clause-sound : goal.returns-clause-sound
returns-clause-sound g c = subst (λ (x : PlayingValue g.row.S.Denot g.row.K.Denot). Always (kept_of x.graph) Sound) c.self.view_is c.law_of_worlds.ensures.sound

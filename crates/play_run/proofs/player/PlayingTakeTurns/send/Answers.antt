use Rattle.play_loop.specs.Turns.{IsSend}
use Rattle.audio_parts.specs.ObjectLaws.{object_itself}
use Rattle.audio_parts.specs.Objects.{ObjectStays}
use Rattle.play_run.proofs.Answering.{files_stay, leads_of, turned_of}
use Rattle.play_run.proofs.player.PlayingTakeTurns.send.Goals as goal

pub returns-clause-turned : goal.returns-clause-turned
returns-clause-turned g c = turned_of c.args.self.now c.conduct.new.self c.conduct.result IsSend c.conduct.ensures.turned

pub returns-clause-leads : goal.returns-clause-leads
returns-clause-leads g c = leads_of (ObjectStays g.S.Source.name g.S.Source.size g.S.Source.told g.S.Source.ends g.S.Source.offset g.S.Source.faults g.K.Sink.name g.K.Sink.faults) c.args.self.now c.conduct.new.self c.conduct.result IsSend c.conduct.ensures.plan (files_stay (ObjectStays g.S.Source.name g.S.Source.size g.S.Source.told g.S.Source.ends g.S.Source.offset g.S.Source.faults g.K.Sink.name g.K.Sink.faults) (object_itself g.S.Source.name g.S.Source.size g.S.Source.told g.S.Source.ends g.S.Source.offset g.S.Source.faults g.K.Sink.name g.K.Sink.faults) c.args.self.now c.conduct.new.self c.conduct.ensures.files) c.conduct.ensures.turned

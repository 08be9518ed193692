use Rattle.audio_parts.specs.Objects.{ObjectShows, ObjectStays}
use Rattle.play_run.proofs.Closing.{has_broken_off, has_broken_off_with, has_played, objects_broken_off, objects_played, plan_stays, stop_shows}
use Rattle.play_run.proofs.playing.Playing.play.Goals as goal

pub returns-clause-plan : goal.returns-clause-plan
returns-clause-plan g c = plan_stays (ObjectStays g.S.Source.name g.S.Source.size g.S.Source.told g.S.Source.ends g.S.Source.offset g.S.Source.faults g.K.Sink.name g.K.Sink.faults) (ObjectShows g.S.Source.size g.S.Source.ends g.S.Source.offset g.S.Source.faults g.K.Sink.faults) c.args.self.now c.play_on.new.player c.play_on.result c.play_on.ensures.leads c.play_on.ensures.failed

pub returns-clause-played : goal.returns-clause-played
returns-clause-played g c = has_played (ObjectStays g.S.Source.name g.S.Source.size g.S.Source.told g.S.Source.ends g.S.Source.offset g.S.Source.faults g.K.Sink.name g.K.Sink.faults) c.args.self.now c.play_on.new.player c.play_on.result c.play_on.ensures.all c.play_on.ensures.leads

pub returns-clause-broken_off : goal.returns-clause-broken_off
returns-clause-broken_off g c = has_broken_off (ObjectStays g.S.Source.name g.S.Source.size g.S.Source.told g.S.Source.ends g.S.Source.offset g.S.Source.faults g.K.Sink.name g.K.Sink.faults) (ObjectShows g.S.Source.size g.S.Source.ends g.S.Source.offset g.S.Source.faults g.K.Sink.faults) c.args.self.now c.play_on.new.player c.play_on.result (c.requires.play, c.requires.stands) c.play_on.ensures.failed

pub returns-clause-broken_off_with : goal.returns-clause-broken_off_with
returns-clause-broken_off_with g c = has_broken_off_with (ObjectStays g.S.Source.name g.S.Source.size g.S.Source.told g.S.Source.ends g.S.Source.offset g.S.Source.faults g.K.Sink.name g.K.Sink.faults) (ObjectShows g.S.Source.size g.S.Source.ends g.S.Source.offset g.S.Source.faults g.K.Sink.faults) c.args.self.now c.play_on.new.player c.play_on.result c.play_on.ensures.failed

pub returns-clause-objects : goal.returns-clause-objects
returns-clause-objects g c = objects_played (ObjectStays g.S.Source.name g.S.Source.size g.S.Source.told g.S.Source.ends g.S.Source.offset g.S.Source.faults g.K.Sink.name g.K.Sink.faults) c.args.self.now c.play_on.new.player c.play_on.result c.play_on.ensures.leads

pub returns-clause-objects_then : goal.returns-clause-objects_then
returns-clause-objects_then g c = objects_broken_off (ObjectStays g.S.Source.name g.S.Source.size g.S.Source.told g.S.Source.ends g.S.Source.offset g.S.Source.faults g.K.Sink.name g.K.Sink.faults) (ObjectShows g.S.Source.size g.S.Source.ends g.S.Source.offset g.S.Source.faults g.K.Sink.faults) c.args.self.now c.play_on.new.player c.play_on.result c.play_on.ensures.failed

pub returns-clause-shows : goal.returns-clause-shows
returns-clause-shows g c = stop_shows (ObjectStays g.S.Source.name g.S.Source.size g.S.Source.told g.S.Source.ends g.S.Source.offset g.S.Source.faults g.K.Sink.name g.K.Sink.faults) (ObjectShows g.S.Source.size g.S.Source.ends g.S.Source.offset g.S.Source.faults g.K.Sink.faults) c.args.self.now c.play_on.new.player c.play_on.result c.play_on.ensures.failed

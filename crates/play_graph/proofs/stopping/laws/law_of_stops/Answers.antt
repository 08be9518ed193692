use Rattle.play_turn_laws.proofs.Planned.{plan_links}
use Rattle.play_graph.proofs.Plays.{few_joints, play_stops, work_stops}
use Rattle.play_graph.proofs.Reading.{read_stops}
use Rattle.play_graph.proofs.stopping.laws.law_of_stops.Goals as goal

pub returns : goal.returns
returns c = record {
  few = λ plan recent p w V W. few_joints plan V recent p w W;
  links = λ plan recent p w V W. plan_links plan recent p w V W;
  standing = λ plan recent p w V W T N. play_stops plan V recent p w W T N;
  finished = λ plan recent p w v done V W T F S N. work_stops plan V recent p w W T done v F S N;
  stops = λ plan recent p ss w V S W T N. read_stops plan V recent p ss w W T S N;
}

-- What is seen of a replay's graph, whose sinks compare what they are given with their files.
use Rattle.std.specs.Prelude.{None}
use Rattle.outside_io.specs.declared.sink.Sink.{Ghosts as SinkGhosts}
use Rattle.outside_io.specs.declared.source.Source.{Ghosts as SourceGhosts}
use Rattle.note_queues.specs.declared.client.Client.{Ghosts as ClientGhosts}
use Rattle.compared_files.specs.Comparing.{ComparingValue, known_by, told_by}
use Rattle.graph_acts.specs.Plain.{Sight, sight_of}

abbrev pub compared : {S : Type 0} → SourceGhosts S → SinkGhosts (ComparingValue S)
compared reads = record {
  told = λ snk. told_by (reads.told snk.src) snk;
  name = λ snk. known_by (reads.name snk.src) (reads.told snk.src) (reads.ends snk.src);
  faults = λ snk. snk.failed;
  writing = λ snk. None;
}

abbrev pub replay_sight : {S C : Type 0} → ClientGhosts C → SourceGhosts S → Sight S (ComparingValue S) C
replay_sight client reads = sight_of client reads (compared reads)

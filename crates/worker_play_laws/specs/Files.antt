-- The file objects of a graph over a play by several passes, and the acts by which no file comes or goes.
use Rattle.std.specs.Prelude.{ℕ, Bool, true, false}
use Rattle.outside_io.specs.declared.sink.Sink.{Ghosts as SinkGhosts}
use Rattle.outside_io.specs.declared.source.Source.{Ghosts as SourceGhosts}
use Rattle.il_machine.specs.Acts.{Act}
use Rattle.il_machine.specs.Acts as acts
use Rattle.il_machine.specs.declared.answer.Progress.{Progress}
use Rattle.audio_parts.specs.Objects.{ObjectShows, ObjectStays}
use Rattle.il_graph.specs.Shown.{Shown, file_of}
use Rattle.omx_types.specs.declared.fault.PartFault.{PartFault}
use Rattle.play_run.specs.Playing.{unfailed}

-- no component is made or freed, and no file comes
abbrev pub is_steady : Act → Bool
is_steady (acts.GetHandle name) = false
is_steady (acts.FreeHandle h) = false
is_steady (acts.Attach h file) = false
is_steady other = true

module _ {S K : Type 0} (reads : SourceGhosts S) (writes : SinkGhosts K) where
  -- each is the one that was there at first, read or written further, whether or not a step of its component failed
  abbrev pub HaveStayed : Shown S K Progress → Shown S K Progress → Type 0
  HaveStayed first now = (number : ℕ) → (failed : Bool) × ObjectStays reads.name reads.size reads.told reads.ends reads.offset reads.faults writes.name writes.faults (unfailed (file_of number first)) (record { failed = failed; file = file_of number now })

  -- that a step of the component failed so shows in its file
  abbrev pub ShowsSince : Shown S K Progress → Shown S K Progress → ℕ → PartFault → Type 0
  ShowsSince first now number fault = (failed : Bool) × ObjectShows reads.size reads.ends reads.offset reads.faults writes.faults fault (unfailed (file_of number first)) (record { failed = failed; file = file_of number now })

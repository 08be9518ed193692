-- A world without the faults of its steps: a component whose step failed stands as one whose step didn't, and through the files went what
-- is given.
use Rattle.std.specs.Prelude.{ℕ, Bool, true, false, not, ◌&&◌, if◌then◌else◌, List, [], ◌∷◌, map}
use Rattle.omx_types.specs.declared.command.Event.TheVariants.{Error}
use Rattle.omx_types.specs.declared.command.Note.{Note}
use Rattle.omx_types.specs.declared.command.Note.TheVariants.{Told}
use Rattle.omx_types.specs.declared.error.OmxError.TheVariants.{Hardware, StreamCorrupt}
use Rattle.il_machine.specs.Finishing.{gone_through}
use Rattle.il_machine.specs.Stepping.{WorkDone}
use Rattle.il_machine.specs.World.{Component, Given, PartState, Stream, World, is_stream_of}

-- the error that a step's fault is told as
abbrev pub is_fault : Note → Bool
is_fault (Told (Error Hardware)) = true
is_fault (Told (Error StreamCorrupt)) = true
is_fault _ = false

abbrev pub without_faults : List Note → List Note
without_faults [] = []
without_faults (note ∷ notes) = if is_fault note then without_faults notes else note ∷ without_faults notes

abbrev pub given_without : List Given → List Given
given_without [] = []
given_without (one ∷ given) = if is_fault one.note then given_without given else one ∷ given_without given

-- (a part that failed hasn't ended)
abbrev pub mended_part : PartState → PartState
mended_part part = record part { ended = part.ended && not part.failed; failed = false }

abbrev pub mended : Component → Component
mended component = record component { part = mended_part component.part; notes = without_faults component.notes }

abbrev pub mend : List Stream → World → World
mend streams world = record world { components = map mended world.components; given = given_without world.given; streams = streams }

-- that of one component went on by its step
abbrev pub gone_on : List Stream → ℕ → WorkDone → List Stream
gone_on streams number done = map (λ (stream : Stream). if is_stream_of number stream then gone_through done stream else stream) streams

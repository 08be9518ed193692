-- What the file of a component is to have taken.
use Rattle.std.specs.Prelude.{◌≡◌, ℕ, ◌+◌, ◌*◌, ◌%◌, List, [], Some, MatchOption}
use Rattle.omx_types.specs.declared.format.Format.{Format}
use Rattle.omx_types.specs.Formats.{frame_bytes_of}
use Rattle.part_forms.specs.Writing.{head_len}
use Rattle.il_machine.specs.Stepping.{IsFrontOf}
use Rattle.il_machine.specs.World.{World, stream_of}

-- what went into the file of the component of that number is a front of the text
abbrev pub HasWrittenFront : World → ℕ → List ℕ → Type 0
HasWrittenFront w number text = MatchOption (stream_of number w) ⊥ (λ s. IsFrontOf text s.written)

-- it was empty when it came
abbrev pub CameEmpty : World → ℕ → Type 0
CameEmpty w number = MatchOption (stream_of number w) ⊥ (λ s. s.known ≡ Some [])

-- the size of the file of so many frames
abbrev pub size_of : Format → ℕ → ℕ
size_of format frames = head_len format + frames * frame_bytes_of format + frames * frame_bytes_of format % 2

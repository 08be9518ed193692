-- Where the reading of a head stopped by the source's fault or its short end.
use Rattle.std.specs.Prelude.{◌≡◌, ℕ, ◌<◌, ◌≤◌, ◌⊎◌, false, List, Option, Result, Ok, Err}
use Rattle.outside_io.specs.Moves.{WhereTold}
use Rattle.outside_io.specs.Stops.{GaveNothing}
use Rattle.wav_form.specs.Chunks.{Chunk, AreChunks}
use Rattle.wav_form.specs.Passing.{IsPassedOver}
use Rattle.omx_types.specs.declared.fault.WavFault.{WavFault}
use Rattle.omx_types.specs.declared.fault.WavFault.TheVariants.{TooLarge, NotRiff, NoFormat, BadFormat, NoSamples, UnsupportedTag, Read, Short}

-- P of a result that is no stop
abbrev pub UnlessStopped : {A : Type 0} → Result A WavFault → (Result A WavFault → Type 0) → Type 0
UnlessStopped (Ok a) P = P (Ok a)
UnlessStopped (Err (TooLarge size)) P = P (Err (TooLarge size))
UnlessStopped (Err NotRiff) P = P (Err NotRiff)
UnlessStopped (Err NoFormat) P = P (Err NoFormat)
UnlessStopped (Err BadFormat) P = P (Err BadFormat)
UnlessStopped (Err NoSamples) P = P (Err NoSamples)
UnlessStopped (Err (UnsupportedTag tag)) P = P (Err (UnsupportedTag tag))
UnlessStopped (Err Read) P = Unit {0}
UnlessStopped (Err (Short at size)) P = Unit {0}

-- P of the offset of a short stop
abbrev pub IfShort : WavFault → (ℕ → ℕ → Type 0) → Type 0
IfShort (Short at size) P = P at size
IfShort _ P = Unit {0}

-- a source of this size gave nothing at an offset below it: where it tells from which offset on it gives nothing, there, or at
-- the next chunk's head where that offset lies in bytes that are passed over
pub record StoppedShort (size : ℕ) (told : Option (List ℕ)) (ends : Option ℕ) (at told_size : ℕ) : Type 0 where
  pub whole : told_size ≡ size
  pub below : at < size
  pub stopped : WhereTold ends (λ end. end ≤ at)
  pub where_it_ends : WhereTold ends (λ end. WhereTold told (λ bytes. (chunks : List Chunk) → AreChunks bytes 12 chunks →
      (at ≡ end) ⊎ IsPassedOver false chunks end at))

-- a read from `start` up to `stop` didn't end, by the source's fault or short end
abbrev pub IsReadStop : ℕ → Option ℕ → ℕ → ℕ → WavFault → Type 0
IsReadStop size ends start stop Read = Unit {0}
IsReadStop size ends start stop (Short at told_size) = GaveNothing size ends start at told_size × (at < stop)
IsReadStop size ends start stop _ = ⊥

-- a file that isn't RIFF, or whose first 12 bytes were not all read
abbrev pub IsRiffFault : ℕ → Option ℕ → WavFault → Type 0
IsRiffFault size ends NotRiff = Unit {0}
IsRiffFault size ends Read = Unit {0}
IsRiffFault size ends (Short at told_size) = GaveNothing size ends 0 at told_size × (at < 12)
IsRiffFault size ends _ = ⊥

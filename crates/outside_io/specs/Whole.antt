-- Why a file was not read or not written whole.
use Rattle.std.specs.Prelude.{◌≡◌, ◌⊎◌, ℕ, ◌<◌, List, [], ◌∷◌, length, Option, None, IsTrue}
use Rattle.outside_io.specs.Causes.{Rose}
use Rattle.outside_io.specs.Files.{Outside, IsFailedRead, IsFrontOf}
use Rattle.outside_io.specs.Moves.{WhereTold}
use Rattle.outside_io.specs.declared.media.Refused.{Refused}
use Rattle.outside_io.specs.declared.media.Refused.TheVariants.{Absent as NotMade, Failed as NotWritten, OutOfMemory as NoRoom}
use Rattle.outside_io.specs.declared.whole.Unread.{Unread}
use Rattle.outside_io.specs.declared.whole.Unread.TheVariants.{Absent, Failed, TooLong, Short, OutOfMemory}

-- a name holds what it held, or a front of these bytes
abbrev pub IsKeptOrFrontOf : Option (List ℕ) → Option (List ℕ) → List ℕ → Type 0
IsKeptOrFrontOf old new bytes = (new ≡ old) ⊎ IsFrontOf new bytes

-- a source of that name gave nothing at an offset below its size
pub record IsShort (name : List ℕ) (old : Outside) (at size : ℕ) : Type 0 where
  pub below : at < size
  pub stopped : WhereTold (old.ends name) (λ end. at ≡ end)
  pub whole : WhereTold (old.file name) (λ bytes. size ≡ length bytes)

-- why a file of at most `most` bytes was not read whole
abbrev pub HasReadReason : List ℕ → ℕ → Outside → Outside → Unread → Type 0
HasReadReason name most old new Absent = Rose old.absences new.absences × (old.file name ≡ None)
HasReadReason name most old new Failed = IsFailedRead (name ∷ []) old new
HasReadReason name most old new (TooLong size) = (most < size) × WhereTold (old.file name) (λ bytes. size ≡ length bytes)
HasReadReason name most old new (Short at size) = IsShort name old at size
HasReadReason name most old new OutOfMemory = Unit {0}

-- it was opened, and so it was there
abbrev pub WasOpened : Unread → Type 0
WasOpened (TooLong size) = Unit {0}
WasOpened (Short at size) = Unit {0}
WasOpened other = ⊥

-- why a file was not written whole: unless a write or the closing failed, each file is as before
abbrev pub HasWriteReason : List ℕ → Outside → Outside → Refused → Type 0
HasWriteReason name old new NotMade = Rose old.absences new.absences × IsTrue (old.may_refuse name) × (new.file ≡ old.file)
HasWriteReason name old new NotWritten = Rose old.write_faults new.write_faults
HasWriteReason name old new NoRoom = new.file ≡ old.file

-- why the bytes of a source that stood at offset 0 were not read
abbrev pub HasRestReason : Option (List ℕ) → Option ℕ → ℕ → ℕ → ℕ → Unread → Type 0
HasRestReason told ends most before now Absent = ⊥
HasRestReason told ends most before now Failed = Rose before now
HasRestReason told ends most before now (TooLong size) = (most < size) × WhereTold told (λ bytes. size ≡ length bytes)
HasRestReason told ends most before now (Short at size) =
    (at < size) × WhereTold ends (λ end. at ≡ end) × WhereTold told (λ bytes. size ≡ length bytes)
HasRestReason told ends most before now OutOfMemory = Unit {0}

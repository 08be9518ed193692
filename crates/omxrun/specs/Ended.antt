-- With which number the program ends, and what it did for its words.
use Rattle.std.specs.Prelude.{◌≡◌, ◌⊎◌, ℕ, List, Option, Err}
use Rattle.outside_io.specs.Files.{Outside}
use Rattle.omx_types.specs.Numbers.{status_number}
use Rattle.omx_types.specs.declared.fault.Fault.{Fault}
use Rattle.omx_types.specs.declared.fault.Fault.TheVariants.{OutOfMemory, Usage}
use Rattle.omx_types.specs.declared.fault.Status.{Status}
use Rattle.omxrun.specs.Commands.{HasRun}
use Rattle.omxrun.specs.Reports.{IsReported}
use Rattle.omxrun.specs.Words.{Asked, AreNoForm, AreWordsOf}

-- no file was asked for, and the fault was told
abbrev pub IsRefused : Fault → Outside → Outside → Option (List ℕ) → Option (List ℕ) → ℕ → ℕ → Status → Type 0
IsRefused fault old new told told_new before now status = (new ≡ old) × IsReported (Err fault) told told_new before now status

-- the command that the words ask for was run, or they are of no form and were refused
pub record IsAnswered (words : List (List ℕ)) (old new : Outside) (told told_new : Option (List ℕ)) (before now : ℕ) (status : Status) : Type 0 where
  pub usage : AreNoForm words → IsRefused Usage old new told told_new before now status
  pub run : (asked : Asked) → AreWordsOf words asked → HasRun asked old new told told_new before now status

-- the number is that of the words' answer, or of want of memory for the words
abbrev pub HasEnded : List (List ℕ) → Outside → Outside → Option (List ℕ) → Option (List ℕ) → ℕ → ℕ → ℕ → Type 0
HasEnded words old new told told_new before now number =
    (status : Status) × (number ≡ status_number status)
    × (IsAnswered words old new told told_new before now status ⊎ IsRefused OutOfMemory old new told told_new before now status)

-- the number is that of words of no form, or of want of memory
abbrev pub HasEndedUnread : Outside → Outside → Option (List ℕ) → Option (List ℕ) → ℕ → ℕ → ℕ → Type 0
HasEndedUnread old new told told_new before now number =
    (status : Status) × (number ≡ status_number status)
    × (IsRefused Usage old new told told_new before now status ⊎ IsRefused OutOfMemory old new told told_new before now status)

-- The forms of the program's words.
use Rattle.std.specs.Prelude.{◌≡◌, ◌≢◌, ℕ, ◌<◌, ◌≤◌, ◌^◌, List, [], ◌∷◌, length, codes}
use Rattle.std.specs.Fmt.{decimal}
use Rattle.omxrun.specs.Names.{IsName}
use Rattle.omxrun.specs.declared.words.Command.{Command}
use Rattle.omxrun.specs.declared.words.Command.TheVariants.{Trace, Play, Make, Clock, Pack, Unpack, Audit}

-- what the program is asked to do
pub data Asked : Type 0 where
  to_trace : (script : List ℕ) → Asked
  to_play : (script : List ℕ) (workers : ℕ) (log : List ℕ) → Asked
  to_make : (seed frames : ℕ) (folder : List ℕ) → Asked
  to_clock : (script : List ℕ) → Asked
  to_pack : (input output : List ℕ) → Asked
  to_unpack : (input output : List ℕ) → Asked
  to_audit : (script log : List ℕ) → Asked

-- the names and the number of workers are those that a play may have
pub record IsPlay (script : List ℕ) (workers : ℕ) (log : List ℕ) : Type 0 where
  pub named_script : IsName script
  pub few_workers : workers ≤ 8
  pub named_log : IsName log
  pub apart : log ≢ script

-- the numbers and the folder are those that files may be made of
pub record IsMake (seed frames : ℕ) (folder : List ℕ) : Type 0 where
  pub seed_fits : seed < 2 ^ 64
  pub few_frames : frames ≤ 33000000
  pub named_folder : IsName folder
  pub short_folder : length folder ≤ 1016

-- two different names
pub record ArePair (input output : List ℕ) : Type 0 where
  pub named_input : IsName input
  pub named_output : IsName output
  pub apart : output ≢ input

-- two names, which may be one
pub record AreNames (script log : List ℕ) : Type 0 where
  pub named_script : IsName script
  pub named_log : IsName log

-- its names and numbers are within their limits
abbrev pub IsAllowed : Asked → Type 0
IsAllowed (to_trace script) = IsName script
IsAllowed (to_play script workers log) = IsPlay script workers log
IsAllowed (to_make seed frames folder) = IsMake seed frames folder
IsAllowed (to_clock script) = IsName script
IsAllowed (to_pack input output) = ArePair input output
IsAllowed (to_unpack input output) = ArePair input output
IsAllowed (to_audit script log) = AreNames script log

-- the words that ask for it; a number is written in decimal digits
abbrev pub words_for : Asked → List (List ℕ)
words_for (to_trace script) = codes "trace" ∷ script ∷ []
words_for (to_play script workers log) = codes "play" ∷ script ∷ decimal workers ∷ log ∷ []
words_for (to_make seed frames folder) = codes "make" ∷ decimal seed ∷ decimal frames ∷ folder ∷ []
words_for (to_clock script) = codes "clock" ∷ script ∷ []
words_for (to_pack input output) = codes "pack" ∷ input ∷ output ∷ []
words_for (to_unpack input output) = codes "unpack" ∷ input ∷ output ∷ []
words_for (to_audit script log) = codes "audit" ∷ script ∷ log ∷ []

abbrev pub AreWordsOf : List (List ℕ) → Asked → Type 0
AreWordsOf words asked = (words ≡ words_for asked) × IsAllowed asked

-- the words are none of the forms
abbrev pub AreNoForm : List (List ℕ) → Type 0
AreNoForm words = (asked : Asked) → AreWordsOf words asked → ⊥

-- what a command asks
abbrev pub asked_by : Command → Asked
asked_by (Trace script) = to_trace script.now
asked_by (Play script workers log) = to_play script.now workers log.now
asked_by (Make seed frames folder) = to_make seed frames folder.now
asked_by (Clock script) = to_clock script.now
asked_by (Pack input output) = to_pack input.now output.now
asked_by (Unpack input output) = to_unpack input.now output.now
asked_by (Audit script log) = to_audit script.now log.now

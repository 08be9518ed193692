-- Where the lines of a text lead.
use Rattle.std.specs.Prelude.{◌≡◌, ℕ, ◌+◌, Bool, true, false, IsTrue, List, [], ◌∷◌, ◌++◌, codes, length}
use Rattle.std.specs.Str.{bytes_eq}
use Rattle.il_machine.specs.World.{World}
use Rattle.compared_files.specs.Comparing.{ComparingValue}
use Rattle.graph_acts.specs.Plain.{Sight}
use Rattle.audit_forms.specs.Audited.{AtEnd, Audits, Case, Moment, No, Verdict}
use Rattle.audit_forms.specs.Passing.{PassesLine}
use Rattle.run_audit.specs.declared.replay.Replay.{Replay}
use Rattle.run_audit.specs.declared.walking.Walked.{Walked}
use Rattle.run_audit.specs.declared.walking.Walked.TheVariants.{Ended, Failed, Stopped}
use Rattle.run_audit.specs.Files.{FilesGoOn, ShowsFault}
use Rattle.run_audit.specs.Leading.{IsBroken, IsSinceMoment, StandsIn}
use Rattle.run_audit.specs.Replaying.{IsReplay}

-- Each of the pieces is a line that passes, the first by that number. They lead to the last moment.
abbrev pub PassAll : Case → ℕ → Moment → List (List ℕ) → Moment → Type 0
PassAll x number at [] last = last ≡ at
PassAll x number at (piece ∷ pieces) last =
    (bytes_eq piece (codes "end") ≡ false) × ((next : Moment) × PassesLine x number at piece next × PassAll x (number + 1) next pieces last)

-- the pieces before the line of that number pass, and lead to this moment; these are left
pub record IsCome (x : Case) (number : ℕ) (at : Moment) (pieces : List (List ℕ)) (line : ℕ) (left : List (List ℕ)) (now : Moment) : Type 0 where
  pub passed : List (List ℕ)
  pub cut : pieces ≡ passed ++ left
  pub counted : line ≡ number + length passed
  pub pass : PassAll x number at passed now

module _ {S C : Type 0} (see : Sight S (ComparingValue S) C) where
  -- it stands for a world since then
  abbrev pub IsLeft : Bool → Replay S C → Case → Moment → Type 0
  IsLeft tells new x now = (v : World) × StandsIn see tells new x v × IsSinceMoment new.order x now v

  -- The text has this verdict, or that of its `end`, which is its last line, or the step of a work failed at the line.
  abbrev pub IsWalked : Bool → Replay S C → Case → ℕ → Moment → List (List ℕ) → Walked → Type 0
  IsWalked tells new x number at pieces (Ended line) = (now : Moment) × (piece : List ℕ) × IsCome x number at pieces line (piece ∷ []) now × IsReplay see tells new x now
      × ((verdict : Verdict) → AtEnd x line now [] verdict → Audits x number at pieces verdict)
  IsWalked tells new x number at pieces (Stopped line why) = (IsTrue tells → Audits x number at pieces (No line why))
      × ((now : Moment) × (left : List (List ℕ)) × IsCome x number at pieces line left now × IsLeft tells new x now)
  IsWalked tells new x number at pieces (Failed line component fault) = (now : Moment) × (piece : List ℕ) × (left : List (List ℕ))
      × IsCome x number at pieces line (piece ∷ left) now × IsBroken x line now piece component × IsLeft tells new x now

  -- Each file is the one that it was. Where a step failed, it shows in its component's file since the line before.
  abbrev pub FilesWalked : Walked → Replay S C → Replay S C → Type 0
  FilesWalked (Failed line component fault) old new = (before : Replay S C) × FilesGoOn see false old before × FilesGoOn see true before new × ShowsFault see fault component before new
  FilesWalked (Ended line) old new = FilesGoOn see false old new
  FilesWalked (Stopped line why) old new = FilesGoOn see false old new

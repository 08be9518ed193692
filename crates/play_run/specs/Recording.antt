-- What the log of a play tells of its run so far.
use Rattle.std.specs.Prelude.{◌≡◌, ℕ, false, List, [], ◌∷◌, ◌++◌, All, slice_get, Some}
use Rattle.omx_types.specs.declared.format.Format.{Format}
use Rattle.omx_types.specs.declared.handle.Handle.{Handle}
use Rattle.il_machine.specs.World.{World}
use Rattle.il_machine.specs.Acts.{Act, Reply}
use Rattle.il_machine.specs.Due.{IsClosed}
use Rattle.il_machine.specs.Run.{Run}
use Rattle.history_laws.specs.Given.{is_freed_by}
use Rattle.act_text.specs.declared.text.ActText.{ActText}
use Rattle.script_lang.specs.declared.play_line.PartLine.{PartLine}
use Rattle.play_forms.specs.Plans.{PlanValue}
use Rattle.play_plan_laws.specs.Assemblies.{PlayFiles}
use Rattle.play_log.specs.Entries.{Entry, is_unprinted, steps_of}
use Rattle.play_log.specs.Kept.{LogValue}
use Rattle.play_log.specs.Logged.{Keeps}
use Rattle.play_log.specs.Naming.{IsUnbroken}
use Rattle.play_log.specs.Saying.{Says}
use Rattle.play_log.specs.Scenes.{Scene, scene_of}
use Rattle.play_log.specs.Said.{SaysOf, SaysOfBoth, SaysPort, line_by}
use Rattle.play_result_laws.specs.Worlds.{IsOpening}

-- a play of the plan with these files begins in the world, where nothing is due
pub record IsBeginning (plan : PlanValue) (files : PlayFiles) (opening : World) : Type 0 where
  pub opens : IsOpening plan files opening
  pub closed : IsClosed opening

-- the thread that plays made it
abbrev pub IsByPlayer : Entry → Type 0
IsByPlayer entry = entry.pass ≡ 0

-- it is no step that failed
abbrev pub HasNotFailed : Entry → Type 0
HasNotFailed entry = IsUnbroken entry.act

-- it frees no component
abbrev pub FreesNone : Entry → Type 0
FreesNone entry = (number : ℕ) → is_freed_by number entry.act entry.reply ≡ false

-- it has a line
abbrev pub IsPrinted : Entry → Type 0
IsPrinted entry = is_unprinted entry.reply ≡ false

-- Entries of the thread that plays lead from the opening to the world, and the log has their lines. Asks holds of what was asked by them.
pub record IsRecorded (parts : List PartLine) (opening w : World) (log : LogValue) (Asks : List (Act × Reply) → Type 0) : Type 0 where
  pub history : List Entry
  pub runs : Run opening (steps_of history) w
  pub alone : All IsByPlayer history
  pub whole : All HasNotFailed history
  pub stay : All FreesNone history
  pub printed : All IsPrinted history
  pub asks : Asks (steps_of history)
  pub keeps : Keeps (scene_of parts opening) history log

-- ---- one line more

-- the component at the place has the name
pub record IsNameAt (parts : List PartLine) (place : ℕ) (name : List ℕ) : Type 0 where
  pub part : PartLine
  pub line : slice_get parts place ≡ Some part
  pub named : part.name ≡ name

-- the log was told the text: what it kept, it keeps with each entry of which that is said
abbrev pub IsTold : LogValue → ActText → LogValue → Type 0
IsTold old said new = (s : Scene) (history : List Entry) (entry : Entry) → Keeps s history old
    → Says s (line_by said) entry → is_unprinted entry.reply ≡ false → Keeps s (history ++ entry ∷ []) new

-- the log was told this act of the component at the place
pub record IsToldOf (parts : List PartLine) (place : ℕ) (old : LogValue) (act : Handle → Act) (reply : Reply) (new : LogValue) : Type 0 where
  pub name : List ℕ
  pub said : ActText
  pub named : IsNameAt parts place name
  pub says : SaysOf name said act reply
  pub told : IsTold old said new

-- it was told this act of the components at two places
pub record IsToldOfBoth (parts : List PartLine) (place other : ℕ) (old : LogValue) (act : Handle → Handle → Act) (reply : Reply) (new : LogValue) : Type 0 where
  pub first : List ℕ
  pub second : List ℕ
  pub said : ActText
  pub named : IsNameAt parts place first
  pub beside : IsNameAt parts other second
  pub says : SaysOfBoth first second said act reply
  pub told : IsTold old said new

-- it was told that the definition of the port of the component at the place was set
pub record IsToldOfPort (parts : List PartLine) (place index : ℕ) (old : LogValue) (format : Format) (count size : ℕ) (new : LogValue) : Type 0 where
  pub name : List ℕ
  pub said : ActText
  pub named : IsNameAt parts place name
  pub says : SaysPort name index format count size said
  pub told : IsTold old said new

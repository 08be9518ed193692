-- What comes of the act of a line, and of a line.
use Rattle.std.specs.Prelude.{◌≡◌, ◌⊎◌, ℕ, Bool, true, false, IsTrue, List}
use Rattle.omx_types.specs.declared.fault.AuditWhy.TheVariants.{NotOut, OtherReply, OtherFile}
use Rattle.omx_types.specs.declared.handle.Handle.{Handle}
use Rattle.il_machine.specs.Acts.{Act, Reply}
use Rattle.il_machine.specs.Run.{Meets, Step}
use Rattle.il_machine.specs.World.{World}
use Rattle.act_text.specs.declared.act.TextAct.{TextAct}
use Rattle.act_text.specs.declared.act.TextAct.TheVariants as lines
use Rattle.act_text.specs.declared.text.ActText.{ActText}
use Rattle.script_lang.specs.declared.play_line.PartLine.{PartLine}
use Rattle.play_log.specs.Lines.{LogLine}
use Rattle.play_log.specs.Saying.{SaysAct}
use Rattle.play_log.specs.Scenes.{IsPlayer}
use Rattle.compared_files.specs.Comparing.{ComparingValue}
use Rattle.graph_acts.specs.Plain.{Sight}
use Rattle.audit_acts.specs.Asking.{IsSaid}
use Rattle.audit_lines.specs.Lines.{IsOfPlay}
use Rattle.audit_order.specs.Steps.{OrderValue}
use Rattle.audit_forms.specs.Audited.{Answers, Case, IsNext, IsThere, IsWrittenIn, Moment}
use Rattle.audit_forms.specs.Passing.{PassesLine, StopsAt}
use Rattle.run_audit.specs.declared.replay.Passed.{Passed}
use Rattle.run_audit.specs.declared.replay.Passed.TheVariants.{On, Stop, Failed}
use Rattle.run_audit.specs.declared.replay.Replay.{Replay}
use Rattle.run_audit.specs.Files.{FilesGoOn, ShowsFault}
use Rattle.run_audit.specs.Replaying.{AreFronts, IsReplay, IsStanding}

-- an act of a line that takes nothing from the replay and gives it nothing
abbrev pub IsQuietLine : TextAct → Type 0
IsQuietLine (lines.Claim component) = ⊥
IsQuietLine (lines.Take component) = ⊥
IsQuietLine act = IsSaid act

-- one that a line of a play may say
abbrev pub MayCome : TextAct → Type 0
MayCome (lines.Claim component) = Unit {0}
MayCome (lines.Take component) = Unit {0}
MayCome (lines.Finish component) = Unit {0}
MayCome (lines.End component) = Unit {0}
MayCome act = IsSaid act

-- a work or a client object goes back
abbrev pub IsReturn : TextAct → Type 0
IsReturn (lines.Finish component) = Unit {0}
IsReturn (lines.End component) = Unit {0}
IsReturn other = ⊥

-- ---- where the world comes to

-- the act that a line says is made in the world, whatever it is answered
pub record IsMade (x : Case) (said : TextAct) (w v : World) : Type 0 where
  pub act : Act
  pub reply : Reply
  pub says : SaysAct x.scene said act
  pub meets : Meets w act
  pub step : Step w act reply v

-- there is no such act, since the script hasn't the component
abbrev pub IsNowhere : Case → TextAct → Type 0
IsNowhere x said = (act : Act) → SaysAct x.scene said act → ⊥

-- The act was made; or nothing was asked, since there is no such act, or what would go back isn't held.
abbrev pub IsSince : Case → TextAct → World → World → Type 0
IsSince x said w v = IsMade x said w v ⊎ ((v ≡ w) × (IsNowhere x said ⊎ IsReturn said))

-- An act may come next, by which the order is this one now, and it was made, or there is no such act. Or nothing was asked, and the order is
-- as it was.
abbrev pub IsSinceMoment : OrderValue → Case → Moment → World → Type 0
IsSinceMoment order x at v =
    ((v ≡ at.world) × (order ≡ at.order))
    ⊎ ((said : TextAct) × IsNext x at said order × (IsMade x said at.world v ⊎ ((v ≡ at.world) × IsNowhere x said)))

-- ---- a step that failed

abbrev pub has_failed : Passed → Bool
has_failed (Failed component fault) = true
has_failed On = false
has_failed (Stop why) = false

-- the line brings the work of the component at the place back
abbrev pub BringsBack : Case → TextAct → ℕ → Type 0
BringsBack x said place = (name : List ℕ) × (part : PartLine) × (h : Handle) × (said ≡ lines.Finish name) × IsPlayer x.scene place name part h

-- the piece is a line that passes the tests before its act, and brings the work of the component back
pub record IsBroken (x : Case) (number : ℕ) (at : Moment) (piece : List ℕ) (component : ℕ) : Type 0 where
  pub line : LogLine
  pub of_play : IsOfPlay number piece line
  pub order : OrderValue
  pub allowed : IsNext x at (line.said).act order
  pub there : IsThere x at (line.said).act
  pub brings : BringsBack x (line.said).act component

module _ {S C : Type 0} (see : Sight S (ComparingValue S) C) where
  abbrev pub StandsIn : Bool → Replay S C → Case → World → Type 0
  StandsIn tells r x w = IsStanding see tells r.served.graph r.plan r.handles.items r.works.items r.clients.items x w

  -- a fault shows in its component's file
  abbrev pub ShowsIts : Passed → Replay S C → Replay S C → Type 0
  ShowsIts (Failed component fault) old new = ShowsFault see fault component old new
  ShowsIts On old new = Unit {0}
  ShowsIts (Stop why) old new = Unit {0}

  -- the tests of a line, from that of what is out on: the first that the line doesn't pass, or the world to which it leads
  abbrev pub IsPassed : Bool → Replay S C → Case → Moment → LogLine → Passed → Type 0
  IsPassed tells new x at line On = IsThere x at (line.said).act × ((v : World) × Answers x at line v × StandsIn tells new x v × AreFronts x.sinks v)
  IsPassed tells new x at line (Stop NotOut) = IsThere x at (line.said).act → ⊥
  IsPassed tells new x at line (Stop OtherReply) = IsThere x at (line.said).act × ((v : World) → Answers x at line v → ⊥)
  IsPassed tells new x at line (Stop OtherFile) = IsThere x at (line.said).act × ((v : World) × Answers x at line v × (IsTrue tells → IsWrittenIn x v → ⊥))
  IsPassed tells new x at line (Stop other) = ⊥
  IsPassed tells new x at line (Failed component fault) = IsThere x at (line.said).act × BringsBack x (line.said).act component

  -- The act of a line that says this is made. Whatever comes of it, the graph still stands for a world, what is out is held, and each file is
  -- the one that it was.
  pub record Leads (old new : Replay S C) (said : ActText) (passed : Passed) : Type 0 where
    pub plan : new.plan ≡ old.plan
    pub handles : new.handles ≡ old.handles
    pub told : new.told ≡ old.told
    pub order : new.order ≡ old.order
    pub stands : (tells : Bool) (x : Case) (w : World) → StandsIn tells old x w → (v : World) × StandsIn tells new x v × IsSince x said.act w v
    pub files : (tells : Bool) (x : Case) (w : World) → StandsIn tells old x w → FilesGoOn see (has_failed passed) old new
    pub shows : ShowsIts passed old new
    pub line : (tells : Bool) (x : Case) (at : Moment) (line : LogLine) → line.said ≡ said → StandsIn tells old x at.world → AreFronts x.sinks at.world → IsPassed tells new x at line passed

  -- ---- a whole line

  -- Where the media tells, it passes or stops at the test. What it passes it passes anyway, but what a sink's file holds isn't known then.
  abbrev pub IsLinePassed : Bool → Replay S C → Case → ℕ → Moment → List ℕ → Passed → Type 0
  IsLinePassed tells new x number at piece On = (next : Moment) × PassesLine x number at piece next × IsReplay see tells new x next
  IsLinePassed tells new x number at piece (Stop why) = IsTrue tells → StopsAt x number at piece why
  IsLinePassed tells new x number at piece (Failed component fault) = IsBroken x number at piece component

-- What an audit of a log answers: line by line which test the first faulty line doesn't pass, or how many lines there are.
use Rattle.std.specs.Prelude.{◌≡◌, ◌⊎◌, ℕ, ◌+◌, ◌-◌, Bool, true, false, All, List, [], ◌∷◌, codes, length, take, Option, Some, None, MatchOption}
use Rattle.std.specs.Str.{bytes_eq}
use Rattle.omx_types.specs.declared.fault.AuditWhy.{AuditWhy}
use Rattle.omx_types.specs.declared.fault.AuditWhy.TheVariants.{BadLine, OtherAct, NotOut, OtherReply, OtherFile, NotEnded}
use Rattle.omx_types.specs.declared.state.State.TheVariants as states
use Rattle.il_machine.specs.declared.answer.Progress.{Progress}
use Rattle.il_machine.specs.Answers.{component_named}
use Rattle.il_machine.specs.Ports.{IsCalm}
use Rattle.il_machine.specs.Run.{Meets, Step}
use Rattle.il_machine.specs.World.{Component, World, stream_of}
use Rattle.act_text.specs.declared.act.TextAct.{TextAct}
use Rattle.act_text.specs.declared.act.TextAct.TheVariants as lines
use Rattle.play_forms.specs.Plans.{PlanValue}
use Rattle.play_log.specs.Entries.{Entry}
use Rattle.play_log.specs.Lines.{LogLine}
use Rattle.play_log.specs.Naming.{IsUnbroken}
use Rattle.play_log.specs.Saying.{Of, SaysAct, SaysReply}
use Rattle.play_log.specs.Scenes.{Scene}
use Rattle.audit_lines.specs.Lines.{IsOfPlay}
use Rattle.audit_order.specs.Asked.{is_asked}
use Rattle.audit_order.specs.Steps.{Admits, IsComplete, OrderValue}
use Rattle.audit_forms.specs.Told.{told_more}

pub data Verdict : Type 0 where
  Yes : (lines : ℕ) → Verdict
  No : (line : ℕ) (why : AuditWhy) → Verdict

-- what a log is checked against: its plan, the handles of the components, and the told files of the sinks by their components' places
pub record Case : Type 0 where
  pub plan : PlanValue
  pub scene : Scene
  pub sinks : ℕ → Option (List ℕ)

-- where the lines so far have led: the world, what was told, and how much was asked
pub record Moment : Type 0 where
  pub world : World
  pub told : List Progress
  pub order : OrderValue

-- ---- one line

-- a send, a drop, a setting or a tunnel is the next one
abbrev pub ComesNext : PlanValue → List Progress → OrderValue → TextAct → OrderValue → Type 0
ComesNext plan told order act next = ((is_asked act ≡ false) × (next ≡ order)) ⊎ ((is_asked act ≡ true) × Admits plan told order act next)

abbrev pub IsNext : Case → Moment → TextAct → OrderValue → Type 0
IsNext x at act next = ComesNext x.plan at.told at.order act next

-- the component of the name has its work, or its client object, out
abbrev pub HasOut : Case → Moment → List ℕ → (Component → Type 0) → Type 0
HasOut x at name Out = Of x.scene name (λ part h. MatchOption (component_named h (at.world).components) ⊥ Out)

abbrev pub IsThere : Case → Moment → TextAct → Type 0
IsThere x at (lines.Finish component) = HasOut x at component (λ c. MatchOption c.work ⊥ (λ work. Unit {0}))
IsThere x at (lines.End component) = HasOut x at component (λ c. c.client_out ≡ true)
IsThere x at act = Unit {0}

-- the act that the line says is answered as the line says, and leads to the world
pub record Answers (x : Case) (at : Moment) (line : LogLine) (v : World) : Type 0 where
  pub entry : Entry
  pub act : SaysAct x.scene (line.said).act entry.act
  pub meets : Meets (at.world) entry.act
  pub unbroken : IsUnbroken entry.act
  pub step : Step (at.world) entry.act entry.reply v
  pub reply : SaysReply x.scene (line.said).reply entry.act entry.reply

-- what a sink has written is a front of its file
abbrev pub IsWrittenIn : Case → World → Type 0
IsWrittenIn x v = (place : ℕ) (text : List ℕ) → x.sinks place ≡ Some text → MatchOption (stream_of place v) ⊥ (λ s. take (length s.written) text ≡ s.written)

abbrev pub after : Moment → LogLine → Case → OrderValue → World → Moment
after at line x next v = record { world = v; told = told_more line.said (x.plan).parts at.told; order = next }

-- The tests of a line, one after the other: the first that it doesn't pass is told, or it goes on.
abbrev pub AtFile : Case → ℕ → World → Verdict → Type 0 → Type 0
AtFile x number v verdict GoesOn = ((IsWrittenIn x v → ⊥) × (verdict ≡ No number OtherFile)) ⊎ (IsWrittenIn x v × GoesOn)

abbrev pub AtReply : Case → ℕ → Moment → LogLine → Verdict → (World → Type 0) → Type 0
AtReply x number at line verdict GoesOn =
    (((v : World) → Answers x at line v → ⊥) × (verdict ≡ No number OtherReply))
    ⊎ ((v : World) × Answers x at line v × AtFile x number v verdict (GoesOn v))

abbrev pub AtPlace : Case → ℕ → Moment → LogLine → Verdict → (World → Type 0) → Type 0
AtPlace x number at line verdict GoesOn =
    ((IsThere x at (line.said).act → ⊥) × (verdict ≡ No number NotOut))
    ⊎ (IsThere x at (line.said).act × AtReply x number at line verdict GoesOn)

abbrev pub AtLine : Case → ℕ → Moment → LogLine → Verdict → (Moment → Type 0) → Type 0
AtLine x number at line verdict GoesOn =
    (((next : OrderValue) → IsNext x at (line.said).act next → ⊥) × (verdict ≡ No number OtherAct))
    ⊎ ((next : OrderValue) × IsNext x at (line.said).act next × AtPlace x number at line verdict (λ v. GoesOn (after at line x next v)))

-- ---- the end

pub record IsResting (c : Component) : Type 0 where
  pub state : c.state ≡ states.Loaded
  pub calm : IsCalm c
  pub told : c.notes ≡ []
  pub client : c.client_out ≡ false
  pub work : c.work ≡ None

-- all rests, all was asked, and each sink has written its whole file
pub record IsEnd (x : Case) (at : Moment) : Type 0 where
  pub resting : All IsResting (at.world).components
  pub unmade : (at.world).headers ≡ []
  pub complete : IsComplete x.plan at.order
  pub sinks : (place : ℕ) (text : List ℕ) → x.sinks place ≡ Some text → MatchOption (stream_of place at.world) ⊥ (λ s. s.written ≡ text)

-- `end` is the last line
abbrev pub AtEnd : Case → ℕ → Moment → List (List ℕ) → Verdict → Type 0
AtEnd x number at [] verdict = (IsEnd x at × (verdict ≡ Yes (number - 1))) ⊎ ((IsEnd x at → ⊥) × (verdict ≡ No number NotEnded))
AtEnd x number at (piece ∷ pieces) verdict = verdict ≡ No number BadLine

-- ---- the text

abbrev pub AtPiece : Bool → Case → ℕ → Moment → List ℕ → List (List ℕ) → Verdict → (Moment → Type 0) → Type 0
AtPiece true x number at piece pieces verdict GoesOn = AtEnd x number at pieces verdict
AtPiece false x number at piece pieces verdict GoesOn =
    (((line : LogLine) → IsOfPlay number piece line → ⊥) × (verdict ≡ No number BadLine))
    ⊎ ((line : LogLine) × IsOfPlay number piece line × AtLine x number at line verdict GoesOn)

-- From the moment on the lines of the text, from that number on, have this verdict. A text without `end` isn't ended.
abbrev pub Audits : Case → ℕ → Moment → List (List ℕ) → Verdict → Type 0
Audits x number at [] verdict = verdict ≡ No number NotEnded
Audits x number at (piece ∷ pieces) verdict =
    AtPiece (bytes_eq piece (codes "end")) x number at piece pieces verdict (λ next. Audits x (number + 1) next pieces verdict)

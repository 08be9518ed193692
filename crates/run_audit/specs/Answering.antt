-- What a graph's reply to the act of a line says of the line.
use Rattle.std.specs.Prelude.{◌≡◌, List}
use Rattle.omx_types.specs.declared.handle.Handle.{Handle}
use Rattle.il_machine.specs.Whole.{Stands}
use Rattle.il_machine.specs.World.{World}
use Rattle.act_text.specs.declared.text.ActText.{ActText}
use Rattle.script_lang.specs.declared.play_line.PartLine.{PartLine}
use Rattle.play_log.specs.Lines.{LogLine}
use Rattle.play_log.specs.Saying.{SaysAct}
use Rattle.play_log.specs.Scenes.{HaveOwnNames}
use Rattle.il_graph.specs.Shown.{Shown, kept}
use Rattle.graph_acts.specs.declared.act.Act.{Act}
use Rattle.graph_acts.specs.declared.act.Reply.{Reply}
use Rattle.graph_acts.specs.Moving.{Moved}
use Rattle.graph_acts.specs.Plain.{Sight, Unsaid, plain_act}
use Rattle.audit_forms.specs.Audited.{Answers, Case, Moment}
use Rattle.audit_acts.specs.Asking.{IsPlain, scene_in}
use Rattle.run_audit.specs.declared.answering.Answered.{Answered}
use Rattle.run_audit.specs.declared.answering.Answered.TheVariants.{Same, Other, Unknown}

module _ {S K C : Type 0} where
  -- the graph stands for the moment, whose scene has these components
  pub record IsMomentOf (see : Sight S K C) (g : Shown S K C) (parts : List PartLine) (handles : List Handle) (x : Case) (at : Moment) : Type 0 where
    pub scene : x.scene ≡ scene_in parts handles
    pub stands : Stands (kept see.progress g) at.world

  -- From each moment that the one stands for, a line that says this is answered so, and leads to a world that the other stands for.
  abbrev pub IsAnswered : Sight S K C → Shown S K C → Shown S K C → List PartLine → List Handle → ActText → Type 0
  IsAnswered see old new parts handles said = (x : Case) (at : Moment) (line : LogLine) → line.said ≡ said → IsMomentOf see old parts handles x at
      → (v : World) × Stands (kept see.progress new) v × Answers x at line v

  -- from none is it
  abbrev pub IsUnanswered : Sight S K C → Shown S K C → List PartLine → List Handle → ActText → Type 0
  IsUnanswered see old parts handles said = (x : Case) (at : Moment) (line : LogLine) → line.said ≡ said → IsMomentOf see old parts handles x at
      → HaveOwnNames parts → (v : World) → Answers x at line v → ⊥

  -- the graph's reply to the act that the line says
  pub record IsReplyOf (see : Sight S K C) (old new : Shown S K C) (parts : List PartLine) (handles : List Handle) (said : ActText) (reply : Reply S K C) : Type 0 where
    pub act : Act S K C
    pub plain : IsPlain act
    pub says : (u : Unsaid) → SaysAct (scene_in parts handles) said.act (plain_act see u act)
    pub moved : Moved see act reply old new

  -- ---- by the answer

  abbrev pub OnReply : Answered S K C → (Reply S K C → Type 0) → Type 0
  OnReply (Same reply) P = P reply
  OnReply (Other reply) P = P reply
  OnReply Unknown P = Unit {0}

  abbrev pub OnSame : Answered S K C → Type 0 → Type 0
  OnSame (Same reply) P = P
  OnSame _ P = Unit {0}

  abbrev pub UnlessSame : Answered S K C → Type 0 → Type 0
  UnlessSame (Same reply) P = Unit {0}
  UnlessSame _ P = P

  abbrev pub OnUnknown : Answered S K C → Type 0 → Type 0
  OnUnknown Unknown P = P
  OnUnknown _ P = Unit {0}

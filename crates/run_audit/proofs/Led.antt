-- What comes of a line whose act takes nothing of the replay's.
use Rattle.std.proofs.Common.{◌≡◌, inl, inr, ℕ, false, List, Option, slice_get, refl, sym, ap, subst, Bool}
use Rattle.std.specs.Prelude.{Vec}
use Rattle.std.specs.declared.alloc.Global.{Global}
use Rattle.omx_types.specs.declared.fault.AuditWhy.TheVariants.{NotOut, OtherReply}
use Rattle.omx_types.specs.declared.handle.Handle.{Handle}
use Rattle.il_machine.specs.Acts.{Act}
use Rattle.il_machine.specs.World.{World}
use Rattle.act_text.specs.declared.act.TextAct.{TextAct}
use Rattle.act_text.specs.declared.text.ActText.{ActText}
use Rattle.script_lang.specs.declared.play_line.PartLine.{PartLine}
use Rattle.play_log.specs.Lines.{LogLine}
use Rattle.play_log.specs.Saying.{Of, SaysAct}
use Rattle.play_log.specs.Scenes.{Scene}
use Rattle.audio_parts.specs.Shown.{ShownPart}
use Rattle.graph_core.specs.Clients.{IsOut}
use Rattle.il_flow.specs.Works.{WorkOf}
use Rattle.il_graph.specs.Shown as graphs
use Rattle.compared_files.specs.Comparing.{ComparingValue}
use Rattle.graph_acts.specs.declared.act.Reply.{Reply}
use Rattle.graph_acts.specs.declared.served.Served.{Served}
use Rattle.graph_acts.specs.Holding.{IsGone}
use Rattle.graph_acts.specs.Plain.{Sight}
use Rattle.audit_acts.specs.Asking.{IsUnknown, scene_in}
use Rattle.audit_forms.specs.Audited.{Case, IsThere, Moment}
use Rattle.run_audit.specs.Answering.{IsAnswered, IsReplyOf, IsUnanswered}
use Rattle.run_audit.specs.declared.replay.Passed.TheVariants.{On, Stop}
use Rattle.run_audit.specs.declared.replay.Replay.{Replay}
use Rattle.graph_acts.specs.Objects.{files_in}
use Rattle.run_audit.specs.Files.{FilesGoOn, file_with}
use Rattle.run_audit.specs.Leading.{IsNowhere, IsReturn, IsSince, Leads, StandsIn}
use Rattle.run_audit.proofs.Asked.{Lifts, passes_on, stands_on, stops_on}
use Rattle.run_audit.proofs.Files.{files_same}

-- the line is there whatever is out
abbrev pub IsAlwaysThere : TextAct → Type 0
IsAlwaysThere t = (x : Case) (at : Moment) → IsThere x at t

there_said : (x : Case) (at : Moment) (line : LogLine) (said : ActText) → line.said ≡ said → IsAlwaysThere said.act → IsThere x at (line.said).act
there_said x at line said is T = subst (λ (s : ActText). IsThere x at s.act) (sym is) (T x at)

module _ {S C : Type 0} (see : Sight S (ComparingValue S) C) (old : Replay S C) (served : Served S (ComparingValue S) C) (works : Vec (Option (WorkOf (ShownPart S (ComparingValue S)))) Global) (clients : Vec (Option C) Global) (said : ActText) where
  abbrev new : Replay S C
  new = record old { served = served; works = works; clients = clients }

  module _ (reply : Reply S (ComparingValue S) C) (R : IsReplyOf see old.served.graph served.graph (old.plan).parts old.handles.items said reply) (out : (h : Handle) → IsGone served.graph h → IsOut h (graphs.look_of served.graph))
      (T : IsAlwaysThere said.act) (L : Lifts see old.served.graph served.graph old.plan old.handles.items old.works.items works.items old.clients.items clients.items said reply R out)
      (F : (tells : Bool) (x : Case) (w : World) → StandsIn see tells old x w → FilesGoOn see false old new) where
    still : (tells : Bool) (x : Case) (w : World) → StandsIn see tells old x w → (v : World) × StandsIn see tells new x v × IsSince x said.act w v
    still tells x w I = stands_on see old.served.graph served.graph old.plan old.handles.items old.works.items works.items old.clients.items clients.items said reply R out L tells x w I

    pub leads_same : IsAnswered see old.served.graph served.graph (old.plan).parts old.handles.items said → Leads see old new said On
    leads_same A = record {
      plan = refl;
      handles = refl;
      told = refl;
      order = refl;
      stands = still;
      files = F;
      shows = tt;
      line = λ tells x at line is I W. (
        there_said x at line said is T,
        passes_on see old.served.graph served.graph old.plan old.handles.items old.works.items works.items old.clients.items clients.items said reply R out tells x at line is I L A W,
      );
    }

    pub leads_other : IsUnanswered see old.served.graph (old.plan).parts old.handles.items said → Leads see old new said (Stop OtherReply)
    leads_other U = record {
      plan = refl;
      handles = refl;
      told = refl;
      order = refl;
      stands = still;
      files = F;
      shows = tt;
      line = λ tells x at line is I W. (
        there_said x at line said is T,
        stops_on see old.served.graph served.graph old.plan old.handles.items old.works.items works.items old.clients.items clients.items said reply R out tells x at line is I U,
      );
    }

-- ---- the line names a component that the script hasn't

module _ {S C : Type 0} (see : Sight S (ComparingValue S) C) (old : Replay S C) (said : ActText) where
  -- there is no such act
  abbrev pub SaysNone : Type 0
  SaysNone = (act : Act) → SaysAct (scene_in (old.plan).parts old.handles.items) said.act act → ⊥

  nowhere : SaysNone → (x : Case) → x.scene ≡ scene_in (old.plan).parts old.handles.items → IsNowhere x said.act
  nowhere N x e act S = N act (subst (λ (s : Scene). SaysAct s said.act act) e S)

  untouched : (served : Served S (ComparingValue S) C) → served ≡ old.served → FilesGoOn see false old (record old { served = served })
  untouched served e = files_same see false old (record old { served = served }) (λ j. ap (λ (s : Served S (ComparingValue S) C). file_with (slice_get old.works.items j) (files_in s.graph j)) e)

  pub leads_nowhere : (served : Served S (ComparingValue S) C) → served ≡ old.served → IsAlwaysThere said.act → SaysNone → Leads see old (record old { served = served }) said (Stop OtherReply)
  leads_nowhere served e T N = record {
    plan = refl;
    handles = refl;
    told = refl;
    order = refl;
    stands = λ tells x w I. (w, subst (λ (s : Served S (ComparingValue S) C). StandsIn see tells (record old { served = s }) x w) (sym e) I, inr (refl, inl (nowhere N x I.scene)));
    files = λ tells x w I. untouched served e;
    shows = tt;
    line = λ tells x at line is I F. (
      there_said x at line said is T,
      λ v A. nowhere N x I.scene (A.entry).act (subst (λ (t : ActText). SaysAct x.scene t.act (A.entry).act) is A.act),
    );
  }

  -- nothing is held that would go back
  pub leads_out : IsReturn said.act → ((tells : Bool) (x : Case) (at : Moment) → StandsIn see tells old x at.world → IsThere x at said.act → ⊥) → Leads see old old said (Stop NotOut)
  leads_out R N = record {
    plan = refl;
    handles = refl;
    told = refl;
    order = refl;
    stands = λ tells x w I. (w, I, inr (refl, inr R));
    files = λ tells x w I. files_same see false old old (λ j. refl);
    shows = tt;
    line = λ tells x at line is I F. λ T. N tells x at I (subst (λ (s : ActText). IsThere x at s.act) is T);
  }

-- no act is one of an unknown component
pub none_of : (s : Scene) (name : List ℕ) (P : PartLine → Handle → Type 0) → IsUnknown s name → Of s name P → ⊥
none_of s name P U o = U o.0 o.1 o.2 o.3

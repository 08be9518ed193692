-- A line by which a client object goes back.
use Rattle.std.proofs.Common.{◌≡◌, ℕ, List, Option, Some, None, slice_get, slice_set, refl, sym, ◌∙◌, ap, subst, Bool}
use Rattle.omx_types.specs.declared.handle.Handle.{Handle}
use Rattle.il_machine.specs.declared.answer.Progress.{Progress}
use Rattle.il_machine.specs.Acts as acts
use Rattle.il_machine.specs.Run.{Meets, Step}
use Rattle.il_machine.specs.World.{World}
use Rattle.act_text.specs.declared.act.TextAct.TheVariants as lines
use Rattle.act_text.specs.declared.reply.TextReply.{TextReply}
use Rattle.act_text.specs.declared.reply.TextReply.TheVariants as texts
use Rattle.script_lang.specs.declared.play_line.PartLine.{PartLine}
use Rattle.play_forms.specs.Plans.{PlanValue}
use Rattle.play_log.specs.Entries.{Entry}
use Rattle.play_log.specs.Lines.{LogLine}
use Rattle.play_log.specs.Saying.{SaysAct, SaysReply}
use Rattle.play_log.specs.Scenes.{IsPlayer, Scene}
use Rattle.audio_parts.specs.Shown.{ShownPart}
use Rattle.graph_core.specs.Clients.{IsOut}
use Rattle.il_flow.specs.Works.{WorkOf}
use Rattle.il_graph.specs.Shown.{Shown, kept}
use Rattle.il_graph.specs.Shown as graphs
use Rattle.il_machine.specs.Whole.{Stands}
use Rattle.compared_files.specs.Comparing.{ComparingValue}
use Rattle.graph_acts.specs.declared.act.Act.TheVariants as asks
use Rattle.graph_acts.specs.declared.act.Reply.TheVariants as replies
use Rattle.graph_acts.specs.Holding.{IsGone}
use Rattle.graph_acts.specs.Moving.{Moved}
use Rattle.graph_acts.specs.Plain.{Sight}
use Rattle.graph_acts.proofs.Comeback.{nothing_unsaid}
use Rattle.graph_acts.proofs.Worlds.{meets_end, object_out}
use Rattle.audit_forms.specs.Audited.{Answers, Case, Moment}
use Rattle.run_audit.specs.Replaying.{AreFronts, IsObjectOf, IsStanding}
use Rattle.run_audit.proofs.Asked.{fronts_stay}
use Rattle.run_audit.proofs.Standing.{IsGoing, ended_on}
use Rattle.run_audit.proofs.Streams.{streams_stay}

-- the only text of a reply to it
done_said : (s : Scene) (said : TextReply) (w : World) (a : acts.Act) (h : Handle) (p : Progress) (r : acts.Reply) (v : World) → a ≡ acts.EndNote h p → Step w a r v → SaysReply s said a r → said ≡ texts.Done
done_said s said w a h p acts.Ended v e step x = let q : Some texts.Done ≡ Some said = x in cc
done_said s said w a h p r v e step x = absurd (subst (λ b. Step w b r v) e step)

module _ {S C : Type 0} (see : Sight S (ComparingValue S) C) (old new : Shown S (ComparingValue S) C) (plan : PlanValue) (handles : List Handle) (works : List (Option (WorkOf (ShownPart S (ComparingValue S))))) (clients : List (Option C))
    (place : ℕ) (h : Handle) (its : slice_get handles place ≡ Some h) (client : C) (held : slice_get clients place ≡ Some (Some client)) (moved : Moved see (asks.EndNote h client) replies.EndNote old new)
    (was_out : (k : Handle) → IsGone old k → IsOut k (graphs.look_of old)) (out : (k : Handle) → IsGone new k → IsOut k (graphs.look_of new)) (tells : Bool) (x : Case) (w : World) (I : IsStanding see tells old plan handles works clients x w) where
  pub held_so : IsObjectOf see old w h client
  held_so =
      let y = (I.objects).out place client held in
      let e : Some y.0 ≡ Some h = sym y.1 ∙ its in
      let same : y.0 ≡ h = cc in
      subst (λ (k : Handle). IsObjectOf see old w k client) same y.2

  pub met : Meets w (acts.EndNote h (see.progress client))
  met = meets_end h (see.progress client) w (object_out h w (subst (IsOut h) (sym (I.stands).looks) (was_out h held_so.0.0))) held_so.1

  pub stepped : (v : World) × Stands (kept see.progress new) v × Step w (acts.EndNote h (see.progress client)) acts.Ended v
  stepped = moved.step w I.stands nothing_unsaid tt met

  going : IsGoing see old new w stepped.0 (asks.EndNote h client) replies.EndNote
  going = record {
    moved = moved;
    unsaid = nothing_unsaid;
    so = tt;
    met = met;
    stands = stepped.1;
    step = stepped.2;
    brings = tt;
    asks_none = tt;
    out = out;
  }

  pub given_back : IsStanding see tells new plan handles works (slice_set clients place None) x stepped.0
  given_back = ended_on see old new plan handles works clients tells x w stepped.0 I place h its client held going

  pub given_fronts : AreFronts x.sinks w → AreFronts x.sinks stepped.0
  given_fronts F = fronts_stay x.sinks w stepped.0 (streams_stay w (acts.EndNote h (see.progress client)) acts.Ended stepped.0 I.sound tt met stepped.2) F

module _ (x : Case) (at : Moment) (line : LogLine) (name : List ℕ) (says : (line.said).act ≡ lines.End name) where
  pub end_answered : (v : World) (h : Handle) (p : Progress) (place : ℕ) (part : PartLine) → IsPlayer x.scene place name part h → Meets at.world (acts.EndNote h p) → Step at.world (acts.EndNote h p) acts.Ended v → (line.said).reply ≡ texts.Done → Answers x at line v
  end_answered v h p place part P m s e =
      let entry : Entry = record { pass = 0; act = acts.EndNote h p; reply = acts.Ended } in
      record {
        entry = entry;
        act = subst (λ t. SaysAct x.scene t (acts.EndNote h p)) (sym says) (place, part, h, P, (p, refl));
        meets = m;
        unbroken = tt;
        step = s;
        reply = ap (λ (t : TextReply). Some t) (sym e);
      }

  pub end_unanswered : ((line.said).reply ≡ texts.Done → ⊥) → (v : World) → Answers x at line v → ⊥
  end_unanswered n v A =
      let y = subst (λ t. SaysAct x.scene t (A.entry).act) says A.act in
      n (done_said x.scene (line.said).reply at.world (A.entry).act y.2 (y.4).0 (A.entry).reply v (y.4).1 A.step A.reply)

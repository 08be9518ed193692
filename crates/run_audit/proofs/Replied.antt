-- A line is answered so where the graph's reply is the line's, and isn't where it is another.
use Rattle.std.proofs.Common.{◌≡◌, List, Some, Err, sym, ◌∙◌, ap, subst}
use Rattle.omx_types.specs.declared.error.CallError.TheVariants.{OutOfMemory}
use Rattle.omx_types.specs.declared.handle.Handle.{Handle}
use Rattle.il_machine.specs.Acts as acts
use Rattle.il_machine.specs.Run.{Step}
use Rattle.il_machine.specs.World.{World}
use Rattle.il_machine.specs.Whole.{Stands}
use Rattle.history_laws.specs.Determined.{AreAlike, Equal, FirstWants, SecondWants, GotBoth, WantsMemory}
use Rattle.history_laws.proofs.DeterminedLaw.{steps_alike}
use Rattle.act_text.specs.declared.reply.TextReply.{TextReply}
use Rattle.act_text.specs.declared.text.ActText.{ActText}
use Rattle.script_lang.specs.declared.play_line.PartLine.{PartLine}
use Rattle.play_log.specs.Entries.{Entry}
use Rattle.play_log.specs.Lines.{LogLine}
use Rattle.play_log.specs.Saying.{SaysAct, SaysReply, reply_said}
use Rattle.play_log.specs.Scenes.{HaveOwnNames, Scene}
use Rattle.play_log.proofs.Players.{act_alike}
use Rattle.il_graph.specs.Shown.{Shown, kept}
use Rattle.graph_acts.specs.declared.act.Reply.{Reply}
use Rattle.graph_acts.specs.Plain.{Sight, Unsaid, plain_act, plain_reply}
use Rattle.audit_forms.specs.Audited.{Answers, Case, Moment}
use Rattle.audit_acts.specs.Asking.{IsPlainReply, scene_in}
use Rattle.run_audit.specs.Answering.{IsAnswered, IsReplyOf, IsUnanswered}
use Rattle.run_audit.proofs.Plain.{IsGot, got_plain, meets_plain, replied_plain, says_plain, so_plain, text_plain, unbroken_plain, finish_plain, end_plain}

wants_got : (r : acts.Reply) → WantsMemory r → IsGot r
wants_got (acts.Got (Err OutOfMemory)) W = tt
wants_got r W = absurd W

unsaid_wants : (s : Scene) (said : TextReply) (a : acts.Act) (r : acts.Reply) → WantsMemory r → SaysReply s said a r → ⊥
unsaid_wants s said a (acts.Got (Err OutOfMemory)) W x = absurd cc
unsaid_wants s said a r W x = absurd W

module _ {S K C : Type 0} (see : Sight S K C) (old new : Shown S K C) (parts : List PartLine) (handles : List Handle) (said : ActText) (reply : Reply S K C) (R : IsReplyOf see old new parts handles said reply) where
  plain_reply_is : IsPlainReply reply
  plain_reply_is = replied_plain R.act reply R.plain (R.moved).replied

  abbrev pub u : Unsaid
  u = (so_plain see old R.act R.plain).0

  abbrev pub a : acts.Act
  a = plain_act see u R.act

  abbrev pub r : acts.Reply
  r = plain_reply u reply

  pub stepped : (w : World) → Stands (kept see.progress old) w → (v : World) × Stands (kept see.progress new) v × Step w a r v
  stepped w stands = (R.moved).step w stands u ((so_plain see old R.act R.plain).1 w) (meets_plain see u w R.act R.plain)

  pub answered_so : reply_said r ≡ Some said.reply → IsAnswered see old new parts handles said
  answered_so e x at line is M =
      let y = stepped at.world M.stands in
      let entry : Entry = record { pass = 0; act = a; reply = r } in (
        y.0,
        y.1,
        record {
          entry = entry;
          act = subst (λ (s : Scene). SaysAct s (line.said).act a) (sym M.scene) (subst (λ (t : ActText). SaysAct (scene_in parts handles) t.act a) (sym is) (R.says u));
          meets = meets_plain see u at.world R.act R.plain;
          unbroken = unbroken_plain see u R.act R.plain;
          step = y.2;
          reply = says_plain x.scene (line.said).reply a u reply plain_reply_is (e ∙ ap (λ (t : ActText). Some t.reply) (sym is));
        },
      )

  -- ---- another reply

  by_alike : (s : Scene) (w : World) (v : World) (b : acts.Reply) (z : World) → AreAlike w r v b z → SaysReply s said.reply a b → reply_said r ≡ Some said.reply
  by_alike s w v b z (Equal e f) x = text_plain s said.reply a u reply plain_reply_is (subst (λ (q : acts.Reply). SaysReply s said.reply a q) e x)
  by_alike s w v b z (FirstWants W e) x = absurd (got_plain u reply plain_reply_is (wants_got r W))
  by_alike s w v b z (SecondWants W e) x = absurd (unsaid_wants s said.reply a b W x)
  by_alike s w v b z (GotBoth G) x = absurd (got_plain u reply plain_reply_is (subst IsGot (sym G.one) tt))

  world_alike : (s : Scene) (w : World) (v : World) (b : acts.Reply) (z : World) → AreAlike w r v b z → SaysReply s said.reply a b → z ≡ v
  world_alike s w v b z (Equal e f) x = f
  world_alike s w v b z (FirstWants W e) x = absurd (got_plain u reply plain_reply_is (wants_got r W))
  world_alike s w v b z (SecondWants W e) x = absurd (unsaid_wants s said.reply a b W x)
  world_alike s w v b z (GotBoth G) x = absurd (got_plain u reply plain_reply_is (subst IsGot (sym G.one) tt))

  -- where it is answered, it is by what the graph did
  record IsDone (x : Case) (at : Moment) (v : World) (b : acts.Reply) : Type 0 where
    step : Step at.world a b v
    replied : SaysReply x.scene said.reply a b

  done_so : (x : Case) (at : Moment) (line : LogLine) → line.said ≡ said → x.scene ≡ scene_in parts handles → HaveOwnNames parts → (v : World) (A : Answers x at line v) → IsDone x at v (A.entry).reply
  done_so x at line is scene own v A =
      let b = (A.entry).act in
      let s = scene_in parts handles in
      let says : SaysAct s said.act b = subst (λ (t : ActText). SaysAct s t.act b) is (subst (λ (k : Scene). SaysAct k (line.said).act b) scene A.act) in
      let same : a ≡ b = act_alike s own said.act a b (R.says u) says
      (λ h done back p q e f. absurd (finish_plain see u R.act R.plain done e))
      (λ h one other e f. absurd (end_plain see u R.act R.plain h one e)) in
      record {
        step = subst (λ (k : acts.Act). Step at.world k (A.entry).reply v) (sym same) A.step;
        replied = subst (λ (k : acts.Act). SaysReply x.scene said.reply k (A.entry).reply) (sym same) (subst (λ (t : ActText). SaysReply x.scene t.reply b (A.entry).reply) is A.reply);
      }

  pub answered_there : (x : Case) (at : Moment) (line : LogLine) → line.said ≡ said → x.scene ≡ scene_in parts handles → HaveOwnNames parts → (stands : Stands (kept see.progress old) at.world) → (v : World) → Answers x at line v → v ≡ (stepped at.world stands).0
  answered_there x at line is scene own stands v A =
      let y = stepped at.world stands in
      let D = done_so x at line is scene own v A in
      world_alike x.scene at.world y.0 (A.entry).reply v (steps_alike at.world a r y.0 (A.entry).reply v y.2 D.step) D.replied

  pub answered_else : (reply_said r ≡ Some said.reply → ⊥) → IsUnanswered see old parts handles said
  answered_else n x at line is M own v A =
      let y = stepped at.world M.stands in
      let D = done_so x at line is M.scene own v A in
      n (by_alike x.scene at.world y.0 (A.entry).reply v (steps_alike at.world a r y.0 (A.entry).reply v y.2 D.step) D.replied)

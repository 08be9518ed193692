-- A work is run and comes back to the graph: the line that says so is answered, or isn't.
use Rattle.std.proofs.Common.{◌≡◌, ℕ, List, Some, None, refl, sym, ◌∙◌, ap, subst}
use Rattle.omx_types.specs.declared.handle.Handle.{Handle}
use Rattle.il_machine.specs.Acts as acts
use Rattle.il_machine.specs.Run.{Meets, Step}
use Rattle.il_machine.specs.Sound.{Sound}
use Rattle.il_machine.specs.Stepping.{WorkDone}
use Rattle.il_machine.specs.Whole.{Stands}
use Rattle.il_machine.specs.World.{World}
use Rattle.machine_laws.proofs.Steps.{sound_step}
use Rattle.audio_parts.specs.Shown.{ShownPart}
use Rattle.act_text.specs.declared.act.TextAct.TheVariants as lines
use Rattle.act_text.specs.declared.reply.TextReply.{TextReply}
use Rattle.act_text.specs.declared.reply.TextReply.TheVariants as texts
use Rattle.script_lang.specs.declared.play_line.PartLine.{PartLine}
use Rattle.play_log.specs.Entries.{Entry}
use Rattle.play_log.specs.Lines.{LogLine}
use Rattle.play_log.specs.Naming.{IsUnbroken}
use Rattle.play_log.specs.Saying.{SaysAct, SaysReply}
use Rattle.play_log.specs.Scenes.{HaveOwnNames, IsPlayer, Scene}
use Rattle.play_log.proofs.Players.{one_player}
use Rattle.il_flow.specs.Works.{DoneOf, seen_done}
use Rattle.il_graph.specs.Shown.{Shown, kept}
use Rattle.graph_acts.specs.declared.act.Act.TheVariants as asks
use Rattle.graph_acts.specs.declared.act.Reply.TheVariants as replies
use Rattle.graph_acts.specs.Moving.{Moved}
use Rattle.graph_acts.specs.Plain.{Sight, Unsaid}
use Rattle.graph_acts.specs.Working.{IsRunOf, IsWorkIn, MovesWorks, OutWork}
use Rattle.graph_acts.proofs.Comeback.{comes_back, nothing_unsaid}
use Rattle.audit_forms.specs.Audited.{Answers, Case, Moment}
use Rattle.run_audit.proofs.Frames.{frames_same}

-- the only reply to a work that comes back, by its line
frames_said : (s : Scene) (said : TextReply) (w : World) (back : WorkDone) (r : acts.Reply) (v : World) → Step w (acts.Finish back) r v → SaysReply s said (acts.Finish back) r → said ≡ texts.Finished back.frames
frames_said s said w back acts.Finished v step e = e
frames_said s said w back r v step e = absurd step

module _ {S K C : Type 0} (see : Sight S K C) (old new : Shown S K C) (w : World) (got : OutWork S K) (done : DoneOf (ShownPart S K)) (D : Sound w) (stands : Stands (kept see.progress old) w)
    (H : IsWorkIn w got) (R : IsRunOf see.reads see.writes got done) (M : Moved see (asks.Finish done) replies.Finish old new) where
  abbrev took : List ℕ
  took = (comes_back w got done H R).0

  abbrev pub its : WorkDone
  its = seen_done took done

  pub meets : Meets w (acts.Finish its)
  meets = (comes_back w got done H R).1.0

  abbrev u : Unsaid
  u = record { took = took; terms = nothing_unsaid.terms }

  pub stepped : (v : World) × Stands (kept see.progress new) v × Step w (acts.Finish its) acts.Finished v
  stepped = M.step w stands u (comes_back w got done H R).1.1 meets

  pub sound : Sound stepped.0
  sound = sound_step w stepped.0 (acts.Finish its) acts.Finished meets stepped.2 D

  pub works : MovesWorks {S = S} {K = K} (Some done.component.generation) None w stepped.0
  works = M.works w stepped.0 D stands stepped.1 u (comes_back w got done H R).1.1 meets stepped.2

  -- ---- the line

  module _ (x : Case) (at : Moment) (line : LogLine) (is : at.world ≡ w) (name : List ℕ) (says : (line.said).act ≡ lines.Finish name) (place : ℕ) (part : PartLine) (P : IsPlayer x.scene place name part done.component) (whole : done.fault ≡ None) where
    pub answered : (line.said).reply ≡ texts.Finished done.frames → Answers x at line stepped.0
    answered reply =
        let entry : Entry = record { pass = 0; act = acts.Finish its; reply = acts.Finished } in
        record {
          entry = entry;
          act = subst (λ t. SaysAct x.scene t (acts.Finish its)) (sym says) (place, part, done.component, P, (its, refl, refl));
          meets = subst (λ (y : World). Meets y (acts.Finish its)) (sym is) meets;
          unbroken = whole;
          step = subst (λ (y : World). Step y (acts.Finish its) acts.Finished stepped.0) (sym is) stepped.2;
          reply = reply;
        }

    pub unanswered : HaveOwnNames (x.scene).parts → ((line.said).reply ≡ texts.Finished done.frames → ⊥) → (v : World) → Answers x at line v → ⊥
    unanswered own n v A =
        let other = subst (λ t. SaysAct x.scene t (A.entry).act) says A.act in
        let both = one_player x.scene own name (λ (p : PartLine) (h : Handle). h ≡ done.component) (λ p h. (back : WorkDone) × (back.component ≡ h.generation) × ((A.entry).act ≡ acts.Finish back)) (place, part, done.component, P, refl) other in
        let back = (both.other).0 in
        let named : its.component ≡ back.component = sym ((both.other).1 ∙ ap (λ (h : Handle). h.generation) both.one) in
        let met : Meets w (acts.Finish back) = subst (λ (y : World). Meets y (acts.Finish back)) is (subst (λ a. Meets at.world a) (both.other).2 A.meets) in
        let unbroken : back.fault ≡ None = subst (λ a. IsUnbroken a) (both.other).2 A.unbroken in
        let step : Step at.world (acts.Finish back) (A.entry).reply v = subst (λ a. Step at.world a (A.entry).reply v) (both.other).2 A.step in
        let reply : SaysReply x.scene (line.said).reply (acts.Finish back) (A.entry).reply = subst (λ a. SaysReply x.scene (line.said).reply a (A.entry).reply) (both.other).2 A.reply in
        let frames : its.frames ≡ back.frames = frames_same w its back named whole unbroken meets met in
        n (frames_said x.scene (line.said).reply at.world back (A.entry).reply v step reply ∙ ap (λ (k : ℕ). texts.Finished k) (sym frames))

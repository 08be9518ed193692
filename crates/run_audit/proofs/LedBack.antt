-- What comes of a line by which a work or a client object goes back.
use Rattle.std.proofs.Common.{◌≡◌, inl, inr, ℕ, zero, suc, Bool, true, false, List, [], ◌∷◌, Option, Some, None, MatchOption, IfSome, is_some, slice_get, slice_set, refl, sym, ◌∙◌, ap, subst}
use Rattle.std.proofs.lemmas.Bool.{cases_eq}
use Rattle.std.specs.Prelude.{Vec}
use Rattle.std.specs.declared.alloc.Global.{Global}
use Rattle.omx_types.specs.declared.fault.AuditWhy.TheVariants.{NotOut, OtherFile, OtherReply}
use Rattle.omx_types.specs.declared.fault.PartFault.{PartFault}
use Rattle.omx_types.specs.declared.handle.Handle.{Handle}
use Rattle.il_machine.specs.Acts as acts
use Rattle.il_machine.specs.Stepping.{WorkDone}
use Rattle.il_machine.specs.Whole.{Stands}
use Rattle.il_machine.specs.World.{Component, World}
use Rattle.act_text.specs.declared.act.TextAct.{TextAct}
use Rattle.act_text.specs.declared.act.TextAct.TheVariants as lines
use Rattle.act_text.specs.declared.reply.TextReply.TheVariants as texts
use Rattle.act_text.specs.declared.text.ActText.{ActText}
use Rattle.script_lang.specs.declared.play_line.PartLine.{PartLine}
use Rattle.play_log.specs.Lines.{LogLine}
use Rattle.play_log.specs.Saying.{SaysAct}
use Rattle.play_log.specs.Scenes.{HaveOwnNames, IsPlayer, Scene}
use Rattle.audio_parts.specs.Objects.{FileShows, OnBoth, SinkShows, SourceShows}
use Rattle.audio_parts.specs.declared.part_file.PartFile.{PartFile}
use Rattle.audio_parts.specs.Shown.{ShownPart}
use Rattle.graph_core.specs.Clients.{IsOut}
use Rattle.il_flow.specs.Works.{WorkOf}
use Rattle.il_graph.specs.Shown.{TellWritten, kept}
use Rattle.il_graph.specs.Shown as graphs
use Rattle.compared_files.specs.Comparing.{ComparingValue}
use Rattle.graph_acts.specs.declared.act.Act.TheVariants as asks
use Rattle.graph_acts.specs.declared.act.Reply.TheVariants as replies
use Rattle.graph_acts.specs.declared.served.Served.{Served}
use Rattle.graph_acts.specs.Holding.{IsGone}
use Rattle.graph_acts.specs.Moving.{Moved}
use Rattle.graph_acts.specs.Objects.{files_in}
use Rattle.graph_acts.specs.Plain.{Sight}
use Rattle.graph_acts.specs.Working.{IsFaulted, out_of}
use Rattle.graph_acts.proofs.Comeback.{failed_so}
use Rattle.audio_parts.specs.Shown.{held_in}
use Rattle.audit_acts.specs.Asking.{IsUnknown, scene_in}
use Rattle.audit_forms.specs.Audited.{Answers, Case, HasOut, IsThere, Moment}
use Rattle.audit_forms.specs.Told.{HaveNumbers}
use Rattle.run_audit.specs.declared.replay.Passed.{Passed}
use Rattle.run_audit.specs.declared.replay.Passed.TheVariants.{Failed as Broken, On, Stop}
use Rattle.run_audit.specs.declared.replay.Replay.{Replay}
use Rattle.run_audit.specs.declared.returning.Back.{Back}
use Rattle.run_audit.specs.declared.returning.Back.TheVariants.{Other, Same, Failed as Broke, OtherFile as Differs}
use Rattle.run_audit.specs.Files.{FileGoesOn, FilesGoOn, ShowsFault, file_at, file_with}
use Rattle.run_audit.specs.Leading.{IsMade, IsPassed, IsReturn, Leads, ShowsIts, StandsIn, has_failed}
use Rattle.run_audit.specs.Replaying.{AreFronts, HoldsWorks, IsStanding}
use Rattle.run_audit.specs.Returning.{IsReturned}
use Rattle.run_audit.proofs.Brought.{KnowsCompared, H, answers_then, end, files_then, fronts_then, going, other_then, returned_on, unanswers_then}
use Rattle.run_audit.proofs.Ended.{end_answered, end_unanswered, given_back, given_fronts, held_so, met, stepped}
use Rattle.run_audit.proofs.Files.{back_else, back_is, back_was, files_fail, files_same, goes_same}
use Rattle.run_audit.proofs.Filing.{files_stay}
use Rattle.run_audit.proofs.Returned as returned
use Rattle.run_audit.proofs.Led.{leads_out}
use Rattle.run_audit.proofs.There.{end_away, end_there, finish_away, finish_there}

pub unset : {X : Type 0} (xs : List (Option X)) (i : ℕ) → slice_get xs i ≡ Some None → slice_set xs i None ≡ xs
unset [] i e = refl
unset (x ∷ xs) zero e = let s : None ≡ x = cc in ap (λ y. y ∷ xs) s
unset (x ∷ xs) (suc i) e = ap (λ ys. x ∷ ys) (unset xs i e)

-- the player of the script's scene is one of the case's
in_case : (x : Case) (s : Scene) → x.scene ≡ s → (place : ℕ) (name : List ℕ) (part : PartLine) (h : Handle) → IsPlayer s place name part h → IsPlayer x.scene place name part h
in_case x s e place name part h P = subst (λ (z : Scene). IsPlayer z place name part h) (sym e) P

one_place : (s : Scene) → HaveOwnNames s.parts → (place : ℕ) (name : List ℕ) (part : PartLine) (h : Handle) → IsPlayer s place name part h → (other : ℕ) (more : PartLine) (k : Handle) → IsPlayer s other name more k → other ≡ place
one_place s own place name part h P other more k Q = own other place more part Q.line P.line (Q.named ∙ sym P.named)

-- no component has the name
module _ {S C : Type 0} (see : Sight S (ComparingValue S) C) (old : Replay S C) (said : ActText) (name : List ℕ) where
  away : (t : TextAct) (Out : Component → Type 0) → IsReturn t → ((x : Case) (at : Moment) → IsThere x at t → HasOut x at name Out) → said.act ≡ t → IsUnknown (scene_in (old.plan).parts old.handles.items) name → Leads see old old said (Stop NotOut)
  away t Out R there says unknown = leads_out see old said (subst IsReturn (sym says) R) (λ tells x at I T.
      let o = there x at (subst (λ (k : TextAct). IsThere x at k) says T) in
      unknown o.0 o.1 o.2 (subst (λ (s : Scene). IsPlayer s o.0 name o.1 o.2) I.scene o.3))

  pub finish_nowhere : said.act ≡ lines.Finish name → IsUnknown (scene_in (old.plan).parts old.handles.items) name → Leads see old old said (Stop NotOut)
  finish_nowhere says unknown = away (lines.Finish name) (λ c. MatchOption c.work ⊥ (λ work. Unit {0})) tt (λ x at T. T) says unknown

  pub end_nowhere : said.act ≡ lines.End name → IsUnknown (scene_in (old.plan).parts old.handles.items) name → Leads see old old said (Stop NotOut)
  end_nowhere says unknown = away (lines.End name) (λ c. c.client_out ≡ true) tt (λ x at T. T) says unknown

module _ {S C : Type 0} (see : Sight S (ComparingValue S) C) (old : Replay S C) (said : ActText) (name : List ℕ) (place : ℕ) (part : PartLine) (h : Handle) (P : IsPlayer (scene_in (old.plan).parts old.handles.items) place name part h) where
  abbrev Works : Type 0
  Works = Vec (Option (WorkOf (ShownPart S (ComparingValue S)))) Global

  player : (tells : Bool) (x : Case) (w : World) → StandsIn see tells old x w → IsPlayer x.scene place name part h
  player tells x w I = in_case x (scene_in (old.plan).parts old.handles.items) I.scene place name part h P

  own : (tells : Bool) (x : Case) (w : World) → StandsIn see tells old x w → HaveOwnNames (x.scene).parts
  own tells x w I = subst (λ (s : Scene). HaveOwnNames s.parts) (sym I.scene) I.own

  numbers : (tells : Bool) (x : Case) (w : World) → StandsIn see tells old x w → HaveNumbers x.scene
  numbers tells x w I = subst HaveNumbers (sym I.scene) I.numbers

  held_works : (tells : Bool) (x : Case) (w : World) → StandsIn see tells old x w → HoldsWorks (x.scene).handles old.works.items w
  held_works tells x w I = subst (λ (s : Scene). HoldsWorks s.handles old.works.items w) (sym I.scene) I.works_are

  -- ---- a work

  module _ (says : said.act ≡ lines.Finish name) where
    pub finish_nothing : (works : Works) → works.items ≡ slice_set old.works.items place None → slice_get old.works.items place ≡ Some None → Leads see old (record old { works = works }) said (Stop NotOut)
    finish_nothing works e free =
        let same : works.items ≡ old.works.items = e ∙ unset old.works.items place free in
        record {
          plan = refl;
          handles = refl;
          told = refl;
          order = refl;
          stands = λ tells x w I. (w, subst (λ l. IsStanding see tells old.served.graph old.plan old.handles.items l old.clients.items x w) (sym same) I, inr (refl, inr (subst IsReturn (sym says) tt)));
          files = λ tells x w I. files_same see false old (record old { works = works }) (λ j. ap (λ (l : List (Option (WorkOf (ShownPart S (ComparingValue S))))). file_with (slice_get l j) (files_in old.served.graph j)) same);
          shows = tt;
          line = λ tells x at line is I F. λ T.
              let there : IsThere x at (lines.Finish name) = subst (λ t. IsThere x at t) (ap (λ (s : ActText). s.act) is ∙ says) T in
              finish_away x at I.sound (numbers tells x at.world I) old.works.items (held_works tells x at.world I) name place part h (player tells x at.world I)
              (one_place x.scene (own tells x at.world I) place name part h (player tells x at.world I)) free there;
        }

    module _ (Q : KnowsCompared see) (served : Served S (ComparingValue S) C) (works : Works) (e : works.items ≡ slice_set old.works.items place None) (work : WorkOf (ShownPart S (ComparingValue S))) (held : slice_get old.works.items place ≡ Some (Some work))
        (out : (k : Handle) → IsGone served.graph k → IsOut k (graphs.look_of served.graph)) (T : (w : World) → Stands (kept see.progress served.graph) w → TellWritten see.writes.told served.graph w) where
      abbrev new : Replay S C
      new = record old { served = served; works = works }

      module _ (back : Back) (B : IsReturned see see.reads.told old.served.graph served.graph work said.reply back) where
        module _ (tells : Bool) (x : Case) (w : World) (I : StandsIn see tells old x w) where
          abbrev after : World
          after = end see Q old.served.graph served.graph old.plan old.handles.items old.works.items old.clients.items place work held said.reply back B out tells x w I

          standing_after : StandsIn see tells new x after
          standing_after = subst (λ l. IsStanding see tells served.graph old.plan old.handles.items l old.clients.items x after) (sym e)
              (returned_on see Q old.served.graph served.graph old.plan old.handles.items old.works.items old.clients.items place work held said.reply back B out tells x w I)

          stands_then : Stands (kept see.progress served.graph) after
          stands_then = standing_after.stands

          its_name : IsPlayer x.scene place name part (B.done).component
          its_name =
              let y = (I.works_are).out place work held in
              let e : Some h ≡ Some work.component = sym P.handle ∙ y.0 in
              let same : h ≡ work.component = cc in
              subst (IsPlayer x.scene place name part) (same ∙ sym (B.run).component) (player tells x w I)

          abbrev its : WorkDone
          its = returned.its see old.served.graph served.graph w (out_of work) B.done I.sound I.stands
              (H see Q old.served.graph served.graph old.plan old.handles.items old.works.items old.clients.items place work held said.reply back B out tells x w I) B.run B.moved

          made : IsMade x said.act w after
          made =
              let G = going see Q old.served.graph served.graph old.plan old.handles.items old.works.items old.clients.items place work held said.reply back B out tells x w I in
              record {
                act = acts.Finish its;
                reply = acts.Finished;
                says = subst (λ t. SaysAct x.scene t (acts.Finish its)) (sym says) (place, part, (B.done).component, its_name, (its, refl, refl));
                meets = G.met;
                step = G.step;
              }

          -- its file is the one with which the work went out, and each other file is where it was
          its_file_was : file_at see old place ≡ (work.part).file
          its_file_was = back_was old.works.items place work held ((B.done).part).file (files_in old.served.graph) (files_in served.graph)
              (files_then see Q old.served.graph served.graph old.plan old.handles.items old.works.items old.clients.items place work held said.reply back B out tells x w I)

          its_file_is : file_at see new place ≡ ((B.done).part).file
          its_file_is =
              ap (λ (l : List (Option (WorkOf (ShownPart S (ComparingValue S))))). file_with (slice_get l place) (files_in served.graph place)) e
              ∙ back_is old.works.items place work held ((B.done).part).file (files_in old.served.graph) (files_in served.graph)
              (files_then see Q old.served.graph served.graph old.plan old.handles.items old.works.items old.clients.items place work held said.reply back B out tells x w I)

          other_file : (j : ℕ) → (j ≡ place → ⊥) → file_at see new j ≡ file_at see old j
          other_file j n =
              ap (λ (l : List (Option (WorkOf (ShownPart S (ComparingValue S))))). file_with (slice_get l j) (files_in served.graph j)) e
              ∙ back_else old.works.items place work held ((B.done).part).file (files_in old.served.graph) (files_in served.graph)
              (files_then see Q old.served.graph served.graph old.plan old.handles.items old.works.items old.clients.items place work held said.reply back B out tells x w I) j n

          its_file : FileGoesOn see ((B.done).part).failed (file_at see old place) (file_at see new place)
          its_file =
              let stays : FileGoesOn see ((B.done).part).failed (work.part).file ((B.done).part).file = ((B.run).object).1 in
              subst (λ (o : Option (PartFile S (ComparingValue S))). FileGoesOn see ((B.done).part).failed o (file_at see new place)) (sym its_file_was)
              (subst (FileGoesOn see ((B.done).part).failed (work.part).file) (sym its_file_is) stays)

          files_after : (failed : Bool) → is_some (B.done).fault ≡ failed → FilesGoOn see failed old new
          files_after failed is j = elim (cases_eq j place) [
            | inl e ↦
                let f : ((B.done).part).failed ≡ failed = failed_so w (out_of work) B.done ((I.works_are).out place work held).1 B.run ∙ is in
                subst (λ (k : ℕ). FileGoesOn see failed (file_at see old k) (file_at see new k)) (sym e)
                (subst (λ (b : Bool). FileGoesOn see b (file_at see old place) (file_at see new place)) f its_file)
            | inr n ↦ goes_same see failed (file_at see old j) (file_at see new j) (other_file j n)
          ]

          fault_shows : (fault : PartFault) → (B.done).fault ≡ Some fault → ShowsFault see fault place old new
          fault_shows fault is =
              let F : IsFaulted see.reads see.writes fault (held_in work.part) (held_in (B.done).part) =
              subst (λ (o : Option PartFault). IfSome o (λ (f : PartFault). IsFaulted see.reads see.writes f (held_in work.part) (held_in (B.done).part))) is (B.run).shows in
              let R = λ (a b : Option (PartFile S (ComparingValue S))). OnBoth (FileShows (SourceShows see.reads.size see.reads.ends see.reads.offset see.reads.faults fault) (SinkShows see.writes.faults fault)) a b in
              subst (λ (o : Option (PartFile S (ComparingValue S))). R o (file_at see new place)) (sym its_file_was) (subst (R (work.part).file) (sym its_file_is) F.1)

        leads_by : (passed : Passed) → is_some (B.done).fault ≡ has_failed passed → ((tells : Bool) (x : Case) (w : World) → StandsIn see tells old x w → ShowsIts see passed old new)
            → ((tells : Bool) (x : Case) (at : Moment) (line : LogLine) → line.said ≡ said → StandsIn see tells old x at.world → AreFronts x.sinks at.world → IsPassed see tells new x at line passed)
            → (tells : Bool) (x : Case) (w : World) → StandsIn see tells old x w → Leads see old new said passed
        leads_by passed failed shows k tells x w I = record {
          plan = refl;
          handles = refl;
          told = refl;
          order = refl;
          stands = λ tells x w I. (after tells x w I, standing_after tells x w I, inl (made tells x w I));
          files = λ tells x w I. files_after tells x w I (has_failed passed) failed;
          shows = shows tells x w I;
          line = k;
        }

        module _ (tells : Bool) (x : Case) (at : Moment) (line : LogLine) (is : line.said ≡ said) (I : StandsIn see tells old x at.world) where
          line_says : (line.said).act ≡ lines.Finish name
          line_says = ap (λ (s : ActText). s.act) is ∙ says

          there_then : IsThere x at (line.said).act
          there_then = subst (λ t. IsThere x at t) (sym line_says) (finish_there x at I.sound (numbers tells x at.world I) old.works.items (held_works tells x at.world I) name place part h work (player tells x at.world I) held)

          its_player : IsPlayer x.scene place name part work.component
          its_player =
              let y = (I.works_are).out place work held in
              let e : Some h ≡ Some work.component = sym P.handle ∙ y.0 in
              let same : h ≡ work.component = cc in
              subst (IsPlayer x.scene place name part) same (player tells x at.world I)

          answers_so : (B.done).fault ≡ None → said.reply ≡ texts.Finished (B.done).frames → Answers x at line (after tells x at.world I)
          answers_so whole e = answers_then see Q old.served.graph served.graph old.plan old.handles.items old.works.items old.clients.items place work held said.reply back B out tells x at.world I at refl line name line_says part its_player whole (ap (λ (s : ActText). s.reply) is ∙ e)

          unanswers_so : (B.done).fault ≡ None → (said.reply ≡ texts.Finished (B.done).frames → ⊥) → (v : World) → Answers x at line v → ⊥
          unanswers_so whole n = unanswers_then see Q old.served.graph served.graph old.plan old.handles.items old.works.items old.clients.items place work held said.reply back B out tells x at.world I at refl line name line_says part its_player whole (own tells x at.world I)
              (λ e. n (sym (ap (λ (s : ActText). s.reply) is) ∙ e))

      module _ (tells : Bool) (x : Case) (w : World) (I : StandsIn see tells old x w) where
        pub finish_same : IsReturned see see.reads.told old.served.graph served.graph work said.reply Same → Leads see old new said On
        finish_same B = leads_by Same B On (ap is_some (B.told_so).0) (λ tells x w I. tt) (λ tells x at line is I F. (
          there_then Same B tells x at line is I,
          (
            after Same B tells x at.world I,
            answers_so Same B tells x at line is I (B.told_so).0 (B.told_so).1,
            standing_after Same B tells x at.world I,
            fronts_then see Q old.served.graph served.graph old.plan old.handles.items old.works.items old.clients.items place work held said.reply Same B out tells x at.world I
                (T (after Same B tells x at.world I) (stands_then Same B tells x at.world I)) (B.told_so).2 F,
          ),
        )) tells x w I

        pub finish_differs : IsReturned see see.reads.told old.served.graph served.graph work said.reply Differs → Leads see old new said (Stop OtherFile)
        finish_differs B = leads_by Differs B (Stop OtherFile) (ap is_some (B.told_so).0) (λ tells x w I. tt) (λ tells x at line is I F. (
          there_then Differs B tells x at line is I,
          (
            after Differs B tells x at.world I,
            answers_so Differs B tells x at line is I (B.told_so).0 (B.told_so).1,
            λ told. other_then see Q old.served.graph served.graph old.plan old.handles.items old.works.items old.clients.items place work held said.reply Differs B out tells x at.world I told
                (T (after Differs B tells x at.world I) (stands_then Differs B tells x at.world I)) (B.told_so).2 F,
          ),
        )) tells x w I

        pub finish_other : IsReturned see see.reads.told old.served.graph served.graph work said.reply Other → Leads see old new said (Stop OtherReply)
        finish_other B = leads_by Other B (Stop OtherReply) (ap is_some (B.told_so).0) (λ tells x w I. tt)
            (λ tells x at line is I F. (there_then Other B tells x at line is I, unanswers_so Other B tells x at line is I (B.told_so).0 (B.told_so).1)) tells x w I

        pub finish_failed : (fault : PartFault) → IsReturned see see.reads.told old.served.graph served.graph work said.reply (Broke fault) → Leads see old new said (Broken place fault)
        finish_failed fault B = leads_by (Broke fault) B (Broken place fault) (ap is_some B.told_so) (λ tells x w I. fault_shows (Broke fault) B tells x w I fault B.told_so)
            (λ tells x at line is I F. (there_then (Broke fault) B tells x at line is I, (name, part, h, line_says (Broke fault) B tells x at line is I, player tells x at.world I))) tells x w I

      -- whatever the line says, where the work only goes back
      module _ (back : Back) (B : IsReturned see see.reads.told old.served.graph served.graph work said.reply back) (tells : Bool) (x : Case) (w : World) (I : StandsIn see tells old x w) where
        pub back_stands : (v : World) × StandsIn see tells new x v × IsMade x said.act w v
        back_stands = (after back B tells x w I, standing_after back B tells x w I, made back B tells x w I)

        pub back_files : FilesGoOn see true old new
        back_files = files_fail see (is_some (B.done).fault) old new (files_after back B tells x w I (is_some (B.done).fault) refl)

  -- ---- a client object

  abbrev Clients : Type 0
  Clients = Vec (Option C) Global

  module _ (says : said.act ≡ lines.End name) where
    line_ends : (line : LogLine) → line.said ≡ said → (line.said).act ≡ lines.End name
    line_ends line is = ap (λ (s : ActText). s.act) is ∙ says

    pub end_nothing : (clients : Clients) → clients.items ≡ slice_set old.clients.items place None → slice_get old.clients.items place ≡ Some None → Leads see old (record old { clients = clients }) said (Stop NotOut)
    end_nothing clients e free =
        let same : clients.items ≡ old.clients.items = e ∙ unset old.clients.items place free in
        record {
          plan = refl;
          handles = refl;
          told = refl;
          order = refl;
          stands = λ tells x w I. (w, subst (λ l. IsStanding see tells old.served.graph old.plan old.handles.items old.works.items l x w) (sym same) I, inr (refl, inr (subst IsReturn (sym says) tt)));
          files = λ tells x w I. files_same see false old (record old { clients = clients }) (λ j. refl);
          shows = tt;
          line = λ tells x at line is I F. λ T.
              let there : IsThere x at (lines.End name) = subst (λ t. IsThere x at t) (line_ends line is) T in
              end_away see old.served.graph x at I.stands old.handles.items old.clients.items I.objects (ap (λ (s : Scene). s.handles) I.scene) name place part h (player tells x at.world I)
              (one_place x.scene (own tells x at.world I) place name part h (player tells x at.world I)) free there;
        }

    module _ (served : Served S (ComparingValue S) C) (clients : Clients) (e : clients.items ≡ slice_set old.clients.items place None) (client : C) (held : slice_get old.clients.items place ≡ Some (Some client))
        (moved : Moved see (asks.EndNote h client) replies.EndNote old.served.graph served.graph) (was_out : (k : Handle) → IsGone old.served.graph k → IsOut k (graphs.look_of old.served.graph))
        (out : (k : Handle) → IsGone served.graph k → IsOut k (graphs.look_of served.graph)) where
      abbrev then : Replay S C
      then = record old { served = served; clients = clients }

      module _ (tells : Bool) (x : Case) (w : World) (I : StandsIn see tells old x w) where
        abbrev ends : World
        ends = (stepped see old.served.graph served.graph old.plan old.handles.items old.works.items old.clients.items place h P.handle client held moved was_out out tells x w I).0

        standing_then : StandsIn see tells then x ends
        standing_then = subst (λ l. IsStanding see tells served.graph old.plan old.handles.items old.works.items l x ends) (sym e)
            (given_back see old.served.graph served.graph old.plan old.handles.items old.works.items old.clients.items place h P.handle client held moved was_out out tells x w I)

        ends_made : IsMade x said.act w ends
        ends_made = record {
          act = acts.EndNote h (see.progress client);
          reply = acts.Ended;
          says = subst (λ t. SaysAct x.scene t (acts.EndNote h (see.progress client))) (sym says) (place, part, h, player tells x w I, (see.progress client, refl));
          meets = met see old.served.graph served.graph old.plan old.handles.items old.works.items old.clients.items place h P.handle client held moved was_out out tells x w I;
          step = (stepped see old.served.graph served.graph old.plan old.handles.items old.works.items old.clients.items place h P.handle client held moved was_out out tells x w I).2;
        }

        pub end_stands : (v : World) × StandsIn see tells then x v × IsMade x said.act w v
        end_stands = (ends, standing_then, ends_made)

      pub end_files : FilesGoOn see false old then
      end_files = files_same see false old then (files_stay old.served.graph served.graph (asks.EndNote h client) replies.EndNote moved.objects refl old.works.items old.works.items refl)

      end_by : (passed : Passed) → has_failed passed ≡ false → ShowsIts see passed old then → ((tells : Bool) (x : Case) (at : Moment) (line : LogLine) → line.said ≡ said → StandsIn see tells old x at.world → AreFronts x.sinks at.world → IsPassed see tells then x at line passed) → Leads see old then said passed
      end_by passed whole shows k = record {
        plan = refl;
        handles = refl;
        told = refl;
        order = refl;
        stands = λ tells x w I. (ends tells x w I, standing_then tells x w I, inl (ends_made tells x w I));
        files = λ tells x w I. subst (λ (b : Bool). FilesGoOn see b old then) (sym whole) end_files;
        shows = shows;
        line = k;
      }

      there_at_end : (tells : Bool) (x : Case) (at : Moment) (line : LogLine) → line.said ≡ said → StandsIn see tells old x at.world → IsThere x at (line.said).act
      there_at_end tells x at line is I =
          let so = held_so see old.served.graph served.graph old.plan old.handles.items old.works.items old.clients.items place h P.handle client held moved was_out out tells x at.world I in
          subst (λ t. IsThere x at t) (sym (line_ends line is))
          (end_there see old.served.graph x at I.stands old.handles.items old.clients.items I.objects (ap (λ (s : Scene). s.handles) I.scene) name place part h (player tells x at.world I) (was_out h so.0.0))

      pub end_same : said.reply ≡ texts.Done → Leads see old then said On
      end_same q = end_by On refl tt (λ tells x at line is I F.
          let y = stepped see old.served.graph served.graph old.plan old.handles.items old.works.items old.clients.items place h P.handle client held moved was_out out tells x at.world I in
          let m = met see old.served.graph served.graph old.plan old.handles.items old.works.items old.clients.items place h P.handle client held moved was_out out tells x at.world I in (
            there_at_end tells x at line is I,
            (
              ends tells x at.world I,
              end_answered x at line name (line_ends line is) (ends tells x at.world I) h (see.progress client) place part (player tells x at.world I) m y.2 (ap (λ (s : ActText). s.reply) is ∙ q),
              standing_then tells x at.world I,
              given_fronts see old.served.graph served.graph old.plan old.handles.items old.works.items old.clients.items place h P.handle client held moved was_out out tells x at.world I F,
            ),
          ))

      pub end_other : (said.reply ≡ texts.Done → ⊥) → Leads see old then said (Stop OtherReply)
      end_other n = end_by (Stop OtherReply) refl tt (λ tells x at line is I F. (
        there_at_end tells x at line is I,
        end_unanswered x at line name (line_ends line is) (λ q. n (sym (ap (λ (s : ActText). s.reply) is) ∙ q)),
      ))

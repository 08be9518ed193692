-- A work or a client object that is held goes back, whatever a line says.
use Rattle.std.proofs.Common.{◌≡◌, ◌<◌, ◌+◌, inl, inr, arith, ℕ, true, false, List, [], ◌∷◌, ◌++◌, Option, Some, None, length, slice_get, slice_set, refl, sym, ◌∙◌, ap, subst, Bool}
use Rattle.std.proofs.lemmas.Bool.{cases_eq}
use Rattle.std.proofs.lemmas.Option.{slice_get_within}
use Rattle.std.specs.Prelude.{Vec}
use Rattle.std.specs.declared.alloc.Global.{Global}
use Rattle.omx_types.specs.declared.handle.Handle.{Handle}
use Rattle.il_machine.specs.Whole.{Stands}
use Rattle.il_machine.specs.World.{World}
use Rattle.machine_laws.proofs.Every.{set_else, set_there}
use Rattle.act_text.specs.declared.act.TextAct.{TextAct}
use Rattle.act_text.specs.declared.act.TextAct.TheVariants as lines
use Rattle.act_text.specs.declared.reply.TextReply.TheVariants as texts
use Rattle.act_text.specs.declared.text.ActText.{ActText}
use Rattle.script_lang.specs.declared.play_line.PartLine.{PartLine}
use Rattle.play_log.specs.Scenes.{IsPlayer}
use Rattle.audio_parts.specs.Shown.{ShownPart}
use Rattle.graph_core.specs.Clients.{IsOut}
use Rattle.il_flow.specs.Works.{WorkOf}
use Rattle.il_graph.specs.Shown.{TellWritten, kept}
use Rattle.il_graph.specs.Shown as graphs
use Rattle.compared_files.specs.Comparing.{ComparingValue}
use Rattle.graph_acts.specs.declared.act.Act.TheVariants as asks
use Rattle.graph_acts.specs.declared.act.Reply.TheVariants as replies
use Rattle.graph_acts.specs.declared.served.Served.{Served}
use Rattle.graph_acts.specs.Holding.{IsGone, IsGoneSo}
use Rattle.graph_acts.specs.Moving.{Moved}
use Rattle.graph_acts.specs.Plain.{Sight}
use Rattle.graph_acts.specs.Working.{IsWorkIn, out_of}
use Rattle.audit_acts.specs.Asking.{scene_in}
use Rattle.audit_forms.specs.Audited.{Case}
use Rattle.run_audit.specs.declared.replay.Replay.{Replay}
use Rattle.run_audit.specs.declared.returning.Back.{Back}
use Rattle.run_audit.specs.Files.{FilesGoOn, file_with}
use Rattle.run_audit.specs.Leading.{IsMade, IsReturn, StandsIn}
use Rattle.run_audit.specs.Replaying.{IsStanding}
use Rattle.run_audit.specs.Returning.{IsReturned}
use Rattle.run_audit.specs.Settling.{AreReturned, IsSettled}
use Rattle.run_audit.proofs.Brought.{KnowsCompared}
use Rattle.run_audit.proofs.Files.{files_fail, files_same}
use Rattle.run_audit.proofs.Heard.{there_at}
use Rattle.run_audit.proofs.LedBack.{back_files, back_stands, end_files, end_stands, unset}

-- ---- acts that lead on

pub settled_none : (x : Case) (w : World) → IsSettled x w w
settled_none x w = ([], refl)

settled_one : (x : Case) (said : TextAct) (w v : World) → IsReturn said → IsMade x said w v → IsSettled x w v
settled_one x said w v R M = (said ∷ [], (R, (v, M, refl)))

returned_then : (x : Case) (acts more : List TextAct) (w v u : World) → AreReturned x acts w v → AreReturned x more v u → AreReturned x (acts ++ more) w u
returned_then x [] more w v u A B = subst (λ (y : World). AreReturned x more y u) A B
returned_then x (said ∷ acts) more w v u A B = (A.0, ((A.1).0, (A.1).1, returned_then x acts more (A.1).0 v u (A.1).2 B))

pub settled_then : (x : Case) (w v u : World) → IsSettled x w v → IsSettled x v u → IsSettled x w u
settled_then x w v u A B = (A.0 ++ B.0, returned_then x A.0 B.0 w v u A.1 B.1)

-- ---- places without anything

-- one more is cleared
pub cleared_more : {X : Type 0} (xs ys : List (Option X)) (place : ℕ) → ys ≡ slice_set xs place None → place < length xs → ((k : ℕ) → k < place → slice_get xs k ≡ Some None) → (k : ℕ) → k < place + 1 → slice_get ys k ≡ Some None
cleared_more xs ys place e within before k l = elim (cases_eq k place) [
  | inl q ↦
      let was = there_at xs place within in
      ap (slice_get ys) q ∙ (ap (λ zs. slice_get zs place) e ∙ set_there xs place was.0 None was.1)
  | inr n ↦ ap (λ zs. slice_get zs k) e ∙ (set_else xs place k None n ∙ before k (omega (arith, l, n)))
]

-- ---- what is held

module _ {S C : Type 0} (see : Sight S (ComparingValue S) C) (old : Replay S C) where
  -- a work that is held is out of the graph
  pub work_out : (tells : Bool) (x : Case) (w : World) → StandsIn see tells old x w → (place : ℕ) (work : WorkOf (ShownPart S (ComparingValue S))) → slice_get old.works.items place ≡ Some (Some work)
      → (v : World) × Stands (kept see.progress old.served.graph) v × IsWorkIn v (out_of work)
  work_out tells x w I place work held = (w, I.stands, ((I.works_are).out place work held).1)

  -- a client object that is held may go back
  pub object_gone : (tells : Bool) (x : Case) (w : World) → StandsIn see tells old x w → (place : ℕ) (h : Handle) (client : C) → slice_get old.handles.items place ≡ Some h → slice_get old.clients.items place ≡ Some (Some client)
      → IsGoneSo old.served.graph (record { handle = h; progress = see.progress client })
  object_gone tells x w I place h client its held =
      let y = (I.objects).out place client held in
      let e : Some y.0 ≡ Some h = sym y.1 ∙ its in
      let same : y.0 ≡ h = cc in
      subst (λ (k : Handle). IsGoneSo old.served.graph (record { handle = k; progress = see.progress client })) same y.2.0

  -- the place of a component that has one
  pub held_place : (tells : Bool) (x : Case) (w : World) → StandsIn see tells old x w → (place : ℕ) (name : List ℕ) (part : PartLine) (h : Handle) → IsPlayer (scene_in (old.plan).parts old.handles.items) place name part h
      → (place < length old.works.items) × (place < length old.clients.items)
  held_place tells x w I place name part h P =
      let within = slice_get_within (old.plan).parts place part P.line in
      (subst (λ (n : ℕ). place < n) (sym I.many_works) within, subst (λ (n : ℕ). place < n) (sym I.many_clients) within)

  -- a place of a client object is one of a handle
  pub handle_there : (tells : Bool) (x : Case) (w : World) → StandsIn see tells old x w → (place : ℕ) → place < length old.clients.items → place < length old.handles.items
  handle_there tells x w I place within = subst (λ (n : ℕ). place < n) (I.many_clients ∙ sym I.many_handles) within

  -- the place of one of the components
  pub part_place : (tells : Bool) (x : Case) (w : World) → StandsIn see tells old x w → (parts : List PartLine) → parts ≡ (old.plan).parts → (place : ℕ) → place < length parts
      → (place < length old.works.items) × (place < length old.clients.items)
  part_place tells x w I parts e place within =
      let own = subst (λ (ps : List PartLine). place < length ps) e within in
      (subst (λ (n : ℕ). place < n) (sym I.many_works) own, subst (λ (n : ℕ). place < n) (sym I.many_clients) own)

  -- the component at a place
  its_part : (tells : Bool) (x : Case) (w : World) → StandsIn see tells old x w → (place : ℕ) → place < length (old.plan).parts
      → (part : PartLine) × (h : Handle) × IsPlayer (scene_in (old.plan).parts old.handles.items) place part.name part h
  its_part tells x w I place within =
      let p = there_at (old.plan).parts place within in
      let h = there_at old.handles.items place (subst (λ (n : ℕ). place < n) (sym I.many_handles) within) in
      (p.0, h.0, record { line = p.1; named = refl; handle = h.1 })

  -- ---- nothing is held there

  module _ (tells : Bool) (x : Case) (w : World) (I : StandsIn see tells old x w) where
    abbrev Works : Type 0
    Works = Vec (Option (WorkOf (ShownPart S (ComparingValue S)))) Global

    pub idle_work : (works : Works) (place : ℕ) → works.items ≡ slice_set old.works.items place None → slice_get old.works.items place ≡ Some None
        → (v : World) × StandsIn see tells (record old { works = works }) x v × IsSettled x w v
    idle_work works place e free =
        (w, subst (λ l. IsStanding see tells old.served.graph old.plan old.handles.items l old.clients.items x w) (sym (e ∙ unset old.works.items place free)) I, settled_none x w)

    pub idle_client : (clients : Vec (Option C) Global) (place : ℕ) → clients.items ≡ slice_set old.clients.items place None → slice_get old.clients.items place ≡ Some None
        → (v : World) × StandsIn see tells (record old { clients = clients }) x v × IsSettled x w v
    idle_client clients place e free =
        (w, subst (λ l. IsStanding see tells old.served.graph old.plan old.handles.items old.works.items l x w) (sym (e ∙ unset old.clients.items place free)) I, settled_none x w)

  pub idle_work_files : (works : Vec (Option (WorkOf (ShownPart S (ComparingValue S)))) Global) (place : ℕ) → works.items ≡ slice_set old.works.items place None → slice_get old.works.items place ≡ Some None
      → FilesGoOn see true old (record old { works = works })
  idle_work_files works place e free =
      files_same see true old (record old { works = works })
      (λ j. ap (λ (l : List (Option (WorkOf (ShownPart S (ComparingValue S))))). file_with (slice_get l j) (graphs.file_of j old.served.graph)) (e ∙ unset old.works.items place free))

  pub idle_client_files : (clients : Vec (Option C) Global) → FilesGoOn see true old (record old { clients = clients })
  idle_client_files clients = files_same see true old (record old { clients = clients }) (λ j. refl)

  -- ---- a work goes back

  module _ (Q : KnowsCompared see) (served : Served S (ComparingValue S) C) (works : Vec (Option (WorkOf (ShownPart S (ComparingValue S)))) Global) (place : ℕ) (e : works.items ≡ slice_set old.works.items place None)
      (work : WorkOf (ShownPart S (ComparingValue S))) (held : slice_get old.works.items place ≡ Some (Some work)) (out : (k : Handle) → IsGone served.graph k → IsOut k (graphs.look_of served.graph))
      (T : (w : World) → Stands (kept see.progress served.graph) w → TellWritten see.writes.told served.graph w) (back : Back) (B : IsReturned see see.reads.told old.served.graph served.graph work texts.Done back)
      (tells : Bool) (x : Case) (w : World) (I : StandsIn see tells old x w) where
    abbrev brought : Replay S C
    brought = record old { served = served; works = works }

    component : (part : PartLine) × (h : Handle) × IsPlayer (scene_in (old.plan).parts old.handles.items) place part.name part h
    component = its_part tells x w I place (subst (λ (n : ℕ). place < n) I.many_works (slice_get_within old.works.items place (Some work) held))

    -- the line that would say so
    abbrev said : ActText
    said = record { act = lines.Finish (component.0).name; reply = texts.Done }

    pub settled_work : (v : World) × StandsIn see tells brought x v × IsSettled x w v
    settled_work =
        let y = back_stands see old said (component.0).name place component.0 component.1 component.2 refl Q served works e work held out T back B tells x w I in
        (y.0, y.1, settled_one x (lines.Finish (component.0).name) w y.0 tt y.2)

    pub settled_work_files : FilesGoOn see true old brought
    settled_work_files = back_files see old said (component.0).name place component.0 component.1 component.2 refl Q served works e work held out T back B tells x w I

  -- ---- a client object goes back

  module _ (served : Served S (ComparingValue S) C) (clients : Vec (Option C) Global) (place : ℕ) (e : clients.items ≡ slice_set old.clients.items place None) (client : C)
      (held : slice_get old.clients.items place ≡ Some (Some client)) (h : Handle) (its : slice_get old.handles.items place ≡ Some h) (moved : Moved see (asks.EndNote h client) replies.EndNote old.served.graph served.graph)
      (was_out : (k : Handle) → IsGone old.served.graph k → IsOut k (graphs.look_of old.served.graph)) (out : (k : Handle) → IsGone served.graph k → IsOut k (graphs.look_of served.graph))
      (tells : Bool) (x : Case) (w : World) (I : StandsIn see tells old x w) where
    abbrev given : Replay S C
    given = record old { served = served; clients = clients }

    owner : (part : PartLine) × IsPlayer (scene_in (old.plan).parts old.handles.items) place part.name part h
    owner =
        let within = subst (λ (n : ℕ). place < n) I.many_clients (slice_get_within old.clients.items place (Some client) held) in
        let p = there_at (old.plan).parts place within in
        (p.0, record { line = p.1; named = refl; handle = its })

    abbrev ended : ActText
    ended = record { act = lines.End (owner.0).name; reply = texts.Done }

    pub settled_client : (v : World) × StandsIn see tells given x v × IsSettled x w v
    settled_client =
        let y = end_stands see old ended (owner.0).name place owner.0 h owner.1 refl served clients e client held moved was_out out tells x w I in
        (y.0, y.1, settled_one x (lines.End (owner.0).name) w y.0 tt y.2)

    pub settled_client_files : FilesGoOn see true old given
    settled_client_files = files_fail see false old given (end_files see old ended (owner.0).name place owner.0 h owner.1 refl served clients e client held moved was_out out)

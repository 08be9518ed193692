-- A replay that was opened stands where the play of its plan begins.
use Rattle.std.proofs.Common.{◌≡◌, ℕ, ◌+◌, ◌<◌, Bool, true, false, List, [], ◌∷◌, length, slice_get, take, Option, Some, None, IsSomeAnd, MatchOption, IsTrue, refl, sym, ◌∙◌, ap, subst, arith}
use Rattle.std.specs.List.{slice_index_or}
use Rattle.std.specs.Option.{option_and_then}
use Rattle.std.proofs.lemmas.List.{length-map}
use Rattle.std.proofs.lemmas.Option.{slice_get_within}
use Rattle.omx_types.specs.declared.handle.Handle.{Handle}
use Rattle.il_machine.specs.declared.answer.Progress.{Progress}
use Rattle.il_machine.specs.Files.{Offered}
use Rattle.il_machine.specs.Headers.{find_header}
use Rattle.il_machine.specs.Look.{look}
use Rattle.il_machine.specs.Whole.{Stands}
use Rattle.il_machine.specs.World.{Component, Stream, World, number_of, place_of, stream_of}
use Rattle.script_lang.specs.declared.play_line.PartForm.{PartForm}
use Rattle.script_lang.specs.declared.play_line.PartForm.TheVariants as forms
use Rattle.script_lang.specs.declared.play_line.PartLine.{PartLine}
use Rattle.audio_parts.specs.declared.part_file.PartFile.{PartFile}
use Rattle.play_build_laws.specs.Assembly.{Assembly}
use Rattle.play_build_laws.specs.Stages.{IsStage, Joining, file_by, stream_by}
use Rattle.play_build_laws.proofs.Places.{stream_found}
use Rattle.play_forms.specs.Plans.{PlanValue}
use Rattle.play_forms.specs.Parts.{kind_of, source_number}
use Rattle.play_plan_laws.specs.Assemblies.{PlayFiles, assembly_of, file_of as offered_file}
use Rattle.play_log.proofs.Players.{some_same}
use Rattle.play_result_laws.specs.Files.{written_by}
use Rattle.play_result_laws.proofs.OneLog.{opening_tells}
use Rattle.play_history_laws.proofs.PlanOpening.{plan_fresh}
use Rattle.graph_core.specs.Clients.{IsOut}
use Rattle.il_graph.specs.Shown.{file_of, kept}
use Rattle.il_graph.specs.Shown as graphs
use Rattle.compared_files.specs.Comparing.{ComparingValue}
use Rattle.graph_acts.specs.Holding.{IsGone}
use Rattle.graph_acts.specs.Plain.{Sight}
use Rattle.play_graph.specs.Ending.{AreFilesOf}
use Rattle.audit_acts.specs.Asking.{scene_in}
use Rattle.audit_forms.specs.Audited.{Case}
use Rattle.audit_forms.specs.Told.{HaveNumbers, nothing_told}
use Rattle.audit_forms.specs.Whole.{start_at}
use Rattle.audit_laws.proofs.Walking.{numbers}
use Rattle.run_audit.specs.declared.replay.Replay.{Replay}
use Rattle.run_audit.specs.Clientless.{HasNoClients}
use Rattle.run_audit.specs.Opening.{IsUnused, OpensWith}
use Rattle.run_audit.specs.Replayed.{AreGiven, case_from}
use Rattle.run_audit.specs.Replaying.{AreCompared, AreFronts, HoldsObjects, HoldsWorks, IsReplay}

pub never_out : (w : World) (h : Handle) → ((i : ℕ) (a : Component) → slice_get w.components i ≡ Some a → a.client_out ≡ false) → IsOut h (look w) → ⊥
never_out w h each O = by_place (place_of h w.components) O
  where
    at_place : (i : ℕ) (o : Option Component) → slice_get w.components i ≡ o → IsSomeAnd o (λ (c : Component). c.client_out ≡ true) → ⊥
    at_place i None e t = t
    at_place i (Some c) e t = let z : false ≡ true = sym (each i c e) ∙ t in absurd cc

    by_place : (o : Option ℕ) → IsSomeAnd (option_and_then (slice_get w.components) o) (λ (c : Component). c.client_out ≡ true) → ⊥
    by_place None t = t
    by_place (Some i) t = at_place i (slice_get w.components i) refl t

stream_component : (file : Option Offered) (k : ℕ) → (stream_by file k).component ≡ k
stream_component None k = refl
stream_component (Some file) k = refl

no_headers : (w : World) → w.headers ≡ [] → HasNoClients w
no_headers w e number r f = (let z : None ≡ Some r = ap (find_header number) (sym e) ∙ f in absurd cc)

nothing_many : (parts : List PartLine) → length (nothing_told parts) ≡ length parts
nothing_many [] = refl
nothing_many (part ∷ parts) = (let r = nothing_many parts in omega (arith, r))

-- the stream of a sink before the first line
sink_stream : (plan : PlanValue) (given : PlayFiles) (place : ℕ) (part : PartLine) (name : List ℕ) → slice_get plan.parts place ≡ Some part → written_by part.form ≡ Some name → given.known place ≡ Some []
    → (stream_by (file_by (assembly_of plan given) true place) place).known ≡ Some []
sink_stream plan given place part name e f k = rw e (by part.form f)
  where
    by : (form : PartForm) → written_by form ≡ Some name → (stream_by (offered_file (kind_of form) (slice_get given.heads (source_number plan.parts place)) (slice_index_or plan.frames place 0) (given.there place) (given.known place)) place).known ≡ Some []
    by (forms.Sink file) q = k
    by (forms.Source file) q = absurd cc
    by (forms.Late file) q = absurd cc
    by forms.Decoder q = absurd cc
    by forms.Alaw q = absurd cc
    by forms.Mulaw q = absurd cc
    by (forms.Gain gain) q = absurd cc
    by (forms.Mixer weights) q = absurd cc
    by (forms.Splitter outputs) q = absurd cc

nothing_written : (file : Option Offered) (k : ℕ) → (stream_by file k).written ≡ []
nothing_written None k = refl
nothing_written (Some file) k = refl

module _ {S : Type 0} (see : Sight S (ComparingValue S) Progress) (r : Replay S Progress) (U : IsUnused r) (given : PlayFiles) (P : OpensWith r given) (stands : Stands (kept see.progress r.served.graph) P.opening)
    (out : (h : Handle) → IsGone r.served.graph h → IsOut h (graphs.look_of r.served.graph)) (tells : Bool) (sinks : ℕ → Option (List ℕ)) (offered_by : PartFile S (ComparingValue S) → Offered)
    (entries : List (Option (PartFile S (ComparingValue S)))) (A : AreGiven tells see.reads.told offered_by r.plan given sinks entries) (back : AreFilesOf r.served.graph (length (r.plan).parts) entries) where
  abbrev plan : PlanValue
  plan = r.plan

  abbrev w : World
  w = P.opening

  abbrev x : Case
  x = case_from plan w sinks

  stage : IsStage (assembly_of plan given) (Joining (length plan.joints)) (P.opens).0 w
  stage = (P.opens).1

  scene_is : x.scene ≡ scene_in plan.parts r.handles.items
  scene_is = ap (λ (hs : List Handle). scene_in plan.parts hs) (sym P.handles)

  many_handles : length r.handles.items ≡ length plan.parts
  many_handles = ap length P.handles ∙ (length-map w.components (λ (c : Component). c.handle) ∙ (stage.built).many)

  none_at : {X : Type 0} (things : List (Option X)) → length things ≡ length plan.parts → ((place : ℕ) → place < length plan.parts → slice_get things place ≡ Some None) → (place : ℕ) (thing : X) → slice_get things place ≡ Some (Some thing) → ⊥
  none_at things m none place thing e =
      let b = slice_get_within things place (Some thing) e in
      let z : Some None ≡ Some (Some thing) = sym (none place (omega (arith, b, m))) ∙ e in
      cc

  holds_works : HoldsWorks r.handles.items r.works.items w
  holds_works = record {
    out = λ place work e. absurd (none_at r.works.items U.works_many U.works place work e);
    all = λ place h e t. absurd (let z : false ≡ true = sym ((plan_fresh plan given (P.opens).0 w stage).free h.generation) ∙ t in cc);
  }

  all_in : (h : Handle) → IsGone r.served.graph h → ⊥
  all_in h gone = never_out w h (λ i a f. ap (λ (y : Component). y.client_out) (((stage.built).components).each i a f).fresh_else) (subst (IsOut h) (sym stands.looks) (out h gone))

  holds_objects : HoldsObjects see r.handles.items r.clients.items r.served.graph w
  holds_objects = record {
    out = λ place client e. absurd (none_at r.clients.items U.clients_many U.clients place client e);
    all = λ place h e gone. absurd (all_in h gone);
  }

  compared : IsTrue tells → AreCompared see.reads.told sinks r.works.items r.served.graph
  compared t = record {
    inside = λ place e.
        (let b = slice_get_within r.works.items place None e in
        let m = U.works_many in
        A.compared t place (file_of place r.served.graph) (back place (omega (arith, b, m))));
    outside = λ place work e. absurd (none_at r.works.items U.works_many U.works place work e);
  }

  stream_there : (place : ℕ) → place < length plan.parts → stream_of place w ≡ Some (stream_by (file_by (assembly_of plan given) true place) place)
  stream_there place b =
      let s : Assembly = assembly_of plan given in
      let V = stage.built in
      let m = V.many in
      let many : length w.streams ≡ length plan.parts = sym (length-map w.streams (λ (y : Stream). y.component)) ∙ (ap length (stage.sound).streams ∙ (length-map w.components number_of ∙ m)) in
      let found = stream_found w.streams 0 place (λ k st f.
      let l = slice_get_within w.streams k st f in
      let is : stream_by (file_by s true k) k ≡ st = some_same (stream_by (file_by s true k) k) st (sym (V.streams k (omega (arith, l, many))) ∙ f) in
      sym (ap (λ (y : Stream). y.component) is) ∙ (stream_component (file_by s true k) k ∙ (let o : k ≡ 0 + k = omega arith in o)))
      in
      ap (λ (n : ℕ). stream_of n w) (let o : place ≡ 0 + place = omega arith in o) ∙ (found ∙ V.streams place b)

  fronts : AreFronts sinks w
  fronts place text e =
      let W = A.sinks place text e in
      let part = (W.1).0 in
      let there = (W.1).1 in
      let s : Stream = stream_by (file_by (assembly_of plan given) true place) place in
      let known : s.known ≡ Some [] = sink_stream plan given place part W.0 there (W.1).2 (A.empty place text e) in
      let written : s.written ≡ [] = nothing_written (file_by (assembly_of plan given) true place) place in
      subst (λ (o : Option Stream). MatchOption o ⊥ (λ st. (st.known ≡ Some []) × (take (length st.written) text ≡ st.written))) (sym (stream_there place (slice_get_within plan.parts place part there)))
      (known, ap (λ (bytes : List ℕ). take (length bytes) text) written ∙ sym written)

  pub begins : IsReplay see tells r x (start_at plan w)
  begins = record {
    standing = record {
      plan_is = refl;
      scene = scene_is;
      own = A.own;
      numbers = subst HaveNumbers scene_is (numbers plan given (P.opens).0 w A.ready stage A.own);
      many_handles = many_handles;
      many_works = U.works_many;
      many_clients = U.clients_many;
      stands = stands;
      sound = stage.sound;
      telling = λ t. (let k = A.told_are t in opening_tells k.0 plan given k.1 w k.2 P.opens);
      clientless = no_headers w (stage.built).headers;
      works_are = holds_works;
      objects = holds_objects;
      sinks = compared;
      untold = A.untold;
    };
    written = fronts;
    few = ((A.ready).valid).most;
    many_told = nothing_many plan.parts;
    told = U.told;
    order = U.order;
  }

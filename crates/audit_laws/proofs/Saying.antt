-- A log with a yes is cut into lines that come next, and their run ends a whole play.
use Rattle.std.proofs.Common.{◌≡◌, inl, inr, ℕ, ◌+◌, ◌-◌, ◌≤◌, Bool, true, false, List, [], ◌∷◌, ◌++◌, All, codes, drop, length, Option, Some, None, option_and_then, refl, sym, ◌∙◌, ap, subst, arith}
use Rattle.std.specs.Prelude.{MatchOption, flat_map}
use Rattle.std.specs.Str.{bytes_eq}
use Rattle.std.proofs.lemmas.Bool.{cases_lt}
use Rattle.std.proofs.lemmas.List.{length-drop}
use Rattle.std.proofs.lemmas.List.Elements.{All-cons, All-nil}
use Rattle.std.proofs.lemmas.Slice.Eq.{bytes_eq-Decides}
use Rattle.omx_types.specs.declared.handle.Handle.{Handle}
use Rattle.outside_io.specs.Files.{Outside}
use Rattle.il_machine.specs.declared.answer.Progress.{Progress}
use Rattle.il_machine.specs.Acts.{Act, Reply}
use Rattle.il_machine.specs.Run.{Run}
use Rattle.il_machine.specs.World.{Component, Stream, World, stream_of}
use Rattle.machine_laws.proofs.Every.{at_place, from_places}
use Rattle.script_lang.specs.declared.play_line.PartLine.{PartLine}
use Rattle.play_build_laws.specs.Stages.{IsStage, Joining}
use Rattle.play_forms.specs.Plain.{sink_text}
use Rattle.play_forms.specs.Plans.{PlanValue}
use Rattle.play_plan_laws.specs.Assemblies.{IsReady, PlayFiles, assembly_of}
use Rattle.play_log.specs.Entries.{Entry, steps_of}
use Rattle.play_log.specs.Lines.{IsLogLine, LogLine}
use Rattle.play_log.specs.Naming.{NameAll}
use Rattle.play_log.specs.Scenes.{HaveOwnNames, Scene, scene_of}
use Rattle.play_log.proofs.Names.{run_of_names}
use Rattle.play_result_laws.specs.Asked.{acts_of, askings, tuned}
use Rattle.play_result_laws.specs.Files.{AreFiles, AreSamples, IsWriter}
use Rattle.play_result_laws.specs.Results.{IsPlanIn}
use Rattle.play_result_laws.proofs.OwnNames.{own_names}
use Rattle.play_history_laws.specs.Order.{Cursor}
use Rattle.play_history_laws.specs.Askings.{IsPlanHistory}
use Rattle.play_history_laws.specs.Requests.{AreRequested, requests}
use Rattle.play_history_laws.proofs.Askings.{link_is, many}
use Rattle.play_history_laws.proofs.RequestedEnds.{all_rest, played_out}
use Rattle.play_history_laws.proofs.Files.{requested_whole}
use Rattle.play_result_laws.proofs.ListFronts.{times}
use Rattle.play_history_laws.proofs.Ordered.{history_ordered}
use Rattle.play_history_laws.proofs.Places as places
use Rattle.audit_lines.specs.Lines.{IsOfPlay, pieces_of, texts_from}
use Rattle.audit_lines.proofs.Cut.{log_whole}
use Rattle.audit_order.specs.Steps.{OrderValue, nothing_asked}
use Rattle.audit_forms.specs.Audited.{AtEnd, AtLine, AtPiece, Audits, Case, IsEnd, IsResting, Moment, Yes}
use Rattle.audit_forms.specs.Told.{nothing_told, told_more}
use Rattle.audit_forms.specs.Whole.{IsAudited, case_of, file_by}
use Rattle.audit_laws.specs.Admitted.{AdmitsFrom}
use Rattle.audit_laws.specs.Played.{IsPlayedBy}
use Rattle.audit_laws.proofs.Walking.{requested}

-- ---- the lines

-- The pieces are the texts of these lines, and `end`; they name these entries, and lead to the end.
record IsCut (x : Case) (number : ℕ) (mid : World) (told : List Progress) (order : OrderValue) (pieces : List (List ℕ)) (acts : ℕ) : Type 0 where
  lines : List LogLine
  entries : List Entry
  ending : World
  heard : List Progress
  last : OrderValue
  canonical : All IsLogLine lines
  pieces_are : pieces ≡ texts_from number lines ++ codes "end" ∷ []
  names : NameAll x.scene mid lines entries ending
  admits : AdmitsFrom x.plan told order lines last
  ends : IsEnd x (record { world = ending; told = heard; order = last })
  many : acts + 1 ≡ length lines + number

number_of_yes : (a b : ℕ) → Yes a ≡ Yes b → a ≡ b
number_of_yes a b e = cc

cut_end : (x : Case) (number : ℕ) (mid : World) (told : List Progress) (order : OrderValue) (piece : List ℕ) (pieces : List (List ℕ)) (acts : ℕ) → 1 ≤ number → bytes_eq piece (codes "end") ≡ true
    → AtEnd x number (record { world = mid; told = told; order = order }) pieces (Yes acts) → IsCut x number mid told order (piece ∷ pieces) acts
cut_end x number mid told order piece [] acts some t (inl E) =
    let many_acts = number_of_yes acts (number - 1) E.1 in
    record {
      lines = [];
      entries = [];
      ending = mid;
      heard = told;
      last = order;
      canonical = All-nil IsLogLine;
      pieces_are = ap (λ (p : List ℕ). p ∷ []) ((bytes_eq-Decides piece (codes "end")).0 t);
      names = refl;
      admits = refl;
      ends = E.0;
      many = omega (arith, many_acts, some);
    }
cut_end x number mid told order piece [] acts some t (inr E) = (let e = E.1 in absurd cc)
cut_end x number mid told order piece (other ∷ pieces) acts some t e = absurd cc

cut_line : (x : Case) (number : ℕ) (mid : World) (told : List Progress) (order : OrderValue) (piece : List ℕ) (pieces : List (List ℕ)) (acts : ℕ) (G : Moment → Type 0) (line : LogLine) → IsOfPlay number piece line
    → ((next : OrderValue) (v : World) → G (record { world = v; told = told_more line.said (x.plan).parts told; order = next }) → IsCut x (number + 1) v (told_more line.said (x.plan).parts told) next pieces acts)
    → AtLine x number (record { world = mid; told = told; order = order }) line (Yes acts) G → IsCut x number mid told order (piece ∷ pieces) acts
cut_line x number mid told order piece pieces acts G line I go (inl a) = (let e = a.1 in absurd cc)
cut_line x number mid told order piece pieces acts G line I go (inr (next, comes, inl a)) = (let e = a.1 in absurd cc)
cut_line x number mid told order piece pieces acts G line I go (inr (next, comes, inr (there, inl a))) = (let e = a.1 in absurd cc)
cut_line x number mid told order piece pieces acts G line I go (inr (next, comes, inr (there, inr (v, A, inl a)))) = (let e = a.1 in absurd cc)
cut_line x number mid told order piece pieces acts G line I go (inr (next, comes, inr (there, inr (v, A, inr (written, g))))) =
    let C = go next v g in
    let entry : Entry = record { pass = line.pass; act = (A.entry).act; reply = (A.entry).reply } in
    let m = C.many in
    record {
      lines = line ∷ C.lines;
      entries = entry ∷ C.entries;
      ending = C.ending;
      heard = C.heard;
      last = C.last;
      canonical = All-cons IsLogLine line C.lines I.canonical C.canonical;
      pieces_are = (let is = I.whole in let rest = C.pieces_are in λ j. is j ∷ rest j);
      names = (record { says = record { pass = refl; act = A.act; reply = A.reply }; meets = A.meets; unbroken = A.unbroken }, (v, A.step, C.names));
      admits = (next, comes, C.admits);
      ends = C.ends;
      many = omega (arith, m);
    }

cut_piece : (last : Bool) (x : Case) (number : ℕ) (mid : World) (told : List Progress) (order : OrderValue) (piece : List ℕ) (pieces : List (List ℕ)) (acts : ℕ) (G : Moment → Type 0) → 1 ≤ number
    → bytes_eq piece (codes "end") ≡ last
    → ((t : List Progress) (next : OrderValue) (v : World) → G (record { world = v; told = t; order = next }) → IsCut x (number + 1) v t next pieces acts)
    → AtPiece last x number (record { world = mid; told = told; order = order }) piece pieces (Yes acts) G → IsCut x number mid told order (piece ∷ pieces) acts
cut_piece true x number mid told order piece pieces acts G some e go a = cut_end x number mid told order piece pieces acts some e a
cut_piece false x number mid told order piece pieces acts G some e go (inl a) = (let f = a.1 in absurd cc)
cut_piece false x number mid told order piece pieces acts G some e go (inr a) =
    cut_line x number mid told order piece pieces acts G a.0 a.1 (λ next v g. go (told_more (a.0).said (x.plan).parts told) next v g) a.2

yes_cut : (x : Case) (number : ℕ) (mid : World) (told : List Progress) (order : OrderValue) (pieces : List (List ℕ)) (acts : ℕ) → 1 ≤ number
    → Audits x number (record { world = mid; told = told; order = order }) pieces (Yes acts) → IsCut x number mid told order pieces acts
yes_cut x number mid told order [] acts some a = absurd cc
yes_cut x number mid told order (piece ∷ pieces) acts some a =
    cut_piece (bytes_eq piece (codes "end")) x number mid told order piece pieces acts (λ next. Audits x (number + 1) next pieces (Yes acts)) some refl
    (λ t next v g. yes_cut x (number + 1) v t next pieces acts (omega (arith, some)) g) a

pub named_many : (s : Scene) (w v : World) (lines : List LogLine) (entries : List Entry) → NameAll s w lines entries v → length entries ≡ length lines
named_many s w v [] [] N = refl
named_many s w v [] (entry ∷ entries) N = absurd N
named_many s w v (line ∷ lines) [] N = absurd N
named_many s w v (line ∷ lines) (entry ∷ entries) (now, (next, step, rest)) = let e = named_many s next v lines entries rest in omega (arith, e)

-- ---- all was requested

none_behind : (xs ys : List (Act × Reply)) → xs ++ ys ≡ [] → ys ≡ []
none_behind [] ys e = e
none_behind (x ∷ xs) ys e = absurd cc

-- without a component nothing is asked
module _ (plan : PlanValue) (files : PlayFiles) (handles : List Handle) (w : World) (steps : List (Act × Reply)) (k : Cursor) (v : World) (G : IsPlanHistory plan files handles w steps k v) (none : length plan.parts ≡ 0) where
  no_links : (links : List ℕ) (left : List (Act × Reply)) → AreRequested (tuned plan files) handles links left steps → (ls : List ℕ) → links ≡ ls → ls ≡ []
  no_links links left R [] e = refl
  no_links links left R (l ∷ ls) e =
      let once = places.once_more plan files handles links l [] ls in
      let same = ap (λ (t : List ℕ). times l t) e in
      let O = places.late_of plan files handles links R.late l (omega (arith, same, once)) in
      let g = (link_is plan files handles w steps k v G l O.0).giver_below in
      absurd (omega (arith, g, none))

  no_handles : (hs : List Handle) → handles ≡ hs → hs ≡ []
  no_handles [] e = refl
  no_handles (h ∷ hs) e = let m = many plan files handles w steps k v G in let z = ap (λ (t : List Handle). length t) e in absurd (omega (arith, m, z, none))

  pub nothing_left : (links : List ℕ) (left : List (Act × Reply)) → AreRequested (tuned plan files) handles links left steps → left ≡ []
  nothing_left links left R =
      let e = no_links links left R links refl in
      let h = no_handles handles refl in
      none_behind (requests steps) left
      (R.made ∙ ((λ j. flat_map (acts_of (tuned plan files) (h j)) (askings (e j)))))

-- ---- the files

-- the samples that are told of files are those of what these tell
pub samples_told : (outside : Outside) (plan : PlanValue) (files : PlayFiles) (samples : List (List ℕ)) → AreFiles outside plan.parts files samples → AreSamples plan files samples
samples_told outside plan files samples A = record {
  many = A.all;
  sources = λ place name r.
      (let R = A.sources place name r in
      record {
        head = R.head;
        known = drop (R.head).start R.bytes;
        head_is = R.head_is;
        known_is = R.known;
        there = R.there ∙ sym (length-drop (R.head).start R.bytes);
        samples_are = R.samples_are;
      });
  sinks = A.sinks;
}

told_sink : (outside : Outside) (plan : PlanValue) (opening : World) (place : ℕ) (name text : List ℕ) → IsWriter plan.parts place name → outside.file name ≡ Some text → (case_of outside plan opening).sinks place ≡ Some text
told_sink outside plan opening place name text I e =
    ap (λ (o : Option PartLine). file_by outside o) I.1 ∙ (ap (λ (o : Option (List ℕ)). option_and_then (λ (n : List ℕ). outside.file n) o) I.2 ∙ e)

one_written : (o : Option Stream) (a b : List ℕ) → MatchOption o ⊥ (λ s. s.written ≡ a) → MatchOption o ⊥ (λ s. s.written ≡ b) → a ≡ b
one_written None a b e f = absurd e
one_written (Some s) a b e f = sym e ∙ f

-- ---- a yes

played_by : (script log text : List ℕ) (outside : Outside) (plan : PlanValue) (files : PlayFiles) (samples : List (List ℕ)) (acts : ℕ) → IsPlanIn script log outside plan files samples → IsReady plan files
    → ((place : ℕ) (name : List ℕ) → IsWriter plan.parts place name → (told : List ℕ) × (outside.file name ≡ Some told))
    → (handles : List Handle) (w : World) → IsStage (assembly_of plan files) (Joining (length plan.joints)) handles w
    → IsCut (case_of outside plan w) 1 w (nothing_told plan.parts) nothing_asked (pieces_of text) acts → IsPlayedBy plan files samples outside text acts
played_by script log text outside plan files samples acts P ready told handles w stage C =
    let own : HaveOwnNames plan.parts = subst HaveOwnNames (sym (P.fitted).parts) (own_names script log P.text P.read P.planned P.is_script P.is_plan) in
    let steps : List (Act × Reply) = steps_of C.entries in
    let v : World = C.ending in
    let E = C.ends in
    let Q = requested plan files handles w ready stage own C.lines C.entries v C.last C.names C.admits in
    let O = history_ordered plan files handles w steps Q.0 v Q.1 in
    let none : O.left ≡ [] = elim (cases_lt 0 (length plan.parts)) [
      | inl some ↦ (let S = Q.2 E.complete (omega (arith, some)) in O.whole S.0 S.1)
      | inr z ↦ nothing_left plan files handles w steps Q.0 v Q.1 (omega (arith, z)) O.links O.left O.are
    ] in
    let R : AreRequested (tuned plan files) handles O.links [] steps = subst (λ (left : List (Act × Reply)). AreRequested (tuned plan files) handles O.links left steps) none O.are in
    let run : Run w steps v = run_of_names (scene_of plan.parts w) w C.lines C.entries v C.names in
    let F = samples_told outside plan files samples P.files_are in
    let loaded = all_rest plan files ready handles w stage O.links steps R v run (λ place c e. (let T = at_place IsResting v.components place c E.resting e in record { loaded = T.state; told = T.told })) in
    let played = played_out plan files ready handles w stage O.links steps R v run loaded
    (from_places (λ (c : Component). c.client_out ≡ false) v.components (λ place c e. (at_place IsResting v.components place c E.resting e).client)) in
    let m = named_many (scene_of plan.parts w) w v C.lines C.entries C.names in
    let n = C.many in
    record {
      opening = w;
      ending = v;
      entries = C.entries;
      links = O.links;
      opens = (handles, stage);
      names = record { lines = C.lines; has_lines = log_whole text C.lines C.canonical C.pieces_are; name = C.names };
      many = omega (arith, m, n);
      requested = subst (λ (hs : List Handle). AreRequested (tuned plan files) hs O.links [] steps) (sym (stage.built).handles_are) R;
      ends = record { played = played; sinks = λ place name text I e. E.sinks place text (told_sink outside plan w place name text I e) };
      sinks = λ place name I.
          (let t = told place name I in
          let a = E.sinks place t.0 (told_sink outside plan w place name t.0 I t.1) in
          let b = requested_whole plan files ready handles w stage O.links [] steps R v run samples F refl place name I in
          t.1 ∙ ap (λ (ys : List ℕ). Some ys) (one_written (stream_of place v) t.0 (sink_text plan samples place) a b));
    }

pub yes_plays : (script log : List ℕ) (outside : Outside) (acts : ℕ) (A : IsAudited script log outside (Yes acts)) → IsPlayedBy A.plan A.files A.samples outside A.text acts
yes_plays script log outside acts A =
    let V = A.verdict_is in
    let S = V.opens in
    played_by script log A.text outside A.plan A.files A.samples acts A.is A.ready A.sinks S.0 V.opening S.1
    (yes_cut (case_of outside A.plan V.opening) 1 V.opening (nothing_told (A.plan).parts) nothing_asked (pieces_of A.text) acts (omega arith) V.audits)

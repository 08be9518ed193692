-- The log of a whole play, whose files are told, gets a yes.
use Rattle.std.proofs.Common.{◌≡◌, inl, inr, ℕ, zero, suc, ◌+◌, ◌-◌, ◌^◌, ◌<◌, ◌≤◌, Bool, true, false, List, [], ◌∷◌, ◌++◌, codes, length, take, slice_get, Option, Some, None, option_and_then, refl, sym, ◌∙◌, ap, subst, length-append, arith}
use Rattle.std.specs.Prelude.{MatchOption}
use Rattle.std.specs.Fmt.{decimal}
use Rattle.std.specs.Str.{bytes_eq}
use Rattle.std.proofs.lemmas.List.{length-take-le}
use Rattle.std.proofs.lemmas.List.Elements.{All-nil}
use Rattle.std.proofs.lemmas.Slice.Eq.{bytes_eq-Decides}
use Rattle.omx_types.specs.declared.handle.Handle.{Handle}
use Rattle.outside_io.specs.Files.{Outside}
use Rattle.il_machine.specs.declared.answer.Progress.{Progress}
use Rattle.il_machine.specs.Acts.{Act, Reply}
use Rattle.il_machine.specs.Acts as acts
use Rattle.il_machine.specs.Answers.{component_named}
use Rattle.il_machine.specs.Components.{progress_of}
use Rattle.il_machine.specs.Run.{Meets, Run}
use Rattle.il_machine.specs.Stepping.{IsDoneOf, IsFrontOf, WorkDone}
use Rattle.il_machine.specs.World.{Component, Stream, Work, World, component_numbered, is_at, stream_of}
use Rattle.il_machine.proofs.Places.{is_first_place, passes_at as standing_at}
use Rattle.history_laws.proofs.Naming.{handle_is}
use Rattle.machine_laws.proofs.Every.{at_place, from_places}
use Rattle.machine_laws.proofs.Finding.{either}
use Rattle.act_text.specs.declared.act.TextAct.{TextAct}
use Rattle.act_text.specs.declared.act.TextAct.TheVariants as lines
use Rattle.act_text.specs.Texts.{act_text}
use Rattle.script_lang.specs.declared.play_line.PartLine.{PartLine}
use Rattle.play_build_laws.specs.Dismantling.{IsResting as IsIdling}
use Rattle.play_build_laws.specs.Stages.{IsStage, Joining}
use Rattle.play_forms.specs.Plain.{sink_text}
use Rattle.play_forms.specs.Plans.{PlanValue}
use Rattle.play_world_laws.proofs.Ends.{place_there}
use Rattle.play_plan_laws.specs.Assemblies.{IsReady, PlayFiles, assembly_of}
use Rattle.play_plan_laws.specs.Endings.{IsAtEnd}
use Rattle.play_log.specs.Entries.{Entry, is_unprinted, printed, step_of, steps_of}
use Rattle.play_log.specs.Lines.{HasLines, IsLogLine, LogLine, is_left_out, line_text, lines_from, lines_of}
use Rattle.play_log.specs.Logged.{AllSay, AreLinesOf}
use Rattle.play_log.specs.Naming.{NameAll}
use Rattle.play_log.specs.Saying.{SaysAct, Says}
use Rattle.play_log.specs.Scenes.{HaveOwnNames, Scene, scene_of}
use Rattle.play_log.proofs.Names.{run_of_names}
use Rattle.play_log.proofs.Players.{some_same}
use Rattle.play_log.proofs.Shown.{one_more}
use Rattle.play_log.proofs.TextLines.{one_list}
use Rattle.play_result_laws.specs.Asked.{IsConducted, is_asked, tuned}
use Rattle.play_result_laws.specs.Files.{AreSamples, IsWriter, written_by}
use Rattle.play_result_laws.specs.Passes.{IsPassOf}
use Rattle.play_result_laws.specs.Results.{HoldSinks, IsLogOf, IsPlanIn}
use Rattle.play_result_laws.proofs.OwnNames.{own_names}
use Rattle.play_history_laws.proofs.Askings.{named_now}
use Rattle.play_history_laws.proofs.Files.{requested_fronts}
use Rattle.play_history_laws.proofs.Ordered.{history_ordered}
use Rattle.audit_lines.specs.Lines.{IsOfPlay, text_of_line, texts_from}
use Rattle.audit_lines.proofs.Cut.{log_cut}
use Rattle.audit_lines.proofs.Short.{line_taken}
use Rattle.audit_order.specs.Steps.{OrderValue, nothing_asked as nothing_sent}
use Rattle.audit_forms.specs.Audited.{AtPiece, Audits, Case, ComesNext, IsEnd, IsResting, IsThere, IsWrittenIn, Yes}
use Rattle.audit_forms.specs.Told.{nothing_told, told_after, told_more}
use Rattle.audit_forms.specs.Whole.{IsAudited, case_of, file_by}
use Rattle.audit_laws.specs.Admitted.{AdmitsFrom}
use Rattle.audit_laws.proofs.Following.{sound_there}
use Rattle.audit_laws.proofs.Saying.{named_many, samples_told}
use Rattle.audit_laws.proofs.Walking.{IsGone, admitted, begun, history, one_on, told_on}

-- ---- the entries of a log have lines

abbrev AllPrinted : List Entry → Type 0
AllPrinted [] = Unit {0}
AllPrinted (entry ∷ entries) = (is_unprinted entry.reply ≡ false) × AllPrinted entries

few_printed : (entries : List Entry) → length (printed entries) ≤ length entries
few_printed [] = omega arith
few_printed (entry ∷ entries) = let r = few_printed entries in either (is_unprinted entry.reply)
    (λ t. let e : printed (entry ∷ entries) ≡ printed entries = rw t refl in let n = ap length e in omega (arith, n, r))
    (λ f. let e : printed (entry ∷ entries) ≡ entry ∷ printed entries = rw f refl in let n = ap length e in omega (arith, n, r))

all_printed : (entries : List Entry) → length (printed entries) ≡ length entries → AllPrinted entries
all_printed [] e = tt
all_printed (entry ∷ entries) e = either (is_unprinted entry.reply)
    (λ t. let g : printed (entry ∷ entries) ≡ printed entries = rw t refl in let n = ap length g in let few = few_printed entries in absurd (omega (arith, n, few, e)))
    (λ f. let g : printed (entry ∷ entries) ≡ entry ∷ printed entries = rw f refl in let n = ap length g in (f, all_printed entries (omega (arith, n, e))))

said_many : (s : Scene) (rows : List LogLine) (entries : List Entry) → AllSay s rows entries → length rows ≡ length entries
said_many s [] [] A = refl
said_many s [] (entry ∷ entries) A = absurd A
said_many s (row ∷ rows) [] A = absurd A
said_many s (row ∷ rows) (entry ∷ entries) A = let r = said_many s rows entries A.1 in omega (arith, r)

-- so its reply is one that a log has
kept_reply : (s : Scene) (line : LogLine) (entry : Entry) → IsLogLine line → Says s line entry → is_unprinted entry.reply ≡ false → is_left_out (line.said).reply ≡ false
kept_reply s line entry L x p = either (is_left_out (line.said).reply)
    (λ t.
    let none : AreLinesOf s [] [] = record { canonical = All-nil IsLogLine; say = tt } in
    let A = one_more s [] [] line entry none L x p in
    let e : lines_of line.pass line.said ≡ [] = rw t refl in
    let g : printed (entry ∷ []) ≡ entry ∷ [] = rw p refl in
    absurd (subst (λ (es : List Entry). AllSay s [] es) g (subst (λ (ls : List LogLine). AllSay s ls (printed (entry ∷ []))) e A.say)))
    (λ f. f)

-- ---- a line's text isn't `end`

no_blank : (xs rest : List ℕ) → xs ++ 32 ∷ rest ≡ codes "end" → ⊥
no_blank [] rest e = (let z : ◌≡◌ {A = ℕ} 32 101 = cc in omega (arith, z))
no_blank (a ∷ []) rest e = (let z : ◌≡◌ {A = ℕ} 32 110 = cc in omega (arith, z))
no_blank (a ∷ b ∷ []) rest e = (let z : ◌≡◌ {A = ℕ} 32 100 = cc in omega (arith, z))
no_blank (a ∷ b ∷ d ∷ xs) rest e =
    let n = ap length e in
    let m = length-append (a ∷ b ∷ d ∷ xs) (32 ∷ rest) in
    omega (arith, n, m)

not_end : (number : ℕ) (line : LogLine) → bytes_eq (text_of_line number line) (codes "end") ≡ false
not_end number line = either (bytes_eq (text_of_line number line) (codes "end"))
    (λ t. absurd (no_blank (decimal number) (decimal line.pass ++ (32 ∷ act_text line.said)) ((bytes_eq-Decides (text_of_line number line) (codes "end")).0 t)))
    (λ f. f)

-- each line has a byte
lines_long : (number : ℕ) (rows : List LogLine) → length rows ≤ length (lines_from number rows)
lines_long number [] = omega arith
lines_long number (row ∷ rows) =
    let r = lines_long (number + 1) rows in
    let front : List ℕ = decimal number ++ codes " " ++ decimal row.pass ++ codes " " ++ act_text row.said in
    let a : length (lines_from number (row ∷ rows)) ≡ length (line_text number row) + length (lines_from (number + 1) rows) = length-append (line_text number row) (lines_from (number + 1) rows) in
    let b : length (line_text number row) ≡ length front + 1 = length-append front (codes "\n") in
    omega (arith, r, a, b)

few_lines : (text : List ℕ) (rows : List LogLine) → length text < 2 ^ 64 → HasLines text rows → length rows + 1 < 2 ^ 64
few_lines text rows fits H = elim H.whole [
  | inl e ↦ (let n : length text ≡ length (lines_from 1 rows ++ codes "end\n") = ap length e in let a : length (lines_from 1 rows ++ codes "end\n") ≡ length (lines_from 1 rows) + 4 = length-append (lines_from 1 rows) (codes "end\n") in let b = lines_long 1 rows in omega (arith, fits, n, a, b))
  | inr e ↦ (let n : length text ≡ length (lines_from 1 rows ++ codes "end") = ap length e in let a : length (lines_from 1 rows ++ codes "end") ≡ length (lines_from 1 rows) + 3 = length-append (lines_from 1 rows) (codes "end") in let b = lines_long 1 rows in omega (arith, fits, n, a, b))
]

-- ---- what was written

written_front : (o : Option Stream) (whole : List ℕ) → MatchOption o ⊥ (λ s. IsFrontOf whole s.written) → MatchOption o ⊥ (λ s. take (length s.written) whole ≡ s.written)
written_front None whole h = h
written_front (Some s) whole (count, few, is) =
    let n : length s.written ≡ count = ap length is ∙ length-take-le count whole few in
    ap (λ (k : ℕ). take k whole) n ∙ sym is

-- ---- along the lines

module _ (plan : PlanValue) (files : PlayFiles) (ready : IsReady plan files) (own : HaveOwnNames plan.parts) (outside : Outside) (samples : List (List ℕ)) (told_samples : AreSamples plan files samples) (hold : HoldSinks plan samples outside)
    (handles : List Handle) (w : World) (stage : IsStage (assembly_of plan files) (Joining (length plan.joints)) handles w) where
  abbrev x : Case
  x = case_of outside plan w

  abbrev s : Scene
  s = scene_of plan.parts w

  abbrev told_at : List LogLine → List Progress
  told_at rows = told_after rows plan.parts (nothing_told plan.parts)

  -- a sink with its told file
  record IsSinkFile (place : ℕ) (text : List ℕ) : Type 0 where
    name : List ℕ
    writes : IsWriter plan.parts place name
    file : outside.file name ≡ Some text

  sink_by : (place : ℕ) (text : List ℕ) (part : PartLine) (n : Option (List ℕ)) → slice_get plan.parts place ≡ Some part → written_by part.form ≡ n → option_and_then (λ (name : List ℕ). outside.file name) n ≡ Some text → IsSinkFile place text
  sink_by place text part None e f g = absurd cc
  sink_by place text part (Some name) e f g = record { name = name; writes = (part, e, f); file = g }

  sink_of : (place : ℕ) (text : List ℕ) (o : Option PartLine) → slice_get plan.parts place ≡ o → file_by outside o ≡ Some text → IsSinkFile place text
  sink_of place text None e g = absurd cc
  sink_of place text (Some part) e g = sink_by place text part (written_by part.form) e refl g

  sink_file : (place : ℕ) (text : List ℕ) → x.sinks place ≡ Some text → IsSinkFile place text
  sink_file place text g = sink_of place text (slice_get plan.parts place) refl g

  module _ (rows : List LogLine) (entries : List Entry) (v : World) (order : OrderValue) (G : IsGone plan files handles w ready stage own rows entries v order) where
    fronts_there : IsWrittenIn x v
    fronts_there place text f =
        let N = sink_file place text f in
        let same : sink_text plan samples place ≡ text = some_same (sink_text plan samples place) text (sym (hold place N.name N.writes) ∙ N.file) in
        let H = history plan files handles w ready stage own rows entries v order G in
        let O = history_ordered plan files handles w (steps_of entries) G.cursor v H in
        let run : Run w (steps_of entries) v = run_of_names s w rows entries v G.names in
        let F = requested_fronts plan files ready handles w stage O.links O.left (steps_of entries) O.are v run samples told_samples place N.name N.writes in
        subst (λ (t : List ℕ). MatchOption (stream_of place v) ⊥ (λ y. take (length y.written) t ≡ y.written)) same (written_front (stream_of place v) (sink_text plan samples place) F)

    -- the component of a name, and its place
    record IsHere (place : ℕ) (h : Handle) : Type 0 where
      component : Component
      named : component_named h v.components ≡ Some component
      numbered : component_numbered h.generation v ≡ Some component

    here : (place : ℕ) (h : Handle) → slice_get s.handles place ≡ Some h → IsHere place h
    here place h e =
        let H = history plan files handles w ready stage own rows entries v order G in
        let at : slice_get handles place ≡ Some h = ap (λ (hs : List Handle). slice_get hs place) (sym (stage.built).handles_are) ∙ e in
        let p = named_now plan files handles w (steps_of entries) G.cursor v H place h at in
        let S = sound_there plan files handles w (steps_of entries) G.cursor v H in
        let f = standing_at (is_at h) v.components place (sym (is_first_place (is_at h) v.components) ∙ p) in
        let same = handle_is (f.0).handle h f.2 in
        let q = place_there v.numbered place h.generation v.components f.0 S.rising f.1 (ap (λ (g : Handle). g.generation) same) in
        record { component = f.0; named = ap (option_and_then (slice_get v.components)) p ∙ f.1; numbered = ap (option_and_then (slice_get v.components)) q ∙ f.1 }

    has_work : (o : Option Work) (c : Component) (done : WorkDone) → MatchOption o ⊥ (λ work. IsDoneOf v c work done) → MatchOption o ⊥ (λ work. Unit {0})
    has_work None c done h = h
    has_work (Some work) c done h = tt

    there_now : (told : List Progress) (t : TextAct) (a : Act) → SaysAct s t a → Meets v a → IsThere x (record { world = v; told = told; order = order }) t
    there_now told (lines.Finish c) a y m =
        let P = y.3 in
        let d = y.4 in
        let K = here y.0 y.2 P.handle in
        let met : Meets v (acts.Finish d.0) = subst (Meets v) d.2 m in
        let number : component_numbered (d.0).component v ≡ Some K.component = ap (λ (n : ℕ). component_numbered n v) d.1 ∙ K.numbered in
        let at : MatchOption (Some K.component) ⊥ (λ z. MatchOption z.work ⊥ (λ work. IsDoneOf v z work d.0)) = subst (λ (o : Option Component). MatchOption o ⊥ (λ z. MatchOption z.work ⊥ (λ work. IsDoneOf v z work d.0))) number met in
        (y.0, y.1, y.2, P, subst (λ (o : Option Component). MatchOption o ⊥ (λ z. MatchOption z.work ⊥ (λ work. Unit {0}))) (sym K.named) (has_work (K.component).work K.component d.0 at))
    there_now told (lines.End c) a y m =
        let P = y.3 in
        let d = y.4 in
        let K = here y.0 y.2 P.handle in
        let met : Meets v (acts.EndNote y.2 d.0) = subst (Meets v) d.1 m in
        let at : MatchOption (Some K.component) ⊥ (λ z. (z.client_out ≡ true) × (d.0 ≡ progress_of z v)) = subst (λ (o : Option Component). MatchOption o ⊥ (λ z. (z.client_out ≡ true) × (d.0 ≡ progress_of z v))) K.named met in
        (y.0, y.1, y.2, P, subst (λ (o : Option Component). MatchOption o ⊥ (λ z. z.client_out ≡ true)) (sym K.named) at.0)
    there_now told _ a y m = tt

  -- where the lines end
  yes_end : (number : ℕ) (mid : World) (told : List Progress) (order : OrderValue) (acts : ℕ) → IsEnd x (record { world = mid; told = told; order = order }) → acts + 1 ≡ number → Audits x number (record { world = mid; told = told; order = order }) (codes "end" ∷ []) (Yes acts)
  yes_end number mid told order many E e =
      let yes : bytes_eq (codes "end") (codes "end") ≡ true = (bytes_eq-Decides (codes "end") (codes "end")).1 refl in
      let n : many ≡ number - 1 = omega (arith, e) in
      subst (λ (b : Bool). AtPiece b x number (record { world = mid; told = told; order = order }) (codes "end") [] (Yes many) (λ next. Audits x (number + 1) next [] (Yes many))) (sym yes) (inl (E, ap (λ (k : ℕ). Yes k) n))

  yes_walk : (number : ℕ) (rows : List LogLine) (entries : List Entry) (mid : World) (order : OrderValue) → IsGone plan files handles w ready stage own rows entries mid order → (told : List Progress) → told ≡ told_at rows
      → (ls : List LogLine) (more : List Entry) (v : World) (last : OrderValue) → NameAll s mid ls more v → AdmitsFrom plan told order ls last
      → ((i : ℕ) (l : LogLine) → slice_get ls i ≡ Some l → IsLogLine l) → AllPrinted more → ((i : ℕ) (e : Entry) → slice_get more i ≡ Some e → e.pass ≤ 8)
      → number + length ls < 2 ^ 64 → (acts : ℕ) → acts + 1 ≡ number + length ls → ((t : List Progress) → IsEnd x (record { world = v; told = t; order = last }))
      → Audits x number (record { world = mid; told = told; order = order }) (texts_from number ls ++ codes "end" ∷ []) (Yes acts)
  yes_walk number rows entries mid order G told e [] [] v last N A canonical shown passes fits many is ends =
      yes_end number mid told order many (subst (λ (o : OrderValue). IsEnd x (record { world = mid; told = told; order = o })) A (subst (λ (y : World). IsEnd x (record { world = y; told = told; order = last })) N (ends told))) (omega (arith, is))
  yes_walk number rows entries mid order G told e [] (entry ∷ more) v last N A canonical shown passes fits many is ends = absurd N
  yes_walk number rows entries mid order G told e (line ∷ ls) [] v last N A canonical shown passes fits many is ends = absurd N
  yes_walk number rows entries mid order G told e (line ∷ ls) (entry ∷ more) v last (now, (u, step, rest)) (next, comes, A) canonical shown passes fits many is ends =
      let L = canonical 0 line refl in
      let says = now.says in
      let p = says.pass in
      let q = passes 0 entry refl in
      let I : IsOfPlay number (text_of_line number line) line = line_taken number line (omega (arith, fits)) L (omega (arith, p, q)) (kept_reply s line entry L says shown.0) in
      let comes_so : ComesNext plan (told_at rows) order (line.said).act next = subst (λ (ps : List Progress). ComesNext plan ps order (line.said).act next) e comes in
      let H = one_on plan files handles w ready stage own rows entries mid u order next line entry G now step comes_so in
      let told_next : told_more line.said plan.parts told ≡ told_at (rows ++ line ∷ []) = ap (told_more line.said plan.parts) e ∙ sym (told_on rows line plan.parts (nothing_told plan.parts)) in
      let R = yes_walk (number + 1) (rows ++ line ∷ []) (entries ++ entry ∷ []) u next H (told_more line.said plan.parts told) told_next ls more v last rest A
      (λ i l f. canonical (suc i) l f) shown.1 (λ i y f. passes (suc i) y f) (omega (arith, fits)) many (omega (arith, is)) ends in
      subst (λ (b : Bool). AtPiece b x number (record { world = mid; told = told; order = order }) (text_of_line number line) (texts_from (number + 1) ls ++ codes "end" ∷ []) (Yes many)
      (λ m. Audits x (number + 1) m (texts_from (number + 1) ls ++ codes "end" ∷ []) (Yes many))) (sym (not_end number line))
      (inr (
        line,
        I,
        inr (
          next,
          comes,
          inr (
            there_now rows entries mid order G told (line.said).act entry.act says.act now.meets,
            inr (u, record { entry = entry; act = says.act; meets = now.meets; unbroken = now.unbroken; step = step; reply = says.reply }, inr (fronts_there (rows ++ line ∷ []) (entries ++ entry ∷ []) u next H, R)),
          ),
        ),
      ))

-- ---- a whole play

few_pass : (workers : ℕ) → workers ≤ 8 → (entry : Entry) → IsPassOf workers entry → entry.pass ≤ 8
few_pass zero most entry P = omega (arith, P)
few_pass (suc n) most entry P = either (is_asked (step_of entry)) (λ t. let z = P.0 t in omega (arith, z)) (λ f. let z = (P.1 f).1 in omega (arith, most, z))

pub play_granted : (script log text : List ℕ) (outside : Outside) (plan : PlanValue) (files : PlayFiles) (samples : List (List ℕ)) (workers : ℕ) → workers ≤ 8 → IsPlanIn script log outside plan files samples → IsReady plan files → outside.file log ≡ Some text
    → length text < 2 ^ 64 → HoldSinks plan samples outside → IsLogOf workers plan files outside text → (many : ℕ) × IsAudited script log outside (Yes many)
play_granted script log text outside plan files samples workers most P ready held fits hold L =
    let D = L.log in
    let w : World = D.opening in
    let S = D.opens in
    let stage = S.1 in
    let s : Scene = scene_of plan.parts w in
    let own : HaveOwnNames plan.parts = subst HaveOwnNames (sym (P.fitted).parts) (own_names script log P.text P.read P.planned P.is_script P.is_plan) in
    let N = D.names in
    let ls : List LogLine = N.lines in
    let O = D.logged in
    let v : World = L.ending in
    let conducted : IsConducted (tuned plan files) S.0 (steps_of D.entries) = subst (λ (hs : List Handle). IsConducted (tuned plan files) hs (steps_of D.entries)) (stage.built).handles_are D.conducted in
    let A = admitted plan files S.0 w ready stage own ls D.entries v N.name conducted in
    let one : O.lines ≡ ls = one_list text O.lines ls fits (record { canonical = (O.of_history).canonical; whole = inl O.whole }) N.has_lines in
    let a = said_many s O.lines (printed D.entries) (O.of_history).say in
    let b = named_many s w v ls D.entries N.name in
    let c = ap length one in
    let shown = all_printed D.entries (omega (arith, a, b, c)) in
    let few = few_lines text ls fits N.has_lines in
    let Q = ((L.ends).played) in
    let quiet = ((Q.ended).joined).quiet in
    let ends : (t : List Progress) → IsEnd (case_of outside plan w) (record { world = v; told = t; order = A.0 }) = λ t. record {
      resting = from_places IsResting v.components (λ place d e.
          (let R = at_place IsIdling v.components place d quiet.components e in
          let T = at_place IsAtEnd v.components place d Q.components e in
          record { state = T.state; calm = R.calm; told = T.told; client = R.client; work = R.work }));
      unmade = quiet.headers;
      complete = A.2;
      sinks = λ place t f. (let K = sink_file plan files ready own outside samples (samples_told outside plan files samples P.files_are) hold S.0 w stage place t f in (L.ends).sinks place K.name t K.writes K.file);
    } in
    let audits = yes_walk plan files ready own outside samples (samples_told outside plan files samples P.files_are) hold S.0 w stage 1 [] [] w nothing_sent (begun plan files S.0 w ready stage own) (nothing_told plan.parts) refl ls D.entries v A.0 N.name A.1
    (λ i l e. at_place IsLogLine ls i l (N.has_lines).canonical e) shown (λ i e f. (let z = few_pass workers most e (at_place (IsPassOf workers) D.entries i e D.made f) in omega (arith, z))) (omega (arith, few)) (length ls) (omega arith) ends in (
      length ls,
      record {
        plan = plan;
        files = files;
        samples = samples;
        is = P;
        ready = ready;
        sinks = λ place name I. (sink_text plan samples place, hold place name I);
        text = text;
        held = held;
        verdict_is = record { opening = w; opens = S; audits = subst (λ (ps : List (List ℕ)). Audits (case_of outside plan w) 1 (record { world = w; told = nothing_told plan.parts; order = nothing_sent }) ps (Yes (length ls))) (sym (log_cut text ls fits N.has_lines)) audits };
      },
    )

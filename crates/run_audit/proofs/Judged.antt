-- What was opened to be compared is what a replay asks for, and what that comes to is the log's verdict.
use Rattle.std.proofs.Common.{◌≡◌, ℕ, Bool, true, false, List, [], slice_get, Option, Some, None, IsSome, IsTrue, IsFalse, option_map, refl, sym, ◌∙◌, ap, subst, arith}
use Rattle.std.specs.List.{slice_index_or}
use Rattle.std.specs.Option.{option_and_then}
use Rattle.std.proofs.lemmas.Option.{slice_get_within}
use Rattle.outside_io.specs.declared.source.Source.{Ghosts as SourceGhosts}
use Rattle.outside_io.specs.Files.{Outside}
use Rattle.wav_form.specs.declared.heads.WavHead.{WavHead}
use Rattle.audio_parts.specs.declared.part_file.PartFile.{PartFile}
use Rattle.audio_parts.specs.declared.part_file.PartFile.TheVariants as files
use Rattle.script_lang.specs.PlayScripts.{IsPlayScript}
use Rattle.script_lang.specs.declared.play_line.PartLine.{PartLine}
use Rattle.script_lang.specs.declared.script.Script.{Script}
use Rattle.il_graph.specs.Shown.{offered}
use Rattle.play_forms.specs.Parts.{source_number}
use Rattle.play_forms.specs.Plans.{PlanValue}
use Rattle.play_world_laws.proofs.Lists.{get_there}
use Rattle.play_log.specs.Scenes.{HaveOwnNames}
use Rattle.play_result_laws.specs.Files.{IsWriter, read_by, written_by}
use Rattle.play_result_laws.proofs.OwnNames.{own_names}
use Rattle.play_files.specs.Opening.{IsReadBy}
use Rattle.play_files.specs.Seen.{file_seen, offer}
use Rattle.play_course.specs.Outcomes.{WasOpened}
use Rattle.compared_files.specs.Comparing.{ComparingValue}
use Rattle.audit_files.specs.Compared.{AreCompared, IsComparedBy, compared}
use Rattle.audit_files.proofs.Writing.{told_there}
use Rattle.audit_forms.specs.Audited.{Verdict}
use Rattle.audit_forms.specs.Whole.{file_by}
use Rattle.run_audit.specs.Auditing.{AreFound, HasVerdict}
use Rattle.run_audit.specs.Replayed.{AreGiven, IsVerdictBy}
use Rattle.run_audit.specs.Replaying.{IsComparedWith}

-- the told files of the sinks, where the media tells
abbrev pub sinks_of : Bool → Outside → PlanValue → ℕ → Option (List ℕ)
sinks_of true old plan place = file_by old (slice_get plan.parts place)
sinks_of false old plan place = None

sink_name : (old : Outside) (o : Option PartLine) (text : List ℕ) → file_by old o ≡ Some text → (part : PartLine) × (o ≡ Some part) × ((name : List ℕ) × (written_by part.form ≡ Some name))
sink_name old None text e = absurd cc
sink_name old (Some part) text e = (part, refl, by (written_by part.form) refl e)
  where
    by : (w : Option (List ℕ)) → written_by part.form ≡ w → option_and_then (λ (name : List ℕ). old.file name) (written_by part.form) ≡ Some text → (name : List ℕ) × (written_by part.form ≡ Some name)
    by (Some name) q f = (name, q)
    by None q f = (let z : None ≡ Some text = sym (ap (option_and_then (λ (name : List ℕ). old.file name)) q) ∙ f in absurd cc)

some_there : (o : Option (List ℕ)) → IsSome o → (bytes : List ℕ) × (o ≡ Some bytes)
some_there (Some bytes) s = (bytes, refl)
some_there None s = absurd cc

module _ {S : Type 0} (reads : SourceGhosts S) (script : Script) (old mid : Outside) (plan : PlanValue) (entries : List (Option (PartFile S (ComparingValue S)))) (A : AreCompared reads script old mid plan entries) where
  abbrev Entry : Type 0
  Entry = Option (PartFile S (ComparingValue S))

  offers : (file : Entry) → option_map offer (option_map (file_seen reads (compared reads)) file) ≡ option_map (offered reads.offset reads.size reads.told (compared reads).told) file
  offers None = refl
  offers (Some (files.From src format frames)) = refl
  offers (Some (files.To snk frames)) = refl

  pub opened : WasOpened script old plan A.known
  opened = record { planned = A.planned; is_plan = A.is_plan; fitted = A.fitted; fit = A.fit; ready = A.ready }

  pub found : AreFound old plan A.known
  found = record {
    sources = λ tells place name b reader. (let R = ((A.files_are tells).1).sources place name reader in (R.head, R.head_is, (R.bytes, R.held, R.reads)));
    sinks = λ tells place name b (part, e, w). (let h = A.sinks place part name e w in told_there reads old plan.parts plan.frames (slice_index_or plan.frames place 0) name h.0 h.2 tells);
  }

  same_at : (place : ℕ) (a b : Entry) → slice_get entries place ≡ Some a → slice_get entries place ≡ Some b → a ≡ b
  same_at place a b e f = let s : Some a ≡ Some b = sym e ∙ f in cc

  sink_file : (place : ℕ) (part : PartLine) → slice_get plan.parts place ≡ Some part → (o : Option (List ℕ)) → written_by part.form ≡ o → file_by old (slice_get plan.parts place) ≡ option_and_then (λ (name : List ℕ). old.file name) o
  sink_file place part e o w = ap (file_by old) e ∙ ap (option_and_then (λ (name : List ℕ). old.file name)) w

  -- what stands at the place of a sink
  its_comparison : IsTrue old.tells → (planned : ℕ) (name : List ℕ) (text : Option (List ℕ)) (file : Entry) → text ≡ old.file name → IsComparedBy reads old planned name file → IsComparedWith reads.told text file
  its_comparison tells planned name text (Some (files.To snk frames)) e I =
      let there = some_there (old.file name) ((I.2).there tells) in
      ((λ none. (let z : None ≡ Some there.0 = sym none ∙ (e ∙ there.1) in cc)), (I.2).told ∙ sym e)
  its_comparison tells planned name text (Some (files.From src format frames)) e I = absurd I
  its_comparison tells planned name text None e I = absurd I

  -- and at that of a component that writes no file
  no_comparison : (held : Option WavHead) (name : List ℕ) (text : Option (List ℕ)) (file : Entry) → text ≡ None → IsReadBy old held name (option_map (file_seen reads (compared reads)) file) → IsComparedWith reads.told text file
  no_comparison held name text (Some (files.From src format frames)) e r = e
  no_comparison held name text (Some (files.To snk frames)) e r = absurd r
  no_comparison held name text None e r = absurd r

  compared_with : IsTrue old.tells → (place : ℕ) (file : Entry) → slice_get entries place ≡ Some file → IsComparedWith reads.told (file_by old (slice_get plan.parts place)) file
  compared_with tells place file e =
      let m = A.many in
      let b = slice_get_within entries place file e in
      let p = get_there plan.parts place (omega (arith, b, m)) in
      by p.0 p.1 (written_by (p.0).form) refl (read_by (p.0).form) refl
    where
      by : (part : PartLine) → slice_get plan.parts place ≡ Some part → (w : Option (List ℕ)) → written_by part.form ≡ w → (r : Option (List ℕ)) → read_by part.form ≡ r → IsComparedWith reads.told (file_by old (slice_get plan.parts place)) file
      by part p (Some name) w r q =
          let h = A.sinks place part name p w in
          subst (IsComparedWith reads.told (file_by old (slice_get plan.parts place))) (same_at place h.0 file h.1 e) (its_comparison tells (slice_index_or plan.frames place 0) name (file_by old (slice_get plan.parts place)) h.0 (sink_file place part p (Some name) w) h.2)
      by part p None w (Some name) q =
          let h = A.sources place part name p q in
          subst (IsComparedWith reads.told (file_by old (slice_get plan.parts place))) (same_at place h.0 file h.1 e) (no_comparison (slice_get (A.known).heads (source_number plan.parts place)) name (file_by old (slice_get plan.parts place)) h.0 (sink_file place part p None w) h.2)
      by part p None w None q = subst (IsComparedWith reads.told (file_by old (slice_get plan.parts place))) (same_at place None file (A.others place part p q w) e) (sink_file place part p None w)

  module _ (name log text : List ℕ) (is_script : IsPlayScript name log text script) where
    own : HaveOwnNames plan.parts
    own = subst HaveOwnNames (sym (A.fitted).parts) (own_names name log text script A.planned is_script A.is_plan)

    -- for who told or didn't tell its files
    given_by : (tells : Bool) → old.tells ≡ tells → AreGiven tells reads.told (offered reads.offset reads.size reads.told (compared reads).told) plan A.known (sinks_of tells old plan) entries
    given_by tells is = record {
      ready = A.ready;
      own = own;
      many = A.many;
      offered = λ place file e. sym (offers file) ∙ A.offered place file e;
      told_are = λ t. (let f = A.files_are (is ∙ t) in (old, f.0, f.1));
      empty = empty tells is;
      compared = compared tells is;
      sinks = sinks tells;
      untold = untold tells;
    }
      where
        empty : (tells : Bool) → old.tells ≡ tells → (place : ℕ) (bytes : List ℕ) → sinks_of tells old plan place ≡ Some bytes → (A.known).known place ≡ Some []
        empty true is place bytes e =
            let n = sink_name old (slice_get plan.parts place) bytes e in
            ((A.files_are is).1).sinks place (n.2).0 (n.0, n.1, (n.2).1)
        empty false is place bytes e = absurd cc

        compared : (tells : Bool) → old.tells ≡ tells → IsTrue tells → (place : ℕ) (file : Entry) → slice_get entries place ≡ Some file → IsComparedWith reads.told (sinks_of tells old plan place) file
        compared true is t place file e = compared_with is place file e
        compared false is t place file e = absurd cc

        sinks : (tells : Bool) (place : ℕ) (bytes : List ℕ) → sinks_of tells old plan place ≡ Some bytes → (its : List ℕ) × IsWriter plan.parts place its
        sinks true place bytes e = let n = sink_name old (slice_get plan.parts place) bytes e in ((n.2).0, (n.0, n.1, (n.2).1))
        sinks false place bytes e = absurd cc

        untold : (tells : Bool) → IsFalse tells → (place : ℕ) → sinks_of tells old plan place ≡ None
        untold true f place = absurd cc
        untold false f place = refl

    pub given : AreGiven old.tells reads.told (offered reads.offset reads.size reads.told (compared reads).told) plan A.known (sinks_of old.tells old plan) entries
    given = given_by old.tells refl

  -- ---- the verdict

  pub has_verdict : (log bytes : List ℕ) (verdict : Verdict) → (IsTrue old.tells → old.file log ≡ Some bytes) → (IsTrue old.tells → IsVerdictBy plan A.known (sinks_of old.tells old plan) bytes verdict) → HasVerdict script log old verdict
  has_verdict log bytes verdict held V tells name text is_held is_script =
      let v = subst (λ (t : Bool). IsVerdictBy plan A.known (sinks_of t old plan) bytes verdict) tells (V tells) in
      let F = A.files_are tells in
      record {
        plan = plan;
        files = A.known;
        samples = F.0;
        is = record { text = text; read = script; planned = A.planned; held = is_held; is_script = is_script; is_plan = A.is_plan; fitted = A.fitted; fit = A.fit; files_are = F.1 };
        ready = A.ready;
        sinks = λ place its (part, e, w). (let h = A.sinks place part its e w in told_of its (slice_index_or plan.frames place 0) h.0 h.2);
        text = bytes;
        held = held tells;
        verdict_is = record { opening = v.0; opens = v.1; audits = v.2 };
      }
    where
      told_of : (its : List ℕ) (planned : ℕ) (file : Entry) → IsComparedBy reads old planned its file → (told : List ℕ) × (old.file its ≡ Some told)
      told_of its planned (Some (files.To snk frames)) I = some_there (old.file its) ((I.2).there tells)
      told_of its planned (Some (files.From src format frames)) I = absurd I
      told_of its planned None I = absurd I

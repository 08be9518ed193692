-- Why an audit broke off shows outside.
use Rattle.std.proofs.Common.{◌≡◌, inl, inr, ℕ, zero, suc, ◌<◌, ◌≤◌, ◌^◌, true, List, [], ◌∷◌, ◌++◌, length, slice_get, Option, Some, None, option_map, Ok, IsTrue, refl, sym, ◌∙◌, ap, subst, arith}
use Rattle.std.specs.List.{slice_index_or, sum_by}
use Rattle.std.proofs.lemmas.Bool.{cases_lt}
use Rattle.std.proofs.lemmas.Option.{slice_get_within}
use Rattle.omx_types.specs.declared.fault.PartFault.{PartFault}
use Rattle.omx_types.specs.declared.fault.PartFault.TheVariants as parts
use Rattle.omx_types.specs.declared.fault.Which.TheVariants.{Line}
use Rattle.omx_types.specs.declared.format.Format.{Format}
use Rattle.outside_io.specs.declared.source.Source.{Ghosts as SourceGhosts}
use Rattle.outside_io.specs.Files.{IsFailedRead, Outside, with_names}
use Rattle.outside_io.specs.Moves.{WhereTold}
use Rattle.outside_io.specs.Stops.{GaveNothing}
use Rattle.wav_form.specs.declared.heads.WavHead.{WavHead}
use Rattle.wav_form.proofs.Read.{same_answer}
use Rattle.audio_parts.specs.declared.part_file.PartFile.{PartFile}
use Rattle.audio_parts.specs.declared.part_file.PartFile.TheVariants as files
use Rattle.audio_parts.specs.Objects.{FileShows, OnBoth, SinkShows, SourceShows}
use Rattle.script_lang.specs.declared.play_line.PartLine.{PartLine}
use Rattle.script_lang.specs.declared.script.Script.{Script}
use Rattle.stream_plan.proofs.Lists.{slice_get_mapped}
use Rattle.play_forms.specs.Parts.{source_number}
use Rattle.play_forms.specs.Plans.{PlanValue}
use Rattle.play_world_laws.proofs.Lists.{get_there}
use Rattle.play_result_laws.specs.Files.{read_by, written_by}
use Rattle.play_files.specs.Asked.{read_names, written_names}
use Rattle.play_files.specs.Closing.{AreClosed, IsOfFailed, failed_reads}
use Rattle.play_files.specs.Opening.{HasHead, IsReadBy, IsSourceOf}
use Rattle.play_files.specs.Seen.{Reads, SourceSeen, file_seen, files_seen, source_seen}
use Rattle.play_files.proofs.Asking.{name_among}
use Rattle.play_files.proofs.Stopped.{unseen_at}
use Rattle.play_course.specs.Settling.{line_in}
use Rattle.play_course.proofs.Ways.{counted}
use Rattle.compared_files.specs.declared.comparing.Met.{Met}
use Rattle.compared_files.specs.declared.comparing.Met.TheVariants as mets
use Rattle.compared_files.specs.Comparing.{ComparingValue, HasMet, known_by}
use Rattle.compared_files.proofs.Known.{known_bytes, known_ends, known_names}
use Rattle.audit_files.specs.Compared.{AreCompared, IsComparedBy, compared, read_seen}
use Rattle.audit_files.proofs.Closed.{all_calm}
use Rattle.run_audit.specs.Auditing.{HasMetAt, IsShortFile, IsStepFault, fault_of_met, fault_of_step}
use Rattle.run_audit.specs.Files.{FileGoesOn}
use Rattle.run_audit.specs.Leaving.{HasThen}
use Rattle.run_audit.specs.Opening.{play_sight}
use Rattle.run_audit.specs.Replayed.{FilesComeBack}

behind_head : (old : Outside) (name : List ℕ) (head : WavHead) (source : SourceSeen) (at : ℕ) → IsSourceOf old name head source → source.offset ≤ at → (other : WavHead) → HasHead old name other → other.start ≤ at
behind_head old name head source at I started other (bytes, held, reads) =
    let same = same_answer bytes (Ok head) (Ok other) (I.reads_as bytes held) reads in
    let is : head ≡ other = cc in
    let start = ap (λ (h : WavHead). h.start) is in
    let offset = I.offset in
    omega (arith, start, offset, started)

-- what is in a list is there with others behind it, and with others before it
then_more : {X : Type 0} (xs ys : List X) (k : ℕ) (z : X) → slice_get xs k ≡ Some z → slice_get (xs ++ ys) k ≡ Some z
then_more [] ys k z e = absurd cc
then_more (x ∷ xs) ys zero z e = e
then_more (x ∷ xs) ys (suc k) z e = then_more xs ys k z e

after_more : {X : Type 0} (xs ys : List X) (k : ℕ) (z : X) → slice_get ys k ≡ Some z → (n : ℕ) × (slice_get (xs ++ ys) n ≡ Some z)
after_more [] ys k z e = (k, e)
after_more (x ∷ xs) ys k z e = (let later = after_more xs ys k z e in (suc later.0, later.1))

module _ {S : Type 0} (reads : SourceGhosts S) (script : Script) (old first : Outside) (plan : PlanValue) (before : List (Option (PartFile S (ComparingValue S)))) (A : AreCompared reads script old first plan before) where
  abbrev Entry : Type 0
  Entry = Option (PartFile S (ComparingValue S))

  same_at : (place : ℕ) (a b : Entry) → slice_get before place ≡ Some a → slice_get before place ≡ Some b → a ≡ b
  same_at place a b e f = let s : Some a ≡ Some b = sym e ∙ f in cc

  -- ---- the file of a source

  record IsSource (place : ℕ) (src : S) : Type 0 where
    part : PartLine
    there : slice_get plan.parts place ≡ Some part
    name : List ℕ
    its : read_by part.form ≡ Some name
    head : WavHead
    is : IsSourceOf old name head (source_seen reads src)

  read_of : (held : Option WavHead) (name : List ℕ) (src : S) (format : Format) (frames : ℕ) (file : Entry) → file ≡ Some (files.From src format frames) → IsReadBy old held name (option_map (file_seen reads (compared reads)) file) → (head : WavHead) × IsSourceOf old name head (source_seen reads src)
  read_of held name src format frames file e r =
      let q : IsReadBy old held name (Some (Reads (source_seen reads src) format frames)) = subst (λ (f : Entry). IsReadBy old held name (option_map (file_seen reads (compared reads)) f)) e r in
      (q.0, q.4)

  no_from : (planned : ℕ) (name : List ℕ) (src : S) (format : Format) (frames : ℕ) → IsComparedBy reads old planned name (Some (files.From src format frames)) → ⊥
  no_from planned name src format frames I = I

  source_at : (place : ℕ) (src : S) (format : Format) (frames : ℕ) → slice_get before place ≡ Some (Some (files.From src format frames)) → IsSource place src
  source_at place src format frames e =
      let m = A.many in
      let b = slice_get_within before place (Some (files.From src format frames)) e in
      let p = get_there plan.parts place (omega (arith, b, m)) in
      by p.0 p.1 (read_by (p.0).form) refl (written_by (p.0).form) refl
    where
      file : Entry
      file = Some (files.From src format frames)

      by : (part : PartLine) → slice_get plan.parts place ≡ Some part → (r : Option (List ℕ)) → read_by part.form ≡ r → (w : Option (List ℕ)) → written_by part.form ≡ w → IsSource place src
      by part p (Some name) r w q =
          let h = A.sources place part name p r in
          let s = read_of (slice_get (A.known).heads (source_number plan.parts place)) name src format frames h.0 (same_at place h.0 (Some (files.From src format frames)) h.1 e) h.2 in
          record { part = part; there = p; name = name; its = r; head = s.0; is = s.1 }
      by part p None r (Some name) q =
          let h = A.sinks place part name p q in
          absurd (no_from (slice_index_or plan.frames place 0) name src format frames
          (subst (IsComparedBy reads old (slice_index_or plan.frames place 0) name) (same_at place h.0 (Some (files.From src format frames)) h.1 e) h.2))
      by part p None r None q = (let z : Some None ≡ Some (Some (files.From src format frames)) = sym (A.others place part p r q) ∙ e in absurd cc)

  source_short : (place : ℕ) (src : S) (at size : ℕ) → IsSource place src → GaveNothing (reads.size src) (reads.ends src) (reads.offset src) at size → IsShortFile plan.parts old (Line (line_in (slice_get plan.parts place))) at size
  source_short place src at size T G =
      let I = T.is in
      let whole = G.whole in
      let below = G.below in
      let started = G.started in
      let offset = I.offset in
      record {
        place = place;
        part = T.part;
        there = T.there;
        name = T.name;
        its = inl T.its;
        line = ap (λ (o : Option PartLine). Line (line_in o)) T.there;
        short = record {
          below = omega (arith, whole, below);
          stopped = λ end is. (let s = G.stopped end (I.ends ∙ is) in let t = I.starts end is in omega (arith, s, t, offset));
          whole = λ bytes is. whole ∙ I.whole bytes is;
        };
        behind = λ its other has. behind_head old T.name T.head (source_seen reads src) at T.is started other has;
      }

  -- ---- the file of a sink

  record IsSinkFile (place : ℕ) (snk : ComparingValue S) : Type 0 where
    part : PartLine
    there : slice_get plan.parts place ≡ Some part
    name : List ℕ
    its : written_by part.form ≡ Some name
    reads_none : read_by part.form ≡ None
    name_is : IsTrue old.tells → reads.name snk.src ≡ name
    faults : reads.faults snk.src ≡ 0
    told : reads.told snk.src ≡ old.file name
    ends : reads.ends snk.src ≡ old.ends name

  no_to : (held : Option WavHead) (name : List ℕ) (snk : ComparingValue S) (frames : ℕ) → IsReadBy old held name (option_map (file_seen reads (compared reads)) (Some (files.To snk frames))) → ⊥
  no_to held name snk frames r = r

  sink_at : (place : ℕ) (snk : ComparingValue S) (frames : ℕ) → slice_get before place ≡ Some (Some (files.To snk frames)) → IsSinkFile place snk
  sink_at place snk frames e =
      let m = A.many in
      let b = slice_get_within before place (Some (files.To snk frames)) e in
      let p = get_there plan.parts place (omega (arith, b, m)) in
      by p.0 p.1 (read_by (p.0).form) refl (written_by (p.0).form) refl
    where
      by : (part : PartLine) → slice_get plan.parts place ≡ Some part → (r : Option (List ℕ)) → read_by part.form ≡ r → (w : Option (List ℕ)) → written_by part.form ≡ w → IsSinkFile place snk
      by part p (Some name) r w q =
          let h = A.sources place part name p r in
          absurd (no_to (slice_get (A.known).heads (source_number plan.parts place)) name snk frames
          (subst (λ (f : Entry). IsReadBy old (slice_get (A.known).heads (source_number plan.parts place)) name (option_map (file_seen reads (compared reads)) f)) (same_at place h.0 (Some (files.To snk frames)) h.1 e) h.2))
      by part p None r (Some name) q =
          let h = A.sinks place part name p q in
          let I : IsComparedBy reads old (slice_index_or plan.frames place 0) name (Some (files.To snk frames)) =
          subst (IsComparedBy reads old (slice_index_or plan.frames place 0) name) (same_at place h.0 (Some (files.To snk frames)) h.1 e) h.2 in
          record { part = part; there = p; name = name; its = q; reads_none = r; name_is = (I.2).name_is; faults = (I.2).faults; told = (I.2).told; ends = (I.2).ends }
      by part p None r None q = (let z : Some None ≡ Some (Some (files.To snk frames)) = sym (A.others place part p r q) ∙ e in absurd cc)

  sink_short : (place : ℕ) (snk then : ComparingValue S) (at size : ℕ) → IsSinkFile place snk → known_by (reads.name then.src) (reads.told then.src) (reads.ends then.src) ≡ known_by (reads.name snk.src) (reads.told snk.src) (reads.ends snk.src)
      → GaveNothing (reads.size then.src) (reads.ends then.src) 0 at size → WhereTold (reads.told then.src) (λ known. reads.size then.src ≡ length known) → IsShortFile plan.parts old (Line (line_in (slice_get plan.parts place))) at size
  sink_short place snk then at size T same G told =
      let whole = G.whole in
      let below = G.below in
      let ends_are : reads.ends then.src ≡ old.ends T.name = known_ends (reads.name then.src) (reads.name snk.src) (reads.told then.src) (reads.told snk.src) (reads.ends then.src) (reads.ends snk.src) same ∙ T.ends in
      let told_are : reads.told then.src ≡ old.file T.name = known_bytes (reads.name then.src) (reads.name snk.src) (reads.told then.src) (reads.told snk.src) (reads.ends then.src) (reads.ends snk.src) same ∙ T.told in
      record {
        place = place;
        part = T.part;
        there = T.there;
        name = T.name;
        its = inr T.its;
        line = ap (λ (o : Option PartLine). Line (line_in o)) T.there;
        short = record {
          below = omega (arith, whole, below);
          stopped = λ end is. (let s = G.stopped end (ends_are ∙ is) in omega (arith, s));
          whole = λ bytes is. whole ∙ told bytes (told_are ∙ is);
        };
        behind = λ its other has. absurd (let n = T.reads_none in let z : None ≡ Some T.name = sym n ∙ its in cc);
      }

  -- ---- none has failed yet

  unfailed : (place : ℕ) (file : Entry) → slice_get before place ≡ Some file → failed_reads (option_map (read_seen reads) file) ≡ 0
  unfailed place (Some (files.From src format frames)) e = (let T = source_at place src format frames e in (T.is).faults)
  unfailed place (Some (files.To snk frames)) e = (let T = sink_at place snk frames e in T.faults)
  unfailed place None e = refl

  pub none_failed : sum_by failed_reads (files_seen (read_seen reads) before) ≡ 0
  none_failed = all_calm reads before unfailed

  -- ---- they are closed after a replay

  module _ (mid new : Outside) (after : List (Option (PartFile S (ComparingValue S)))) (stand : mid.read_faults ≡ old.read_faults) (unread : mid.failed_reads ≡ old.failed_reads) (few : mid.read_faults < 2 ^ 64)
      (many : length after ≡ length before) (back : FilesComeBack (play_sight reads) plan before after) (C : AreClosed (files_seen (read_seen reads) after) mid new (Ok tt)) where
    -- the file that came back to a place has the name that its component has it by
    named_by : (place : ℕ) (file then : Entry) (name : List ℕ) → IsTrue old.tells → slice_get before place ≡ Some file → FileGoesOn (play_sight reads) true file then → (source : SourceSeen) (format : Format) (frames : ℕ)
        → option_map (read_seen reads) then ≡ Some (Reads source format frames) → source.name ≡ name → (k : ℕ) × (slice_get (read_names plan.parts ++ written_names plan.parts) k ≡ Some name)
    named_by place (Some (files.From src format frames)) (Some (files.From now format' frames')) name tells e g source form count seen is =
        let T = source_at place src format frames e in
        let same : source_seen reads now ≡ source = cc in
        let its : T.name ≡ name = sym ((T.is).name_is tells) ∙ (sym (g.2).name ∙ (ap (λ (s : SourceSeen). s.name) same ∙ is)) in
        let among = name_among (λ (part : PartLine). read_by part.form) plan.parts place T.part T.name T.there T.its in
        (among.0, then_more (read_names plan.parts) (written_names plan.parts) among.0 name (among.1 ∙ ap Some its))
    named_by place (Some (files.To snk frames)) (Some (files.To now frames')) name tells e g source form count seen is =
        let T = sink_at place snk frames e in
        let same : source_seen reads now.src ≡ source = cc in
        let kept = known_names (reads.name now.src) (reads.name snk.src) (reads.told now.src) (reads.told snk.src) (reads.ends now.src) (reads.ends snk.src) (g.1).name in
        let its : T.name ≡ name = sym (T.name_is tells) ∙ (sym kept ∙ (ap (λ (s : SourceSeen). s.name) same ∙ is)) in
        let among = name_among (λ (part : PartLine). written_by part.form) plan.parts place T.part T.name T.there T.its in
        after_more (read_names plan.parts) (written_names plan.parts) among.0 name (among.1 ∙ ap Some its)
    named_by place (Some (files.From src format frames)) (Some (files.To now frames')) name tells e g source form count seen is = absurd g
    named_by place (Some (files.To snk frames)) (Some (files.From now format' frames')) name tells e g source form count seen is = absurd g
    named_by place (Some file) None name tells e g source form count seen is = absurd g
    named_by place None (Some then) name tells e g source form count seen is = absurd g
    named_by place None None name tells e g source form count seen is = absurd cc

    among : IsTrue old.tells → (name : List ℕ) → IsOfFailed (files_seen (read_seen reads) after) name → (k : ℕ) × (slice_get (read_names plan.parts ++ written_names plan.parts) k ≡ Some name)
    among tells name (place, source, (format, frames, at), is, some) =
        let u = unseen_at (read_seen reads) after place (Some (Reads source format frames)) at in
        let b = slice_get_within after place u.0 u.1 in
        let m = A.many in
        let p = get_there before place (omega (arith, b, many)) in
        let h = back place p.0 (omega (arith, b, many, m)) p.1 in
        let z : Some h.0 ≡ Some u.0 = sym h.1 ∙ u.1 in
        let same : h.0 ≡ u.0 = cc in
        named_by place p.0 u.0 name tells p.1 (subst (FileGoesOn (play_sight reads) true p.0) same h.2) source format frames u.2 is

    failed_read : 1 ≤ sum_by failed_reads (files_seen (read_seen reads) after) → IsFailedRead (read_names plan.parts ++ written_names plan.parts) old new
    failed_read some = record {
      rose = (let r = C.reads few in omega (arith, some, r, stand));
      named = λ tells.
          (let (more, count, each, is) = C.named_reads in
          (more, (let h : 1 ≤ length more = omega (arith, count, some) in h), λ k name at. among tells name (each k name at), is ∙ ap (with_names more) unread));
    }

    -- a file that has failed shows once it is closed
    rose : (place : ℕ) (file : Entry) → slice_get after place ≡ Some file → 1 ≤ failed_reads (option_map (read_seen reads) file) → IsFailedRead (read_names plan.parts ++ written_names plan.parts) old new
    rose place file e one =
        let at : slice_get (files_seen (read_seen reads) after) place ≡ Some (option_map (read_seen reads) file) = slice_get_mapped (option_map (read_seen reads)) after place file e in
        let le = counted failed_reads (files_seen (read_seen reads) after) place (option_map (read_seen reads) file) at in
        failed_read (omega (arith, le, one))

    -- and where the count rose, one has
    pub risen : (new.read_faults ≡ mid.read_faults → ⊥) → IsFailedRead (read_names plan.parts ++ written_names plan.parts) old new
    risen other = elim (cases_lt 0 (sum_by failed_reads (files_seen (read_seen reads) after))) [
      | inl some ↦ failed_read some
      | inr none ↦ absurd (other (C.unread (omega (arith, none))))
    ]

    -- ---- a step that failed

    abbrev Cause : ℕ → Option Entry → PartFault → Type 0
    Cause place file fault = IsStepFault plan.parts old new (fault_of_step (slice_get plan.parts place) file fault)

    by_met : (place : ℕ) (snk then : ComparingValue S) (frames : ℕ) → slice_get after place ≡ Some (Some (files.To then frames)) → IsSinkFile place snk → known_by (reads.name then.src) (reads.told then.src) (reads.ends then.src) ≡ known_by (reads.name snk.src) (reads.told snk.src) (reads.ends snk.src)
        → WhereTold (reads.told then.src) (λ known. reads.size then.src ≡ length known) → (met : Option Met) → HasMet (reads.faults then.src) (reads.size then.src) (reads.ends then.src) met
        → IsStepFault plan.parts old new (fault_of_met (line_in (slice_get plan.parts place)) met)
    by_met place snk then frames e T same told (Some mets.Failed) h = rose place (Some (files.To then frames)) e (omega (arith, h))
    by_met place snk then frames e T same told (Some (mets.Short at size)) h = sink_short place snk then at size T same h told
    by_met place snk then frames e T same told (Some mets.OutOfMemory) h = tt
    by_met place snk then frames e T same told None h = tt

    by_files : (place : ℕ) (file then : Entry) (fault : PartFault) → slice_get before place ≡ Some file → slice_get after place ≡ Some then
        → OnBoth (FileShows (SourceShows reads.size reads.ends reads.offset reads.faults fault) (SinkShows (compared reads).faults fault)) file then
        → FileGoesOn (play_sight reads) true file then → (fault ≡ parts.Write → HasMetAt reads (Some then)) → Cause place (Some then) fault
    by_files place (Some (files.From src format frames)) (Some (files.From now format' frames')) parts.Read e f h g met =
        let T = source_at place src format frames e in
        let none = (T.is).faults in
        rose place (Some (files.From now format' frames')) f (omega (arith, h, none))
    by_files place (Some (files.From src format frames)) (Some (files.From now format' frames')) parts.Write e f h g met = absurd h
    by_files place (Some (files.From src format frames)) (Some (files.From now format' frames')) (parts.Short at size) e f h g met = source_short place src at size (source_at place src format frames e) h
    by_files place (Some (files.To snk frames)) (Some (files.To now frames')) parts.Read e f h g met = absurd h
    by_files place (Some (files.To snk frames)) (Some (files.To now frames')) (parts.Short at size) e f h g met = absurd h
    by_files place (Some (files.To snk frames)) (Some (files.To now frames')) parts.Write e f h g met =
        let m = met refl in
        by_met place snk now frames' f (sink_at place snk frames e) (g.1).name m.1 now.met m.0
    by_files place (Some (files.From src format frames)) (Some (files.To now frames')) fault e f h g met = absurd h
    by_files place (Some (files.To snk frames)) (Some (files.From now format' frames')) fault e f h g met = absurd h
    by_files place (Some file) None fault e f h g met = absurd h
    by_files place None then fault e f h g met = absurd h

    pub step_cause : (place : ℕ) (fault : PartFault) → place < length plan.parts
        → ((file : Entry) → slice_get before place ≡ Some file → HasThen (OnBoth (FileShows (SourceShows reads.size reads.ends reads.offset reads.faults fault) (SinkShows (compared reads).faults fault)) file) after place)
        → (fault ≡ parts.Write → HasMetAt reads (slice_get after place)) → Cause place (slice_get after place) fault
    step_cause place fault low shows met =
        let m = A.many in
        let p = get_there before place (omega (arith, low, m)) in
        let s = shows p.0 p.1 in
        let b = back place p.0 low p.1 in
        let z : Some b.0 ≡ Some s.0 = sym b.1 ∙ s.1 in
        let same : b.0 ≡ s.0 = cc in
        subst (λ (o : Option Entry). Cause place o fault) (sym s.1)
        (by_files place p.0 s.0 fault p.1 s.1 s.2 (subst (FileGoesOn (play_sight reads) true p.0) same b.2) (λ is. subst (λ (o : Option Entry). HasMetAt reads o) s.1 (met is)))

-- The sinks of a play's script have files of their own.
use Rattle.std.proofs.Common.{◌≡◌, ◌≢◌, ◌⊎◌, inl, inr, ℕ, ◌+◌, Bool, true, false, not, ◌||◌, List, [], ◌∷◌, ◌++◌, codes, length, Some, Ok, Err, refl, sym, ◌∙◌, ap, subst}
use Rattle.std.specs.Prelude.{IsTrue}
use Rattle.std.specs.List.{list_any}
use Rattle.std.specs.Str.{bytes_eq}
use Rattle.std.proofs.lemmas.Bool.{and_parts}
use Rattle.std.proofs.lemmas.Slice.Eq.{bytes_eq-Decides}
use Rattle.omx_types.specs.declared.fault.ScriptWhy.TheVariants as whys
use Rattle.line_text.specs.Lines.{lines_of}
use Rattle.script_lang.specs.LineByLine.{Begin, ComeTo, fault_at}
use Rattle.script_lang.specs.PlayKnown.{file_clashes, has_part, is_free, is_taken, reads_file, writes_file}
use Rattle.script_lang.specs.PlayScripts.{IsPlayScript, PlayBefore, PlayComes, PlayReadsAs, PlaySays, no_play, play_after, with_form}
use Rattle.script_lang.specs.declared.play_form.PlayForm.{PlayForm}
use Rattle.script_lang.specs.declared.play_form.PlayForm.TheVariants.{Part, Link}
use Rattle.script_lang.specs.declared.play_line.PartForm.{PartForm}
use Rattle.script_lang.specs.declared.play_line.PartForm.TheVariants as forms
use Rattle.script_lang.specs.declared.play_line.PartLine.{PartLine}
use Rattle.script_lang.specs.declared.play_saying.PlaySaid.{PlaySaid}
use Rattle.script_lang.specs.declared.play_saying.PlaySaid.TheVariants.{Nothing, Units, Form, Fault}
use Rattle.script_lang.specs.declared.script.Script.{Script}
use Rattle.machine_laws.proofs.Every.{none_passes}
use Rattle.play_build_laws.proofs.Places.{pushed_at}
use Rattle.play_forms.specs.Plans.{IsPlanOfScript, PlanValue}
use Rattle.play_result_laws.specs.Files.{IsReader, IsWriter, read_by, written_by}
use Rattle.play_files.specs.Names.{HaveOwnFiles}

-- ---- tests

untrue : (b : Bool) → not b ≡ true → b ≡ false
untrue true e = absurd cc
untrue false e = refl

neither : (a b : Bool) → (a || b) ≡ false → (a ≡ false) × (b ≡ false)
neither true b e = absurd cc
neither false b e = (refl, e)

other_bytes : (a b : List ℕ) → bytes_eq a b ≡ false → a ≢ b
other_bytes a b e s = let t : bytes_eq a b ≡ true = (bytes_eq-Decides a b).1 s in absurd cc

writes_it : (form : PartForm) (name : List ℕ) → written_by form ≡ Some name → writes_file name form ≡ true
writes_it (forms.Sink file) name e = (bytes_eq-Decides file name).1 (cc)
writes_it (forms.Source file) name e = absurd cc
writes_it (forms.Late file) name e = absurd cc
writes_it forms.Decoder name e = absurd cc
writes_it forms.Alaw name e = absurd cc
writes_it forms.Mulaw name e = absurd cc
writes_it (forms.Gain gain) name e = absurd cc
writes_it (forms.Mixer weights) name e = absurd cc
writes_it (forms.Splitter outputs) name e = absurd cc

reads_it : (form : PartForm) (name : List ℕ) → read_by form ≡ Some name → reads_file name form ≡ true
reads_it (forms.Source file) name e = (bytes_eq-Decides file name).1 (cc)
reads_it (forms.Late file) name e = (bytes_eq-Decides file name).1 (cc)
reads_it (forms.Sink file) name e = absurd cc
reads_it forms.Decoder name e = absurd cc
reads_it forms.Alaw name e = absurd cc
reads_it forms.Mulaw name e = absurd cc
reads_it (forms.Gain gain) name e = absurd cc
reads_it (forms.Mixer weights) name e = absurd cc
reads_it (forms.Splitter outputs) name e = absurd cc

-- ---- one part more

-- what a free line says of a file that it writes, and of one that it reads
record IsOther (script log : List ℕ) (parts : List PartLine) (name : List ℕ) : Type 0 where
  script_other : name ≢ script
  log_other : name ≢ log
  unwritten : (k : ℕ) → IsWriter parts k name → ⊥
  unread : (k : ℕ) → IsReader parts k name → ⊥

free_sink : (script log : List ℕ) (parts : List PartLine) (form : PartForm) (name : List ℕ) → file_clashes script log parts form ≡ false → written_by form ≡ Some name → IsOther script log parts name
free_sink script log parts (forms.Sink file) name clear e =
    let s : file ≡ name = cc in
    let both = neither (is_taken script log file) (list_any (λ (part : PartLine). writes_file file part.form || reads_file file part.form) parts) clear in
    let taken = neither (bytes_eq file script) (bytes_eq file log) both.0 in
    record {
      script_other = λ t. other_bytes file script taken.0 (s ∙ t);
      log_other = λ t. other_bytes file log taken.1 (s ∙ t);
      unwritten = λ k (part, there, w).
          (let n = none_passes (λ (part : PartLine). writes_file file part.form || reads_file file part.form) parts k part both.1 there in
          let a = (neither (writes_file file part.form) (reads_file file part.form) n).0 in
          let b = writes_it part.form file (w ∙ ap Some (sym s)) in absurd cc);
      unread = λ k (part, there, r).
          (let n = none_passes (λ (part : PartLine). writes_file file part.form || reads_file file part.form) parts k part both.1 there in
          let a = (neither (writes_file file part.form) (reads_file file part.form) n).1 in
          let b = reads_it part.form file (r ∙ ap Some (sym s)) in absurd cc);
    }
free_sink script log parts (forms.Source file) name clear e = absurd cc
free_sink script log parts (forms.Late file) name clear e = absurd cc
free_sink script log parts forms.Decoder name clear e = absurd cc
free_sink script log parts forms.Alaw name clear e = absurd cc
free_sink script log parts forms.Mulaw name clear e = absurd cc
free_sink script log parts (forms.Gain gain) name clear e = absurd cc
free_sink script log parts (forms.Mixer weights) name clear e = absurd cc
free_sink script log parts (forms.Splitter outputs) name clear e = absurd cc

free_source : (script log : List ℕ) (parts : List PartLine) (form : PartForm) (name : List ℕ) → file_clashes script log parts form ≡ false → read_by form ≡ Some name → (k : ℕ) → IsWriter parts k name → ⊥
free_source script log parts (forms.Source file) name clear e k (part, there, w) =
    let s : file ≡ name = cc in
    let n = none_passes (λ (part : PartLine). writes_file file part.form) parts k part (neither (is_taken script log file) (list_any (λ (part : PartLine). writes_file file part.form) parts) clear).1 there in
    let b = writes_it part.form file (w ∙ ap Some (sym s)) in
    absurd cc
free_source script log parts (forms.Late file) name clear e k (part, there, w) =
    let s : file ≡ name = cc in
    let n = none_passes (λ (part : PartLine). writes_file file part.form) parts k part (neither (is_taken script log file) (list_any (λ (part : PartLine). writes_file file part.form) parts) clear).1 there in
    let b = writes_it part.form file (w ∙ ap Some (sym s)) in
    absurd cc
free_source script log parts (forms.Sink file) name clear e k w = absurd cc
free_source script log parts forms.Decoder name clear e k w = absurd cc
free_source script log parts forms.Alaw name clear e k w = absurd cc
free_source script log parts forms.Mulaw name clear e k w = absurd cc
free_source script log parts (forms.Gain gain) name clear e k w = absurd cc
free_source script log parts (forms.Mixer weights) name clear e k w = absurd cc
free_source script log parts (forms.Splitter outputs) name clear e k w = absurd cc

not_both : (form : PartForm) (a b : List ℕ) → written_by form ≡ Some a → read_by form ≡ Some b → ⊥
not_both (forms.Sink file) a b w r = absurd cc
not_both (forms.Source file) a b w r = absurd cc
not_both (forms.Late file) a b w r = absurd cc
not_both forms.Decoder a b w r = absurd cc
not_both forms.Alaw a b w r = absurd cc
not_both forms.Mulaw a b w r = absurd cc
not_both (forms.Gain gain) a b w r = absurd cc
not_both (forms.Mixer weights) a b w r = absurd cc
not_both (forms.Splitter outputs) a b w r = absurd cc

module _ (script log : List ℕ) (parts : List PartLine) (x : PartLine) (own : HaveOwnFiles script log parts) (clear : file_clashes script log parts x.form ≡ false) where
  writer_at : (k : ℕ) (name : List ℕ) → IsWriter (parts ++ x ∷ []) k name → IsWriter parts k name ⊎ ((k ≡ length parts) × (written_by x.form ≡ Some name))
  writer_at k name (part, there, w) = elim (pushed_at parts k x part there) [ inl p ↦ inl (part, p, w) | inr p ↦ inr (p.0, ap (λ (y : PartLine). written_by y.form) (sym p.1) ∙ w) ]

  reader_at : (k : ℕ) (name : List ℕ) → IsReader (parts ++ x ∷ []) k name → IsReader parts k name ⊎ ((k ≡ length parts) × (read_by x.form ≡ Some name))
  reader_at k name (part, there, r) = elim (pushed_at parts k x part there) [ inl p ↦ inl (part, p, r) | inr p ↦ inr (p.0, ap (λ (y : PartLine). read_by y.form) (sym p.1) ∙ r) ]

  pushed_own : HaveOwnFiles script log (parts ++ x ∷ [])
  pushed_own = record {
    sinks = λ i j name a b. elim (writer_at i name a) [
      | inl p ↦ elim (writer_at j name b) [ inl q ↦ own.sinks i j name p q | inr q ↦ absurd ((free_sink script log parts x.form name clear q.1).unwritten i p) ]
      | inr p ↦ elim (writer_at j name b) [ inl q ↦ absurd ((free_sink script log parts x.form name clear p.1).unwritten j q) | inr q ↦ p.0 ∙ sym q.0 ]
    ];
    sources = λ i j name a b. elim (writer_at i name a) [
      | inl p ↦ elim (reader_at j name b) [ inl q ↦ own.sources i j name p q | inr q ↦ free_source script log parts x.form name clear q.1 i p ]
      | inr p ↦ elim (reader_at j name b) [ inl q ↦ (free_sink script log parts x.form name clear p.1).unread j q | inr q ↦ not_both x.form name name p.1 q.1 ]
    ];
    script_other = λ i name a. elim (writer_at i name a) [ inl p ↦ own.script_other i name p | inr p ↦ (free_sink script log parts x.form name clear p.1).script_other ];
    log_other = λ i name a. elim (writer_at i name a) [ inl p ↦ own.log_other i name p | inr p ↦ (free_sink script log parts x.form name clear p.1).log_other ];
  }

form_own : (script log : List ℕ) (before : PlayBefore) (number : ℕ) (form : PlayForm) → IsTrue (is_free script log before.parts form) → HaveOwnFiles script log before.parts → HaveOwnFiles script log (with_form before number form).parts
form_own script log before number (Part name form) F own =
    let both = and_parts (not (has_part before.parts name)) (not (file_clashes script log before.parts form)) F in
    pushed_own script log before.parts (record { line = number; name = name; form = form }) own (untrue (file_clashes script log before.parts form) both.1)
form_own script log before number (Link output input count size) F own = own

-- ---- line by line

said_free : (script log : List ℕ) (before : PlayBefore) (line : List ℕ) (form : PlayForm) → PlaySays script log before line (Form form) → IsTrue (is_free script log before.parts form)
said_free script log before line form (inl h) = h.1.3
said_free script log before line form (inr h) = let e : Form form ≡ Fault whys.NotText = h.1 in absurd cc

line_own : (script log : List ℕ) (before next : PlayBefore) (number : ℕ) (line : List ℕ) (said : PlaySaid) → PlaySays script log before line said → Ok next ≡ play_after before number said → HaveOwnFiles script log before.parts → HaveOwnFiles script log next.parts
line_own script log before next number line Nothing S e own = let s : next ≡ before = cc in subst (λ (y : PlayBefore). HaveOwnFiles script log y.parts) (sym s) own
line_own script log before next number line (Units n) S e own =
    let s : next ≡ record { units = Some n; parts = before.parts; links = before.links } = cc in
    subst (λ (y : PlayBefore). HaveOwnFiles script log y.parts) (sym s) own
line_own script log before next number line (Form form) S e own =
    let s : next ≡ with_form before number form = cc in
    subst (λ (y : PlayBefore). HaveOwnFiles script log y.parts) (sym s) (form_own script log before number form (said_free script log before line form S) own)
line_own script log before next number line (Fault why) S e own = absurd cc

lines_own : (script log : List ℕ) (lines : List (List ℕ)) (before last : PlayBefore) (number : ℕ) → HaveOwnFiles script log before.parts → ComeTo (PlayComes script log) before number lines (Ok last) → HaveOwnFiles script log last.parts
lines_own script log [] before last number own h = let s : last ≡ before = cc in subst (λ (y : PlayBefore). HaveOwnFiles script log y.parts) (sym s) own
lines_own script log (line ∷ lines) before last number own (Ok next, comes, rest) =
    lines_own script log lines next last (number + 1) (line_own script log before next number line comes.0 comes.1 comes.2 own) rest
lines_own script log (line ∷ lines) before last number own (Err fault, comes, rest) = absurd cc

none_own : (script log : List ℕ) → HaveOwnFiles script log []
none_own script log = record {
  sinks = λ i j name (part, e, w) b. absurd cc;
  sources = λ i j name (part, e, w) b. absurd cc;
  script_other = λ i name (part, e, w). absurd cc;
  log_other = λ i name (part, e, w). absurd cc;
}

begun_own : (script log : List ℕ) (lines : List (List ℕ)) (last : PlayBefore) → Begin (PlayComes script log) no_play (codes "play") lines (Ok last) → HaveOwnFiles script log last.parts
begun_own script log [] last h = absurd cc
begun_own script log (line ∷ lines) last (inl h) = let e : Ok last ≡ Err (fault_at 1 whys.NotText) = h.1 in absurd cc
begun_own script log (line ∷ lines) last (inr (inl h)) = let e : Ok last ≡ Err (fault_at 1 whys.FirstLine) = h.2 in absurd cc
begun_own script log (line ∷ lines) last (inr (inr h)) = lines_own script log lines no_play last 2 (none_own script log) h.2

read_own : (script log text : List ℕ) (last : PlayBefore) → PlayReadsAs script log text (Ok last) → HaveOwnFiles script log last.parts
read_own script log text last (inl h) = let e : Ok last ≡ Err (fault_at 0 whys.TooLong) = h.1 in absurd cc
read_own script log text last (inr h) = begun_own script log (lines_of text) last h.1

pub own_files : (script log text : List ℕ) (read : Script) (plan : PlanValue) → IsPlayScript script log text read → IsPlanOfScript read plan → HaveOwnFiles script log plan.parts
own_files script log text read plan (last, reads, is) P =
    let planned = subst (λ (y : Script). IsPlanOfScript y plan) is P in
    subst (HaveOwnFiles script log) (sym planned.parts_of) (read_own script log text last reads)

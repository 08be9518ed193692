-- No source of a play's script reads the log.
use Rattle.std.proofs.Common.{◌≡◌, ◌≢◌, inl, inr, ℕ, ◌+◌, Bool, true, false, not, ◌||◌, List, [], ◌∷◌, ◌++◌, codes, Some, Ok, Err, refl, sym, ◌∙◌, ap, subst}
use Rattle.std.specs.Prelude.{IsTrue}
use Rattle.std.specs.List.{list_any}
use Rattle.std.specs.Str.{bytes_eq}
use Rattle.std.proofs.lemmas.Bool.{and_parts}
use Rattle.std.proofs.lemmas.Slice.Eq.{bytes_eq-Decides}
use Rattle.omx_types.specs.declared.fault.ScriptWhy.TheVariants as whys
use Rattle.line_text.specs.Lines.{lines_of}
use Rattle.script_lang.specs.LineByLine.{Begin, ComeTo, fault_at}
use Rattle.script_lang.specs.PlayKnown.{file_clashes, has_part, is_free, is_taken, writes_file}
use Rattle.script_lang.specs.PlayScripts.{IsPlayScript, PlayBefore, PlayComes, PlayReadsAs, PlaySays, no_play, play_after, with_form}
use Rattle.script_lang.specs.declared.play_form.PlayForm.{PlayForm}
use Rattle.script_lang.specs.declared.play_form.PlayForm.TheVariants.{Part, Link}
use Rattle.script_lang.specs.declared.play_line.PartForm.{PartForm}
use Rattle.script_lang.specs.declared.play_line.PartForm.TheVariants as forms
use Rattle.script_lang.specs.declared.play_line.PartLine.{PartLine}
use Rattle.script_lang.specs.declared.play_saying.PlaySaid.{PlaySaid}
use Rattle.script_lang.specs.declared.play_saying.PlaySaid.TheVariants.{Nothing, Units, Form, Fault}
use Rattle.script_lang.specs.declared.script.Script.{Script}
use Rattle.play_build_laws.proofs.Places.{pushed_at}
use Rattle.play_forms.specs.Plans.{IsPlanOfScript, PlanValue}
use Rattle.play_result_laws.specs.Files.{IsReader, read_by}

abbrev pub ReadNoLog : List ℕ → List PartLine → Type 0
ReadNoLog log parts = (place : ℕ) (name : List ℕ) → IsReader parts place name → name ≢ log

-- ---- one part more

untrue : (b : Bool) → not b ≡ true → b ≡ false
untrue true e = absurd cc
untrue false e = refl

neither : (a b : Bool) → (a || b) ≡ false → (a ≡ false) × (b ≡ false)
neither true b e = absurd cc
neither false b e = (refl, e)

not_taken : (script log file name : List ℕ) (written : Bool) → (is_taken script log file || written) ≡ false → Some file ≡ Some name → name ≢ log
not_taken script log file name written clear e is =
    let same : file ≡ log = (let f : file ≡ name = cc in f ∙ is) in
    let apart = (neither (bytes_eq file script) (bytes_eq file log) (neither (is_taken script log file) written clear).0).1 in
    let alike = (bytes_eq-Decides file log).1 same in
    absurd cc

form_other : (script log : List ℕ) (parts : List PartLine) (form : PartForm) (name : List ℕ) → file_clashes script log parts form ≡ false → read_by form ≡ Some name → name ≢ log
form_other script log parts (forms.Source file) name clear e = not_taken script log file name (list_any (λ (part : PartLine). writes_file file part.form) parts) clear e
form_other script log parts (forms.Late file) name clear e = not_taken script log file name (list_any (λ (part : PartLine). writes_file file part.form) parts) clear e
form_other script log parts (forms.Sink file) name clear e = absurd cc
form_other script log parts forms.Decoder name clear e = absurd cc
form_other script log parts forms.Alaw name clear e = absurd cc
form_other script log parts forms.Mulaw name clear e = absurd cc
form_other script log parts (forms.Gain gain) name clear e = absurd cc
form_other script log parts (forms.Mixer weights) name clear e = absurd cc
form_other script log parts (forms.Splitter outputs) name clear e = absurd cc

pushed : (script log : List ℕ) (parts : List PartLine) (x : PartLine) → file_clashes script log parts x.form ≡ false → ReadNoLog log parts → ReadNoLog log (parts ++ x ∷ [])
pushed script log parts x clear none k name (part, there, r) = elim (pushed_at parts k x part there) [
  | inl p ↦ none k name (part, p, r)
  | inr p ↦ form_other script log parts x.form name clear (ap (λ (y : PartLine). read_by y.form) (sym p.1) ∙ r)
]

with_form_none : (script log : List ℕ) (before : PlayBefore) (number : ℕ) (form : PlayForm) → IsTrue (is_free script log before.parts form) → ReadNoLog log before.parts → ReadNoLog log (with_form before number form).parts
with_form_none script log before number (Part name form) F none =
    let both = and_parts (not (has_part before.parts name)) (not (file_clashes script log before.parts form)) F in
    pushed script log before.parts (record { line = number; name = name; form = form }) (untrue (file_clashes script log before.parts form) both.1) none
with_form_none script log before number (Link output input count size) F none = none

-- ---- line by line

module _ (script log : List ℕ) where
  said_free : (before : PlayBefore) (line : List ℕ) (form : PlayForm) → PlaySays script log before line (Form form) → IsTrue (is_free script log before.parts form)
  said_free before line form (inl h) = h.1.3
  said_free before line form (inr h) = let e : Form form ≡ Fault whys.NotText = h.1 in absurd cc

  line_none : (before next : PlayBefore) (number : ℕ) (line : List ℕ) (said : PlaySaid) → PlaySays script log before line said → Ok next ≡ play_after before number said → ReadNoLog log before.parts → ReadNoLog log next.parts
  line_none before next number line Nothing S e none = let s : next ≡ before = cc in subst (λ (y : PlayBefore). ReadNoLog log y.parts) (sym s) none
  line_none before next number line (Units n) S e none =
      let s : next ≡ record { units = Some n; parts = before.parts; links = before.links } = cc in
      subst (λ (y : PlayBefore). ReadNoLog log y.parts) (sym s) none
  line_none before next number line (Form form) S e none =
      let s : next ≡ with_form before number form = cc in
      subst (λ (y : PlayBefore). ReadNoLog log y.parts) (sym s) (with_form_none script log before number form (said_free before line form S) none)
  line_none before next number line (Fault why) S e none = absurd cc

  lines_none : (lines : List (List ℕ)) (before last : PlayBefore) (number : ℕ) → ReadNoLog log before.parts → ComeTo (PlayComes script log) before number lines (Ok last) → ReadNoLog log last.parts
  lines_none [] before last number none h = let s : last ≡ before = cc in subst (λ (y : PlayBefore). ReadNoLog log y.parts) (sym s) none
  lines_none (line ∷ lines) before last number none (Ok next, comes, rest) =
      lines_none lines next last (number + 1) (line_none before next number line comes.0 comes.1 comes.2 none) rest
  lines_none (line ∷ lines) before last number none (Err fault, comes, rest) = absurd cc

  none_first : ReadNoLog log []
  none_first k name (part, there, r) = absurd cc

  begun_none : (lines : List (List ℕ)) (last : PlayBefore) → Begin (PlayComes script log) no_play (codes "play") lines (Ok last) → ReadNoLog log last.parts
  begun_none [] last h = absurd cc
  begun_none (line ∷ lines) last (inl h) = let e : Ok last ≡ Err (fault_at 1 whys.NotText) = h.1 in absurd cc
  begun_none (line ∷ lines) last (inr (inl h)) = let e : Ok last ≡ Err (fault_at 1 whys.FirstLine) = h.2 in absurd cc
  begun_none (line ∷ lines) last (inr (inr h)) = lines_none lines no_play last 2 none_first h.2

  read_none : (text : List ℕ) (last : PlayBefore) → PlayReadsAs script log text (Ok last) → ReadNoLog log last.parts
  read_none text last (inl h) = let e : Ok last ≡ Err (fault_at 0 whys.TooLong) = h.1 in absurd cc
  read_none text last (inr h) = begun_none (lines_of text) last h.1

  pub read_no_log : (text : List ℕ) (read : Script) (plan : PlanValue) → IsPlayScript script log text read → IsPlanOfScript read plan → ReadNoLog log plan.parts
  read_no_log text read plan (last, reads, is) P =
      let planned = subst (λ (y : Script). IsPlanOfScript y plan) is P in
      subst (ReadNoLog log) (sym planned.parts_of) (read_none text last reads)

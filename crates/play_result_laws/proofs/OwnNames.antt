-- The components of a play's script have names of their own.
use Rattle.std.proofs.Common.{◌≡◌, inl, inr, ℕ, zero, suc, ◌+◌, Bool, true, false, not, ◌||◌, List, [], ◌∷◌, ◌++◌, codes, slice_get, Some, Ok, Err, refl, sym, ◌∙◌, ap, subst}
use Rattle.std.specs.Prelude.{IsTrue}
use Rattle.std.specs.Str.{bytes_eq}
use Rattle.std.proofs.lemmas.Bool.{and_parts}
use Rattle.std.proofs.lemmas.Slice.Eq.{bytes_eq-Decides}
use Rattle.omx_types.specs.declared.fault.ScriptWhy.TheVariants as whys
use Rattle.line_text.specs.Lines.{lines_of}
use Rattle.script_lang.specs.LineByLine.{Begin, ComeTo, fault_at}
use Rattle.script_lang.specs.PlayKnown.{file_clashes, has_part, is_free}
use Rattle.script_lang.specs.PlayScripts.{IsPlayScript, PlayBefore, PlayComes, PlayReadsAs, PlaySays, no_play, play_after, with_form}
use Rattle.script_lang.specs.declared.play_form.PlayForm.{PlayForm}
use Rattle.script_lang.specs.declared.play_form.PlayForm.TheVariants.{Part, Link}
use Rattle.script_lang.specs.declared.play_line.PartLine.{PartLine}
use Rattle.script_lang.specs.declared.play_saying.PlaySaid.{PlaySaid}
use Rattle.script_lang.specs.declared.play_saying.PlaySaid.TheVariants.{Nothing, Units, Form, Fault}
use Rattle.script_lang.specs.declared.script.Script.{Script}
use Rattle.play_build_laws.proofs.Places.{pushed_at}
use Rattle.play_forms.specs.Plans.{IsPlanOfScript, PlanValue}
use Rattle.play_log.specs.Scenes.{HaveOwnNames}
use Rattle.play_log.proofs.Players.{some_same}

-- ---- one part more

or_true : (b : Bool) → (b || true) ≡ true
or_true true = refl
or_true false = refl

untrue : (b : Bool) → not b ≡ true → b ≡ false
untrue true e = absurd cc
untrue false e = refl

name_there : (parts : List PartLine) (k : ℕ) (part : PartLine) (name : List ℕ) → slice_get parts k ≡ Some part → part.name ≡ name → has_part parts name ≡ true
name_there [] k part name e n = absurd cc
name_there (x ∷ parts) zero part name e n =
    let s : x ≡ part = some_same x part e in
    let t : bytes_eq x.name name ≡ true = (bytes_eq-Decides x.name name).1 (ap (λ (y : PartLine). y.name) s ∙ n) in
    rw t refl
name_there (x ∷ parts) (suc k) part name e n =
    let r = name_there parts k part name e n in
    rw r (or_true (bytes_eq x.name name))

pushed_own : (parts : List PartLine) (x : PartLine) → HaveOwnNames parts → has_part parts x.name ≡ false → HaveOwnNames (parts ++ x ∷ [])
pushed_own parts x own new i j a b e f n = elim (pushed_at parts i x a e) [
  | inl p ↦ elim (pushed_at parts j x b f) [
    | inl q ↦ own i j a b p q n
    | inr q ↦ let t : has_part parts x.name ≡ true = name_there parts i a x.name p (n ∙ ap (λ (y : PartLine). y.name) q.1) in absurd cc
  ]
  | inr p ↦ elim (pushed_at parts j x b f) [
    | inl q ↦ let t : has_part parts x.name ≡ true = name_there parts j b x.name q (sym n ∙ ap (λ (y : PartLine). y.name) p.1) in absurd cc
    | inr q ↦ p.0 ∙ sym q.0
  ]
]

form_own : (script log : List ℕ) (before : PlayBefore) (number : ℕ) (form : PlayForm) → IsTrue (is_free script log before.parts form) → HaveOwnNames before.parts → HaveOwnNames (with_form before number form).parts
form_own script log before number (Part name form) F own =
    let both = and_parts (not (has_part before.parts name)) (not (file_clashes script log before.parts form)) F in
    pushed_own before.parts (record { line = number; name = name; form = form }) own (untrue (has_part before.parts name) both.0)
form_own script log before number (Link output input count size) F own = own

-- ---- line by line

said_free : (script log : List ℕ) (before : PlayBefore) (line : List ℕ) (form : PlayForm) → PlaySays script log before line (Form form) → IsTrue (is_free script log before.parts form)
said_free script log before line form (inl h) = h.1.3
said_free script log before line form (inr h) = let e : Form form ≡ Fault whys.NotText = h.1 in absurd cc

line_own : (script log : List ℕ) (before next : PlayBefore) (number : ℕ) (line : List ℕ) (said : PlaySaid) → PlaySays script log before line said → Ok next ≡ play_after before number said → HaveOwnNames before.parts → HaveOwnNames next.parts
line_own script log before next number line Nothing S e own = let s : next ≡ before = cc in subst (λ (y : PlayBefore). HaveOwnNames y.parts) (sym s) own
line_own script log before next number line (Units n) S e own =
    let s : next ≡ record { units = Some n; parts = before.parts; links = before.links } = cc in
    subst (λ (y : PlayBefore). HaveOwnNames y.parts) (sym s) own
line_own script log before next number line (Form form) S e own =
    let s : next ≡ with_form before number form = cc in
    subst (λ (y : PlayBefore). HaveOwnNames y.parts) (sym s) (form_own script log before number form (said_free script log before line form S) own)
line_own script log before next number line (Fault why) S e own = absurd cc

lines_own : (script log : List ℕ) (lines : List (List ℕ)) (before last : PlayBefore) (number : ℕ) → HaveOwnNames before.parts → ComeTo (PlayComes script log) before number lines (Ok last) → HaveOwnNames last.parts
lines_own script log [] before last number own h = let s : last ≡ before = cc in subst (λ (y : PlayBefore). HaveOwnNames y.parts) (sym s) own
lines_own script log (line ∷ lines) before last number own (Ok next, comes, rest) =
    lines_own script log lines next last (number + 1) (line_own script log before next number line comes.0 comes.1 comes.2 own) rest
lines_own script log (line ∷ lines) before last number own (Err fault, comes, rest) = absurd cc

none_own : HaveOwnNames []
none_own i j a b e f n = absurd cc

begun_own : (script log : List ℕ) (lines : List (List ℕ)) (last : PlayBefore) → Begin (PlayComes script log) no_play (codes "play") lines (Ok last) → HaveOwnNames last.parts
begun_own script log [] last h = absurd cc
begun_own script log (line ∷ lines) last (inl h) = let e : Ok last ≡ Err (fault_at 1 whys.NotText) = h.1 in absurd cc
begun_own script log (line ∷ lines) last (inr (inl h)) = let e : Ok last ≡ Err (fault_at 1 whys.FirstLine) = h.2 in absurd cc
begun_own script log (line ∷ lines) last (inr (inr h)) = lines_own script log lines no_play last 2 none_own h.2

read_own : (script log text : List ℕ) (last : PlayBefore) → PlayReadsAs script log text (Ok last) → HaveOwnNames last.parts
read_own script log text last (inl h) = let e : Ok last ≡ Err (fault_at 0 whys.TooLong) = h.1 in absurd cc
read_own script log text last (inr h) = begun_own script log (lines_of text) last h.1

pub own_names : (script log text : List ℕ) (read : Script) (plan : PlanValue) → IsPlayScript script log text read → IsPlanOfScript read plan → HaveOwnNames plan.parts
own_names script log text read plan (last, reads, is) P =
    let planned = subst (λ (y : Script). IsPlanOfScript y plan) is P in
    subst HaveOwnNames (sym planned.parts_of) (read_own script log text last reads)

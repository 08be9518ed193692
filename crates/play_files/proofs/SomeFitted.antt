-- Where each source of a script has a head, its plan can be fitted to their heads.
use Rattle.std.proofs.Common.{◌≡◌, ◌⊎◌, inl, inr, ℕ, zero, suc, ◌+◌, Bool, true, false, cond, List, [], ◌∷◌, length, take, replicate, slice_get, Option, Some, None, refl, sym, ◌∙◌, ap, subst, arith}
use Rattle.std.proofs.lemmas.List.{length-replicate}
use Rattle.std.proofs.lemmas.List.Sums.{sum_by-cons}
use Rattle.part_forms.specs.Kinds.{is_source}
use Rattle.outside_io.specs.Files.{Outside}
use Rattle.script_lang.specs.declared.play_line.PartForm.{PartForm}
use Rattle.script_lang.specs.declared.play_line.PartForm.TheVariants as forms
use Rattle.script_lang.specs.declared.play_line.PartLine.{PartLine}
use Rattle.script_lang.specs.declared.script.Script.{Script}
use Rattle.wav_form.specs.declared.heads.WavHead.{WavHead}
use Rattle.play_forms.specs.declared.flow.Flow.{Flow}
use Rattle.play_forms.specs.Flows.{flow_at, flow_rule, no_flow}
use Rattle.play_forms.specs.Parts.{is_source_part, kind_of, source_number}
use Rattle.play_forms.specs.Plans.{IsFitted, IsPlanOfScript, IsValid, PlanValue}
use Rattle.play_forms.specs.Settling.{given_along, into}
use Rattle.play_forms.proofs.Places.{Some_same}
use Rattle.play_forms.proofs.Plainly.{givers_within}
use Rattle.play_forms.proofs.Settled.{settled}
use Rattle.play_result_laws.specs.Files.{IsReader, read_by}
use Rattle.play_files.specs.Left.{IsFittedTo}
use Rattle.play_files.specs.Opening.{HasHead}
use Rattle.play_files.proofs.FittedPlans.{valid_of}

-- ---- the heads, one for each source

abbrev HasHeads : Outside → List PartLine → Type 0
HasHeads old parts = (place : ℕ) (name : List ℕ) → IsReader parts place name → (head : WavHead) × HasHead old name head

-- the head of each source stands at its number
abbrev AreNumbered : Outside → List PartLine → List WavHead → Type 0
AreNumbered old parts heads = (place : ℕ) (name : List ℕ) → IsReader parts place name → (head : WavHead) × (slice_get heads (source_number parts place) ≡ Some head) × HasHead old name head

-- a component reads a file, or it's no source
reads_or_not : (form : PartForm) → ((name : List ℕ) × (read_by form ≡ Some name) × (is_source (kind_of form) ≡ true)) ⊎ ((read_by form ≡ None) × (is_source (kind_of form) ≡ false))
reads_or_not (forms.Source file) = inl (file, refl, refl)
reads_or_not (forms.Late file) = inl (file, refl, refl)
reads_or_not forms.Decoder = inr (refl, refl)
reads_or_not forms.Alaw = inr (refl, refl)
reads_or_not forms.Mulaw = inr (refl, refl)
reads_or_not (forms.Gain gain) = inr (refl, refl)
reads_or_not (forms.Mixer weights) = inr (refl, refl)
reads_or_not (forms.Splitter outputs) = inr (refl, refl)
reads_or_not (forms.Sink file) = inr (refl, refl)

module _ (old : Outside) (p : PartLine) (parts : List PartLine) where
  number_behind : (place : ℕ) (source : Bool) → is_source_part p ≡ source → source_number (p ∷ parts) (suc place) ≡ cond source 1 0 + source_number parts place
  number_behind place source e = sum_by-cons (λ (q : PartLine). cond (is_source_part q) 1 0) p (take place parts) ∙ ap (λ (b : Bool). cond b 1 0 + source_number parts place) e

  first_is : (part : PartLine) → slice_get (p ∷ parts) 0 ≡ Some part → p ≡ part
  first_is part there = Some_same p part there

  -- behind a source
  with_source : (name : List ℕ) (head : WavHead) (heads : List WavHead) → read_by p.form ≡ Some name → is_source_part p ≡ true → HasHead old name head → AreNumbered old parts heads → AreNumbered old (p ∷ parts) (head ∷ heads)
  with_source name head heads reads source has each zero found (part, there, reads_too) =
      let own : read_by p.form ≡ Some found = subst (λ (q : PartLine). read_by q.form ≡ Some found) (sym (first_is part there)) reads_too in
      (head, refl, subst (λ (n : List ℕ). HasHead old n head) (Some_same name found (sym reads ∙ own)) has)
  with_source name head heads reads source has each (suc place) found reader =
      let (other, at, its) = each place found reader in
      let number : source_number (p ∷ parts) (suc place) ≡ suc (source_number parts place) = number_behind place true source ∙ omega arith in
      (other, ap (slice_get (head ∷ heads)) number ∙ at, its)

  -- behind another component
  with_other : (heads : List WavHead) → read_by p.form ≡ None → is_source_part p ≡ false → AreNumbered old parts heads → AreNumbered old (p ∷ parts) heads
  with_other heads unread other each zero found (part, there, reads) =
      let own : read_by p.form ≡ Some found = subst (λ (q : PartLine). read_by q.form ≡ Some found) (sym (first_is part there)) reads in
      let e : ◌≡◌ {A = Option (List ℕ)} None (Some found) = sym unread ∙ own in
      absurd cc
  with_other heads unread other each (suc place) found reader =
      let (head, at, its) = each place found reader in
      let number : source_number (p ∷ parts) (suc place) ≡ source_number parts place = number_behind place false other ∙ omega arith in
      (head, ap (slice_get heads) number ∙ at, its)

heads_of : (old : Outside) (parts : List PartLine) → HasHeads old parts → (heads : List WavHead) × AreNumbered old parts heads
heads_of old [] has = ([], λ place name reader. (let there = reader.1 in absurd cc))
heads_of old (p ∷ parts) has =
    let (heads, each) = heads_of old parts (λ place name reader. has (suc place) name reader) in
    elim (reads_or_not p.form) [
      | inl (name, reads, source) ↦ let (head, its) = has zero name (p, refl, reads) in (head ∷ heads, with_source old p parts name head heads reads source its each)
      | inr (unread, other) ↦ (heads, with_other old p parts heads unread other each)
    ]

-- ---- a number for each component

abbrev by_place : (ℕ → PartLine → ℕ) → List PartLine → List ℕ
by_place f [] = []
by_place f (p ∷ parts) = f zero p ∷ by_place (λ place. f (suc place)) parts

by_place-length : (f : ℕ → PartLine → ℕ) (parts : List PartLine) → length (by_place f parts) ≡ length parts
by_place-length f [] = refl
by_place-length f (p ∷ parts) = ap suc (by_place-length (λ place. f (suc place)) parts)

by_place-each : (f : ℕ → PartLine → ℕ) (parts : List PartLine) (place : ℕ) (part : PartLine) → slice_get parts place ≡ Some part → slice_get (by_place f parts) place ≡ Some (f place part)
by_place-each f [] place part there = absurd cc
by_place-each f (p ∷ parts) zero part there = ap (λ (q : PartLine). Some (f zero q)) (Some_same p part there)
by_place-each f (p ∷ parts) (suc place) part there = by_place-each (λ k. f (suc k)) parts place part there

-- ---- the plan

module _ (planned : PlanValue) (heads : List WavHead) where
  abbrev flows_of : List Flow
  flows_of = given_along (flow_rule planned.parts heads) no_flow planned.joints planned.order (replicate (length planned.joints) no_flow)

  abbrev frames_at : ℕ → PartLine → ℕ
  frames_at place part = (flow_at planned.parts heads (Some part) place (into no_flow planned.joints flows_of place)).frames

  abbrev fitted_of : PlanValue
  fitted_of = record { units = planned.units; parts = planned.parts; joints = planned.joints; order = planned.order; flows = flows_of; frames = by_place frames_at planned.parts }

  is_fitted : IsValid planned → IsFitted planned heads fitted_of
  is_fitted valid = record {
    units = refl;
    parts = refl;
    joints = refl;
    order = refl;
    flows = settled (flow_rule planned.parts heads) no_flow planned.joints (length planned.parts) planned.order (replicate (length planned.joints) no_flow) valid.placed
        (givers_within planned.parts planned.joints valid.joined) (length-replicate (length planned.joints) no_flow);
    frames = record { many = by_place-length frames_at planned.parts; each = λ place part there. by_place-each frames_at planned.parts place part there };
  }

pub some_fitted : (script : Script) (old : Outside) (planned : PlanValue) → IsPlanOfScript script planned → HasHeads old planned.parts → (fitted : PlanValue) × IsFittedTo script old fitted
some_fitted script old planned is has =
    let (heads, each) = heads_of old planned.parts has in (
      fitted_of planned heads,
      record {
        planned = planned;
        heads = heads;
        is_plan = is;
        have = λ tells place name low reader. each place name reader;
        is_fitted = is_fitted planned heads (valid_of script planned is);
      },
    )

-- What is told of a plan's sinks is what their texts are.
use Rattle.std.proofs.Common.{◌≡◌, ℕ, suc, ◌+◌, false, List, [], ◌∷◌, slice_get, slice_index_or, Option, Some, None, refl, sym, subst, arith}
use Rattle.script_lang.specs.declared.play_line.PartLine.{PartLine}
use Rattle.play_forms.specs.Plans.{PlanValue}
use Rattle.play_plan_laws.specs.Assemblies.{IsReady, PlayFiles}
use Rattle.play_result_laws.specs.Files.{AreSamples, IsWriter, written_by}
use Rattle.play_result_laws.specs.Summaries.{SinkLine, line_of, lines_from, summary_of, with_line}
use Rattle.play_result_laws.proofs.Ends.{text_long}
use Rattle.play_course.specs.Sums.{planned_from, planned_line, planned_summary}

module _ (plan : PlanValue) (files : PlayFiles) (samples : List (List ℕ)) (R : IsReady plan files) (A : AreSamples plan files samples) where
  line_is : (place : ℕ) (name : List ℕ) → IsWriter plan.parts place name → planned_line plan place ≡ line_of plan samples place
  line_is place name (part, e, w) =
      let long = text_long plan files samples R A (λ l. false) place part name e w in
      λ i. record { component = place; frames = slice_index_or plan.frames place 0; bytes = sym long i }

  line_with : (place : ℕ) (o : Option (List ℕ)) (xs ys : List SinkLine) → ((name : List ℕ) → o ≡ Some name → planned_line plan place ≡ line_of plan samples place) → xs ≡ ys
      → with_line o (planned_line plan place) xs ≡ with_line o (line_of plan samples place) ys
  line_with place None xs ys h e = e
  line_with place (Some name) xs ys h e = let l = h name refl in λ i. l i ∷ e i

  lines_are : (place : ℕ) (parts : List PartLine) → ((i : ℕ) (part : PartLine) → slice_get parts i ≡ Some part → slice_get plan.parts (place + i) ≡ Some part)
      → planned_from plan place parts ≡ lines_from plan samples place parts
  lines_are place [] h = refl
  lines_are place (part ∷ parts) h =
      let here : slice_get plan.parts place ≡ Some part = subst (λ (n : ℕ). slice_get plan.parts n ≡ Some part) (let e : place + 0 ≡ place = omega arith in e) (h 0 part refl) in
      line_with place (written_by part.form) (planned_from plan (place + 1) parts) (lines_from plan samples (place + 1) parts) (λ name w. line_is place name (part, here, w))
      (lines_are (place + 1) parts (λ i p e. subst (λ (n : ℕ). slice_get plan.parts n ≡ Some p) (let f : place + suc i ≡ place + 1 + i = omega arith in f) (h (suc i) p e)))

  pub summary_is : planned_summary plan ≡ summary_of plan samples
  summary_is = lines_are 0 plan.parts (λ i part e. subst (λ (n : ℕ). slice_get plan.parts n ≡ Some part) (let f : i ≡ 0 + i = omega arith in f) e)

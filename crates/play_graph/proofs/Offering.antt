-- The files go to their components, one after the other.
use Rattle.std.proofs.Common.{◌≡◌, inl, inr, ℕ, ◌+◌, ◌<◌, ◌≤◌, List, length, set, slice_get, Option, Some, None, sym, ◌∙◌, ap, subst, arith}
use Rattle.std.specs.Prelude.{IfSome, slice_index_or}
use Rattle.std.proofs.lemmas.Bool.{cases_eq}
use Rattle.std.proofs.lemmas.Option.{slice_get-get_or}
use Rattle.il_machine.specs.Files.{Offered}
use Rattle.machine_laws.proofs.Every.{set_else}
use Rattle.audio_parts.specs.declared.part_file.PartFile.{PartFile}
use Rattle.stream_plan.proofs.Lists.{set_at}
use Rattle.play_forms.specs.Plans.{PlanValue}
use Rattle.play_plan_laws.specs.Assemblies.{PlayFiles}
use Rattle.il_machine.specs.declared.answer.Progress.{Progress}
use Rattle.il_graph.specs.Shown.{KeepsFiles, Shown, file_of}
use Rattle.play_graph.specs.Making.{HaveCome, AreGone, AreOffered, IsOfferedAt}

module _ {S K : Type 0} where
  pub offered_at : (plan : PlanValue) (given : PlayFiles) (offered_by : PartFile S K → Offered) (old now : List (Option (PartFile S K))) (place : ℕ) (x file : Option (PartFile S K)) → AreOffered plan given offered_by old → place < length now
      → slice_get now place ≡ slice_get old place → file ≡ slice_index_or now place x → IsOfferedAt plan given offered_by place file
  offered_at plan given offered_by old now place x file O b same e = O place file (sym same ∙ (slice_get-get_or now place x b ∙ ap Some (sym e)))

  pub gone_more : (now : List (Option (PartFile S K))) (place : ℕ) (e : Option (PartFile S K)) → e ≡ None → place < length now → AreGone place now → AreGone (place + 1) (set now place e)
  gone_more now place e none b G = λ k l. elim (cases_eq k place) [
    | inl q ↦ subst (λ (n : ℕ). slice_get (set now place e) n ≡ Some None) (sym q) (set_at now place e b ∙ ap Some none)
    | inr q ↦ set_else now place k e q ∙ G k (omega (arith, l, q))
  ]

  pub still_more : (old now : List (Option (PartFile S K))) (place : ℕ) (e : Option (PartFile S K)) → ((k : ℕ) → place ≤ k → slice_get now k ≡ slice_get old k) → (k : ℕ) → place + 1 ≤ k → slice_get (set now place e) k ≡ slice_get old k
  still_more old now place e same k l = set_else now place k e (λ q. omega (arith, l, q)) ∙ same k (omega (arith, l))

  -- the component at the next place has its file object, too
  pub come_more : (old now : List (Option (PartFile S K))) (place : ℕ) (x file : Option (PartFile S K)) (g k : Shown S K Progress) → place < length now → slice_get now place ≡ slice_get old place → file ≡ slice_index_or now place x
      → IfSome file (λ its. file_of place k ≡ Some its) → KeepsFiles place g k → HaveCome place old g → HaveCome (place + 1) old k
  come_more old now place x file g k b same e its keeps came n it l at = elim (cases_eq n place) [
    | inl q ↦
        let there : Some file ≡ Some (Some it) = sym (sym same ∙ (slice_get-get_or now place x b ∙ ap Some (sym e))) ∙ (ap (slice_get old) (sym q) ∙ at) in
        let is : file ≡ Some it = cc in
        ap (λ (m : ℕ). file_of m k) q ∙ subst (λ (o : Option (PartFile S K)). IfSome o (λ z. file_of place k ≡ Some z)) is its
    | inr q ↦ keeps n q ∙ came n it (omega (arith, l, q)) at
  ]

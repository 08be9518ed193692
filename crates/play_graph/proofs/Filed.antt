-- The components of a graph that is made have the file objects that stood at their places.
use Rattle.std.proofs.Common.{◌≡◌, ◌<◌, ℕ, List, length, slice_get, Option, Some, None, option_map, option_and_then, refl, sym, ◌∙◌, ap, arith}
use Rattle.omx_types.specs.declared.handle.Handle.{Handle}
use Rattle.il_machine.specs.declared.answer.Progress.{Progress}
use Rattle.il_machine.specs.Files.{Offered, attached}
use Rattle.il_machine.specs.Look.{Look}
use Rattle.il_machine.specs.World.{Component, place_numbered}
use Rattle.machine_laws.proofs.Granting.{placed_there}
use Rattle.audio_parts.specs.AnyParts.{attached_of}
use Rattle.audio_parts.specs.declared.part_file.PartFile.{PartFile}
use Rattle.graph_core.specs.Entries.{components_of}
use Rattle.il_graph.specs.Shown.{HaveTheirFiles, KeepsAllFiles, Shown, file_at as graph_file, file_of}
use Rattle.play_build_laws.specs.Stages.{Filing, Joining}
use Rattle.play_build_laws.proofs.Places.{get_there}
use Rattle.play_forms.specs.Plans.{PlanValue}
use Rattle.play_plan_laws.specs.Assemblies.{PlayFiles}
use Rattle.play_graph.specs.Graphs.{IsHandleAt}
use Rattle.play_graph.specs.Ending.{AreFilesOf}
use Rattle.play_graph.specs.Making.{AreOffered, HaveCome, IsAt}

module _ {S K : Type 0} where
  -- a component's number is its place
  pub filing_number : (plan : PlanValue) (files : PlayFiles) (place : ℕ) (g : Shown S K Progress) (h : Handle) → IsAt plan files (Filing place) g → place < length plan.parts → IsHandleAt g place h → h.generation ≡ place
  filing_number plan files place g h A b H =
      let m = A.built.built.many in
      let a = get_there (A.world).components place (omega arith) in
      let e : Some (a.0).handle ≡ Some h = sym (ap (option_map (λ (c : Component). c.handle)) a.1) ∙ H A.world A.stands in
      let same : (a.0).handle ≡ h = cc in
      ap (λ (k : Handle). k.generation) (sym same) ∙ (A.built.built.components.each place a.0 a.1).number

  none_of : (o : Option (PartFile S K)) → option_map attached_of o ≡ None → o ≡ None
  none_of None e = refl
  none_of (Some file) e = absurd cc

  module _ (plan : PlanValue) (files : PlayFiles) (offered_by : PartFile S K → Offered) (entries : List (Option (PartFile S K))) (g : Shown S K Progress) (A : IsAt plan files (Joining (length plan.joints)) g) (O : AreOffered plan files offered_by entries)
      (many : length entries ≡ length plan.parts) (theirs : HaveTheirFiles g) (came : HaveCome (length plan.parts) entries g) where
    looks : (A.world).components ≡ components_of g.core.entries
    looks = ap (λ (l : Look). l.components) A.stands.looks

    -- where none was offered, there is none
    none_there : (place : ℕ) → place < length plan.parts → slice_get entries place ≡ Some None → file_of place g ≡ None
    none_there place b e =
        let m = A.built.built.many in
        let a = get_there (A.world).components place (omega (arith, b)) in
        let its = A.built.built.components.each place a.0 a.1 in
        let file : (a.0).file ≡ None = its.file ∙ ap (option_map attached) (sym (O place None e)) in
        let work : (a.0).work ≡ None = ap (λ (c : Component). c.work) its.fresh_else in
        let at : slice_get (components_of g.core.entries) place ≡ Some a.0 = ap (λ (cs : List Component). slice_get cs place) (sym looks) ∙ a.1 in
        let none : graph_file g place ≡ None = none_of (graph_file g place) (theirs place a.0 at work ∙ file) in
        let placed : place_numbered place (A.world).components ≡ Some place = ap (λ (n : ℕ). place_numbered n (A.world).components) (sym its.number) ∙ placed_there (A.world).numbered place (A.world).components a.0 (A.built.sound).rising a.1 in
        ap (λ (cs : List Component). option_and_then (graph_file g) (place_numbered place cs)) (sym looks) ∙ (ap (option_and_then (graph_file g)) placed ∙ none)

    by_entry : (place : ℕ) → place < length plan.parts → (o : Option (PartFile S K)) → slice_get entries place ≡ Some o → slice_get entries place ≡ Some (file_of place g)
    by_entry place b None e = e ∙ ap Some (sym (none_there place b e))
    by_entry place b (Some file) e = e ∙ ap Some (sym (came place file b e))

    pub files_of : AreFilesOf g (length plan.parts) entries
    files_of place b = let x = get_there entries place (omega (arith, many, b)) in by_entry place b x.0 x.1

  -- where all files stay
  pub still_come : (places : ℕ) (entries : List (Option (PartFile S K))) (g k : Shown S K Progress) → KeepsAllFiles g k → HaveCome places entries g → HaveCome places entries k
  still_come places entries g k keeps came place file b e = keeps place ∙ came place file b e

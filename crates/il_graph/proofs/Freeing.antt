-- Freeing a component answers its file.
use Rattle.std.proofs.Common.{◌≡◌, ℕ, Option, None, Ok, MatchOption}
use Rattle.part_api.specs.declared.attached.Attached.{Attached}
use Rattle.omx_types.specs.declared.handle.Handle.{Handle}
use Rattle.il_machine.specs.declared.answer.Progress.{Progress}
use Rattle.il_machine.specs.World.{Component}
use Rattle.il_machine.specs.Look.{Look}
use Rattle.il_machine.specs.Due.{ClosesTo}
use Rattle.il_machine.specs.Components.{FreeHandle, free_refusal, without_component}
use Rattle.stock_laws.specs.Bare.{StepsBare}
use Rattle.stock_laws.proofs.Answering.{then_closes}
use Rattle.graph_core.specs.Entries.{Entries, look_of, kept, component_at}
use Rattle.il_graph.proofs.Calling.{Found, at_some}
use Rattle.il_graph.proofs.Handing.{done_at}

module _ {C : Type 0} (progress : C → Progress) (g : Entries C) (h : Handle) (i : ℕ) (F : Found progress g h i) where
  pub freed_at : (m k : Entries C) (file : Option Attached) → file ≡ F.component.file
      → MatchOption (component_at i g) ⊥ (λ c. None ≡ free_refusal (look_of g).headers c)
      → MatchOption (component_at i g) ⊥ (λ c. StepsBare (kept progress g) (kept progress m) (λ w v. v ≡ without_component i c w))
      → StepsBare (kept progress m) (kept progress k) ClosesTo
      → StepsBare (kept progress g) (kept progress k) (λ w v. FreeHandle w h (Ok file) v)
  freed_at m k file is r s closes =
      let t = at_some (λ c. StepsBare (kept progress g) (kept progress m) (λ w v. v ≡ without_component i c w)) (component_at i g) F.component F.at s in
      let x = then_closes (kept progress g) (kept progress m) (kept progress k) (without_component i F.component) t closes in
      done_at progress (λ (l : Look) (c : Component). free_refusal l.headers c) g k h i file (λ w v j c (file : Option Attached). (file ≡ c.file) × ClosesTo (without_component j c w) v) F r
      (λ w S. let y = x w S in (y.0, y.1, (is, y.2)))

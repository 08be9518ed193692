-- The graphs of plays: the client object of a component is its progress.
use Rattle.std.specs.Prelude.{◌≡◌, ℕ, Some}
use Rattle.omx_types.specs.declared.handle.Handle.{Handle}
use Rattle.il_machine.specs.declared.answer.Progress.{Progress}
use Rattle.il_machine.specs.Look.{look}
use Rattle.il_machine.specs.Components.{handle_at}
use Rattle.il_machine.specs.Whole.{Always, Kept}
use Rattle.il_graph.specs.Shown.{Shown, kept}

abbrev pub client_progress : Progress → Progress
client_progress client = client

module _ {S K : Type 0} where
  abbrev pub kept_of : Shown S K Progress → Kept
  kept_of graph = kept client_progress graph

  abbrev pub IsHandleAt : Shown S K Progress → ℕ → Handle → Type 0
  IsHandleAt graph place h = Always (kept_of graph) (λ w. handle_at place (look w) ≡ Some h)

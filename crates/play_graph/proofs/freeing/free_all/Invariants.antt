use Rattle.std.proofs.Common.{◌≡◌, ℕ, ◌<◌, ◌≤◌, length, slice_get, Some}
use Rattle.il_machine.specs.Whole.{StepsWhere}
use Rattle.il_graph.specs.Shown.{file_of}
use Rattle.play_build_laws.specs.Dismantling.{IsUnjoined}
use Rattle.play_graph.specs.Graphs.{kept_of}
use Rattle.play_graph.specs.Making.{AreGone}
use Rattle.play_graph.proofs.Apart.{IsFreed}
use Rattle.play_graph.proofs.freeing.free_all.Given as goal

abbrev pub invariant-loop-left : goal.invariant-loop-left
invariant-loop-left g l = record {
  few : l.left ≤ length l.plan.parts;
  many : length l.files ≡ length l.plan.parts;
  gone : AreGone l.left l.files;
  kept : (place : ℕ) → place < l.left → file_of place l.graph ≡ file_of place l.fn.graph;
  came : (place : ℕ) → l.left ≤ place → place < length l.plan.parts → slice_get l.files place ≡ Some (file_of place l.fn.graph);
  steps : StepsWhere (kept_of l.fn.graph) (kept_of l.graph) (IsUnjoined (length l.plan.parts)) (λ w v. IsFreed (length l.plan.parts) l.left w v l.files);
}

abbrev pub decreases-loop-left : goal.decreases-loop-left
decreases-loop-left g l = l.left

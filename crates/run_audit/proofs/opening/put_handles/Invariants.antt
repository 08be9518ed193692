use Rattle.std.proofs.Common.{◌≡◌, ◌≤◌, ℕ, Some, length, slice_get}
use Rattle.std.specs.Vec.{vec_capacity, vec_len}
use Rattle.omx_types.specs.declared.handle.Handle.{Handle}
use Rattle.play_graph.specs.Graphs.{IsHandleAt}
use Rattle.run_audit.proofs.opening.put_handles.Given as goal

abbrev pub invariant-loop-place : goal.invariant-loop-place
invariant-loop-place g l = record {
  room : l.count ≤ vec_capacity l.handles;
  len : vec_len l.handles ≡ l.place;
  many : length l.handles.items ≡ l.place;
  each : (place : ℕ) (h : Handle) → slice_get l.handles.items place ≡ Some h → IsHandleAt l.graph place h;
}

use Rattle.std.proofs.Common.{◌≡◌, ◌≤◌, ℕ, length, slice_get}
use Rattle.play_build_laws.specs.Stages.{Filing}
use Rattle.il_graph.specs.Shown.{offered}
use Rattle.play_plan_laws.specs.Assemblies.{PlayFiles}
use Rattle.play_graph.specs.Making.{AreGone, AreOffered, HaveCome, IsAt}
use Rattle.play_graph.proofs.filing.give_files.Given as goal

abbrev pub invariant-loop-place : goal.invariant-loop-place
invariant-loop-place g l = record {
  goes : (given : PlayFiles) → IsAt l.plan given (Filing 0) l.fn.graph → AreOffered l.plan given (offered g.S.Source.offset g.S.Source.size g.S.Source.told g.K.Sink.told) l.fn.files → IsAt l.plan given (Filing l.place) l.graph;
  many : length l.files ≡ length l.fn.files;
  gone : AreGone l.place l.files;
  came : HaveCome l.place l.fn.files l.graph;
  still : (k : ℕ) → l.place ≤ k → slice_get l.files k ≡ slice_get l.fn.files k;
}

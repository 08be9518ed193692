use Rattle.std.proofs.Common.{◌≡◌, length}
use Rattle.play_run.specs.Sending.{AreViews}
use Rattle.play_run.proofs.playing.Playing.look.Given as goal

abbrev pub invariant-loop-place : goal.invariant-loop-place
invariant-loop-place g l = record {
  many : length l.views ≡ 32;
  views : AreViews l.fn.self.graph l.views l.place;
}

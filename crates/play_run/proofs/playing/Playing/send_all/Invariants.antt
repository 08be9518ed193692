use Rattle.std.proofs.Common.{◌≡◌}
use Rattle.il_graph.specs.Shown.{KeepsAllFiles}
use Rattle.play_run.specs.Sending.{SendsTo}
use Rattle.play_run.proofs.playing.Playing.send_all.Given as goal

abbrev pub invariant-loop-place : goal.invariant-loop-place
invariant-loop-place g l = record {
  plan : l.self.plan ≡ l.fn.self.plan;
  files : KeepsAllFiles l.fn.self.graph l.self.graph;
  sent : SendsTo l.fn.self l.self l.fn.state l.place;
}

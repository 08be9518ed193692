use Rattle.std.proofs.Common.{◌≡◌, ◌≤◌, take, length, Ok}
use Rattle.std.specs.List.{flat_map}
use Rattle.outside_io.specs.Keeping.{KeepsSink}
use Rattle.play_log.specs.Gathering.{Puts}
use Rattle.play_log.specs.Spelled.{spelled_from}
use Rattle.play_log.proofs.log_text.put_pieces.Given as goal

abbrev pub invariant-loop-piece : goal.invariant-loop-piece
invariant-loop-piece g l = record {
  within : l.piece-index ≤ length l.pieces;
  number : l.number ≡ length (flat_map (λ piece. piece.items) (take l.piece-index l.pieces));
  puts : Puts {T = Unit {0}} {E = Unit {0}} (g.K.Sink.told l.initial.sink) (g.K.Sink.told l.sink) l.initial.held.held l.held.held (spelled_from l.words 1 (flat_map (λ piece. piece.items) (take l.piece-index l.pieces))) (Ok tt);
  keeps : KeepsSink g.K.Sink l.initial.sink l.sink;
  faults : g.K.Sink.faults l.sink ≡ g.K.Sink.faults l.initial.sink;
}

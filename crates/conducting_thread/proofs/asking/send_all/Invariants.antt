use Rattle.std.proofs.Common.{map, take}
use Rattle.graph_acts.specs.Plain.{sight_of}
use Rattle.board.specs.Boards.{own_calls}
use Rattle.play_result_laws.specs.Asked.{sending}
use Rattle.work_signs.specs.declared.seat.Seat.{Seat}
use Rattle.conducting_thread.specs.Asking.{HasAsked, Keeps}
use Rattle.conducting_thread.proofs.asking.send_all.Given as goal

abbrev pub invariant-loop-place : goal.invariant-loop-place
invariant-loop-place g l = record {
  keeps : Keeps g.C.Client.progress l.board l.seats l.fn.book l.book;
  asked : HasAsked (sight_of g.C.Client g.S.Source g.K.Sink) (own_calls l.fn.book.pass) (map (λ (seat : Seat). sending l.fn.state seat.handle) (take l.place l.seats)) (own_calls l.book.pass);
}

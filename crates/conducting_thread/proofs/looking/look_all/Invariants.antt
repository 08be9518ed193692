use Rattle.std.proofs.Common.{◌≡◌, length, take}
use Rattle.play_result_laws.specs.Rounds.{looks}
use Rattle.graph_acts.specs.Plain.{sight_of}
use Rattle.board.specs.Boards.{own_calls}
use Rattle.conducting_thread.specs.Asking.{HasAsked, Keeps}
use Rattle.work_signs.specs.Seats.{handles_of}
use Rattle.conducting_thread.proofs.looking.look_all.Given as goal

abbrev pub invariant-loop-place : goal.invariant-loop-place
invariant-loop-place g l = record {
  keeps : Keeps g.C.Client.progress l.board l.seats l.fn.book l.book;
  many : length l.views ≡ 32;
  asked : HasAsked (sight_of g.C.Client g.S.Source g.K.Sink) (own_calls l.fn.book.pass) (looks (handles_of (take l.place l.seats)) (take l.place l.views)) (own_calls l.book.pass);
}

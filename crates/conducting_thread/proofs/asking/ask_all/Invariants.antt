use Rattle.std.proofs.Common.{map, take}
use Rattle.graph_acts.specs.Plain.{sight_of}
use Rattle.board.specs.Boards.{own_calls}
use Rattle.conducting_thread.specs.Asking.{HasAsked, Keeps, due}
use Rattle.conducting_thread.proofs.asking.ask_all.Given as goal

abbrev pub invariant-loop-place : goal.invariant-loop-place
invariant-loop-place g l = record {
  keeps : Keeps g.C.Client.progress l.board l.seats l.fn.book l.book;
  asked : HasAsked (sight_of g.C.Client g.S.Source g.K.Sink) (own_calls l.fn.book.pass) (map due (take l.place l.requests)) (own_calls l.book.pass);
}

use Rattle.std.proofs.Common.{◌≡◌, false}
use Rattle.turnstile.specs.Passes.{IsSamePass}
use Rattle.graph_acts.specs.Plain.{sight_of}
use Rattle.board.specs.Boards.{pass_view}
use Rattle.conducting_thread.specs.Passes.{IsConductingPass}
use Rattle.conducting_thread.proofs.conducting.ConductingPass.conduct.Given as goal

abbrev pub invariant-loop : goal.invariant-loop
invariant-loop g l = record {
  pass : IsConductingPass (sight_of g.C.Client g.S.Source g.K.Sink) l.board l.plan l.seats l.self;
  same : IsSamePass (pass_view l.fn.self.book.pass) (pass_view l.self.book.pass);
  refused : l.self.refused ≡ false;
  ended : l.self.ended ≡ false;
}

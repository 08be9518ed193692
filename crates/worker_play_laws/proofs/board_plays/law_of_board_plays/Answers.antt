use Rattle.il_machine.specs.Acts.{Act, Reply}
use Rattle.std.proofs.Common.{List}
use Rattle.graph_acts.specs.Plain.{sight_of}
use Rattle.play_result_laws.specs.Rounds.{IsConducting, IsHalted}
use Rattle.worker_play_laws.proofs.Halting.{never_halted}
use Rattle.worker_play_laws.proofs.Playing.{by_own, closed_play, none_out}
use Rattle.worker_play_laws.proofs.board_plays.law_of_board_plays.Goals as goal

pub returns-clause-plays : goal.returns-clause-plays
returns-clause-plays g c = let see = sight_of g.C.Client g.S.Source g.K.Sink in closed_play see

pub returns-clause-conducted : goal.returns-clause-conducted
returns-clause-conducted g c = let see = sight_of g.C.Client g.S.Source g.K.Sink in
    λ plan files handles workers world log now play value h. by_own see plan files handles workers world log now play (λ (xs : List (Act × Reply)). IsConducting plan files handles xs value) h

pub returns-clause-halted : goal.returns-clause-halted
returns-clause-halted g c = let see = sight_of g.C.Client g.S.Source g.K.Sink in
    λ plan files handles workers world log now play h. never_halted plan files handles world _ play.after play.worked (by_own see plan files handles workers world log now play (IsHalted plan files handles) h)

pub returns-clause-idle : goal.returns-clause-idle
returns-clause-idle g c = let see = sight_of g.C.Client g.S.Source g.K.Sink in none_out see

use Rattle.graph_acts.specs.Plain.{sight_of}
use Rattle.worker_play_laws.proofs.Logging.{is_logged, play_log}
use Rattle.worker_play_laws.proofs.Played.{played_out_so}
use Rattle.worker_play_laws.proofs.Playing.{none_out}
use Rattle.worker_play_laws.proofs.board_logs.law_of_board_logs.Goals as goal

pub returns-clause-logged : goal.returns-clause-logged
returns-clause-logged g c = let see = sight_of g.C.Client g.S.Source g.K.Sink in
    λ plan files handles seats workers world watched log now play are stood none legal met played canonical value conducting.
    is_logged see plan files handles seats workers world watched log now play are stood g.C.Client.HEADERS none legal met played canonical value conducting

pub returns-clause-whole : goal.returns-clause-whole
returns-clause-whole g c = let see = sight_of g.C.Client g.S.Source g.K.Sink in
    λ plan files handles seats workers world watched log now play are stood none legal met played canonical value conducting next over some.
    play_log see plan files handles seats workers world watched log now play are stood g.C.Client.HEADERS none legal met played canonical value conducting next over some

pub returns-clause-ended : goal.returns-clause-ended
returns-clause-ended g c = let see = sight_of g.C.Client g.S.Source g.K.Sink in
    λ plan files handles workers world log now play value conducting next over back.
    played_out_so plan files handles world _ play.after play.worked value conducting next over (none_out see plan files handles workers world _ now play back).clients

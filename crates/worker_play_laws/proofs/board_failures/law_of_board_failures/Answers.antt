use Rattle.note_queues.specs.contracts.client.ProgressClientClient.TheImpl.{ghosts}
use Rattle.graph_acts.specs.Plain.{sight_of}
use Rattle.board.specs.Asking.{bare_log}
use Rattle.worker_play_laws.proofs.Faults.{has_failed, has_failure, tells_failure, tells_none}
use Rattle.worker_play_laws.proofs.StepSeats.{bare_acts, seated_failure}
use Rattle.worker_play_laws.proofs.board_failures.law_of_board_failures.Goals as goal

pub returns-clause-failures : goal.returns-clause-failures
returns-clause-failures g c = has_failure (sight_of ghosts g.S.Source g.K.Sink)

pub returns-clause-back : goal.returns-clause-back
returns-clause-back g c = has_failed (sight_of ghosts g.S.Source g.K.Sink)

pub returns-clause-tells : goal.returns-clause-tells
returns-clause-tells g c = tells_failure (sight_of ghosts g.S.Source g.K.Sink)

pub returns-clause-none : goal.returns-clause-none
returns-clause-none g c = tells_none (sight_of ghosts g.S.Source g.K.Sink)

pub returns-clause-place : goal.returns-clause-place
returns-clause-place g c = λ seats log steps A P. seated_failure seats (sight_of ghosts g.S.Source g.K.Sink) (bare_log log) steps (bare_acts seats log A) P

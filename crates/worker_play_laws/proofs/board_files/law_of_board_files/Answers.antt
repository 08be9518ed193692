use Rattle.note_queues.specs.contracts.client.ProgressClientClient.TheImpl.{ghosts}
use Rattle.graph_acts.specs.Plain.{sight_of}
use Rattle.board.specs.Asking.{bare_log}
use Rattle.worker_play_laws.proofs.Remaining.{files_shown, files_stayed}
use Rattle.worker_play_laws.proofs.StepSeats.{bare_acts, steady_steps}
use Rattle.worker_play_laws.proofs.board_files.law_of_board_files.Goals as goal

pub returns-clause-stayed : goal.returns-clause-stayed
returns-clause-stayed g c = files_stayed (sight_of ghosts g.S.Source g.K.Sink)

pub returns-clause-shows : goal.returns-clause-shows
returns-clause-shows g c = files_shown (sight_of ghosts g.S.Source g.K.Sink)

pub returns-clause-steady : goal.returns-clause-steady
returns-clause-steady g c = λ seats log steps A P. steady_steps seats (sight_of ghosts g.S.Source g.K.Sink) (bare_log log) steps (bare_acts seats log A) P

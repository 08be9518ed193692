use Rattle.graph_acts.specs.Plain.{sight_of}
use Rattle.worker_play_laws.proofs.Zipped.{all_few, each_at, same_own, same_steps}
use Rattle.worker_play_laws.proofs.board_entries.law_of_board_entries.Goals as goal

pub returns-clause-steps : goal.returns-clause-steps
returns-clause-steps g c = let see = sight_of g.C.Client g.S.Source g.K.Sink in same_steps see

pub returns-clause-own : goal.returns-clause-own
returns-clause-own g c = let see = sight_of g.C.Client g.S.Source g.K.Sink in same_own see

pub returns-clause-each : goal.returns-clause-each
returns-clause-each g c = let see = sight_of g.C.Client g.S.Source g.K.Sink in each_at see

pub returns-clause-few : goal.returns-clause-few
returns-clause-few g c = let see = sight_of g.C.Client g.S.Source g.K.Sink in all_few see

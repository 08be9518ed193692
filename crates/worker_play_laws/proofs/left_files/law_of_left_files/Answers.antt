use Rattle.worker_play_laws.proofs.Leaving.{left_cause, left_failed, left_same, left_whole, left_world, took}
use Rattle.worker_play_laws.proofs.left_files.law_of_left_files.Goals as goal

pub returns-clause-same : goal.returns-clause-same
returns-clause-same g c = λ plan given first now entries back steps world L. left_same g.S.Source g.K.Sink plan given first now entries back steps world L

pub returns-clause-took : goal.returns-clause-took
returns-clause-took g c = λ plan given first now entries back steps world L place name I. took g.S.Source g.K.Sink plan given first now entries back steps world L place name I

pub returns-clause-whole : goal.returns-clause-whole
returns-clause-whole g c = λ plan given first now entries back steps world L workers text log played texts.
    left_whole g.S.Source g.K.Sink plan given first now entries back steps world L workers text log played texts

pub returns-clause-failed : goal.returns-clause-failed
returns-clause-failed g c = λ plan given first now entries back steps world L fronts. left_failed g.S.Source g.K.Sink plan given first now entries back steps world L fronts

pub returns-clause-left : goal.returns-clause-left
returns-clause-left g c = λ plan given first now entries back steps world L shown fault told. left_world g.S.Source g.K.Sink plan given first now entries back steps world L shown fault told

pub returns-clause-cause : goal.returns-clause-cause
returns-clause-cause g c = λ plan given first now entries back steps world L shown fault told. left_cause g.S.Source g.K.Sink plan given first now entries back steps world L shown fault told

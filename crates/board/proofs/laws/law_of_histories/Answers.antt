use Rattle.graph_acts.specs.Plain.{sight_of}
use Rattle.board.specs.Histories.{known_of}
use Rattle.board.proofs.OneRun.{run_of_shown, one_run}
use Rattle.board.proofs.laws.law_of_histories.Goals as goal

pub returns : goal.returns
returns g c = λ key units xs w first log r s l.
    let see = sight_of g.C.Client g.S.Source g.K.Sink in
    let R = l.worlds w s in
    (R.acts, R.plain, one_run key units xs R.acts w R.world r (run_of_shown first.handles.items w (known_of first) R.acts R.world R.all R.shown))

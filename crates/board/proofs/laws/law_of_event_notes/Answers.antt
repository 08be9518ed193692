use Rattle.graph_acts.specs.Plain.{sight_of}
use Rattle.board.specs.Histories.{graph_of, known_of}
use Rattle.board.proofs.Eventing.{notes_of_events}
use Rattle.board.proofs.OneRun.{run_of_shown}
use Rattle.board.proofs.laws.law_of_event_notes.Goals as goal

pub returns : goal.returns
returns g c = λ first log h N L met.
    let R = L.worlds L.one.world L.one.stands in
    let run = run_of_shown first.handles.items L.one.world (known_of first) R.acts R.world R.all R.shown in
    notes_of_events (sight_of g.C.Client g.S.Source g.K.Sink) g.C.Client.HEADERS first (graph_of first) log R.acts L.one.world R.world h N L.one.stands L.one.sound R.plain run L.replies met

use Rattle.graph_acts.specs.Objects.{clients_in, files_in}
use Rattle.graph_acts.specs.Plain.{sight_of}
use Rattle.board.specs.Asking.{bare_log}
use Rattle.board.specs.Histories.{graph_of, known_of}
use Rattle.board.proofs.Chaining.{files_from_first}
use Rattle.board.proofs.Faulting.{fails_once, faults_shown}
use Rattle.board.proofs.OneRun.{run_of_shown}
use Rattle.board.proofs.There.{still_filed}
use Rattle.board.proofs.laws.law_of_files.Goals as goal

pub returns-clause-files : goal.returns-clause-files
returns-clause-files g c = λ first log L number none file is.
    files_from_first (sight_of g.C.Client g.S.Source g.K.Sink) number (bare_log log) (clients_in (graph_of first)) (files_in (graph_of first)) L.objects none file is

pub returns-clause-faults : goal.returns-clause-faults
returns-clause-faults g c = λ first log L.
    let see = sight_of g.C.Client g.S.Source g.K.Sink in
    let R = L.worlds L.one.world L.one.stands in
    let run = run_of_shown first.handles.items L.one.world (known_of first) R.acts R.world R.all R.shown in
    faults_shown see (graph_of first) (bare_log log) R.acts L.one.world R.world L.one.sound R.plain run
    (λ number none file is. files_from_first see number (bare_log log) (clients_in (graph_of first)) (files_in (graph_of first)) L.objects none file is)

pub returns-clause-there : goal.returns-clause-there
returns-clause-there g c = λ first log L number steps w v sound A R T n f t.
    still_filed (sight_of g.C.Client g.S.Source g.K.Sink) number (bare_log log) steps w v (clients_in (graph_of first)) (files_in (graph_of first)) sound A R L.objects T n f t

pub returns-clause-once : goal.returns-clause-once
returns-clause-once g c = λ first log L number.
    let see = sight_of g.C.Client g.S.Source g.K.Sink in
    let R = L.worlds L.one.world L.one.stands in
    let run = run_of_shown first.handles.items L.one.world (known_of first) R.acts R.world R.all R.shown in
    fails_once see number (bare_log log) R.acts L.one.world R.world L.one.sound R.plain run

use Rattle.std.proofs.Common.{length}
use Rattle.graph_acts.specs.Plain.{sight_of}
use Rattle.play_result_laws.proofs.Claiming.{gates_tell}
use Rattle.worker_play_laws.proofs.Counting.{gates_meet}
use Rattle.worker_play_laws.proofs.Logging.{naming}
use Rattle.worker_play_laws.proofs.board_gates.law_of_board_gates.Goals as goal

pub returns : goal.returns
returns g c = let see = sight_of g.C.Client g.S.Source g.K.Sink in
    λ plan files handles seats workers world watched log now play are stood none legal met played canonical value conducting next over own counts gates tell.
    let N = naming see plan files handles seats workers world watched log now play are stood g.C.Client.HEADERS none legal met played canonical value conducting next over in
    (N.lines, N.has_lines, gates_tell counts gates plan files world play.after N.lines _ own (handles, (play.worked).stage) N.name (gates_meet see log play.steps play.plain (length plan.parts) counts 1 gates tell))

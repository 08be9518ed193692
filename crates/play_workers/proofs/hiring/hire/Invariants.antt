use Rattle.std.proofs.Common.{◌≡◌, ◌+◌, ◌≤◌, List, All, length, vec_capacity}
use Rattle.graph_acts.specs.Plain.{sight_of}
use Rattle.board.specs.Boards.{pass_view}
use Rattle.work_signs.specs.declared.seat.Seat.{Seat}
use Rattle.play_worker.specs.Counts.{TellsZeros}
use Rattle.play_workers.specs.Hands.{AreWorkers}
use Rattle.play_workers.specs.Rooms.{IsNewKit}
use Rattle.play_workers.specs.Wholes.{IsRoot}
use Rattle.play_workers.proofs.hiring.hire.Given as goal

abbrev pub invariant-loop-gates : goal.invariant-loop-gates
invariant-loop-gates g l = IsRoot l.board l.root × ((pass_view l.root).splits ≡ length l.hands.items) × (l.number ≡ length l.hands.items) × (length l.hands.items + length l.gates.items ≡ length l.fn.gates.items) × (length l.fn.gates.items ≤ 8)
    × All (λ x. TellsZeros (g.G.Gate.counts x)) l.gates.items × All IsNewKit l.kits.items × (length l.kits.items ≡ length l.gates.items + 1)
    × ((seats : List Seat) → AreWorkers g.G.Gate.counts (sight_of g.C.Client g.S.Source g.K.Sink) l.board seats 1 l.hands.items)
    × (vec_capacity l.hands ≡ vec_capacity l.fn.hands) × (vec_capacity l.gates ≡ vec_capacity l.fn.gates) × (length l.fn.gates.items + 1 ≤ vec_capacity l.fn.hands)

abbrev pub decreases-loop-gates : goal.decreases-loop-gates
decreases-loop-gates g l = length l.gates.items

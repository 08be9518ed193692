use Rattle.std.proofs.Common.{◌≡◌, ◌+◌, ◌≤◌, length, vec_capacity}
use Rattle.graph_acts.specs.Plain.{sight_of}
use Rattle.board.specs.Boards.{pass_view}
use Rattle.play_workers.specs.Wholes.{Gathers}
use Rattle.play_workers.proofs.meeting.meet_all.Given as goal

abbrev pub invariant-loop-hands : goal.invariant-loop-hands
invariant-loop-hands g l = Gathers g.G.Gate.counts (sight_of g.C.Client g.S.Source g.K.Sink) l.board l._seats l.root l.hands.items l.pages.items l.gates.items l.worst
    × ((pass_view l.root).mine ≡ (pass_view l.fn.root).mine) × ((pass_view l.root).splits ≡ (pass_view l.fn.root).splits)
    × (length l.pages.items + length l.hands.items ≤ vec_capacity l.pages) × (length l.gates.items + length l.hands.items ≤ vec_capacity l.gates)

abbrev pub decreases-loop-hands : goal.decreases-loop-hands
decreases-loop-hands g l = length l.hands.items

use Rattle.board.proofs.Seats.{seats_next, counts_next}
use Rattle.board.proofs.making.seats.Goals as goal

pub loop-place-preserved : goal.loop-place-preserved
loop-place-preserved g c =
    let I = c.loop-place.invariant in
    let M = c.in_ok-add_seat.ensures in
    let n = counts_next c.loop-place.place c.seat.result c.loop-place.handles.items c.loop-place.states.items c.add_seat.new.handles.items c.add_seat.new.states.items I.0 I.1 M in (
      n.0,
      n.1,
      λ w s. seats_next w c.loop-place.place c.seat.result c.loop-place.handles.items c.loop-place.states.items c.add_seat.new.handles.items c.add_seat.new.states.items (I.2 w s) (c.seat.ensures w s) M,
    )

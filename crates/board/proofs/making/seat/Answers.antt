use Rattle.std.proofs.Common.{◌∙◌, sym}
use Rattle.board.proofs.Seats.{seat_some, seat_there}
use Rattle.board.proofs.making.seat.Goals as goal

pub unreachable-requires : goal.unreachable-requires
unreachable-requires g c =
    let W = c.law_of_worlds.ensures.one in
    seat_there W.world c.args.place c.in_ok-h.h c.in-Err.field-0 W.sound (sym c.in_ok-h.was ∙ c.handle_at.ensures.handle W.world W.stands) (sym c.in-Err.is ∙ c.get_state.ensures W.world W.stands)

pub returns : goal.returns
returns g c = λ w s. seat_some w c.args.place c.in_ok-h.h c.in-Ok.state (c.law_of_worlds.ensures.sound w s) (sym c.in_ok-h.was ∙ c.handle_at.ensures.handle w s) (sym c.in-Ok.is ∙ c.get_state.ensures w s)

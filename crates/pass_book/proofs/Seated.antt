-- A component that has a port is one of the play.
use Rattle.std.proofs.Common.{ℕ, List}
use Rattle.omx_types.specs.declared.handle.Handle.{Handle}
use Rattle.work_signs.specs.declared.seat.Seat.{Seat}
use Rattle.pass_book.specs.Seats.{IsSeated, IsSeatedAt}

pub seated_by : (seats : List Seat) (h : Handle) (port : ℕ) → IsSeatedAt seats h port → IsSeated seats h
seated_by seats h port is = (is.0, is.1, is.2)

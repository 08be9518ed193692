-- What a pass has before a use of its board and after it.
use Rattle.std.specs.Prelude.{◌≡◌, []}
use Rattle.turnstile.specs.Passes.{IsSamePass}
use Rattle.il_machine.specs.declared.answer.Progress.{Progress}
use Rattle.board.specs.declared.boards.Board.{Board}
use Rattle.board.specs.declared.pass.BoardPass.{BoardPass}
use Rattle.board.specs.Boards.{pass_view, headers, clients, works, IsOf}

module _ {S K C : Type 0} where
  -- the pass is of the board still, and has split and met as many
  abbrev pub GoesOn : Board S K C → BoardPass S K C → BoardPass S K C → Type 0
  GoesOn b old new = IsOf b new × IsSamePass (pass_view old) (pass_view new)

  -- it holds what it held
  abbrev pub HoldsAsBefore : (C → Progress) → BoardPass S K C → BoardPass S K C → Type 0
  HoldsAsBefore progress old new = (headers new ≡ headers old) × (clients progress new ≡ clients progress old) × (works new ≡ works old)

  -- it holds neither a client object nor a work
  abbrev pub HoldsNoMore : (C → Progress) → BoardPass S K C → Type 0
  HoldsNoMore progress p = (clients progress p ≡ []) × (works p ≡ [])

  abbrev pub HoldsNothing : (C → Progress) → BoardPass S K C → Type 0
  HoldsNothing progress p = (headers p ≡ []) × HoldsNoMore progress p

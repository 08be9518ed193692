-- Six acts that are asked together.
use Rattle.std.specs.Prelude.{◌≡◌, ◌≤◌, []}
use Rattle.il_machine.specs.declared.answer.Progress.{Progress}
use Rattle.board.specs.declared.boards.Board.{Board}
use Rattle.board.specs.declared.pass.BoardPass.{BoardPass}
use Rattle.board.specs.declared.row.ActRow.{ActRow}
use Rattle.board.specs.Boards.{IsOf}
use Rattle.board_uses.specs.Passing.{HoldsNothing}
use Rattle.board.specs.Rows.{acts, replies, room_of, IsRowOf}

-- the row asks nothing yet, and has room for six acts
abbrev pub IsReady : {S K C : Type 0} → Board S K C → ActRow S K C → Type 0
IsReady b row = IsRowOf b row × (acts row ≡ []) × (replies row ≡ []) × (6 ≤ room_of row)

-- the pass of the board holds nothing, and its row asks nothing yet
abbrev pub CanAsk : {S K C : Type 0} → (C → Progress) → Board S K C → BoardPass S K C → ActRow S K C → Type 0
CanAsk progress b pass row = IsOf b pass × HoldsNothing progress pass × IsReady b row

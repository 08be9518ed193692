-- Memory that is taken before a graph is shared.
use Rattle.std.specs.Prelude.{◌≡◌, ℕ, ◌+◌, ◌≤◌, [], All, length, vec_capacity}
use Rattle.board.specs.declared.boards.Board.{Board}
use Rattle.board.specs.Rows.{IsRowOf, acts, replies, room_of}
use Rattle.play_log.specs.Places.{IsKeptAt}
use Rattle.play_workers.specs.declared.kit.Kit.{Kit}
use Rattle.play_workers.specs.declared.room.Room.{Room}

module _ {S K C : Type 0} where
  -- its log has no line, and its row no act, of whichever board
  pub record IsNewKit (k : Kit S K C) : Type 0 where
    pub lines : IsKeptAt [] k.log
    pub of : (b : Board S K C) → IsRowOf b k.row
    pub acts : acts k.row ≡ []
    pub told : replies k.row ≡ []
    pub room : 32 ≤ room_of k.row

module _ {S K C G : Type 0} where
  -- there is room for so many workers and the one who conducts
  pub record IsRoomFor (workers : ℕ) (r : Room S K C G) : Type 0 where
    pub kits : All IsNewKit r.kits.items
    pub count : length r.kits.items ≡ workers + 1
    pub hands : (r.hands.items ≡ []) × (workers + 1 ≤ vec_capacity r.hands)
    pub pages : (r.pages.items ≡ []) × (workers + 1 ≤ vec_capacity r.pages)

-- What a visit of a component leaves with its pass.
use Rattle.std.specs.Prelude.{◌≡◌, ℕ, ◌<◌, Bool, List, [], ◌∷◌, ◌++◌, length, Option, Some, None}
use Rattle.omx_types.specs.declared.handle.Handle.{Handle}
use Rattle.turnstile.specs.Passes.{IsPastPlaces}
use Rattle.graph_acts.specs.declared.act.Act.{Act}
use Rattle.graph_acts.specs.declared.act.Act.TheVariants as asks
use Rattle.graph_acts.specs.declared.act.Reply.{Reply}
use Rattle.graph_acts.specs.declared.act.Reply.TheVariants as replies
use Rattle.graph_acts.specs.Plain.{Sight}
use Rattle.board.specs.declared.pass.BoardPass.{BoardPass}
use Rattle.board.specs.declared.row.ActRow.{ActRow}
use Rattle.board.specs.declared.watched.Watched.{Watched}
use Rattle.board.specs.Boards.{own_calls, pass_view}
use Rattle.board.specs.Rows as rows
use Rattle.board.specs.Rows.{entries_of, place_of, StandTogether, FrontIsCalled}
use Rattle.board_uses.specs.declared.visiting.Visited.{Visited}

module _ {S K C : Type 0} where
  -- what is asked of a component and its port
  abbrev pub visit_acts : Handle → ℕ → List (Act S K C)
  visit_acts h port = asks.RunCommand h ∷ asks.Supply h port ∷ asks.Release h port ∷ asks.HandBack h port ∷ asks.HandOver h port ∷ asks.Claim h ∷ []

  abbrev pub visit_replies : Visited S K → List (Reply S K C)
  visit_replies v = replies.RunCommand v.ran ∷ replies.Supply v.supplied ∷ replies.Release v.released ∷ replies.HandBack v.handed_back ∷ replies.HandOver v.handed_over ∷ replies.Claim v.claimed ∷ []

  -- The pass made these calls and no other. They stand together, behind all that it had seen, at the place that it was told.
  pub record IsVisited (h : Handle) (port : ℕ) (v : Visited S K) (old new : BoardPass S K C) : Type 0 where
    pub own : own_calls new ≡ own_calls old ++ entries_of (pass_view old).number (visit_acts h port) (visit_replies v)
    pub together : StandTogether (pass_view old) (visit_acts h port) v.place (visit_replies v) (pass_view new)

  -- no more places are given: some acts are left in the row, and those at the front were made
  pub record BreaksOff (see : Sight S K C) (headers : Bool) (first : Watched S K C) (h : Handle) (port : ℕ) (row : ActRow S K C) (old new : BoardPass S K C) : Type 0 where
    pub past : IsPastPlaces (pass_view new).ticket
    pub left : 0 < length (rows.acts row)
    pub front : FrontIsCalled see headers first (pass_view old) (visit_acts h port) (place_of row) (rows.replies row) (rows.acts row) (pass_view new)

  -- the answer tells the calls that were made
  abbrev pub DoesVisit : Sight S K C → Bool → Watched S K C → Handle → ℕ → Option (Visited S K) → ActRow S K C → BoardPass S K C → BoardPass S K C → Type 0
  DoesVisit see headers first h port None row old new = BreaksOff see headers first h port row old new
  DoesVisit see headers first h port (Some v) row old new = IsVisited h port v old new

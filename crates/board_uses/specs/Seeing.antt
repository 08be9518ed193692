-- The calls of a pass, and where it has seen them.
use Rattle.std.specs.Prelude.{◌≡◌, ℕ, ◌<◌, [], ◌∷◌, ◌++◌, Some, slice_get}
use Rattle.turnstile.specs.declared.entry.Entry.{Entry}
use Rattle.turnstile.specs.Entries.{entry}
use Rattle.turnstile.specs.Passes.{IsPastPlaces}
use Rattle.graph_acts.specs.declared.act.Act.{Act}
use Rattle.graph_acts.specs.declared.act.Reply.{Reply}
use Rattle.board.specs.declared.pass.BoardPass.{BoardPass}
use Rattle.board.specs.Asking.{bare_log}
use Rattle.board.specs.Boards.{own_calls, pass_view}

module _ {S K C : Type 0} where
  -- the call and its answer, by the pass
  abbrev pub call_of : BoardPass S K C → Act S K C → Reply S K C → Entry (Act S K C) (Reply S K C)
  call_of p act reply = entry (pass_view p).number act reply

  -- it made no call, since no more places are given
  pub record MadeNone (old new : BoardPass S K C) : Type 0 where
    pub own : own_calls new ≡ own_calls old
    pub past : IsPastPlaces (pass_view new).ticket

  -- it made this call and no other
  abbrev pub MadeOne : BoardPass S K C → BoardPass S K C → Act S K C → Reply S K C → Type 0
  MadeOne old new act reply = own_calls new ≡ own_calls old ++ call_of old act reply ∷ []

  -- The pass made two calls and no other, and has seen them at these places of one history.
  pub record MadeTwo (old new : BoardPass S K C) (first : ℕ) (act : Act S K C) (reply : Reply S K C) (second : ℕ) (act' : Act S K C) (reply' : Reply S K C) : Type 0 where
    pub own : own_calls new ≡ own_calls old ++ call_of old act reply ∷ call_of old act' reply' ∷ []
    pub first_at : slice_get (bare_log (pass_view new).seen) first ≡ Some (call_of old act reply)
    pub second_at : slice_get (bare_log (pass_view new).seen) second ≡ Some (call_of old act' reply')
    pub order : first < second

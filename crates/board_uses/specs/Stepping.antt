-- What the step of a work leaves with its pass.
use Rattle.std.specs.Prelude.{◌≡◌, ℕ, Option, Some, None, Ok, Err}
use Rattle.omx_types.specs.declared.handle.Handle.{Handle}
use Rattle.outside_io.specs.declared.sink.Sink.{Ghosts as SinkGhosts}
use Rattle.outside_io.specs.declared.source.Source.{Ghosts as SourceGhosts}
use Rattle.audio_parts.specs.Shown.{ShownPart}
use Rattle.il_flow.specs.Works.{DoneOf, WorkOf}
use Rattle.graph_acts.specs.declared.act.Act.TheVariants as asks
use Rattle.graph_acts.specs.declared.act.Reply.TheVariants as replies
use Rattle.graph_acts.specs.declared.claimed.LentClaim.{LentClaim}
use Rattle.graph_acts.specs.declared.claimed.LentClaim.TheVariants as claimed
use Rattle.graph_acts.specs.Working.{IsRunOf, out_of}
use Rattle.board.specs.declared.pass.BoardPass.{BoardPass}
use Rattle.board_uses.specs.declared.working.Worked.{Worked}
use Rattle.board_uses.specs.declared.working.Worked.TheVariants as workings
use Rattle.board_uses.specs.Seeing.{MadeNone, MadeOne, MadeTwo}

-- it says why there is no work
abbrev pub IsNoWork : {S K : Type 0} → LentClaim S K → Type 0
IsNoWork (claimed.Work work) = ⊥
IsNoWork _ = Unit {0}

module _ {S K C : Type 0} (reads : SourceGhosts S) (writes : SinkGhosts K) (h : Handle) where
  -- the component's work went out, its step was done, and it came back so
  pub record IsStepped (frames claimed_at finished_at : ℕ) (old new : BoardPass S K C) : Type 0 where
    pub work : WorkOf (ShownPart S K)
    pub done : DoneOf (ShownPart S K)
    pub run : IsRunOf reads writes (out_of work) done
    pub many : done.frames ≡ frames
    pub calls : MadeTwo old new claimed_at (asks.Claim h) (replies.Claim (Ok (claimed.Work work))) finished_at (asks.Finish done) replies.Finish

  -- the answer tells the calls that were made
  abbrev pub DoesStep : Option Worked → BoardPass S K C → BoardPass S K C → Type 0
  DoesStep None old new = MadeNone old new
  DoesStep (Some (workings.Step frames claimed_at finished_at)) old new = IsStepped frames claimed_at finished_at old new
  DoesStep (Some workings.None) old new = (answer : LentClaim S K) × IsNoWork answer × MadeOne old new (asks.Claim h) (replies.Claim (Ok answer))
  DoesStep (Some (workings.Refused error)) old new = MadeOne old new (asks.Claim h) (replies.Claim (Err error))

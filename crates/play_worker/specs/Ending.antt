-- What a worker saw of the end of a play.
use Rattle.std.specs.Prelude.{◌≡◌, ◌⊎◌, true, List, All, is_some, Option, Some, Result, Ok}
use Rattle.omx_types.specs.declared.error.OmxError.{OmxError}
use Rattle.omx_types.specs.declared.handle.Handle.{Handle}
use Rattle.omx_types.specs.declared.state.State.TheVariants as states
use Rattle.il_machine.specs.declared.answer.Progress.{Progress}
use Rattle.held_things.specs.Held.{Has}
use Rattle.turnstile.specs.Entries.{entry}
use Rattle.graph_acts.specs.declared.act.Act.TheVariants as asks
use Rattle.graph_acts.specs.declared.act.Reply.TheVariants as replies
use Rattle.board.specs.Boards.{own_calls}
use Rattle.work_signs.specs.declared.seat.Seat.{Seat}
use Rattle.pass_book.specs.declared.book.Book.{Book}
use Rattle.pass_book.specs.Seats.{IsSeatOf}
use Rattle.play_worker.specs.declared.seeing.Seen.{Seen}
use Rattle.play_worker.specs.declared.seeing.Seen.TheVariants.{Loaded, Failed, Other}

-- what a component has told is that it reached Loaded, or an error
abbrev pub Tells : Progress → Seen → Type 0
Tells told Loaded = told.state ≡ Some states.Loaded
Tells told Failed = is_some told.error ≡ true
Tells told Other = Unit {0}

-- a look shows it
abbrev pub Shows : Result (Option Progress) OmxError → Seen → Type 0
Shows (Ok (Some told)) seen = Tells told seen
Shows _ Other = Unit {0}
Shows _ _ = ⊥

module _ {S K C : Type 0} where
  -- one of the pass's looks at the component showed it
  abbrev pub HasSeen : Book S K C → Handle → Seen → Type 0
  HasSeen book h seen = (told : Progress) × Has (own_calls book.pass) (entry book.number (asks.Progress h) (replies.Progress (Ok (Some told)))) × Tells told seen

  -- each of these components was seen to have told Loaded
  abbrev pub AllLoaded : List Seat → Book S K C → Type 0
  AllLoaded seats book = All (λ (seat : Seat). HasSeen book seat.handle Loaded) seats

  -- so each was, or one was seen to have told an error
  abbrev pub HasSeenEnd : List Seat → Book S K C → Type 0
  HasSeenEnd seats book = AllLoaded seats book ⊎ ((seat : Seat) × IsSeatOf seats seat × HasSeen book seat.handle Failed)

-- What a delivery leaves with its pass.
use Rattle.std.specs.Prelude.{◌≡◌, ℕ, List, Option, Some, None, Ok, Err}
use Rattle.omx_types.specs.declared.handle.Handle.{Handle}
use Rattle.il_machine.specs.declared.answer.Progress.{Progress as Reached}
use Rattle.il_machine.specs.Components.{noted_by}
use Rattle.header_core.specs.BufferHeader.{BufferHeader}
use Rattle.note_queues.specs.declared.taken.Call.{Call}
use Rattle.note_queues.specs.declared.taken.Taken.{Taken}
use Rattle.note_queues.specs.declared.taken.Took.TheVariants as tooks
use Rattle.note_queues.specs.Queues.{note_of}
use Rattle.held_things.specs.Held.{more}
use Rattle.graph_acts.specs.declared.act.Act.TheVariants as asks
use Rattle.graph_acts.specs.declared.act.Reply.TheVariants as replies
use Rattle.graph_acts.specs.Holding.{OutClient, header_in}
use Rattle.board.specs.declared.pass.BoardPass.{BoardPass}
use Rattle.board_uses.specs.declared.delivery.Delivered.{Delivered}
use Rattle.board_uses.specs.declared.delivery.Delivered.TheVariants as deliveries
use Rattle.board_uses.specs.Seeing.{MadeNone, MadeOne, MadeTwo}

abbrev pub out_client : Handle → Reached → OutClient
out_client h told = record { handle = h; progress = told }

-- the header of the note stays with the pass
abbrev pub headers_got : Option Delivered → List BufferHeader → List BufferHeader
headers_got None held = held
headers_got (Some (deliveries.Note taken taken_at ended_at)) held = more (header_in taken) held
headers_got (Some deliveries.None) held = held
headers_got (Some deliveries.Busy) held = held
headers_got (Some (deliveries.Refused error)) held = held

module _ {S K C : Type 0} (progress : C → Reached) (h : Handle) where
  -- the note was taken with the component's client object, which went back once it was told the note
  pub record IsNoted (taken : Taken) (taken_at ended_at : ℕ) (old new : BoardPass S K C) : Type 0 where
    pub call : Call C
    pub client : C
    pub note : call.taken ≡ taken
    pub told : progress client ≡ noted_by (note_of taken) (progress call.client)
    pub calls : MadeTwo old new taken_at (asks.TakeNote h) (replies.TakeNote (Ok (tooks.Call call))) ended_at (asks.EndNote h client) replies.EndNote

  -- the answer tells the calls that were made
  abbrev pub DoesDeliver : Option Delivered → BoardPass S K C → BoardPass S K C → Type 0
  DoesDeliver None old new = MadeNone old new
  DoesDeliver (Some (deliveries.Note taken taken_at ended_at)) old new = IsNoted taken taken_at ended_at old new
  DoesDeliver (Some deliveries.None) old new = MadeOne old new (asks.TakeNote h) (replies.TakeNote (Ok tooks.None))
  DoesDeliver (Some deliveries.Busy) old new = MadeOne old new (asks.TakeNote h) (replies.TakeNote (Ok tooks.Busy))
  DoesDeliver (Some (deliveries.Refused error)) old new = MadeOne old new (asks.TakeNote h) (replies.TakeNote (Err error))

-- The seats of a play's components in the scene of its log.
use Rattle.std.specs.Prelude.{◌≡◌, ℕ, nat_lt, List, Some, Err, slice_get}
use Rattle.omx_types.specs.declared.error.CallError.TheVariants.{OutOfMemory}
use Rattle.header_core.specs.BufferHeader.{BufferHeader}
use Rattle.graph_acts.specs.declared.act.Reply.{Reply}
use Rattle.graph_acts.specs.declared.act.Reply.TheVariants as replies
use Rattle.graph_acts.specs.Holding.{took_header}
use Rattle.part_forms.specs.Kinds.{is_input}
use Rattle.script_lang.specs.declared.play_line.PartLine.{PartLine}
use Rattle.play_forms.specs.Parts.{kind_of}
use Rattle.play_log.specs.Scenes.{IsPlayer, Scene}
use Rattle.work_signs.specs.declared.seat.Seat.{Seat}

-- the seat is that of the component of the place
pub record IsSeatIn (scene : Scene) (place : ℕ) (s : Seat) : Type 0 where
  pub part : PartLine
  pub player : IsPlayer scene place s.name part s.handle
  pub number : (s.handle).generation ≡ place
  pub inputs : (port : ℕ) → nat_lt port s.inputs ≡ is_input (kind_of part.form) port

abbrev pub AreSeatsIn : Scene → List Seat → Type 0
AreSeatsIn scene seats = (place : ℕ) (s : Seat) → slice_get seats place ≡ Some s → IsSeatIn scene place s

module _ {S K C : Type 0} where
  -- a supply that wanted memory, or a note with a header
  abbrev pub HasNoText : Reply S K C → Type 0
  HasNoText (replies.Supply result) = result ≡ Err OutOfMemory
  HasNoText (replies.TakeNote result) = (header : BufferHeader) × (took_header result ≡ Some header)
  HasNoText _ = ⊥

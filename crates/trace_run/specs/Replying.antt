-- What is printed of an answer.
use Rattle.std.specs.Prelude.{ℕ, Bool, true, false, List, [], ◌∷◌, Option, Some, None, option_map, Result, Ok, Err, codes}
use Rattle.omx_types.specs.declared.error.OmxError.{OmxError}
use Rattle.omx_types.specs.declared.error.CallError.{CallError}
use Rattle.omx_types.specs.declared.error.CallError.TheVariants as calls
use Rattle.omx_types.specs.declared.param.Supplier.{Supplier}
use Rattle.omx_types.specs.declared.param.Supplier.TheVariants as suppliers
use Rattle.il_machine.specs.declared.answer.Acted.{Acted}
use Rattle.il_machine.specs.declared.answer.Acted.TheVariants as acted
use Rattle.il_machine.specs.declared.answer.Why.{Why}
use Rattle.il_machine.specs.declared.answer.Why.TheVariants as machine
use Rattle.il_machine.specs.declared.answer.Granted.{Granted}
use Rattle.il_machine.specs.declared.answer.Granted.TheVariants as grants
use Rattle.il_machine.specs.declared.answer.Preempted.{Preempted}
use Rattle.il_machine.specs.declared.answer.Preempted.TheVariants as losses
use Rattle.il_machine.specs.Claims.{Claimed, ClaimedWork, ClaimedBusy, ClaimedNotRunning, ClaimedEnded, ClaimedHeld, ClaimedNoData, ClaimedNoRoom, ClaimedEvents}
use Rattle.il_machine.specs.Components.{has_eos}
use Rattle.il_machine.specs.Notes.{Took, TookNote, TookNone, TookBusy, TakenEvent, TakenEmpty, TakenFilled}
use Rattle.il_machine.specs.Acts.{Reply}
use Rattle.il_machine.specs.Acts as acts
use Rattle.act_text.specs.Replies.{reply_words}
use Rattle.act_text.specs.declared.reply.TextReply.{TextReply}
use Rattle.act_text.specs.declared.reply.TextReply.TheVariants as texts
use Rattle.act_text.specs.declared.reply.TextWhy.{TextWhy}
use Rattle.act_text.specs.declared.reply.TextWhy.TheVariants as whys
use Rattle.script_lang.specs.Forms.{flag_word}
use Rattle.script_lang.specs.Hex.{bytes_word}
use Rattle.trace_run.specs.Naming.{Names, component_name, port_name, header_name}
use Rattle.trace_run.specs.declared.names.NamedComponent.{NamedComponent}

-- a reply that names no header, or a header that came back
pub data LineReply : Type 0 where
  Plain : (reply : TextReply) → LineReply
  Emptied : (header : List ℕ) → LineReply
  Filled : (header : List ℕ) (bytes : List ℕ) (eos : Bool) → LineReply

abbrev pub line_reply_words : LineReply → List (List ℕ)
line_reply_words (Plain reply) = reply_words reply
line_reply_words (Emptied header) = codes "empty" ∷ header ∷ []
line_reply_words (Filled header bytes eos) = codes "fill" ∷ header ∷ bytes_word bytes ∷ flag_word eos ∷ []

abbrev pub done : Option LineReply
done = Some (Plain texts.Done)

-- with each port by the name of its component
abbrev pub named_why : List NamedComponent → Why → Option TextWhy
named_why components machine.NoCommand = Some whys.NoCommand
named_why components (machine.Pending state) = Some (whys.Pending state)
named_why components (machine.PortBusy port) = Some (whys.PortBusy port)
named_why components machine.NotSupplier = Some whys.NotSupplier
named_why components machine.IsSupplier = Some whys.IsSupplier
named_why components (machine.NotAccepting port) = option_map whys.NotAccepting (port_name components port)
named_why components machine.NoBlock = Some whys.NoBlock
named_why components machine.NoNumber = Some whys.NoNumber
named_why components machine.NotLeaving = Some whys.NotLeaving
named_why components machine.NoHeader = Some whys.NoHeader
named_why components (machine.NotRunning port) = option_map whys.NotRunning (port_name components port)
named_why components machine.NoWaiter = Some whys.NoWaiter
named_why components (machine.Short have need) = Some (whys.Short have need)
named_why components (machine.Enough have need) = Some (whys.Enough have need)
named_why components machine.NoVictim = Some whys.NoVictim
named_why components (machine.Events room need) = Some (whys.Events room need)

abbrev pub granted_to : List ℕ → LineReply
granted_to component = Plain (texts.Granted component)

abbrev pub taken_from : List ℕ → LineReply
taken_from component = Plain (texts.Victim component)

abbrev pub idle_reply : TextWhy → LineReply
idle_reply why = Plain (texts.Idle why)

abbrev pub acted_reply : List NamedComponent → Acted → Option LineReply
acted_reply components acted.Did = Some (Plain texts.Did)
acted_reply components (acted.Idle why) = option_map idle_reply (named_why components why)

-- who was granted units, by name
abbrev pub granted_reply : List NamedComponent → Granted → Option LineReply
granted_reply components (grants.Granted h) = option_map granted_to (component_name components h.generation)
granted_reply components (grants.Idle why) = option_map idle_reply (named_why components why)

-- who loses units, by name
abbrev pub preempted_reply : List NamedComponent → Preempted → Option LineReply
preempted_reply components (losses.Victim h) = option_map taken_from (component_name components h.generation)
preempted_reply components (losses.Idle why) = option_map idle_reply (named_why components why)

-- a work is out, or why none is
abbrev pub claimed_reply : Claimed → TextReply
claimed_reply (ClaimedWork work) = texts.Work
claimed_reply ClaimedBusy = texts.Idle whys.WorkOut
claimed_reply ClaimedNotRunning = texts.Idle whys.ComponentNotRunning
claimed_reply ClaimedEnded = texts.Idle whys.PartEnded
claimed_reply (ClaimedHeld port) = texts.Idle (whys.PortHeld port)
claimed_reply (ClaimedNoData port) = texts.Idle (whys.NoData port)
claimed_reply (ClaimedNoRoom port) = texts.Idle (whys.NoRoom port)
claimed_reply (ClaimedEvents room need) = texts.Idle (whys.Events room need)

-- which end of a tunnel makes its headers
abbrev pub is_input_end : Supplier → Bool
is_input_end suppliers.Input = true
is_input_end suppliers.Output = false
is_input_end suppliers.Unspecified = false

abbrev pub filled_reply : List ℕ → ℕ → List ℕ → LineReply
filled_reply bytes flags header = Filled header bytes (has_eos flags)

abbrev pub took_reply : Names → Took → Option LineReply
took_reply names TookNone = Some (Plain texts.NoNote)
took_reply names TookBusy = Some (Plain texts.Busy)
took_reply names (TookNote (TakenEvent event)) = Some (Plain (texts.Event event))
took_reply names (TookNote (TakenEmpty header)) = option_map Emptied (header_name names header.number)
took_reply names (TookNote (TakenFilled header)) = option_map (filled_reply header.content header.flags) (header_name names header.number)

abbrev pub or_error : {T : Type 0} → (T → Option LineReply) → Result T OmxError → Option LineReply
or_error reply (Ok x) = reply x
or_error reply (Err error) = Some (Plain (texts.Error error))

-- of want of memory no line is printed
abbrev pub or_call_error : {T : Type 0} → (T → Option LineReply) → Result T CallError → Option LineReply
or_call_error reply (Ok x) = reply x
or_call_error reply (Err (calls.Omx error)) = Some (Plain (texts.Error error))
or_call_error reply (Err calls.OutOfMemory) = None

abbrev pub printed : Names → Reply → Option LineReply
printed names (acts.Got result) = or_call_error (λ handle. done) result
printed names (acts.Removed result) = or_error (λ file. done) result
printed names (acts.Plain result) = or_error (λ x. done) result
printed names (acts.Stated result) = or_error (λ state. Some (Plain (texts.State state))) result
printed names (acts.Viewed result) = or_error (λ view. Some (Plain (texts.Port view))) result
printed names (acts.Joined result) = or_error (λ supplier. Some (Plain (texts.Supplier (is_input_end supplier)))) result
printed names (acts.Acted result) = or_error (acted_reply names.components) result
printed names (acts.Supplied result) = or_call_error (acted_reply names.components) result
printed names (acts.Allocated result) = or_call_error (λ header. done) result
printed names (acts.Used result) = or_error (λ header. done) result
printed names (acts.Freed result) = or_error (λ memory. done) result
printed names (acts.Took result) = or_error (took_reply names) result
printed names (acts.Granted answer) = granted_reply names.components answer
printed names (acts.Preempted answer) = preempted_reply names.components answer
printed names (acts.Claimed result) = or_error (λ claimed. Some (Plain (claimed_reply claimed))) result
-- what a finish did its act says, and no line asks for the others
printed names acts.Finished = None
printed names (acts.Progressed result) = None
printed names (acts.Parameter result) = None
printed names acts.Ended = None

-- The worlds that a graph stands for, and what its clauses say of a result that hands something back.
use Rattle.std.specs.Prelude.{Bool, Option, is_some, option_map, Result, Ok, Err}
use Rattle.omx_types.specs.declared.error.CallError.{CallError}
use Rattle.omx_types.specs.declared.error.CallError.TheVariants.{Omx, OutOfMemory}
use Rattle.part_api.specs.declared.attached.Attached.{Attached}
use Rattle.il_machine.specs.Buffers.{Held}
use Rattle.il_machine.specs.Notes.{Took}
use Rattle.il_machine.specs.declared.answer.Acted.{Acted}
use Rattle.il_machine.specs.declared.answer.Acted.TheVariants.{Did, Idle}
use Rattle.il_machine.specs.declared.answer.Granted.{Granted}
use Rattle.il_machine.specs.declared.answer.Granted.TheVariants as grants
use Rattle.il_machine.specs.declared.answer.Preempted.{Preempted}
use Rattle.il_machine.specs.declared.answer.Preempted.TheVariants as losses
use Rattle.header_core.specs.BufferHeader.{BufferHeader}
use Rattle.note_queues.specs.Queues.{took_of}
use Rattle.note_queues.specs.declared.taken.Took.{Took as Given}
use Rattle.note_queues.specs.declared.taken.Took.TheVariants as tooks
use Rattle.audio_parts.specs.AnyParts.{attached_of}
use Rattle.graph_core.specs.Clients.{IsPortDone}
use Rattle.il_graph.specs.declared.freed.Freed.{Freed}
use Rattle.il_machine.specs.declared.answer.Progress.{Progress}

-- the answer without what it hands back
abbrev pub plainly : {T E X : Type 0} → Result T (E × X) → Result T E
plainly (Ok x) = Ok x
plainly (Err e) = Err e.0

-- of a component that was freed, for which frames its file had come
abbrev pub with_record : {S K C E : Type 0} → Result (Freed S K C) E → Result (Option Attached) E
with_record (Ok freed) = Ok (option_map attached_of freed.file)
with_record (Err e) = Err e

-- the header as its holder sees it
abbrev pub heldly : {E : Type 0} → Result BufferHeader E → Result Held E
heldly (Ok header) = Ok header.held
heldly (Err e) = Err e

-- whether memory goes back to the client
abbrev pub memory_back : {B E : Type 0} → Result (Option B) E → Result Bool E
memory_back (Ok memory) = Ok (is_some memory)
memory_back (Err e) = Err e

-- the act was answered Idle
abbrev pub OnIdle : {E : Type 0} → Result Acted E → Type 0 → Type 0
OnIdle (Ok (Idle why)) P = P
OnIdle (Ok Did) P = Unit {0}
OnIdle (Err e) P = Unit {0}

-- no units were granted
abbrev pub OnNoGrant : Granted → Type 0 → Type 0
OnNoGrant (grants.Idle why) P = P
OnNoGrant (grants.Granted h) P = Unit {0}

-- no units were taken
abbrev pub OnNoVictim : Preempted → Type 0 → Type 0
OnNoVictim (losses.Idle why) P = P
OnNoVictim (losses.Victim h) P = Unit {0}

-- the answer was a refusal, and not want of memory
abbrev pub OnRefusal : CallError → Type 0 → Type 0
OnRefusal (Omx error) P = P
OnRefusal OutOfMemory P = Unit {0}

-- the error is a refusal, and not want of memory
abbrev pub IsRefusal : CallError → Type 0
IsRefusal (Omx error) = Unit {0}
IsRefusal OutOfMemory = ⊥

-- a note as the machine tells it
abbrev pub tookly : {C E : Type 0} → Result (Given C) E → Result Took E
tookly (Ok took) = Ok (took_of took)
tookly (Err e) = Err e

-- Of ports the client object that comes with a note was told no other completion than that of a disable or an enable.
abbrev pub IsTookDone : {C : Type 0} → (C → Progress) → Given C → Type 0
IsTookDone progress (tooks.Call call) = IsPortDone (progress call.client).port
IsTookDone progress tooks.None = Unit {0}
IsTookDone progress tooks.Busy = Unit {0}

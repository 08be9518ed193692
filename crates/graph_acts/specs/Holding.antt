-- What a pass holds by its own entries: headers, client objects and works that it got and hasn't given back. And what it may ask.
use Rattle.std.specs.Prelude.{◌≡◌, ℕ, Bool, true, nat_eq, List, [], Option, Some, None, IsSomeAnd, Result, Ok, Err}
use Rattle.omx_types.specs.declared.handle.Handle.{Handle}
use Rattle.il_machine.specs.declared.answer.Progress.{Progress as Reached}
use Rattle.il_machine.specs.Answers.{component_named}
use Rattle.il_machine.specs.Whole.{Stands}
use Rattle.il_machine.specs.World.{World, same_handle}
use Rattle.il_machine.specs.Components.{no_progress, noted_by}
use Rattle.header_core.specs.BufferHeader.{BufferHeader, is_clients}
use Rattle.note_queues.specs.declared.taken.Taken.{Taken}
use Rattle.note_queues.specs.declared.taken.Taken.TheVariants.{Told, EmptyDone, FillDone}
use Rattle.note_queues.specs.declared.taken.Took.{Took}
use Rattle.note_queues.specs.declared.taken.Took.TheVariants as tooks
use Rattle.note_queues.specs.Queues.{note_of}
use Rattle.graph_core.specs.Entries.{look_of, client_named}
use Rattle.graph_core.specs.Changes.{IsHandedIn}
use Rattle.graph_core.specs.Clients.{IsPortDone}
use Rattle.graph_core.specs.Finishing.{AreHandedBack}
use Rattle.audio_parts.specs.Shown.{ShownPart}
use Rattle.il_flow.specs.Works.{DoneOf, seen_done}
use Rattle.il_graph.specs.Finishing.{IsItsOwn, Returns}
use Rattle.il_graph.specs.Shown.{Shown, kept, seen_of}
use Rattle.turnstile.specs.declared.entry.Entry.{Entry}
use Rattle.held_things.specs.Held.{Has, held_from}
use Rattle.graph_acts.specs.declared.act.Act.{Act}
use Rattle.graph_acts.specs.declared.act.Act.TheVariants as asks
use Rattle.graph_acts.specs.declared.act.Reply.{Reply}
use Rattle.graph_acts.specs.declared.act.Reply.TheVariants as replies
use Rattle.graph_acts.specs.Plain.{Sight}
use Rattle.graph_acts.specs.Working.{IsRunOf, OutWork, work_back, work_given, work_number}

-- a component's client object that went out, and what its progress is once it was told the note
pub record OutClient : Type 0 where
  pub handle : Handle
  pub progress : Reached

-- ---- what an act takes in and gives

abbrev pub on_ok : {T E : Type 0} → Result T E → BufferHeader → Option ℕ
on_ok (Ok x) header = Some header.held.number
on_ok (Err e) header = None

abbrev pub header_in : Taken → Option BufferHeader
header_in (Told event) = None
header_in (EmptyDone header) = Some header
header_in (FillDone header) = Some header

abbrev pub ok_header : {E : Type 0} → Result BufferHeader E → Option BufferHeader
ok_header (Ok header) = Some header
ok_header (Err e) = None

module _ {C : Type 0} where
  abbrev pub took_header : {E : Type 0} → Result (Took C) E → Option BufferHeader
  took_header (Ok (tooks.Call call)) = header_in call.taken
  took_header (Ok tooks.None) = None
  took_header (Ok tooks.Busy) = None
  took_header (Err e) = None

  -- the client object that comes with a note, once it was told that
  abbrev pub took_client : {E : Type 0} → (C → Reached) → Handle → Result (Took C) E → Option OutClient
  took_client progress h (Ok (tooks.Call call)) = Some (record { handle = h; progress = noted_by (note_of call.taken) (progress call.client) })
  took_client progress h (Ok tooks.None) = None
  took_client progress h (Ok tooks.Busy) = None
  took_client progress h (Err e) = None

module _ {S K C : Type 0} where
  abbrev pub freed_in : BufferHeader → Reply S K C → Option ℕ
  freed_in header (replies.FreeBuffer result) = on_ok result header
  freed_in header _ = None

  abbrev pub emptied_in : BufferHeader → Reply S K C → Option ℕ
  emptied_in header (replies.EmptyThisBuffer result) = on_ok result header
  emptied_in header _ = None

  abbrev pub filled_in : BufferHeader → Reply S K C → Option ℕ
  filled_in header (replies.FillThisBuffer result) = on_ok result header
  filled_in header _ = None

  -- the number of the header that the act took in; one that was refused took none
  abbrev pub taken_in : Act S K C → Reply S K C → Option ℕ
  taken_in (asks.FreeBuffer h port header) r = freed_in header r
  taken_in (asks.EmptyThisBuffer h port header) r = emptied_in header r
  taken_in (asks.FillThisBuffer h port header) r = filled_in header r
  taken_in _ r = None

  -- the header that a reply gives; one that comes back with a refusal never went in
  abbrev pub given_out : Reply S K C → Option BufferHeader
  given_out (replies.AllocateBuffer result) = ok_header result
  given_out (replies.UseBuffer result) = ok_header result
  given_out (replies.TakeNote result) = took_header result
  given_out _ = None

  -- the component whose client object the act puts back
  abbrev pub client_in : Act S K C → Option Handle
  client_in (asks.EndNote h client) = Some h
  client_in _ = None

  abbrev pub noted_out : (C → Reached) → Handle → Reply S K C → Option OutClient
  noted_out progress h (replies.TakeNote result) = took_client progress h result
  noted_out progress h _ = None

  -- the client object that went out with the reply
  abbrev pub client_out : (C → Reached) → Act S K C → Reply S K C → Option OutClient
  client_out progress (asks.TakeNote h) r = noted_out progress h r
  client_out progress _ r = None

-- ---- what a pass holds

abbrev pub header_number : BufferHeader → ℕ
header_number header = header.held.number

abbrev pub client_handle : OutClient → Handle
client_handle x = x.handle

module _ {S K C : Type 0} where
  abbrev pub header_given : Act S K C → Reply S K C → Option BufferHeader
  header_given a r = given_out r

  abbrev pub client_gone : Act S K C → Reply S K C → Option Handle
  client_gone a r = client_in a

  -- the headers that were got and not given back
  abbrev pub headers_held : List (Entry (Act S K C) (Reply S K C)) → List BufferHeader
  headers_held own = held_from header_number nat_eq taken_in header_given [] own

  -- the client objects that were got and not given back
  abbrev pub clients_held : (C → Reached) → List (Entry (Act S K C) (Reply S K C)) → List OutClient
  clients_held progress own = held_from client_handle same_handle client_gone (client_out progress) [] own

module _ {S K C : Type 0} where
  abbrev pub work_gone : Act S K C → Reply S K C → Option ℕ
  work_gone a r = work_back a

  abbrev pub work_come : Act S K C → Reply S K C → Option (OutWork S K)
  work_come a r = work_given r

  -- the works that were got and not brought back
  abbrev pub works_held : List (Entry (Act S K C) (Reply S K C)) → List (OutWork S K)
  works_held own = held_from work_number nat_eq work_gone work_come [] own

-- ---- what is out of a graph

-- the client object of the component is out
abbrev pub IsGone : {S K C : Type 0} → Shown S K C → Handle → Type 0
IsGone g h = client_named h g.core ≡ Some None

-- so it is; and of ports it comes back with no other completion than that of a disable or an enable
abbrev pub IsGoneSo : {S K C : Type 0} → Shown S K C → OutClient → Type 0
IsGoneSo g x = IsGone g x.handle × IsPortDone x.progress.port

-- a work that comes back is the component's, and some world that the graph stands for has it out
pub record CanFinish {S K C : Type 0} (see : Sight S K C) (g : Shown S K C) (done : DoneOf (ShownPart S K)) : Type 0 where
  pub comes : (w : World) × (took : List ℕ) × (Stands (kept see.progress g) w × Returns w (seen_done took done) (seen_of (done.part)))
  pub its : IsSomeAnd (component_named done.component (look_of g.core).components) (λ c. IsItsOwn c done.announces done.fault (done.part).terms (done.part).failed)
  pub handed : AreHandedBack done.headers (look_of g.core)

-- what the graph's call for the act asks
abbrev pub Can : {S K C : Type 0} → Sight S K C → Shown S K C → Act S K C → Type 0
Can see g (asks.GetHandle name client) = see.progress client ≡ no_progress
Can see g (asks.FreeBuffer h port header) = IsHandedIn header (look_of g.core)
Can see g (asks.EmptyThisBuffer h port header) = IsHandedIn header (look_of g.core)
Can see g (asks.FillThisBuffer h port header) = IsHandedIn header (look_of g.core)
Can see g (asks.EndNote h client) = IsGone g h × IsPortDone (see.progress client).port
Can see g (asks.Finish done) = CanFinish see g done
Can see g _ = Unit {0}

-- ---- what a pass may ask

-- The same header: its holder may have changed its content, its flags and its mark.
pub record IsSame (got given : BufferHeader) : Type 0 where
  pub key : given.key ≡ got.key
  pub number : given.held.number ≡ got.held.number
  pub size : given.held.size ≡ got.held.size
  pub store : is_clients given.store ≡ is_clients got.store

module _ {S K C : Type 0} where
  abbrev pub HoldsHeader : List (Entry (Act S K C) (Reply S K C)) → BufferHeader → Type 0
  HoldsHeader own header = (got : BufferHeader) × Has (headers_held own) got × IsSame got header

  abbrev pub HoldsClient : (C → Reached) → List (Entry (Act S K C) (Reply S K C)) → Handle → Reached → Type 0
  HoldsClient progress own h told = Has (clients_held progress own) (record { handle = h; progress = told })

  abbrev pub HoldsWork : Sight S K C → List (Entry (Act S K C) (Reply S K C)) → DoneOf (ShownPart S K) → Type 0
  HoldsWork see own done = (got : OutWork S K) × Has (works_held own) got × IsRunOf see.reads see.writes got done

  -- A pass with these entries of its own may ask it. `headers` says whether client objects of this type are given headers.
  abbrev pub May : Sight S K C → Bool → List (Entry (Act S K C) (Reply S K C)) → Act S K C → Type 0
  May see headers own (asks.GetHandle name client) = see.progress client ≡ no_progress
  May see headers own (asks.AllocateBuffer h port) = headers ≡ true
  May see headers own (asks.UseBuffer h port bytes) = headers ≡ true
  May see headers own (asks.FreeBuffer h port header) = HoldsHeader own header
  May see headers own (asks.EmptyThisBuffer h port header) = HoldsHeader own header
  May see headers own (asks.FillThisBuffer h port header) = HoldsHeader own header
  May see headers own (asks.EndNote h client) = HoldsClient see.progress own h (see.progress client)
  May see headers own (asks.Finish done) = HoldsWork see own done
  May see headers own _ = Unit {0}

  -- it holds nothing
  abbrev pub Clear : Sight S K C → List (Entry (Act S K C) (Reply S K C)) → Type 0
  Clear see own = (headers_held own ≡ []) × (clients_held see.progress own ≡ []) × (works_held own ≡ [])

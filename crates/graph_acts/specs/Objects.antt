-- The client objects and the files that stand in a graph, by the acts that put them in and take them out. What comes out is the very object
-- that went in: a file is the one that was attached, or that the step of its component brought back last.
use Rattle.std.specs.Prelude.{◌≡◌, ℕ, nat_eq, Bool, false, List, [], ◌∷◌, Option, Some, None, Result, Ok, Err, IfOk, IfSome, is_some, if◌then◌else◌}
use Rattle.omx_types.specs.declared.handle.Handle.{Handle}
use Rattle.il_machine.specs.World.{same_handle}
use Rattle.note_queues.specs.declared.taken.Took.{Took}
use Rattle.note_queues.specs.declared.taken.Took.TheVariants as tooks
use Rattle.audio_parts.specs.Objects.{Held}
use Rattle.audio_parts.specs.Shown.{held_in}
use Rattle.audio_parts.specs.declared.part_file.PartFile.{PartFile}
use Rattle.graph_core.specs.Entries.{client_of}
use Rattle.il_graph.specs.Shown.{Shown, file_of}
use Rattle.turnstile.specs.declared.entry.Entry.{Entry}
use Rattle.graph_acts.specs.declared.act.Act.{Act}
use Rattle.graph_acts.specs.declared.act.Act.TheVariants as asks
use Rattle.graph_acts.specs.declared.act.Reply.{Reply}
use Rattle.graph_acts.specs.declared.act.Reply.TheVariants as replies
use Rattle.graph_acts.specs.declared.claimed.LentClaim.{LentClaim}
use Rattle.graph_acts.specs.declared.claimed.LentClaim.TheVariants as claimed
use Rattle.graph_acts.specs.Lending.{OnLent}
use Rattle.graph_acts.specs.Plain.{Sight}
use Rattle.graph_acts.specs.Working.{IsFaulted, IsFurther}

-- what there is at each place, where at one of them there is something else now
abbrev pub with_at : {P X : Type 0} → (P → P → Bool) → Option (P × X) → (P → X) → P → X
with_at same None at place = at place
with_at same (Some x) at place = if same place x.0 then x.1 else at place

-- ---- where an act puts something in or takes it out, and what is there then

module _ {X : Type 0} where
  abbrev pub on_done : {P T E : Type 0} → Result T E → P → X → Option (P × X)
  on_done (Ok done) place x = Some (place, x)
  on_done (Err e) place x = None

  abbrev pub on_made : {P E : Type 0} → Result Handle E → (Handle → P) → X → Option (P × X)
  on_made (Ok h) place x = Some (place h, x)
  on_made (Err e) place x = None

  -- where a note comes, and its client object with it
  abbrev pub on_call : {C E : Type 0} → Result (Took C) E → Handle → X → Option (Handle × X)
  on_call (Ok (tooks.Call call)) h x = Some (h, x)
  on_call (Ok tooks.None) h x = None
  on_call (Ok tooks.Busy) h x = None
  on_call (Err e) h x = None

module _ {S K : Type 0} where
  -- where a work goes out, and its file with it
  abbrev pub file_gone : {E : Type 0} → Result (LentClaim S K) E → ℕ → Option (ℕ × Option (PartFile S K))
  file_gone (Ok (claimed.Work work)) number = Some (number, None)
  file_gone (Ok _) number = None
  file_gone (Err e) number = None

  abbrev pub part_gone : {E : Type 0} → Result (LentClaim S K) E → Option (ℕ × Held S K)
  part_gone (Ok (claimed.Work work)) = Some (work.component.generation, held_in work.part)
  part_gone (Ok _) = None
  part_gone (Err e) = None

  -- no part was seen yet
  abbrev pub none_seen : ℕ → Held S K
  none_seen number = record { failed = false; file = None }

-- a note comes, and with it the client object
module _ {C : Type 0} where
  abbrev pub OnCall : {E : Type 0} → Result (Took C) E → (C → Type 0) → Type 0
  OnCall (Ok (tooks.Call call)) P = P call.client
  OnCall (Ok tooks.None) P = Unit {0}
  OnCall (Ok tooks.Busy) P = Unit {0}
  OnCall (Err e) P = Unit {0}

module _ {S K C : Type 0} where
  abbrev pub client_moved : Act S K C → Reply S K C → Option (Handle × Option C)
  client_moved (asks.GetHandle name client) (replies.GetHandle result) = on_made result (λ h. h) (Some client)
  client_moved (asks.FreeHandle h) (replies.FreeHandle result) = on_done result h None
  client_moved (asks.TakeNote h) (replies.TakeNote result) = on_call result h None
  client_moved (asks.EndNote h client) _ = Some (h, Some client)
  client_moved _ _ = None

  abbrev pub file_moved : Act S K C → Reply S K C → Option (ℕ × Option (PartFile S K))
  file_moved (asks.GetHandle name client) (replies.GetHandle result) = on_made result (λ h. h.generation) None
  file_moved (asks.FreeHandle h) (replies.FreeHandle result) = on_done result h.generation None
  file_moved (asks.Attach h file) (replies.Attach result) = on_done result h.generation (Some file)
  file_moved (asks.Claim h) (replies.Claim result) = file_gone result h.generation
  file_moved (asks.Finish done) _ = Some (done.component.generation, (done.part).file)
  file_moved _ _ = None

  abbrev pub part_seen : Act S K C → Reply S K C → Option (ℕ × Held S K)
  part_seen (asks.Claim h) (replies.Claim result) = part_gone result
  part_seen (asks.Finish done) _ = Some (done.component.generation, held_in done.part)
  part_seen _ _ = None

  -- The client objects by the handles of their components, and the files by their numbers. And what the part of each component held when it was
  -- last seen, as it was claimed or came back.
  abbrev pub clients_after : Act S K C → Reply S K C → (Handle → Option C) → Handle → Option C
  clients_after a r clients = with_at same_handle (client_moved a r) clients

  abbrev pub files_after : Act S K C → Reply S K C → (ℕ → Option (PartFile S K)) → ℕ → Option (PartFile S K)
  files_after a r files = with_at nat_eq (file_moved a r) files

  abbrev pub parts_after : Act S K C → Reply S K C → (ℕ → Held S K) → ℕ → Held S K
  parts_after a r parts = with_at nat_eq (part_seen a r) parts

  -- ---- what an act takes out, and what it brings back

  -- With a component that is freed come its client object and its file, with a note its client object, and with a work its file: those that
  -- stood in the graph. A part that failed isn't given.
  abbrev pub GivesThem : (Handle → Option C) → (ℕ → Option (PartFile S K)) → Act S K C → Reply S K C → Type 0
  GivesThem clients files (asks.FreeHandle h) (replies.FreeHandle result) = IfOk result (λ freed. (clients h ≡ Some freed.client) × (freed.file ≡ files h.generation))
  GivesThem clients files (asks.TakeNote h) (replies.TakeNote result) = OnCall result (λ client. clients h ≡ Some client)
  GivesThem clients files (asks.Claim h) (replies.Claim result) = OnLent result (λ work. (work.component ≡ h) × ((work.part).file ≡ files h.generation) × ((work.part).failed ≡ false))
  GivesThem clients files _ _ = Unit {0}

  -- The file of a work that comes back is the one with which it was claimed, read or written further. A part has failed where its step answered
  -- a fault, and that shows in the file.
  abbrev pub BringsIts : Sight S K C → (ℕ → Held S K) → Act S K C → Type 0
  BringsIts see parts (asks.Finish done) = IsFurther see.reads see.writes (parts done.component.generation) (held_in done.part) × ((done.part).failed ≡ is_some done.fault)
      × IfSome done.fault (λ fault. IsFaulted see.reads see.writes fault (parts done.component.generation) (held_in done.part))
  BringsIts see parts _ = Unit {0}

  -- ---- a graph

  abbrev pub clients_in : Shown S K C → Handle → Option C
  clients_in g h = client_of h g.core

  abbrev pub files_in : Shown S K C → ℕ → Option (PartFile S K)
  files_in g number = file_of number g

  -- one act of it: what goes in stands there then, and what comes out is what stood there
  pub record MovesObjects (a : Act S K C) (r : Reply S K C) (old new : Shown S K C) : Type 0 where
    pub clients : (h : Handle) → clients_in new h ≡ clients_after a r (clients_in old) h
    pub files : (number : ℕ) → files_in new number ≡ files_after a r (files_in old) number
    pub given : GivesThem (clients_in old) (files_in old) a r

  -- ---- a history, from what stood there at first

  abbrev pub clients_by : (Handle → Option C) → List (Entry (Act S K C) (Reply S K C)) → Handle → Option C
  clients_by clients [] = clients
  clients_by clients (e ∷ es) = clients_by (clients_after e.act e.reply clients) es

  abbrev pub files_by : (ℕ → Option (PartFile S K)) → List (Entry (Act S K C) (Reply S K C)) → ℕ → Option (PartFile S K)
  files_by files [] = files
  files_by files (e ∷ es) = files_by (files_after e.act e.reply files) es

  abbrev pub parts_by : (ℕ → Held S K) → List (Entry (Act S K C) (Reply S K C)) → ℕ → Held S K
  parts_by parts [] = parts
  parts_by parts (e ∷ es) = parts_by (parts_after e.act e.reply parts) es

  -- each reply gives what then stood there, and each work that comes back has the file with which it was claimed
  abbrev pub GiveThem : Sight S K C → (Handle → Option C) → (ℕ → Option (PartFile S K)) → (ℕ → Held S K) → List (Entry (Act S K C) (Reply S K C)) → Type 0
  GiveThem see clients files parts [] = Unit {0}
  GiveThem see clients files parts (e ∷ es) = GivesThem clients files e.act e.reply × BringsIts see parts e.act
      × GiveThem see (clients_after e.act e.reply clients) (files_after e.act e.reply files) (parts_after e.act e.reply parts) es

  -- from a graph
  abbrev pub AreGivenFrom : Sight S K C → Shown S K C → List (Entry (Act S K C) (Reply S K C)) → Type 0
  AreGivenFrom see first log = GiveThem see (clients_in first) (files_in first) none_seen log

  -- the graph has the objects that the history leaves
  pub record HasObjects (first : Shown S K C) (log : List (Entry (Act S K C) (Reply S K C))) (now : Shown S K C) : Type 0 where
    pub clients : (h : Handle) → clients_in now h ≡ clients_by (clients_in first) log h
    pub files : (number : ℕ) → files_in now number ≡ files_by (files_in first) log number

-- The file of a component to which none comes in a history: the object that it had at first, read or written further, and what the faults of
-- its steps show of it.
use Rattle.std.specs.Prelude.{◌≡◌, ℕ, nat_eq, Bool, true, false, List, [], ◌∷◌, All, Option, Some, None, IfSome, is_some, slice_get, if◌then◌else◌}
use Rattle.omx_types.specs.declared.fault.PartFault.{PartFault}
use Rattle.il_machine.specs.Acts as acts
use Rattle.il_machine.specs.Run.{Run}
use Rattle.il_machine.specs.Sound.{Sound}
use Rattle.il_machine.specs.World.{World}
use Rattle.history_laws.specs.Works.{has_work_out}
use Rattle.audio_parts.specs.Objects.{Held}
use Rattle.audio_parts.specs.declared.part_file.PartFile.{PartFile}
use Rattle.il_graph.specs.Shown as graphs
use Rattle.turnstile.specs.declared.entry.Entry.{Entry}
use Rattle.graph_acts.specs.declared.act.Act.{Act}
use Rattle.graph_acts.specs.declared.act.Act.TheVariants as asks
use Rattle.graph_acts.specs.declared.act.Reply.{Reply}
use Rattle.graph_acts.specs.Objects.{files_by, files_in}
use Rattle.graph_acts.specs.Plain.{Sight}
use Rattle.graph_acts.specs.Working.{IsFaulted, IsFurther}
use Rattle.board.specs.Asking.{ArePlain}

-- ---- faults

-- the first of two, where there is one
abbrev pub first_fault : Option PartFault → Option PartFault → Option PartFault
first_fault fault None = fault
first_fault None (Some next) = Some next
first_fault (Some fault) (Some next) = Some fault

module _ {S K C : Type 0} where
  -- the fault that a step of the component answered, which the act brings back
  abbrev pub fault_in : ℕ → Act S K C → Option PartFault
  fault_in number (asks.Finish done) = if nat_eq number done.component.generation then done.fault else None
  fault_in number _ = None

  -- the first one of a history, behind one before it
  abbrev pub fault_by : ℕ → Option PartFault → List (Entry (Act S K C) (Reply S K C)) → Option PartFault
  fault_by number fault [] = fault
  fault_by number fault (e ∷ es) = fault_by number (first_fault fault (fault_in number e.act)) es

  -- a file is to come to the component
  abbrev pub brings_file : ℕ → Act S K C → Bool
  brings_file number (asks.Attach h file) = nat_eq number h.generation
  brings_file number _ = false

  -- no component is made or freed, and no file comes
  abbrev pub is_steady : Act S K C → Bool
  is_steady (asks.GetHandle name client) = false
  is_steady (asks.FreeHandle h) = false
  is_steady (asks.Attach h file) = false
  is_steady _ = true

-- ---- files

abbrev pub held_as : {S K : Type 0} → Bool → Option (PartFile S K) → Held S K
held_as failed file = record { failed = failed; file = file }

module _ {S K C : Type 0} (see : Sight S K C) where
  -- the file is the one that came, read or written further, and where a step answered a fault, that shows in it
  abbrev pub IsFileOf : Option (PartFile S K) → Option PartFault → PartFile S K → Type 0
  IsFileOf came None file = IsFurther see.reads see.writes (held_as false came) (held_as false (Some file))
  IsFileOf came (Some fault) file = IsFurther see.reads see.writes (held_as false came) (held_as true (Some file)) × IsFaulted see.reads see.writes fault (held_as false came) (held_as true (Some file))

  -- so it is in the graph after the history, for each component to which no file comes
  abbrev pub HaveTheirFiles : graphs.Shown S K C → List (Entry (Act S K C) (Reply S K C)) → Type 0
  HaveTheirFiles first log = (number : ℕ) → All (λ e. brings_file number e.act ≡ false) log → (file : PartFile S K) → files_by (files_in first) log number ≡ Some file
      → IsFileOf (files_in first number) (fault_by number None log) file

  -- and each fault that a step of the component answered shows in it
  abbrev pub ShowTheirFaults : graphs.Shown S K C → List (Entry (Act S K C) (Reply S K C)) → Type 0
  ShowTheirFaults first log = (number : ℕ) → All (λ e. brings_file number e.act ≡ false) log → (file : PartFile S K) → files_by (files_in first) log number ≡ Some file
      → All (λ e. IfSome (fault_in number e.act) (λ fault. IsFaulted see.reads see.writes fault (held_as false (files_in first number)) (held_as true (Some file)))) log

-- where no work is out before and after, no file is lost
module _ {S K C : Type 0} (see : Sight S K C) where
  abbrev pub LoseNone : graphs.Shown S K C → List (Entry (Act S K C) (Reply S K C)) → Type 0
  LoseNone first log = (number : ℕ) (steps : List (acts.Act × acts.Reply)) (world after : World) → Sound world → ArePlain see log steps → Run world steps after → All (λ e. is_steady e.act ≡ true) log
      → has_work_out number world ≡ false → has_work_out number after ≡ false → is_some (files_in first number) ≡ true → is_some (files_by (files_in first) log number) ≡ true

module _ {S K C : Type 0} where
  -- the faults of a component have one place
  abbrev pub FailOnce : List (Entry (Act S K C) (Reply S K C)) → Type 0
  FailOnce log = (number i j : ℕ) (d e : Entry (Act S K C) (Reply S K C)) (f g : PartFault) → slice_get log i ≡ Some d → slice_get log j ≡ Some e → fault_in number d.act ≡ Some f → fault_in number e.act ≡ Some g → i ≡ j

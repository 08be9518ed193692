-- Why the two files of a command that turns one into another weren't opened.
use Rattle.std.specs.Prelude.{◌≡◌, ℕ, List, [], ◌∷◌, None, IsTrue, IsSome}
use Rattle.outside_io.specs.Causes.{Rose}
use Rattle.outside_io.specs.Files.{IsFailedRead, Outside}
use Rattle.outside_io.specs.declared.media.Refused.{Refused}
use Rattle.outside_io.specs.declared.media.Refused.TheVariants as Refusals
use Rattle.omx_types.specs.declared.fault.Fault.{Fault}
use Rattle.omx_types.specs.declared.fault.Fault.TheVariants as Faults
use Rattle.omx_types.specs.declared.fault.Which.TheVariants.{Input, Output}

abbrev pub fault_of_input : Refused → Fault
fault_of_input Refusals.Absent = Faults.Absent Input
fault_of_input Refusals.Failed = Faults.ReadFault
fault_of_input Refusals.OutOfMemory = Faults.OutOfMemory

abbrev pub fault_of_output : Refused → Fault
fault_of_output Refusals.Absent = Faults.Absent Output
fault_of_output Refusals.Failed = Faults.WriteFault
fault_of_output Refusals.OutOfMemory = Faults.OutOfMemory

-- the input's file is missing, or then the output's name is refused; or a count rose; or memory was wanting
abbrev pub HasOpenReason : (input output : List ℕ) → Outside → Outside → Fault → Type 0
HasOpenReason input output old new Faults.ReadFault = IsFailedRead (input ∷ []) old new
HasOpenReason input output old new Faults.WriteFault = Rose old.write_faults new.write_faults
HasOpenReason input output old new (Faults.Absent Input) = Rose old.absences new.absences × (old.file input ≡ None)
HasOpenReason input output old new (Faults.Absent Output) =
    Rose old.absences new.absences × IsTrue (old.may_refuse output) × (IsTrue old.tells → IsSome (old.file input))
HasOpenReason input output old new Faults.OutOfMemory = Unit {0}
HasOpenReason input output old new other = ⊥

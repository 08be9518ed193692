-- What a run comes to, once its files are closed.
use Rattle.std.specs.Prelude.{ℕ, Bool, List, [], Option, Some, None, slice_get, if◌then◌else◌, Result, Ok, Err, is_err}
use Rattle.omx_types.specs.declared.fault.Fault.{Fault}
use Rattle.omx_types.specs.declared.fault.Fault.TheVariants as Faults
use Rattle.omx_types.specs.declared.fault.Which.TheVariants.{Line, Log}
use Rattle.outside_io.specs.declared.media.Refused.{Refused}
use Rattle.outside_io.specs.declared.media.Refused.TheVariants as Refusals
use Rattle.outside_io.specs.declared.source.Failed.{Failed}
use Rattle.script_lang.specs.declared.play_line.PartLine.{PartLine}
use Rattle.script_lang.specs.declared.script.Script.{Script}
use Rattle.script_lang.specs.declared.script.Script.TheVariants.{Play, Trace}
use Rattle.play_course.specs.declared.player.RunFault.{RunFault}
use Rattle.play_course.specs.declared.player.RunFault.TheVariants as Runs

-- the components of a play's script
abbrev pub parts_of : Script → List PartLine
parts_of (Play units parts links) = parts
parts_of (Trace units lines) = []

-- the number of the script line of the component at the place
abbrev pub line_in : Option PartLine → ℕ
line_in None = 0
line_in (Some part) = part.line

-- a failed closing comes before a short source
abbrev pub fault_of_run : List PartLine → RunFault → Bool → Fault
fault_of_run parts Runs.OutOfMemory unclosed = Faults.OutOfMemory
fault_of_run parts Runs.Read unclosed = Faults.ReadFault
fault_of_run parts Runs.Write unclosed = Faults.WriteFault
fault_of_run parts (Runs.Short place at size) unclosed = if unclosed then Faults.WriteFault else Faults.Short (Line (line_in (slice_get parts place))) at size

abbrev pub settled_calm : {A : Type 0} → List PartLine → Result A RunFault → Result (Unit {0}) Failed → Result A Fault
settled_calm parts (Ok ran) (Ok closed) = Ok ran
settled_calm parts (Ok ran) (Err failed) = Err Faults.WriteFault
settled_calm parts (Err fault) closed = Err (fault_of_run parts fault (is_err closed))

-- first what the counts of failed reads and of failed writes say
abbrev pub settled : {A : Type 0} → List PartLine → Result A RunFault → Result (Unit {0}) Failed → (reads writes : Bool) → Result A Fault
settled parts ran closed reads writes = if reads then Err Faults.ReadFault else (if writes then Err Faults.WriteFault else settled_calm parts ran closed)

abbrev pub fault_of_log : Refused → Fault
fault_of_log Refusals.Absent = Faults.Absent Log
fault_of_log Refusals.Failed = Faults.WriteFault
fault_of_log Refusals.OutOfMemory = Faults.OutOfMemory

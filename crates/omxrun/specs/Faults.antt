-- What a script that wasn't read is for a command.
use Rattle.omx_types.specs.declared.fault.Fault.{Fault}
use Rattle.omx_types.specs.declared.fault.Fault.TheVariants.{Script as ScriptFault, Absent, ReadFault, Short, OutOfMemory}
use Rattle.omx_types.specs.declared.fault.ScriptWhy.TheVariants.{TooLong}
use Rattle.omx_types.specs.declared.fault.Which.TheVariants.{Script as ScriptFile}
use Rattle.outside_io.specs.declared.whole.Unread.{Unread}
use Rattle.outside_io.specs.declared.whole.Unread.TheVariants as Unreads
use Rattle.script_lang.specs.declared.script.ScriptError.{ScriptError}
use Rattle.script_lang.specs.declared.script.ScriptError.TheVariants as Errors

-- a script that is too long has its fault at line 0
abbrev pub fault_of_script : Unread → Fault
fault_of_script Unreads.Absent = Absent ScriptFile
fault_of_script Unreads.Failed = ReadFault
fault_of_script (Unreads.TooLong size) = ScriptFault 0 TooLong
fault_of_script (Unreads.Short at size) = Short ScriptFile at size
fault_of_script Unreads.OutOfMemory = OutOfMemory

abbrev pub fault_of_reading : ScriptError → Fault
fault_of_reading (Errors.Fault fault) = ScriptFault fault.line fault.why
fault_of_reading Errors.OutOfMemory = OutOfMemory

-- What a file that wasn't opened is for a play.
use Rattle.std.specs.Prelude.{ℕ}
use Rattle.omx_types.specs.declared.fault.Fault.{Fault}
use Rattle.omx_types.specs.declared.fault.Fault.TheVariants as Faults
use Rattle.omx_types.specs.declared.fault.WavFault.{WavFault}
use Rattle.omx_types.specs.declared.fault.WavFault.TheVariants as WavFaults
use Rattle.omx_types.specs.declared.fault.Which.TheVariants.{Line}
use Rattle.outside_io.specs.declared.media.Refused.{Refused}
use Rattle.outside_io.specs.declared.media.Refused.TheVariants as Refusals

-- of the source or the sink in that line
abbrev pub fault_of_source : ℕ → Refused → Fault
fault_of_source line Refusals.Absent = Faults.Absent (Line line)
fault_of_source line Refusals.Failed = Faults.ReadFault
fault_of_source line Refusals.OutOfMemory = Faults.OutOfMemory

abbrev pub fault_of_head : ℕ → WavFault → Fault
fault_of_head line WavFaults.Read = Faults.ReadFault
fault_of_head line (WavFaults.Short at size) = Faults.Short (Line line) at size
fault_of_head line fault = Faults.BadMedia (Line line) fault

abbrev pub fault_of_sink : ℕ → Refused → Fault
fault_of_sink line Refusals.Absent = Faults.Absent (Line line)
fault_of_sink line Refusals.Failed = Faults.WriteFault
fault_of_sink line Refusals.OutOfMemory = Faults.OutOfMemory

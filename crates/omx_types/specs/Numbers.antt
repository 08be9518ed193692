-- The numbers of states, errors and faults: tables.
use Rattle.std.specs.Prelude.{ℕ}
use Rattle.omx_types.specs.declared.state.State.{State}
use Rattle.omx_types.specs.declared.state.State.TheVariants.{Invalid, Loaded, Idle, Executing, Pause, WaitForResources}
use Rattle.omx_types.specs.declared.error.OmxError.{OmxError}
use Rattle.omx_types.specs.declared.error.OmxError.TheVariants as OmxErrors
use Rattle.omx_types.specs.declared.fault.Fault.{Fault}
use Rattle.omx_types.specs.declared.fault.Fault.TheVariants as Faults
use Rattle.omx_types.specs.declared.fault.Status.{Status}
use Rattle.omx_types.specs.declared.fault.Status.TheVariants as Statuses

abbrev pub state_number : State → ℕ
state_number Invalid = 0
state_number Loaded = 1
state_number Idle = 2
state_number Executing = 3
state_number Pause = 4
state_number WaitForResources = 5

abbrev pub error_number : OmxError → ℕ
error_number OmxErrors.InsufficientResources = 0x8000_1000
error_number OmxErrors.InvalidComponentName = 0x8000_1002
error_number OmxErrors.ComponentNotFound = 0x8000_1003
error_number OmxErrors.InvalidComponent = 0x8000_1004
error_number OmxErrors.BadParameter = 0x8000_1005
error_number OmxErrors.Hardware = 0x8000_1009
error_number OmxErrors.InvalidState = 0x8000_100A
error_number OmxErrors.StreamCorrupt = 0x8000_100B
error_number OmxErrors.PortsNotCompatible = 0x8000_100C
error_number OmxErrors.ResourcesLost = 0x8000_100D
error_number OmxErrors.VersionMismatch = 0x8000_100F
error_number OmxErrors.NotReady = 0x8000_1010
error_number OmxErrors.SameState = 0x8000_1012
error_number OmxErrors.ResourcesPreempted = 0x8000_1013
error_number OmxErrors.IncorrectStateTransition = 0x8000_1017
error_number OmxErrors.IncorrectStateOperation = 0x8000_1018
error_number OmxErrors.UnsupportedSetting = 0x8000_1019
error_number OmxErrors.UnsupportedIndex = 0x8000_101A
error_number OmxErrors.BadPortIndex = 0x8000_101B
error_number OmxErrors.PortUnpopulated = 0x8000_101C

-- the exit status that a fault gives
abbrev pub fault_number : Fault → ℕ
fault_number (Faults.Script line why) = 1
fault_number Faults.Usage = 2
fault_number (Faults.BadMedia which fault) = 3
fault_number Faults.ReadFault = 4
fault_number Faults.WriteFault = 5
fault_number (Faults.Absent which) = 6
fault_number Faults.OutOfMemory = 7
fault_number (Faults.Short which at size) = 8
fault_number (Faults.Units have need) = 9
fault_number (Faults.Packets why) = 11
fault_number (Faults.NotRun line why) = 12

abbrev pub status_number : Status → ℕ
status_number Statuses.Ok = 0
status_number (Statuses.Fault fault) = fault_number fault

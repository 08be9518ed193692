-- The names of states and errors as they are printed: tables.
use Rattle.std.specs.Prelude.{ℕ, List, codes}
use Rattle.omx_types.specs.declared.state.State.{State}
use Rattle.omx_types.specs.declared.state.State.TheVariants.{Invalid, Loaded, Idle, Executing, Pause, WaitForResources}
use Rattle.omx_types.specs.declared.error.OmxError.{OmxError}
use Rattle.omx_types.specs.declared.error.OmxError.TheVariants as OmxErrors

abbrev pub state_name : State → List ℕ
state_name Invalid = codes "Invalid"
state_name Loaded = codes "Loaded"
state_name Idle = codes "Idle"
state_name Executing = codes "Executing"
state_name Pause = codes "Pause"
state_name WaitForResources = codes "WaitForResources"

abbrev pub error_name : OmxError → List ℕ
error_name OmxErrors.InsufficientResources = codes "InsufficientResources"
error_name OmxErrors.InvalidComponentName = codes "InvalidComponentName"
error_name OmxErrors.ComponentNotFound = codes "ComponentNotFound"
error_name OmxErrors.InvalidComponent = codes "InvalidComponent"
error_name OmxErrors.BadParameter = codes "BadParameter"
error_name OmxErrors.Hardware = codes "Hardware"
error_name OmxErrors.InvalidState = codes "InvalidState"
error_name OmxErrors.StreamCorrupt = codes "StreamCorrupt"
error_name OmxErrors.PortsNotCompatible = codes "PortsNotCompatible"
error_name OmxErrors.ResourcesLost = codes "ResourcesLost"
error_name OmxErrors.VersionMismatch = codes "VersionMismatch"
error_name OmxErrors.NotReady = codes "NotReady"
error_name OmxErrors.SameState = codes "SameState"
error_name OmxErrors.ResourcesPreempted = codes "ResourcesPreempted"
error_name OmxErrors.IncorrectStateTransition = codes "IncorrectStateTransition"
error_name OmxErrors.IncorrectStateOperation = codes "IncorrectStateOperation"
error_name OmxErrors.UnsupportedSetting = codes "UnsupportedSetting"
error_name OmxErrors.UnsupportedIndex = codes "UnsupportedIndex"
error_name OmxErrors.BadPortIndex = codes "BadPortIndex"
error_name OmxErrors.PortUnpopulated = codes "PortUnpopulated"

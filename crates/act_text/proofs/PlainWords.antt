-- The words of acts and replies are plain.
use Rattle.std.proofs.Common.{◌≡◌, ℕ, Bool, true, false, refl, arith}
use Rattle.std.specs.Fmt.{decimal}
use Rattle.std.specs.List.{list_all}
use Rattle.il_machine.specs.declared.port.Mode.{Mode}
use Rattle.il_machine.specs.declared.port.Mode.TheVariants.{Steady, Enabling, Disabling}
use Rattle.il_machine.specs.declared.port.PortView.{PortView}
use Rattle.omx_types.specs.declared.command.Completion.TheVariants as completions
use Rattle.omx_types.specs.declared.command.Event.{Event as EventType}
use Rattle.omx_types.specs.declared.command.Event.TheVariants as events
use Rattle.omx_types.specs.declared.command.PortSel.{PortSel}
use Rattle.omx_types.specs.declared.command.PortSel.TheVariants.{One, All}
use Rattle.omx_types.specs.declared.error.OmxError.{OmxError}
use Rattle.omx_types.specs.declared.error.OmxError.TheVariants as errors
use Rattle.omx_types.specs.declared.format.Format.TheVariants.{Pcm, Alaw, Mulaw, Auto}
use Rattle.omx_types.specs.declared.param.Supplier.{Supplier as SupplierType}
use Rattle.omx_types.specs.declared.param.Supplier.TheVariants.{Unspecified, Input, Output}
use Rattle.omx_types.specs.declared.state.State.{State as StateType}
use Rattle.omx_types.specs.declared.state.State.TheVariants as states
use Rattle.omx_types.specs.Names.{state_name, error_name}
use Rattle.act_text.specs.Acts.{act_words, ports_word, supplier_word, IsAct, ArePorts, FitsWord}
use Rattle.act_text.specs.Replies.{reply_words, event_words, why_words, view_words, side_word, enabled_word, mode_word, IsReply, IsEvent, IsWhy}
use Rattle.act_text.specs.declared.act.TextAct.{TextAct}
use Rattle.act_text.specs.declared.act.TextAct.TheVariants as acts
use Rattle.act_text.specs.declared.reply.TextReply.{TextReply}
use Rattle.act_text.specs.declared.reply.TextReply.TheVariants as replies
use Rattle.act_text.specs.declared.reply.TextWhy.{TextWhy}
use Rattle.act_text.specs.declared.reply.TextWhy.TheVariants as whys
use Rattle.act_text.proofs.Plain.{plain, name-plain, number-plain, port-plain}

small-plain : (n : ℕ) → FitsWord n → plain (decimal n) ≡ true
small-plain n fits = number-plain n (omega arith)

state-plain : (state : StateType) → plain (state_name state) ≡ true
state-plain states.Invalid = refl
state-plain states.Loaded = refl
state-plain states.Idle = refl
state-plain states.Executing = refl
state-plain states.Pause = refl
state-plain states.WaitForResources = refl

error-plain : (error : OmxError) → plain (error_name error) ≡ true
error-plain errors.InsufficientResources = refl
error-plain errors.InvalidComponentName = refl
error-plain errors.ComponentNotFound = refl
error-plain errors.InvalidComponent = refl
error-plain errors.BadParameter = refl
error-plain errors.Hardware = refl
error-plain errors.InvalidState = refl
error-plain errors.StreamCorrupt = refl
error-plain errors.PortsNotCompatible = refl
error-plain errors.ResourcesLost = refl
error-plain errors.VersionMismatch = refl
error-plain errors.NotReady = refl
error-plain errors.SameState = refl
error-plain errors.ResourcesPreempted = refl
error-plain errors.IncorrectStateTransition = refl
error-plain errors.IncorrectStateOperation = refl
error-plain errors.UnsupportedSetting = refl
error-plain errors.UnsupportedIndex = refl
error-plain errors.BadPortIndex = refl
error-plain errors.PortUnpopulated = refl

supplier-plain : (supplier : SupplierType) → plain (supplier_word supplier) ≡ true
supplier-plain Unspecified = refl
supplier-plain Input = refl
supplier-plain Output = refl

ports-plain : (ports : PortSel) → ArePorts ports → plain (ports_word ports) ≡ true
ports-plain (One port) fits = small-plain port fits
ports-plain All fits = refl

pub act-plain : (act : TextAct) → IsAct act → list_all plain (act_words act) ≡ true
act-plain (acts.Free component) is = rw (name-plain component is) refl
act-plain (acts.State component) is = rw (name-plain component is) refl
act-plain (acts.Run component) is = rw (name-plain component is) refl
act-plain (acts.Claim component) is = rw (name-plain component is) refl
act-plain (acts.Finish component) is = rw (name-plain component is) refl
act-plain (acts.Take component) is = rw (name-plain component is) refl
act-plain (acts.End component) is = rw (name-plain component is) refl
act-plain (acts.Port port) is = rw (port-plain port is) refl
act-plain (acts.Supply port) is = rw (port-plain port is) refl
act-plain (acts.Release port) is = rw (port-plain port is) refl
act-plain (acts.Over port) is = rw (port-plain port is) refl
act-plain (acts.Back port) is = rw (port-plain port is) refl
act-plain (acts.SetPort port (Pcm rate channels) count size) is = rw (port-plain port is.0, small-plain rate is.1.0, small-plain channels is.1.1, small-plain count is.2, small-plain size is.3) refl
act-plain (acts.SetPort port (Alaw rate channels) count size) is = rw (port-plain port is.0, small-plain rate is.1.0, small-plain channels is.1.1, small-plain count is.2, small-plain size is.3) refl
act-plain (acts.SetPort port (Mulaw rate channels) count size) is = rw (port-plain port is.0, small-plain rate is.1.0, small-plain channels is.1.1, small-plain count is.2, small-plain size is.3) refl
act-plain (acts.SetPort port Auto count size) is = rw (port-plain port is.0, small-plain count is.2, small-plain size is.3) refl
act-plain (acts.SetSupplier port supplier) is = rw (port-plain port is, supplier-plain supplier) refl
act-plain (acts.SetPriority component priority) is = rw (name-plain component is.0, small-plain priority is.1) refl
act-plain (acts.Gain component gain) is = rw (name-plain component is.0, small-plain gain is.1) refl
act-plain (acts.Weight port weight) is = rw (port-plain port is.0, small-plain weight is.1) refl
act-plain (acts.Tunnel first second) is = rw (port-plain first is.0, port-plain second is.1) refl
act-plain (acts.DropTunnel first second) is = rw (port-plain first is.0, port-plain second is.1) refl
act-plain (acts.SendState component state) is = rw (name-plain component is, state-plain state) refl
act-plain (acts.SendFlush component ports) is = rw (name-plain component is.0, ports-plain ports is.1) refl
act-plain (acts.SendDisable component ports) is = rw (name-plain component is.0, ports-plain ports is.1) refl
act-plain (acts.SendEnable component ports) is = rw (name-plain component is.0, ports-plain ports is.1) refl
act-plain (acts.SendMark component port target value) is = rw (name-plain component is.0, small-plain port is.1, name-plain target is.2, number-plain value is.3) refl
act-plain acts.Grant is = refl
act-plain acts.Preempt is = refl

event-plain : (event : EventType) → IsEvent event → list_all plain (event_words event) ≡ true
event-plain (events.CmdComplete (completions.State state)) is = rw (state-plain state) refl
event-plain (events.CmdComplete (completions.Flush port)) is = rw (small-plain port is) refl
event-plain (events.CmdComplete (completions.Disable port)) is = rw (small-plain port is) refl
event-plain (events.CmdComplete (completions.Enable port)) is = rw (small-plain port is) refl
event-plain (events.CmdComplete (completions.Mark port)) is = rw (small-plain port is) refl
event-plain (events.Error error) is = rw (error-plain error) refl
event-plain (events.Mark value) is = rw (number-plain value is) refl
event-plain (events.PortSettingsChanged port) is = rw (small-plain port is) refl
event-plain (events.BufferFlag port flags) is = rw (small-plain port is.0, small-plain flags is.1) refl
event-plain events.ResourcesAcquired is = refl

why-plain : (why : TextWhy) → IsWhy why → list_all plain (why_words why) ≡ true
why-plain whys.NoCommand is = refl
why-plain (whys.Pending state) is = rw (state-plain state) refl
why-plain (whys.PortBusy port) is = rw (small-plain port is) refl
why-plain whys.NotSupplier is = refl
why-plain whys.IsSupplier is = refl
why-plain (whys.NotAccepting port) is = rw (port-plain port is) refl
why-plain whys.NoBlock is = refl
why-plain whys.NoNumber is = refl
why-plain whys.NotLeaving is = refl
why-plain whys.NoHeader is = refl
why-plain (whys.NotRunning port) is = rw (port-plain port is) refl
why-plain whys.NoWaiter is = refl
why-plain (whys.Short have need) is = rw (small-plain have is.0, small-plain need is.1) refl
why-plain (whys.Enough have need) is = rw (small-plain have is.0, small-plain need is.1) refl
why-plain whys.NoVictim is = refl
why-plain (whys.Events room need) is = rw (small-plain room is.0, small-plain need is.1) refl
why-plain whys.WorkOut is = refl
why-plain whys.ComponentNotRunning is = refl
why-plain whys.PartEnded is = refl
why-plain (whys.PortHeld port) is = rw (small-plain port is) refl
why-plain (whys.NoData port) is = rw (small-plain port is) refl
why-plain (whys.NoRoom port) is = rw (small-plain port is) refl

side-plain : (input : Bool) → plain (side_word input) ≡ true
side-plain true = refl
side-plain false = refl

enabled-plain : (enabled : Bool) → plain (enabled_word enabled) ≡ true
enabled-plain true = refl
enabled-plain false = refl

mode-plain : (mode : Mode) → plain (mode_word mode) ≡ true
mode-plain Steady = refl
mode-plain Enabling = refl
mode-plain Disabling = refl

view-plain : (input enabled : Bool) (mode : Mode) (flushing : Bool) (made count : ℕ) → FitsWord made → FitsWord count → let view : PortView = record { input = input; enabled = enabled; mode = mode; flushing = flushing; made = made; count = count } in list_all plain (view_words view) ≡ true
view-plain input enabled mode true made count fits_made fits_count = rw (side-plain input, enabled-plain enabled, mode-plain mode, small-plain made fits_made, small-plain count fits_count) refl
view-plain input enabled mode false made count fits_made fits_count = rw (side-plain input, enabled-plain enabled, mode-plain mode, small-plain made fits_made, small-plain count fits_count) refl

pub reply-plain : (reply : TextReply) → IsReply reply → list_all plain (reply_words reply) ≡ true
reply-plain replies.Done is = refl
reply-plain (replies.Error error) is = rw (error-plain error) refl
reply-plain (replies.State state) is = rw (state-plain state) refl
reply-plain (replies.Port view) is = view-plain view.input view.enabled view.mode view.flushing view.made view.count is.0 is.1
reply-plain (replies.Supplier input) is = rw (side-plain input) refl
reply-plain replies.Did is = refl
reply-plain replies.Work is = refl
reply-plain (replies.Finished frames) is = rw (small-plain frames is) refl
reply-plain (replies.Idle why) is = why-plain why is
reply-plain replies.NoNote is = refl
reply-plain replies.Busy is = refl
reply-plain (replies.Event event) is = event-plain event is
reply-plain replies.NotHeld is = refl
reply-plain replies.TooLong is = refl
reply-plain replies.NotOut is = refl
reply-plain (replies.Granted component) is = rw (name-plain component is) refl
reply-plain (replies.Victim component) is = rw (name-plain component is) refl

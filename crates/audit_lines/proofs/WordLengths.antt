-- The words of acts and replies have at most 27 bytes: a name of 16, a dot and a number of 10.
use Rattle.std.proofs.Common.{◌≡◌, ℕ, ◌^◌, ◌<◌, ◌≤◌, Bool, true, false, List, [], ◌∷◌, length, refl, arith, length-append}
use Rattle.std.specs.Prelude.{nat_le}
use Rattle.std.specs.Fmt.{decimal}
use Rattle.std.specs.List.{list_all}
use Rattle.std.proofs.lemmas.Fmt.{length-decimal-le}
use Rattle.std.proofs.lemmas.Grind.{common_steps}
use Rattle.il_machine.specs.declared.port.Mode.{Mode}
use Rattle.il_machine.specs.declared.port.Mode.TheVariants.{Steady, Enabling, Disabling}
use Rattle.il_machine.specs.declared.port.PortView.{PortView}
use Rattle.omx_types.specs.declared.command.Completion.TheVariants as completions
use Rattle.omx_types.specs.declared.command.Event.{Event as EventType}
use Rattle.omx_types.specs.declared.command.Event.TheVariants as events
use Rattle.omx_types.specs.declared.command.PortSel.{PortSel}
use Rattle.omx_types.specs.declared.command.PortSel.TheVariants.{One, All}
use Rattle.omx_types.specs.declared.error.OmxError.{OmxError}
use Rattle.omx_types.specs.declared.error.OmxError.TheVariants as errors
use Rattle.omx_types.specs.declared.format.Format.TheVariants.{Pcm, Alaw, Mulaw, Auto}
use Rattle.omx_types.specs.declared.param.Supplier.{Supplier as SupplierType}
use Rattle.omx_types.specs.declared.param.Supplier.TheVariants.{Unspecified, Input, Output}
use Rattle.omx_types.specs.declared.state.State.{State as StateType}
use Rattle.omx_types.specs.declared.state.State.TheVariants as states
use Rattle.omx_types.specs.Names.{state_name, error_name}
use Rattle.act_text.specs.Acts.{act_words, ports_word, supplier_word, IsAct, ArePorts, FitsWord}
use Rattle.act_text.specs.Names.{IsName}
use Rattle.act_text.specs.Ports.{IsPortName, port_word}
use Rattle.act_text.specs.Replies.{reply_words, event_words, why_words, view_words, side_word, enabled_word, mode_word, IsReply, IsEvent, IsWhy}
use Rattle.act_text.specs.declared.act.TextAct.{TextAct}
use Rattle.act_text.specs.declared.act.TextAct.TheVariants as acts
use Rattle.act_text.specs.declared.name.PortName.{PortName}
use Rattle.act_text.specs.declared.reply.TextReply.{TextReply}
use Rattle.act_text.specs.declared.reply.TextReply.TheVariants as replies
use Rattle.act_text.specs.declared.reply.TextWhy.{TextWhy}
use Rattle.act_text.specs.declared.reply.TextWhy.TheVariants as whys

abbrev pub is_short : List ℕ → Bool
is_short word = nat_le (length word) 27

short_of : (word : List ℕ) → length word ≤ 27 → is_short word ≡ true
short_of word l = Prim.grind (arith, common_steps)

pub short_is : (word : List ℕ) → is_short word ≡ true → length word ≤ 27
short_is word e = Prim.grind (arith, common_steps)

name-length : (name : List ℕ) → IsName name → length name ≤ 16
name-length [] is = omega arith
name-length (byte ∷ bytes) is = Prim.grind (arith, common_steps, is)

name-short : (name : List ℕ) → IsName name → is_short name ≡ true
name-short name is = short_of name (omega (arith, name-length name is))

number-short : (n : ℕ) → n < 2 ^ 64 → is_short (decimal n) ≡ true
number-short n fits = short_of (decimal n) (omega (arith, length-decimal-le 20 n (omega arith) (omega (arith, fits)) fits))

small-length : (n : ℕ) → FitsWord n → length (decimal n) ≤ 10
small-length n fits = length-decimal-le 10 n (omega arith) (omega (arith, fits)) (omega (arith, fits))

small-short : (n : ℕ) → FitsWord n → is_short (decimal n) ≡ true
small-short n fits = short_of (decimal n) (omega (arith, small-length n fits))

port-short : (port : PortName) → IsPortName port → is_short (port_word port) ≡ true
port-short port is =
    short_of (port_word port) (omega (arith, length-append port.component (46 ∷ decimal port.index), name-length port.component is.named, small-length port.index is.fits))

state-short : (state : StateType) → is_short (state_name state) ≡ true
state-short states.Invalid = refl
state-short states.Loaded = refl
state-short states.Idle = refl
state-short states.Executing = refl
state-short states.Pause = refl
state-short states.WaitForResources = refl

error-short : (error : OmxError) → is_short (error_name error) ≡ true
error-short errors.InsufficientResources = refl
error-short errors.InvalidComponentName = refl
error-short errors.ComponentNotFound = refl
error-short errors.InvalidComponent = refl
error-short errors.BadParameter = refl
error-short errors.Hardware = refl
error-short errors.InvalidState = refl
error-short errors.StreamCorrupt = refl
error-short errors.PortsNotCompatible = refl
error-short errors.ResourcesLost = refl
error-short errors.VersionMismatch = refl
error-short errors.NotReady = refl
error-short errors.SameState = refl
error-short errors.ResourcesPreempted = refl
error-short errors.IncorrectStateTransition = refl
error-short errors.IncorrectStateOperation = refl
error-short errors.UnsupportedSetting = refl
error-short errors.UnsupportedIndex = refl
error-short errors.BadPortIndex = refl
error-short errors.PortUnpopulated = refl

supplier-short : (supplier : SupplierType) → is_short (supplier_word supplier) ≡ true
supplier-short Unspecified = refl
supplier-short Input = refl
supplier-short Output = refl

ports-short : (ports : PortSel) → ArePorts ports → is_short (ports_word ports) ≡ true
ports-short (One port) fits = small-short port fits
ports-short All fits = refl

pub act-short : (act : TextAct) → IsAct act → list_all is_short (act_words act) ≡ true
act-short (acts.Free component) is = rw (name-short component is) refl
act-short (acts.State component) is = rw (name-short component is) refl
act-short (acts.Run component) is = rw (name-short component is) refl
act-short (acts.Claim component) is = rw (name-short component is) refl
act-short (acts.Finish component) is = rw (name-short component is) refl
act-short (acts.Take component) is = rw (name-short component is) refl
act-short (acts.End component) is = rw (name-short component is) refl
act-short (acts.Port port) is = rw (port-short port is) refl
act-short (acts.Supply port) is = rw (port-short port is) refl
act-short (acts.Release port) is = rw (port-short port is) refl
act-short (acts.Over port) is = rw (port-short port is) refl
act-short (acts.Back port) is = rw (port-short port is) refl
act-short (acts.SetPort port (Pcm rate channels) count size) is = rw (port-short port is.0, small-short rate is.1.0, small-short channels is.1.1, small-short count is.2, small-short size is.3) refl
act-short (acts.SetPort port (Alaw rate channels) count size) is = rw (port-short port is.0, small-short rate is.1.0, small-short channels is.1.1, small-short count is.2, small-short size is.3) refl
act-short (acts.SetPort port (Mulaw rate channels) count size) is = rw (port-short port is.0, small-short rate is.1.0, small-short channels is.1.1, small-short count is.2, small-short size is.3) refl
act-short (acts.SetPort port Auto count size) is = rw (port-short port is.0, small-short count is.2, small-short size is.3) refl
act-short (acts.SetSupplier port supplier) is = rw (port-short port is, supplier-short supplier) refl
act-short (acts.SetPriority component priority) is = rw (name-short component is.0, small-short priority is.1) refl
act-short (acts.Gain component gain) is = rw (name-short component is.0, small-short gain is.1) refl
act-short (acts.Weight port weight) is = rw (port-short port is.0, small-short weight is.1) refl
act-short (acts.Tunnel first second) is = rw (port-short first is.0, port-short second is.1) refl
act-short (acts.DropTunnel first second) is = rw (port-short first is.0, port-short second is.1) refl
act-short (acts.SendState component state) is = rw (name-short component is, state-short state) refl
act-short (acts.SendFlush component ports) is = rw (name-short component is.0, ports-short ports is.1) refl
act-short (acts.SendDisable component ports) is = rw (name-short component is.0, ports-short ports is.1) refl
act-short (acts.SendEnable component ports) is = rw (name-short component is.0, ports-short ports is.1) refl
act-short (acts.SendMark component port target value) is = rw (name-short component is.0, small-short port is.1, name-short target is.2, number-short value is.3) refl
act-short acts.Grant is = refl
act-short acts.Preempt is = refl

event-short : (event : EventType) → IsEvent event → list_all is_short (event_words event) ≡ true
event-short (events.CmdComplete (completions.State state)) is = rw (state-short state) refl
event-short (events.CmdComplete (completions.Flush port)) is = rw (small-short port is) refl
event-short (events.CmdComplete (completions.Disable port)) is = rw (small-short port is) refl
event-short (events.CmdComplete (completions.Enable port)) is = rw (small-short port is) refl
event-short (events.CmdComplete (completions.Mark port)) is = rw (small-short port is) refl
event-short (events.Error error) is = rw (error-short error) refl
event-short (events.Mark value) is = rw (number-short value is) refl
event-short (events.PortSettingsChanged port) is = rw (small-short port is) refl
event-short (events.BufferFlag port flags) is = rw (small-short port is.0, small-short flags is.1) refl
event-short events.ResourcesAcquired is = refl

why-short : (why : TextWhy) → IsWhy why → list_all is_short (why_words why) ≡ true
why-short whys.NoCommand is = refl
why-short (whys.Pending state) is = rw (state-short state) refl
why-short (whys.PortBusy port) is = rw (small-short port is) refl
why-short whys.NotSupplier is = refl
why-short whys.IsSupplier is = refl
why-short (whys.NotAccepting port) is = rw (port-short port is) refl
why-short whys.NoBlock is = refl
why-short whys.NoNumber is = refl
why-short whys.NotLeaving is = refl
why-short whys.NoHeader is = refl
why-short (whys.NotRunning port) is = rw (port-short port is) refl
why-short whys.NoWaiter is = refl
why-short (whys.Short have need) is = rw (small-short have is.0, small-short need is.1) refl
why-short (whys.Enough have need) is = rw (small-short have is.0, small-short need is.1) refl
why-short whys.NoVictim is = refl
why-short (whys.Events room need) is = rw (small-short room is.0, small-short need is.1) refl
why-short whys.WorkOut is = refl
why-short whys.ComponentNotRunning is = refl
why-short whys.PartEnded is = refl
why-short (whys.PortHeld port) is = rw (small-short port is) refl
why-short (whys.NoData port) is = rw (small-short port is) refl
why-short (whys.NoRoom port) is = rw (small-short port is) refl

side-short : (input : Bool) → is_short (side_word input) ≡ true
side-short true = refl
side-short false = refl

enabled-short : (enabled : Bool) → is_short (enabled_word enabled) ≡ true
enabled-short true = refl
enabled-short false = refl

mode-short : (mode : Mode) → is_short (mode_word mode) ≡ true
mode-short Steady = refl
mode-short Enabling = refl
mode-short Disabling = refl

view-short : (input enabled : Bool) (mode : Mode) (flushing : Bool) (made count : ℕ) → FitsWord made → FitsWord count → let view : PortView = record { input = input; enabled = enabled; mode = mode; flushing = flushing; made = made; count = count } in list_all is_short (view_words view) ≡ true
view-short input enabled mode true made count fits_made fits_count = rw (side-short input, enabled-short enabled, mode-short mode, small-short made fits_made, small-short count fits_count) refl
view-short input enabled mode false made count fits_made fits_count = rw (side-short input, enabled-short enabled, mode-short mode, small-short made fits_made, small-short count fits_count) refl

pub reply-short : (reply : TextReply) → IsReply reply → list_all is_short (reply_words reply) ≡ true
reply-short replies.Done is = refl
reply-short (replies.Error error) is = rw (error-short error) refl
reply-short (replies.State state) is = rw (state-short state) refl
reply-short (replies.Port view) is = view-short view.input view.enabled view.mode view.flushing view.made view.count is.0 is.1
reply-short (replies.Supplier input) is = rw (side-short input) refl
reply-short replies.Did is = refl
reply-short replies.Work is = refl
reply-short (replies.Finished frames) is = rw (small-short frames is) refl
reply-short (replies.Idle why) is = why-short why is
reply-short replies.NoNote is = refl
reply-short replies.Busy is = refl
reply-short (replies.Event event) is = event-short event is
reply-short replies.NotHeld is = refl
reply-short replies.TooLong is = refl
reply-short replies.NotOut is = refl
reply-short (replies.Granted component) is = rw (name-short component is) refl
reply-short (replies.Victim component) is = rw (name-short component is) refl

-- The words of a reply say that reply.
use Rattle.std.proofs.Common.{◌≡◌, ℕ, ◌^◌, ◌<◌, Bool, true, false, [], ◌∷◌, refl, Some, codes}
use Rattle.il_machine.specs.declared.port.Mode.{Mode}
use Rattle.il_machine.specs.declared.port.Mode.TheVariants.{Steady, Enabling, Disabling}
use Rattle.il_machine.specs.declared.port.PortView.{PortView}
use Rattle.omx_types.specs.declared.command.Completion.TheVariants as completions
use Rattle.omx_types.specs.declared.command.Event.{Event as EventType}
use Rattle.omx_types.specs.declared.command.Event.TheVariants as events
use Rattle.omx_types.specs.declared.error.OmxError.{OmxError}
use Rattle.omx_types.specs.declared.error.OmxError.TheVariants as errors
use Rattle.omx_types.specs.declared.state.State.{State as StateType}
use Rattle.omx_types.specs.declared.state.State.TheVariants as states
use Rattle.omx_types.specs.Names.{state_name, error_name}
use Rattle.act_text.specs.ReadReplies.{reply_of, error_of}
use Rattle.act_text.specs.Replies.{reply_words, event_words, why_words, view_words, IsReply, IsEvent, IsWhy}
use Rattle.act_text.specs.declared.reply.TextReply.{TextReply}
use Rattle.act_text.specs.declared.reply.TextReply.TheVariants.{Done, Error, State, Port, Supplier, Did, Work, Finished, Idle, NoNote, Busy, Event, NotHeld, TooLong, NotOut, Granted, Victim}
use Rattle.act_text.specs.declared.reply.TextWhy.{TextWhy}
use Rattle.act_text.specs.declared.reply.TextWhy.TheVariants as whys
use Rattle.act_text.proofs.ActsAgain.{small-again, state-again}
use Rattle.act_text.proofs.Dots.{name_of-name, port_of-port}
use Rattle.line_text.proofs.Numerals.{number_below-decimal}

error-again : (error : OmxError) → error_of (error_name error) ≡ Some error
error-again errors.InsufficientResources = refl
error-again errors.InvalidComponentName = refl
error-again errors.ComponentNotFound = refl
error-again errors.InvalidComponent = refl
error-again errors.BadParameter = refl
error-again errors.Hardware = refl
error-again errors.InvalidState = refl
error-again errors.StreamCorrupt = refl
error-again errors.PortsNotCompatible = refl
error-again errors.ResourcesLost = refl
error-again errors.VersionMismatch = refl
error-again errors.NotReady = refl
error-again errors.SameState = refl
error-again errors.ResourcesPreempted = refl
error-again errors.IncorrectStateTransition = refl
error-again errors.IncorrectStateOperation = refl
error-again errors.UnsupportedSetting = refl
error-again errors.UnsupportedIndex = refl
error-again errors.BadPortIndex = refl
error-again errors.PortUnpopulated = refl

state-reply : (state : StateType) → reply_of (state_name state ∷ []) ≡ Some (State state)
state-reply states.Invalid = refl
state-reply states.Loaded = refl
state-reply states.Idle = refl
state-reply states.Executing = refl
state-reply states.Pause = refl
state-reply states.WaitForResources = refl

-- a view in its several words
view-again : (input enabled : Bool) (mode : Mode) (flushing : Bool) (made count : ℕ) → made < 2 ^ 32 → count < 2 ^ 32 → let view : PortView = record { input = input; enabled = enabled; mode = mode; flushing = flushing; made = made; count = count } in reply_of (view_words view) ≡ Some (Port view)
view-again true true Steady true made count fits_made fits_count = rw (small-again made fits_made, small-again count fits_count) refl
view-again true true Steady false made count fits_made fits_count = rw (small-again made fits_made, small-again count fits_count) refl
view-again true true Enabling true made count fits_made fits_count = rw (small-again made fits_made, small-again count fits_count) refl
view-again true true Enabling false made count fits_made fits_count = rw (small-again made fits_made, small-again count fits_count) refl
view-again true true Disabling true made count fits_made fits_count = rw (small-again made fits_made, small-again count fits_count) refl
view-again true true Disabling false made count fits_made fits_count = rw (small-again made fits_made, small-again count fits_count) refl
view-again true false Steady true made count fits_made fits_count = rw (small-again made fits_made, small-again count fits_count) refl
view-again true false Steady false made count fits_made fits_count = rw (small-again made fits_made, small-again count fits_count) refl
view-again true false Enabling true made count fits_made fits_count = rw (small-again made fits_made, small-again count fits_count) refl
view-again true false Enabling false made count fits_made fits_count = rw (small-again made fits_made, small-again count fits_count) refl
view-again true false Disabling true made count fits_made fits_count = rw (small-again made fits_made, small-again count fits_count) refl
view-again true false Disabling false made count fits_made fits_count = rw (small-again made fits_made, small-again count fits_count) refl
view-again false true Steady true made count fits_made fits_count = rw (small-again made fits_made, small-again count fits_count) refl
view-again false true Steady false made count fits_made fits_count = rw (small-again made fits_made, small-again count fits_count) refl
view-again false true Enabling true made count fits_made fits_count = rw (small-again made fits_made, small-again count fits_count) refl
view-again false true Enabling false made count fits_made fits_count = rw (small-again made fits_made, small-again count fits_count) refl
view-again false true Disabling true made count fits_made fits_count = rw (small-again made fits_made, small-again count fits_count) refl
view-again false true Disabling false made count fits_made fits_count = rw (small-again made fits_made, small-again count fits_count) refl
view-again false false Steady true made count fits_made fits_count = rw (small-again made fits_made, small-again count fits_count) refl
view-again false false Steady false made count fits_made fits_count = rw (small-again made fits_made, small-again count fits_count) refl
view-again false false Enabling true made count fits_made fits_count = rw (small-again made fits_made, small-again count fits_count) refl
view-again false false Enabling false made count fits_made fits_count = rw (small-again made fits_made, small-again count fits_count) refl
view-again false false Disabling true made count fits_made fits_count = rw (small-again made fits_made, small-again count fits_count) refl
view-again false false Disabling false made count fits_made fits_count = rw (small-again made fits_made, small-again count fits_count) refl

idle-again : (why : TextWhy) → IsWhy why → reply_of (codes "idle" ∷ why_words why) ≡ Some (Idle why)
idle-again whys.NoCommand is = refl
idle-again (whys.Pending state) is = rw (state-again state) refl
idle-again (whys.PortBusy port) is = rw (small-again port is) refl
idle-again whys.NotSupplier is = refl
idle-again whys.IsSupplier is = refl
idle-again (whys.NotAccepting port) is = rw (port_of-port port is) refl
idle-again whys.NoBlock is = refl
idle-again whys.NoNumber is = refl
idle-again whys.NotLeaving is = refl
idle-again whys.NoHeader is = refl
idle-again (whys.NotRunning port) is = rw (port_of-port port is) refl
idle-again whys.NoWaiter is = refl
idle-again (whys.Short have need) is = rw (small-again have is.0, small-again need is.1) refl
idle-again (whys.Enough have need) is = rw (small-again have is.0, small-again need is.1) refl
idle-again whys.NoVictim is = refl
idle-again (whys.Events room need) is = rw (small-again room is.0, small-again need is.1) refl
idle-again whys.WorkOut is = refl
idle-again whys.ComponentNotRunning is = refl
idle-again whys.PartEnded is = refl
idle-again (whys.PortHeld port) is = rw (small-again port is) refl
idle-again (whys.NoData port) is = rw (small-again port is) refl
idle-again (whys.NoRoom port) is = rw (small-again port is) refl

told-again : (event : EventType) → IsEvent event → reply_of (codes "event" ∷ event_words event) ≡ Some (Event event)
told-again (events.CmdComplete (completions.State state)) is = rw (state-again state) refl
told-again (events.CmdComplete (completions.Flush port)) is = rw (small-again port is) refl
told-again (events.CmdComplete (completions.Disable port)) is = rw (small-again port is) refl
told-again (events.CmdComplete (completions.Enable port)) is = rw (small-again port is) refl
told-again (events.CmdComplete (completions.Mark port)) is = rw (small-again port is) refl
told-again (events.Error error) is = rw (error-again error) refl
told-again (events.Mark value) is = rw (number_below-decimal (2 ^ 64) value is is) refl
told-again (events.PortSettingsChanged port) is = rw (small-again port is) refl
told-again (events.BufferFlag port flags) is = rw (small-again port is.0, small-again flags is.1) refl
told-again events.ResourcesAcquired is = refl

pub reply-again : (reply : TextReply) → IsReply reply → reply_of (reply_words reply) ≡ Some reply
reply-again Done is = refl
reply-again (Error error) is = rw (error-again error) refl
reply-again (State state) is = state-reply state
reply-again (Port view) is = view-again view.input view.enabled view.mode view.flushing view.made view.count is.0 is.1
reply-again (Supplier true) is = refl
reply-again (Supplier false) is = refl
reply-again Did is = refl
reply-again Work is = refl
reply-again (Finished frames) is = rw (small-again frames is) refl
reply-again (Idle why) is = idle-again why is
reply-again NoNote is = refl
reply-again Busy is = refl
reply-again (Event event) is = told-again event is
reply-again NotHeld is = refl
reply-again TooLong is = refl
reply-again NotOut is = refl
reply-again (Granted component) is = rw (name_of-name component is) refl
reply-again (Victim component) is = rw (name_of-name component is) refl

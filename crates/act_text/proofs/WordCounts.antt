-- How many words acts and replies have.
use Rattle.std.proofs.Common.{◌≡◌, ◌<◌, ◌≤◌, Bool, true, false, length, refl, arith}
use Rattle.omx_types.specs.declared.command.Completion.TheVariants as completions
use Rattle.omx_types.specs.declared.command.Event.{Event as EventType}
use Rattle.omx_types.specs.declared.command.Event.TheVariants as events
use Rattle.omx_types.specs.declared.format.Format.TheVariants as formats
use Rattle.il_machine.specs.declared.port.PortView.{PortView}
use Rattle.act_text.specs.Acts.{act_words}
use Rattle.act_text.specs.Replies.{view_words, event_words, why_words, reply_words}
use Rattle.act_text.specs.declared.act.TextAct.{TextAct}
use Rattle.act_text.specs.declared.act.TextAct.TheVariants as acts
use Rattle.act_text.specs.declared.reply.TextReply.{TextReply}
use Rattle.act_text.specs.declared.reply.TextReply.TheVariants as replies
use Rattle.act_text.specs.declared.reply.TextWhy.{TextWhy}
use Rattle.act_text.specs.declared.reply.TextWhy.TheVariants as whys

act-counted : (act : TextAct) → (0 < length (act_words act)) × (length (act_words act) ≤ 8)
act-counted (acts.Free _) = (omega arith, omega arith)
act-counted (acts.State _) = (omega arith, omega arith)
act-counted (acts.Run _) = (omega arith, omega arith)
act-counted (acts.Claim _) = (omega arith, omega arith)
act-counted (acts.Finish _) = (omega arith, omega arith)
act-counted (acts.Take _) = (omega arith, omega arith)
act-counted (acts.End _) = (omega arith, omega arith)
act-counted (acts.Port _) = (omega arith, omega arith)
act-counted (acts.Supply _) = (omega arith, omega arith)
act-counted (acts.Release _) = (omega arith, omega arith)
act-counted (acts.Over _) = (omega arith, omega arith)
act-counted (acts.Back _) = (omega arith, omega arith)
act-counted (acts.SetPort _ (formats.Pcm _ _) _ _) = (omega arith, omega arith)
act-counted (acts.SetPort _ (formats.Alaw _ _) _ _) = (omega arith, omega arith)
act-counted (acts.SetPort _ (formats.Mulaw _ _) _ _) = (omega arith, omega arith)
act-counted (acts.SetPort _ formats.Auto _ _) = (omega arith, omega arith)
act-counted (acts.SetSupplier _ _) = (omega arith, omega arith)
act-counted (acts.SetPriority _ _) = (omega arith, omega arith)
act-counted (acts.Gain _ _) = (omega arith, omega arith)
act-counted (acts.Weight _ _) = (omega arith, omega arith)
act-counted (acts.Tunnel _ _) = (omega arith, omega arith)
act-counted (acts.DropTunnel _ _) = (omega arith, omega arith)
act-counted (acts.SendState _ _) = (omega arith, omega arith)
act-counted (acts.SendFlush _ _) = (omega arith, omega arith)
act-counted (acts.SendDisable _ _) = (omega arith, omega arith)
act-counted (acts.SendEnable _ _) = (omega arith, omega arith)
act-counted (acts.SendMark _ _ _ _) = (omega arith, omega arith)
act-counted acts.Grant = (omega arith, omega arith)
act-counted acts.Preempt = (omega arith, omega arith)

-- no act is without words, and none has more than eight
pub act-some : (act : TextAct) → 0 < length (act_words act)
act-some act = (act-counted act).0

pub act-short : (act : TextAct) → length (act_words act) ≤ 8
act-short act = (act-counted act).1

event-short : (event : EventType) → length (event_words event) ≤ 6
event-short (events.CmdComplete (completions.State _)) = omega arith
event-short (events.CmdComplete (completions.Flush _)) = omega arith
event-short (events.CmdComplete (completions.Disable _)) = omega arith
event-short (events.CmdComplete (completions.Enable _)) = omega arith
event-short (events.CmdComplete (completions.Mark _)) = omega arith
event-short (events.Error _) = omega arith
event-short (events.Mark _) = omega arith
event-short (events.PortSettingsChanged _) = omega arith
event-short (events.BufferFlag _ _) = omega arith
event-short events.ResourcesAcquired = omega arith

why-short : (why : TextWhy) → length (why_words why) ≤ 6
why-short whys.NoCommand = omega arith
why-short (whys.Pending _) = omega arith
why-short (whys.PortBusy _) = omega arith
why-short whys.NotSupplier = omega arith
why-short whys.IsSupplier = omega arith
why-short (whys.NotAccepting _) = omega arith
why-short whys.NoBlock = omega arith
why-short whys.NoNumber = omega arith
why-short whys.NotLeaving = omega arith
why-short whys.NoHeader = omega arith
why-short (whys.NotRunning _) = omega arith
why-short whys.NoWaiter = omega arith
why-short (whys.Short _ _) = omega arith
why-short (whys.Enough _ _) = omega arith
why-short whys.NoVictim = omega arith
why-short (whys.Events _ _) = omega arith
why-short whys.WorkOut = omega arith
why-short whys.ComponentNotRunning = omega arith
why-short whys.PartEnded = omega arith
why-short (whys.PortHeld _) = omega arith
why-short (whys.NoData _) = omega arith
why-short (whys.NoRoom _) = omega arith

view-counted : (view : PortView) → (flushing : Bool) → view.flushing ≡ flushing → (0 < length (view_words view)) × (length (view_words view) ≤ 7)
view-counted view true is = rw is (omega arith, omega arith)
view-counted view false is = rw is (omega arith, omega arith)

reply-counted : (reply : TextReply) → (0 < length (reply_words reply)) × (length (reply_words reply) ≤ 7)
reply-counted replies.Done = (omega arith, omega arith)
reply-counted (replies.Error _) = (omega arith, omega arith)
reply-counted (replies.State _) = (omega arith, omega arith)
reply-counted (replies.Port view) = view-counted view view.flushing refl
reply-counted (replies.Supplier _) = (omega arith, omega arith)
reply-counted replies.Did = (omega arith, omega arith)
reply-counted replies.Work = (omega arith, omega arith)
reply-counted (replies.Finished _) = (omega arith, omega arith)
reply-counted (replies.Idle why) = (omega arith, omega (arith, why-short why))
reply-counted replies.NoNote = (omega arith, omega arith)
reply-counted replies.Busy = (omega arith, omega arith)
reply-counted (replies.Event event) = (omega arith, omega (arith, event-short event))
reply-counted replies.NotHeld = (omega arith, omega arith)
reply-counted replies.TooLong = (omega arith, omega arith)
reply-counted replies.NotOut = (omega arith, omega arith)
reply-counted (replies.Granted _) = (omega arith, omega arith)
reply-counted (replies.Victim _) = (omega arith, omega arith)

-- no reply is without words, and none has more than seven
pub reply-some : (reply : TextReply) → 0 < length (reply_words reply)
reply-some reply = (reply-counted reply).0

pub reply-short : (reply : TextReply) → length (reply_words reply) ≤ 7
reply-short reply = (reply-counted reply).1

-- What a log says of an act of a play and of its reply, by the names of components' numbers.
use Rattle.std.specs.Prelude.{ℕ, List, Option, Some, None, option_map, option_and_then, Result, Ok, Err}
use Rattle.omx_types.specs.declared.command.Command.{Command}
use Rattle.omx_types.specs.declared.command.Command.TheVariants.{StateSet, Flush, PortDisable, PortEnable, MarkBuffer}
use Rattle.omx_types.specs.declared.handle.Handle.{Handle}
use Rattle.omx_types.specs.declared.handle.PortId.{PortId}
use Rattle.omx_types.specs.declared.param.Param.{Param}
use Rattle.omx_types.specs.declared.param.Param.TheVariants as params
use Rattle.act_text.specs.declared.act.TextAct.{TextAct}
use Rattle.act_text.specs.declared.act.TextAct.TheVariants as lines
use Rattle.act_text.specs.declared.name.PortName.{PortName}
use Rattle.act_text.specs.declared.reply.TextReply.{TextReply}
use Rattle.act_text.specs.declared.reply.TextReply.TheVariants as texts
use Rattle.act_text.specs.declared.text.ActText.{ActText}
use Rattle.note_queues.specs.declared.taken.Taken.{Taken}
use Rattle.note_queues.specs.declared.taken.Taken.TheVariants.{Told, EmptyDone, FillDone}
use Rattle.note_queues.specs.declared.taken.Took.{Took}
use Rattle.note_queues.specs.declared.taken.Took.TheVariants as tooks
use Rattle.turnstile.specs.declared.entry.Entry.{Entry}
use Rattle.graph_acts.specs.declared.act.Act.{Act}
use Rattle.graph_acts.specs.declared.act.Act.TheVariants as asks
use Rattle.graph_acts.specs.declared.act.Reply.{Reply}
use Rattle.graph_acts.specs.declared.act.Reply.TheVariants as replies
use Rattle.graph_acts.specs.declared.claimed.LentClaim.{LentClaim}
use Rattle.graph_acts.specs.declared.claimed.LentClaim.TheVariants as claims
use Rattle.board.specs.declared.asked.Asked.{Asked}
use Rattle.board.specs.declared.asked.Told.{Told as Answered}
use Rattle.play_log.specs.Lines.{LogLine}
use Rattle.play_log.specs.Saying.{or_error, did, supplied, is_input_end}

-- ---- what an act says

abbrev pub port_of : (ℕ → List ℕ) → Handle → ℕ → PortName
port_of names h port = record { component = names h.generation; index = port }

abbrev pub port_named : (ℕ → List ℕ) → PortId → PortName
port_named names p = port_of names p.handle p.index

abbrev pub command_said : List ℕ → Command → Option TextAct
command_said name (StateSet state) = Some (lines.SendState name state)
command_said name (PortDisable ports) = Some (lines.SendDisable name ports)
command_said name (PortEnable ports) = Some (lines.SendEnable name ports)
command_said name _ = None

abbrev pub param_said : PortName → Param → Option TextAct
param_said port (params.Port d) = Some (lines.SetPort port d.format d.count d.size)
param_said port _ = None

module _ {S K C : Type 0} where
  abbrev pub act_said : (ℕ → List ℕ) → Act S K C → Option TextAct
  act_said names (asks.SetParameter h key value) = param_said (port_of names h key.port) value
  act_said names (asks.SetupTunnel output input) = Some (lines.Tunnel (port_named names output) (port_named names input))
  act_said names (asks.DropTunnel output input) = Some (lines.DropTunnel (port_named names output) (port_named names input))
  act_said names (asks.SendCommand h command) = command_said (names h.generation) command
  act_said names (asks.RunCommand h) = Some (lines.Run (names h.generation))
  act_said names (asks.TakeNote h) = Some (lines.Take (names h.generation))
  act_said names (asks.EndNote h client) = Some (lines.End (names h.generation))
  act_said names (asks.Supply h port) = Some (lines.Supply (port_of names h port))
  act_said names (asks.Release h port) = Some (lines.Release (port_of names h port))
  act_said names (asks.HandOver h port) = Some (lines.Over (port_of names h port))
  act_said names (asks.HandBack h port) = Some (lines.Back (port_of names h port))
  act_said names (asks.Claim h) = Some (lines.Claim (names h.generation))
  act_said names (asks.Finish done) = Some (lines.Finish (names done.component.generation))
  act_said names _ = None

  -- the frames of the step whose work comes back
  abbrev pub frames_of : Act S K C → ℕ
  frames_of (asks.Finish done) = done.frames
  frames_of _ = 0

-- ---- what a reply says

abbrev pub event_said : Taken → Option TextReply
event_said (Told event) = Some (texts.Event event)
event_said (EmptyDone header) = None
event_said (FillDone header) = None

module _ {C : Type 0} where
  abbrev pub note_said : Took C → Option TextReply
  note_said (tooks.Call call) = event_said call.taken
  note_said tooks.None = None
  note_said tooks.Busy = None

module _ {S K : Type 0} where
  abbrev pub claim_said : LentClaim S K → Option TextReply
  claim_said (claims.Work work) = Some texts.Work
  claim_said _ = None

module _ {S K C : Type 0} where
  abbrev pub reply_said : ℕ → Reply S K C → Option TextReply
  reply_said frames (replies.SetParameter result) = or_error (λ x. Some texts.Done) result
  reply_said frames (replies.SetupTunnel result) = or_error (λ supplier. Some (texts.Supplier (is_input_end supplier))) result
  reply_said frames (replies.DropTunnel result) = or_error (λ x. Some texts.Done) result
  reply_said frames (replies.SendCommand result) = or_error (λ x. Some texts.Done) result
  reply_said frames (replies.RunCommand result) = or_error did result
  reply_said frames (replies.TakeNote result) = or_error note_said result
  reply_said frames replies.EndNote = Some texts.Done
  reply_said frames (replies.Supply result) = supplied result
  reply_said frames (replies.Release result) = or_error did result
  reply_said frames (replies.HandOver result) = or_error did result
  reply_said frames (replies.HandBack result) = or_error did result
  reply_said frames (replies.Claim result) = or_error claim_said result
  reply_said frames replies.Finish = Some (texts.Finished frames)
  reply_said frames _ = None

-- ---- both

abbrev pub both_said : Option TextAct → Option TextReply → Option ActText
both_said (Some act) (Some reply) = Some (record { act = act; reply = reply })
both_said _ _ = None

abbrev pub line_by : ℕ → ActText → LogLine
line_by p said = record { pass = p; said = said }

module _ {S K C : Type 0} where
  -- what the log says of the act and its reply, if they have a line
  abbrev pub said_of : (ℕ → List ℕ) → Act S K C → Reply S K C → Option ActText
  said_of names act reply = both_said (act_said names act) (reply_said (frames_of act) reply)

  -- the line of an entry, if it has one
  abbrev pub line_of : (ℕ → List ℕ) → Entry (Asked S K C) (Answered S K C) → Option LogLine
  line_of names e = option_map (line_by e.pass) (said_of names e.act.act e.reply.reply)

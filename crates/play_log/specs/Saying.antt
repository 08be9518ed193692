-- What a line says of an act, and of its reply.
use Rattle.std.specs.Prelude.{◌≡◌, ℕ, Bool, true, false, List, Option, Some, None, Result, Ok, Err}
use Rattle.omx_types.specs.declared.command.Command.TheVariants.{StateSet, Flush, PortDisable, PortEnable, MarkBuffer}
use Rattle.omx_types.specs.declared.error.CallError.{CallError}
use Rattle.omx_types.specs.declared.error.CallError.TheVariants.{Omx, OutOfMemory}
use Rattle.omx_types.specs.declared.error.OmxError.{OmxError}
use Rattle.omx_types.specs.declared.handle.Handle.{Handle}
use Rattle.omx_types.specs.declared.handle.PortId.{PortId}
use Rattle.omx_types.specs.declared.param.Param.TheVariants as params
use Rattle.omx_types.specs.declared.param.ParamKey.{ParamKey}
use Rattle.omx_types.specs.declared.param.Supplier.{Supplier}
use Rattle.omx_types.specs.declared.param.Supplier.TheVariants as suppliers
use Rattle.part_forms.specs.Kinds.{is_input}
use Rattle.il_machine.specs.declared.answer.Acted.{Acted as ActAnswer}
use Rattle.il_machine.specs.declared.answer.Acted.TheVariants as acted
use Rattle.il_machine.specs.declared.answer.Granted.{Granted as GrantAnswer}
use Rattle.il_machine.specs.declared.answer.Granted.TheVariants as grants
use Rattle.il_machine.specs.declared.answer.Preempted.{Preempted as PreemptAnswer}
use Rattle.il_machine.specs.declared.answer.Preempted.TheVariants as losses
use Rattle.il_machine.specs.declared.answer.Progress.{Progress}
use Rattle.il_machine.specs.Claims.{Claimed as ClaimAnswer, ClaimedWork}
use Rattle.il_machine.specs.Notes.{Took as Taking, TookNote, TakenEvent}
use Rattle.il_machine.specs.Stepping.{WorkDone}
use Rattle.il_machine.specs.Acts.{Act, Reply}
use Rattle.il_machine.specs.Acts as acts
use Rattle.act_text.specs.declared.act.TextAct.{TextAct}
use Rattle.act_text.specs.declared.act.TextAct.TheVariants as lines
use Rattle.act_text.specs.declared.reply.TextReply.{TextReply}
use Rattle.act_text.specs.declared.reply.TextReply.TheVariants as texts
use Rattle.script_lang.specs.declared.play_line.PartLine.{PartLine}
use Rattle.play_forms.specs.Parts.{kind_of}
use Rattle.play_log.specs.Entries.{Entry}
use Rattle.play_log.specs.Lines.{LogLine}
use Rattle.play_log.specs.Scenes.{Scene, IsPlayer}

-- of the component of the name
abbrev pub Of : Scene → List ℕ → (PartLine → Handle → Type 0) → Type 0
Of s name Says = (place : ℕ) × (part : PartLine) × (h : Handle) × IsPlayer s place name part h × Says part h

-- index 1 is the port definition, 2 the buffer supplier, 3 the priority, 4 the gain and 5 a weight
abbrev pub key : ℕ → ℕ → ParamKey
key index port = record { version = record { major = 1; minor = 1; revision = 2; step = 0 }; index = index; port = port }

abbrev pub port_at : Handle → ℕ → PortId
port_at h index = record { handle = h; index = index }

-- A definition is that of the port's own direction, which the line doesn't say. Of a work that comes back a line says the component alone,
-- and the frames of its step in the reply; of the client object that goes back it says the component.
abbrev pub SaysAct : Scene → TextAct → Act → Type 0
SaysAct s (lines.Free component) a = Of s component (λ part h. a ≡ acts.FreeHandle h)
SaysAct s (lines.State component) a = Of s component (λ part h. a ≡ acts.GetState h)
SaysAct s (lines.Port port) a = Of s port.component (λ part h. a ≡ acts.PortView h port.index)
SaysAct s (lines.SetPort port format count size) a = Of s port.component (λ part h.
    a ≡ acts.SetParameter h (key 1 port.index)
    (params.Port (record { input = is_input (kind_of part.form) port.index; format = format; count = count; size = size })))
SaysAct s (lines.SetSupplier port supplier) a =
    Of s port.component (λ part h. a ≡ acts.SetParameter h (key 2 port.index) (params.Supplier supplier))
SaysAct s (lines.SetPriority component priority) a =
    Of s component (λ part h. a ≡ acts.SetParameter h (key 3 0) (params.Priority priority))
SaysAct s (lines.Gain component gain) a = Of s component (λ part h. a ≡ acts.SetConfig h (key 4 0) (params.Gain gain))
SaysAct s (lines.Weight port weight) a =
    Of s port.component (λ part h. a ≡ acts.SetConfig h (key 5 port.index) (params.Weight weight))
SaysAct s (lines.Tunnel first second) a = Of s first.component (λ one h. Of s second.component (λ other k.
    a ≡ acts.SetupTunnel (port_at h first.index) (port_at k second.index)))
SaysAct s (lines.DropTunnel first second) a = Of s first.component (λ one h. Of s second.component (λ other k.
    a ≡ acts.DropTunnel (port_at h first.index) (port_at k second.index)))
SaysAct s (lines.SendState component state) a = Of s component (λ part h. a ≡ acts.SendCommand h (StateSet state))
SaysAct s (lines.SendFlush component ports) a = Of s component (λ part h. a ≡ acts.SendCommand h (Flush ports))
SaysAct s (lines.SendDisable component ports) a = Of s component (λ part h. a ≡ acts.SendCommand h (PortDisable ports))
SaysAct s (lines.SendEnable component ports) a = Of s component (λ part h. a ≡ acts.SendCommand h (PortEnable ports))
SaysAct s (lines.SendMark component port target value) a = Of s component (λ part h. Of s target (λ other k.
    a ≡ acts.SendCommand h (MarkBuffer port k value)))
SaysAct s (lines.Run component) a = Of s component (λ part h. a ≡ acts.RunCommand h)
SaysAct s (lines.Claim component) a = Of s component (λ part h. a ≡ acts.Claim h)
SaysAct s (lines.Finish component) a = Of s component (λ part h.
    (done : WorkDone) × (done.component ≡ h.generation) × (a ≡ acts.Finish done))
SaysAct s (lines.Supply port) a = Of s port.component (λ part h. a ≡ acts.Supply h port.index)
SaysAct s (lines.Release port) a = Of s port.component (λ part h. a ≡ acts.Release h port.index)
SaysAct s (lines.Over port) a = Of s port.component (λ part h. a ≡ acts.HandOver h port.index)
SaysAct s (lines.Back port) a = Of s port.component (λ part h. a ≡ acts.HandBack h port.index)
SaysAct s (lines.Take component) a = Of s component (λ part h. a ≡ acts.TakeNote h)
SaysAct s (lines.End component) a = Of s component (λ part h. (progress : Progress) × (a ≡ acts.EndNote h progress))
SaysAct s lines.Grant a = a ≡ acts.Grant
SaysAct s lines.Preempt a = a ≡ acts.Preempt

-- ---- replies

abbrev pub or_error : {T : Type 0} → (T → Option TextReply) → Result T OmxError → Option TextReply
or_error reply (Ok x) = reply x
or_error reply (Err error) = Some (texts.Error error)

abbrev pub did : ActAnswer → Option TextReply
did acted.Did = Some texts.Did
did (acted.Idle why) = None

abbrev pub supplied : Result ActAnswer CallError → Option TextReply
supplied (Ok answer) = did answer
supplied (Err (Omx error)) = Some (texts.Error error)
supplied (Err OutOfMemory) = None

-- which end of a tunnel makes its headers
abbrev pub is_input_end : Supplier → Bool
is_input_end suppliers.Input = true
is_input_end other = false

-- a play has no headers of clients, whose notes would name them
abbrev pub took : Taking → Option TextReply
took (TookNote (TakenEvent event)) = Some (texts.Event event)
took other = None

abbrev pub claimed : ClaimAnswer → Option TextReply
claimed (ClaimedWork work) = Some texts.Work
claimed other = None

-- the text of a reply that names no component, where it has one
abbrev pub reply_said : Reply → Option TextReply
reply_said (acts.Removed result) = or_error (λ file. Some texts.Done) result
reply_said (acts.Plain result) = or_error (λ x. Some texts.Done) result
reply_said (acts.Stated result) = or_error (λ state. Some (texts.State state)) result
reply_said (acts.Viewed result) = or_error (λ view. Some (texts.Port view)) result
reply_said (acts.Joined result) = or_error (λ supplier. Some (texts.Supplier (is_input_end supplier))) result
reply_said (acts.Acted result) = or_error did result
reply_said (acts.Supplied result) = supplied result
reply_said (acts.Took result) = or_error took result
reply_said (acts.Claimed result) = or_error claimed result
reply_said acts.Ended = Some texts.Done
reply_said other = None

abbrev pub SaysGranted : Scene → TextReply → GrantAnswer → Type 0
SaysGranted s (texts.Granted component) answer = Of s component (λ part h. answer ≡ grants.Granted h)
SaysGranted s other answer = ⊥

abbrev pub SaysVictim : Scene → TextReply → PreemptAnswer → Type 0
SaysVictim s (texts.Victim component) answer = Of s component (λ part h. answer ≡ losses.Victim h)
SaysVictim s other answer = ⊥

abbrev pub SaysFinished : TextReply → Act → Type 0
SaysFinished said (acts.Finish done) = said ≡ texts.Finished done.frames
SaysFinished said other = ⊥

abbrev pub SaysReply : Scene → TextReply → Act → Reply → Type 0
SaysReply s said a acts.Finished = SaysFinished said a
SaysReply s said a (acts.Granted answer) = SaysGranted s said answer
SaysReply s said a (acts.Preempted answer) = SaysVictim s said answer
SaysReply s said a r = reply_said r ≡ Some said

-- the line is that of the entry
pub record Says (s : Scene) (line : LogLine) (entry : Entry) : Type 0 where
  pub pass : line.pass ≡ entry.pass
  pub act : SaysAct s (line.said).act entry.act
  pub reply : SaysReply s (line.said).reply entry.act entry.reply

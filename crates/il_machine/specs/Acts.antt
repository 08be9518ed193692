-- One act is one call with its arguments. A client object isn't named: what moves is its progress. That of a new component is of no event.
use Rattle.std.specs.Prelude.{ℕ, Bool, List, Option, Result}
use Rattle.omx_types.specs.declared.state.State.{State}
use Rattle.omx_types.specs.declared.handle.Handle.{Handle}
use Rattle.omx_types.specs.declared.handle.PortId.{PortId}
use Rattle.omx_types.specs.declared.command.Command.{Command}
use Rattle.omx_types.specs.declared.error.OmxError.{OmxError}
use Rattle.omx_types.specs.declared.error.CallError.{CallError}
use Rattle.omx_types.specs.declared.param.Param.{Param}
use Rattle.omx_types.specs.declared.param.ParamKey.{ParamKey}
use Rattle.omx_types.specs.declared.param.Supplier.{Supplier}
use Rattle.il_machine.specs.declared.answer.Acted.{Acted as ActAnswer}
use Rattle.il_machine.specs.declared.answer.Granted.{Granted as GrantAnswer}
use Rattle.il_machine.specs.declared.answer.Preempted.{Preempted as PreemptAnswer}
use Rattle.il_machine.specs.declared.answer.Progress.{Progress as ClientProgress}
use Rattle.il_machine.specs.declared.port.PortView.{PortView as View}
use Rattle.part_api.specs.declared.attached.Attached.{Attached}
use Rattle.il_machine.specs.Buffers.{Held}
use Rattle.il_machine.specs.Files.{Offered}
use Rattle.il_machine.specs.Claims.{Claimed as ClaimAnswer}
use Rattle.il_machine.specs.Stepping.{WorkDone}
use Rattle.il_machine.specs.Notes.{Took as Taking}

pub data Act : Type 0 where
  GetHandle : (name : List ℕ) → Act
  FreeHandle : (h : Handle) → Act
  Attach : (h : Handle) (file : Offered) → Act
  GetState : (h : Handle) → Act
  PortView : (h : Handle) (port : ℕ) → Act
  Progress : (h : Handle) → Act
  GetParameter : (h : Handle) (key : ParamKey) → Act
  GetConfig : (h : Handle) (key : ParamKey) → Act
  SetParameter : (h : Handle) (key : ParamKey) (value : Param) → Act
  SetConfig : (h : Handle) (key : ParamKey) (value : Param) → Act
  SetupTunnel : (output input : PortId) → Act
  DropTunnel : (output input : PortId) → Act
  SendCommand : (h : Handle) (command : Command) → Act
  RunCommand : (h : Handle) → Act
  AllocateBuffer : (h : Handle) (port : ℕ) → Act
  UseBuffer : (h : Handle) (port : ℕ) (bytes : List ℕ) → Act
  FreeBuffer : (h : Handle) (port : ℕ) (header : ℕ) → Act
  EmptyThisBuffer : (h : Handle) (port : ℕ) (header : Held) → Act
  FillThisBuffer : (h : Handle) (port : ℕ) (header : Held) → Act
  TakeNote : (h : Handle) → Act
  EndNote : (h : Handle) (progress : ClientProgress) → Act
  Supply : (h : Handle) (port : ℕ) → Act
  Release : (h : Handle) (port : ℕ) → Act
  HandOver : (h : Handle) (port : ℕ) → Act
  HandBack : (h : Handle) (port : ℕ) → Act
  Grant : Act
  Preempt : Act
  Claim : (h : Handle) → Act
  Finish : (done : WorkDone) → Act

-- What a call answers, without what it hands back. Of the memory of a header that is freed it says whether it is the client's; of a
-- component that is freed, for which frames its file came.
pub data Reply : Type 0 where
  Got : (result : Result Handle CallError) → Reply
  Removed : (result : Result (Option Attached) OmxError) → Reply
  Plain : (result : Result (Unit {0}) OmxError) → Reply
  Stated : (result : Result State OmxError) → Reply
  Viewed : (result : Result View OmxError) → Reply
  Progressed : (result : Result (Option ClientProgress) OmxError) → Reply
  Parameter : (result : Result Param OmxError) → Reply
  Joined : (result : Result Supplier OmxError) → Reply
  Acted : (result : Result ActAnswer OmxError) → Reply
  Allocated : (result : Result Held CallError) → Reply
  Used : (result : Result Held OmxError) → Reply
  Freed : (result : Result Bool OmxError) → Reply
  Took : (result : Result Taking OmxError) → Reply
  Ended : Reply
  Supplied : (result : Result ActAnswer CallError) → Reply
  Granted : (answer : GrantAnswer) → Reply
  Preempted : (answer : PreemptAnswer) → Reply
  Claimed : (result : Result ClaimAnswer OmxError) → Reply
  Finished : Reply

-- What a claim answers, as the machine tells it, and what is true of the work that it gives.
use Rattle.std.specs.Prelude.{◌≡◌, ℕ, false, Result, Ok, Err, IfSome, Some}
use Rattle.omx_types.specs.declared.handle.Handle.{Handle}
use Rattle.part_api.specs.Terms.{Terms}
use Rattle.il_machine.specs.World.{Stream, World, stream_of}
use Rattle.il_machine.specs.Look.{Look}
use Rattle.il_machine.specs.Answers.{component_named}
use Rattle.il_machine.specs.Parts.{terms_of}
use Rattle.il_machine.specs.Claims as machine
use Rattle.il_machine.specs.Whole.{PartSeen, HasDone}
use Rattle.port_rules.specs.declared.claiming.NoWork.{NoWork}
use Rattle.port_rules.specs.declared.claiming.NoWork.TheVariants as answers
use Rattle.il_flow.specs.Works.{WorkOf, seen_work}
use Rattle.audio_parts.specs.declared.any_part.AnyPart.{AnyPart}
use Rattle.il_graph.specs.declared.claimed.Claimed.{Claimed}
use Rattle.il_graph.specs.declared.claimed.Claimed.TheVariants as claimed

-- what is set of the component that the handle names, if it names one
abbrev pub AreTermsOf : Handle → Look → Terms → Type 0
AreTermsOf h l t = IfSome (component_named h l.components) (λ c. t ≡ terms_of c)

-- so much has gone through the part of the component of the number
abbrev pub IsSoFar : Terms → World → ℕ → PartSeen → Type 0
IsSoFar t w number p = (s : Stream) → stream_of number w ≡ Some s → HasDone t false s p

module _ {S K : Type 0} {s : _} {k : _} where
  abbrev pub answer_of : NoWork → Claimed S K s k
  answer_of answers.Busy = claimed.Busy
  answer_of answers.NotRunning = claimed.NotRunning
  answer_of answers.Ended = claimed.Ended
  answer_of (answers.Held port) = claimed.Held port
  answer_of (answers.NoData port) = claimed.NoData port
  answer_of (answers.NoRoom port) = claimed.NoRoom port
  answer_of (answers.Events room need) = claimed.Events room need

  -- as the machine tells it, by the terms of the component
  abbrev pub told_by : Terms → Claimed S K s k → machine.Claimed
  told_by t (claimed.Work work) = machine.ClaimedWork (seen_work t work)
  told_by t claimed.Busy = machine.ClaimedBusy
  told_by t claimed.NotRunning = machine.ClaimedNotRunning
  told_by t claimed.Ended = machine.ClaimedEnded
  told_by t (claimed.Held port) = machine.ClaimedHeld port
  told_by t (claimed.NoData port) = machine.ClaimedNoData port
  told_by t (claimed.NoRoom port) = machine.ClaimedNoRoom port
  told_by t (claimed.Events room need) = machine.ClaimedEvents room need

  abbrev pub claimed_as : {E : Type 0} → Terms → Result (Claimed S K s k) E → Result machine.Claimed E
  claimed_as t (Ok x) = Ok (told_by t x)
  claimed_as t (Err e) = Err e

  -- a work is given
  abbrev pub OnWork : {E : Type 0} → Result (Claimed S K s k) E → (WorkOf (AnyPart S K s k) → Type 0) → Type 0
  OnWork (Ok (claimed.Work work)) P = P work
  OnWork (Ok _) P = Unit {0}
  OnWork (Err e) P = Unit {0}

  -- no work is given
  abbrev pub OnNoWork : {E : Type 0} → Result (Claimed S K s k) E → Type 0 → Type 0
  OnNoWork (Ok (claimed.Work work)) P = Unit {0}
  OnNoWork _ P = P

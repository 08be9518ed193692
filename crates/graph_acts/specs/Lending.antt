-- What a claim answers, of the graph's answer, and as the machine tells it.
use Rattle.std.specs.Prelude.{Result, Ok, Err}
use Rattle.part_api.specs.Terms.{Terms}
use Rattle.il_machine.specs.Claims as machine
use Rattle.audio_parts.specs.declared.any_part.AnyPart.{AnyPart}
use Rattle.audio_parts.specs.Shown.{ShownPart}
use Rattle.il_flow.specs.Works.{WorkOf, seen_work}
use Rattle.il_graph.specs.declared.claimed.Claimed.{Claimed as Given}
use Rattle.il_graph.specs.declared.claimed.Claimed.TheVariants as given
use Rattle.graph_acts.specs.declared.claimed.LentClaim.{LentClaim}
use Rattle.graph_acts.specs.declared.claimed.LentClaim.TheVariants as claimed
use Rattle.graph_acts.specs.Hiding.{shown_work}

module _ {S K : Type 0} where
  -- as the machine tells it, by the terms of the component
  abbrev pub told_by : Terms → LentClaim S K → machine.Claimed
  told_by t (claimed.Work work) = machine.ClaimedWork (seen_work t work)
  told_by t claimed.Busy = machine.ClaimedBusy
  told_by t claimed.NotRunning = machine.ClaimedNotRunning
  told_by t claimed.Ended = machine.ClaimedEnded
  told_by t (claimed.Held port) = machine.ClaimedHeld port
  told_by t (claimed.NoData port) = machine.ClaimedNoData port
  told_by t (claimed.NoRoom port) = machine.ClaimedNoRoom port
  told_by t (claimed.Events room need) = machine.ClaimedEvents room need

  abbrev pub claimed_as : {E : Type 0} → Terms → Result (LentClaim S K) E → Result machine.Claimed E
  claimed_as t (Ok x) = Ok (told_by t x)
  claimed_as t (Err e) = Err e

  -- a work is given
  abbrev pub OnLent : {E : Type 0} → Result (LentClaim S K) E → (WorkOf (ShownPart S K) → Type 0) → Type 0
  OnLent (Ok (claimed.Work work)) P = P work
  OnLent (Ok _) P = Unit {0}
  OnLent (Err e) P = Unit {0}

module _ {S K : Type 0} {s : _} {k : _} where
  abbrev pub lent_of : (AnyPart S K s k → ShownPart S K) → Given S K s k → LentClaim S K
  lent_of f (given.Work work) = claimed.Work (shown_work f work)
  lent_of f given.Busy = claimed.Busy
  lent_of f given.NotRunning = claimed.NotRunning
  lent_of f given.Ended = claimed.Ended
  lent_of f (given.Held port) = claimed.Held port
  lent_of f (given.NoData port) = claimed.NoData port
  lent_of f (given.NoRoom port) = claimed.NoRoom port
  lent_of f (given.Events room need) = claimed.Events room need

  abbrev pub lent_as : {E : Type 0} → (AnyPart S K s k → ShownPart S K) → Result (Given S K s k) E → Result (LentClaim S K) E
  lent_as f (Ok x) = Ok (lent_of f x)
  lent_as f (Err e) = Err e

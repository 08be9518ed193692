-- The entries of a history: which pass made an act, and what that was answered. The place of an entry is how many stand before it.
use Rattle.std.specs.Prelude.{ℕ, Bool, true, false, not, List, map, filter, Result, Ok, Err}
use Rattle.omx_types.specs.declared.error.OmxError.{OmxError}
use Rattle.il_machine.specs.declared.answer.Acted.{Acted as ActAnswer}
use Rattle.il_machine.specs.declared.answer.Acted.TheVariants as acted
use Rattle.il_machine.specs.declared.answer.Granted.{Granted as GrantAnswer}
use Rattle.il_machine.specs.declared.answer.Granted.TheVariants as grants
use Rattle.il_machine.specs.declared.answer.Preempted.{Preempted as PreemptAnswer}
use Rattle.il_machine.specs.declared.answer.Preempted.TheVariants as losses
use Rattle.il_machine.specs.Claims.{Claimed as ClaimAnswer, ClaimedWork}
use Rattle.il_machine.specs.Notes.{Took as Taking, TookNote}
use Rattle.il_machine.specs.Acts.{Act, Reply}
use Rattle.il_machine.specs.Acts as acts

pub record Entry : Type 0 where
  pub pass : ℕ
  pub act : Act
  pub reply : Reply

abbrev pub step_of : Entry → Act × Reply
step_of entry = (entry.act, entry.reply)

-- the acts of a history with their replies
abbrev pub steps_of : List Entry → List (Act × Reply)
steps_of history = map step_of history

-- ---- entries that a log leaves out

abbrev pub is_idle : {E : Type 0} → Result ActAnswer E → Bool
is_idle (Ok acted.Did) = false
is_idle (Ok (acted.Idle why)) = true
is_idle (Err error) = false

-- none was queued, or the client object was out
abbrev pub is_without_note : Result Taking OmxError → Bool
is_without_note (Ok (TookNote taken)) = false
is_without_note (Ok other) = true
is_without_note (Err error) = false

abbrev pub is_without_work : Result ClaimAnswer OmxError → Bool
is_without_work (Ok (ClaimedWork work)) = false
is_without_work (Ok other) = true
is_without_work (Err error) = false

abbrev pub is_ungranted : GrantAnswer → Bool
is_ungranted (grants.Granted h) = false
is_ungranted (grants.Idle why) = true

abbrev pub is_without_victim : PreemptAnswer → Bool
is_without_victim (losses.Victim h) = false
is_without_victim (losses.Idle why) = true

-- the reply is `idle`, `none` or `busy`, or the act looks at the progress
abbrev pub is_unprinted : Reply → Bool
is_unprinted (acts.Progressed result) = true
is_unprinted (acts.Acted result) = is_idle result
is_unprinted (acts.Supplied result) = is_idle result
is_unprinted (acts.Took result) = is_without_note result
is_unprinted (acts.Claimed result) = is_without_work result
is_unprinted (acts.Granted answer) = is_ungranted answer
is_unprinted (acts.Preempted answer) = is_without_victim answer
is_unprinted other = false

-- the entries that have a line
abbrev pub printed : List Entry → List Entry
printed history = filter (λ entry. not (is_unprinted entry.reply)) history

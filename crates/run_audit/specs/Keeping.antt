-- What a reply hands out, and where it is kept.
use Rattle.std.specs.Prelude.{◌≡◌, ℕ, List, Option, Some, None, Result, Ok, Err, slice_set}
use Rattle.il_machine.specs.declared.answer.Progress.{Progress}
use Rattle.il_machine.specs.Components.{noted_by}
use Rattle.note_queues.specs.declared.taken.Took.{Took}
use Rattle.note_queues.specs.declared.taken.Took.TheVariants as tooks
use Rattle.note_queues.specs.Queues.{note_of}
use Rattle.audio_parts.specs.Shown.{ShownPart}
use Rattle.il_flow.specs.Works.{WorkOf}
use Rattle.graph_acts.specs.declared.act.Reply.{Reply}
use Rattle.graph_acts.specs.declared.act.Reply.TheVariants as replies
use Rattle.graph_acts.specs.declared.claimed.LentClaim.{LentClaim}
use Rattle.graph_acts.specs.declared.claimed.LentClaim.TheVariants as claimed
use Rattle.audit_acts.specs.Asking.{IsPlainReply}

module _ {S K C : Type 0} where
  abbrev pub IsClaim : Reply S K C → Type 0
  IsClaim (replies.Claim result) = Unit {0}
  IsClaim other = ⊥

  abbrev pub IsTake : Reply S K C → Type 0
  IsTake (replies.TakeNote result) = Unit {0}
  IsTake other = ⊥

  -- a reply to an act of a play that hands nothing out
  abbrev pub IsQuietReply : Reply S K C → Type 0
  IsQuietReply (replies.Claim result) = ⊥
  IsQuietReply (replies.TakeNote result) = ⊥
  IsQuietReply other = IsPlainReply other

module _ {S K : Type 0} where
  abbrev pub claimed_in : {E : Type 0} → Result (LentClaim S K) E → Option (WorkOf (ShownPart S K))
  claimed_in (Ok (claimed.Work work)) = Some work
  claimed_in (Ok other) = None
  claimed_in (Err e) = None

module _ {S K C : Type 0} where
  -- the work that it hands out
  abbrev pub work_in : Reply S K C → Option (WorkOf (ShownPart S K))
  work_in (replies.Claim result) = claimed_in result
  work_in other = None

module _ {C : Type 0} where
  -- where a note comes
  abbrev pub IfCalled : {E : Type 0} → Result (Took C) E → Type 0 → Type 0
  IfCalled (Ok (tooks.Call call)) P = P
  IfCalled (Ok tooks.None) P = Unit {0}
  IfCalled (Ok tooks.Busy) P = Unit {0}
  IfCalled (Err e) P = Unit {0}

  -- the client object that comes with a note is put at the place, told the note
  abbrev pub PutsCalled : {E : Type 0} → (C → Progress) → ℕ → List (Option C) → List (Option C) → Result (Took C) E → Type 0
  PutsCalled progress place old new (Ok (tooks.Call call)) = (client : C) × (progress client ≡ noted_by (note_of call.taken) (progress call.client)) × (new ≡ slice_set old place (Some client))
  PutsCalled progress place old new (Ok tooks.None) = new ≡ old
  PutsCalled progress place old new (Ok tooks.Busy) = new ≡ old
  PutsCalled progress place old new (Err e) = new ≡ old

module _ {S K C : Type 0} where
  abbrev pub IfTaken : Reply S K C → Type 0 → Type 0
  IfTaken (replies.TakeNote result) P = IfCalled result P
  IfTaken other P = Unit {0}

  abbrev pub PutsClient : (C → Progress) → ℕ → List (Option C) → List (Option C) → Reply S K C → Type 0
  PutsClient progress place old new (replies.TakeNote result) = PutsCalled progress place old new result
  PutsClient progress place old new other = new ≡ old

-- with the thing at its place
abbrev pub with_thing : {T : Type 0} → ℕ → Option T → List (Option T) → List (Option T)
with_thing place None things = things
with_thing place (Some thing) things = slice_set things place (Some thing)

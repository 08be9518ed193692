-- The line of a call that is told to a log.
use Rattle.std.proofs.Common.{◌≡◌, ℕ, List, [], ◌∷◌, ◌++◌, Bool, true, false, None, IfSome, Result, Ok, Err, OnOk, OnErr, if◌then◌else◌, refl, sym, ap, ◌∙◌, subst}
use Rattle.il_machine.specs.declared.answer.Acted.TheVariants as acted
use Rattle.omx_types.specs.declared.error.CallError.TheVariants.{Omx, OutOfMemory}
use Rattle.note_queues.specs.declared.taken.Taken.{Taken}
use Rattle.note_queues.specs.declared.taken.Taken.TheVariants.{Told, EmptyDone, FillDone}
use Rattle.note_queues.specs.declared.taken.Took.{Took}
use Rattle.note_queues.specs.declared.taken.Took.TheVariants as tooks
use Rattle.act_text.specs.declared.reply.TextReply.{TextReply}
use Rattle.act_text.specs.declared.text.ActText.{ActText}
use Rattle.graph_acts.specs.declared.act.Reply.{Reply}
use Rattle.graph_acts.specs.declared.act.Reply.TheVariants as replies
use Rattle.graph_acts.specs.declared.claimed.LentClaim.{LentClaim}
use Rattle.graph_acts.specs.declared.claimed.LentClaim.TheVariants as claims
use Rattle.play_log.specs.Lines.{is_left_out}
use Rattle.play_log.specs.Places.{IsKeptAt, PassLogValue, PlacedLine, placed_of}
use Rattle.pass_book.specs.Saying.{claim_said, event_said, line_by, note_said, reply_said}

-- a log that isn't broken took the line
pub noted : {T E : Type 0} (result : Result T E) (old new : PassLogValue) (lines : List PlacedLine) (place pass : ℕ) (said : ActText) → is_left_out said.reply ≡ false
    → OnOk result (IsKeptAt (lines ++ placed_of place pass said) new) → OnErr result (new ≡ record old { broken = true }) → new.broken ≡ false
    → IsKeptAt (lines ++ record { place = place; line = line_by pass said } ∷ []) new
noted (Ok x) old new lines place pass said printed kept broken whole =
    subst (λ (b : Bool). IsKeptAt (lines ++ (if b then [] else record { place = place; line = line_by pass said } ∷ [])) new) printed kept
noted (Err e) old new lines place pass said printed kept broken whole =
    let is : new.broken ≡ true = ap (λ (l : PassLogValue). l.broken) broken in
    let bad : true ≡ false = sym is ∙ whole in
    absurd cc

abbrev pub IsPrinted : TextReply → Type 0
IsPrinted text = is_left_out text ≡ false

event_printed : (t : Taken) → IfSome (event_said t) IsPrinted
event_printed (Told event) = refl
event_printed (EmptyDone header) = tt
event_printed (FillDone header) = tt

module _ {C : Type 0} where
  note_printed : (t : Took C) → IfSome (note_said t) IsPrinted
  note_printed (tooks.Call call) = event_printed call.taken
  note_printed tooks.None = tt
  note_printed tooks.Busy = tt

module _ {S K : Type 0} where
  claim_printed : (c : LentClaim S K) → IfSome (claim_said c) IsPrinted
  claim_printed (claims.Work work) = refl
  claim_printed _ = tt

module _ {S K C : Type 0} where
  -- no text of a reply is one that is left out
  pub reply_printed : (frames : ℕ) (reply : Reply S K C) → IfSome (reply_said frames reply) IsPrinted
  reply_printed frames (replies.SetParameter (Ok x)) = refl
  reply_printed frames (replies.SetParameter (Err e)) = refl
  reply_printed frames (replies.SetupTunnel (Ok x)) = refl
  reply_printed frames (replies.SetupTunnel (Err e)) = refl
  reply_printed frames (replies.DropTunnel (Ok x)) = refl
  reply_printed frames (replies.DropTunnel (Err e)) = refl
  reply_printed frames (replies.SendCommand (Ok x)) = refl
  reply_printed frames (replies.SendCommand (Err e)) = refl
  reply_printed frames (replies.RunCommand (Ok acted.Did)) = refl
  reply_printed frames (replies.RunCommand (Ok (acted.Idle why))) = tt
  reply_printed frames (replies.RunCommand (Err e)) = refl
  reply_printed frames (replies.TakeNote (Ok t)) = note_printed t
  reply_printed frames (replies.TakeNote (Err e)) = refl
  reply_printed frames replies.EndNote = refl
  reply_printed frames (replies.Supply (Ok acted.Did)) = refl
  reply_printed frames (replies.Supply (Ok (acted.Idle why))) = tt
  reply_printed frames (replies.Supply (Err (Omx e))) = refl
  reply_printed frames (replies.Supply (Err OutOfMemory)) = tt
  reply_printed frames (replies.Release (Ok acted.Did)) = refl
  reply_printed frames (replies.Release (Ok (acted.Idle why))) = tt
  reply_printed frames (replies.Release (Err e)) = refl
  reply_printed frames (replies.HandOver (Ok acted.Did)) = refl
  reply_printed frames (replies.HandOver (Ok (acted.Idle why))) = tt
  reply_printed frames (replies.HandOver (Err e)) = refl
  reply_printed frames (replies.HandBack (Ok acted.Did)) = refl
  reply_printed frames (replies.HandBack (Ok (acted.Idle why))) = tt
  reply_printed frames (replies.HandBack (Err e)) = refl
  reply_printed frames (replies.Claim (Ok c)) = claim_printed c
  reply_printed frames (replies.Claim (Err e)) = refl
  reply_printed frames replies.Finish = refl
  reply_printed frames _ = tt

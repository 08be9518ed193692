-- Entries that a log leaves out change no world, so a history without them is a run between the same worlds.
use Rattle.std.proofs.Common.{◌≡◌, true, false, inl, inr, List, [], ◌∷◌, Ok, Err, refl, subst}
use Rattle.il_machine.specs.declared.answer.Acted.TheVariants as acted
use Rattle.il_machine.specs.declared.answer.Granted.TheVariants as grants
use Rattle.il_machine.specs.declared.answer.Preempted.TheVariants as losses
use Rattle.il_machine.specs.World.{World}
use Rattle.il_machine.specs.Claims.{ClaimedWork, ClaimedBusy, ClaimedNotRunning, ClaimedEnded, ClaimedHeld, ClaimedNoData, ClaimedNoRoom, ClaimedEvents}
use Rattle.il_machine.specs.Notes.{TookNote, TookNone, TookBusy}
use Rattle.il_machine.specs.Due.{ClosesTo, IsClosed}
use Rattle.il_machine.specs.Acts.{Act, Reply}
use Rattle.il_machine.specs.Acts as acts
use Rattle.il_machine.specs.Effect.{effect}
use Rattle.il_machine.specs.Run.{Meets, Step, Run}
use Rattle.il_machine.specs.Sound.{Sound}
use Rattle.machine_laws.proofs.Finding.{either}
use Rattle.machine_laws.proofs.Closing.{closed_closes}
use Rattle.machine_laws.proofs.Steps.{sound_step}
use Rattle.history_laws.proofs.ClosedLaw.{step_closed}
use Rattle.history_laws.proofs.QueueLaw.{effects_close}
use Rattle.play_log.specs.Entries.{Entry, is_unprinted, printed, steps_of}

printed_reply : {A : Type 0} → false ≡ true → A
printed_reply e = absurd cc

unprinted_effect : (w : World) (a : Act) (r : Reply) (v : World) → Step w a r v → is_unprinted r ≡ true → effect w a r ≡ w
unprinted_effect w (acts.GetHandle name) (acts.Got result) v s u = printed_reply u
unprinted_effect w (acts.FreeHandle h) (acts.Removed result) v s u = printed_reply u
unprinted_effect w (acts.Attach h file) (acts.Plain result) v s u = printed_reply u
unprinted_effect w (acts.GetState h) (acts.Stated result) v s u = refl
unprinted_effect w (acts.PortView h port) (acts.Viewed result) v s u = refl
unprinted_effect w (acts.Progress h) (acts.Progressed result) v s u = refl
unprinted_effect w (acts.GetParameter h key) (acts.Parameter result) v s u = refl
unprinted_effect w (acts.GetConfig h key) (acts.Parameter result) v s u = refl
unprinted_effect w (acts.SetParameter h key value) (acts.Plain result) v s u = printed_reply u
unprinted_effect w (acts.SetConfig h key value) (acts.Plain result) v s u = printed_reply u
unprinted_effect w (acts.SetupTunnel output input) (acts.Joined result) v s u = printed_reply u
unprinted_effect w (acts.DropTunnel output input) (acts.Plain result) v s u = printed_reply u
unprinted_effect w (acts.SendCommand h command) (acts.Plain result) v s u = printed_reply u
unprinted_effect w (acts.RunCommand h) (acts.Acted (Ok acted.Did)) v s u = printed_reply u
unprinted_effect w (acts.RunCommand h) (acts.Acted (Ok (acted.Idle why))) v s u = refl
unprinted_effect w (acts.RunCommand h) (acts.Acted (Err error)) v s u = refl
unprinted_effect w (acts.AllocateBuffer h port) (acts.Allocated result) v s u = printed_reply u
unprinted_effect w (acts.UseBuffer h port bytes) (acts.Used result) v s u = printed_reply u
unprinted_effect w (acts.FreeBuffer h port header) (acts.Freed result) v s u = printed_reply u
unprinted_effect w (acts.EmptyThisBuffer h port header) (acts.Plain result) v s u = printed_reply u
unprinted_effect w (acts.FillThisBuffer h port header) (acts.Plain result) v s u = printed_reply u
unprinted_effect w (acts.TakeNote h) (acts.Took (Ok (TookNote taken))) v s u = printed_reply u
unprinted_effect w (acts.TakeNote h) (acts.Took (Ok TookNone)) v s u = refl
unprinted_effect w (acts.TakeNote h) (acts.Took (Ok TookBusy)) v s u = refl
unprinted_effect w (acts.TakeNote h) (acts.Took (Err error)) v s u = refl
unprinted_effect w (acts.EndNote h progress) acts.Ended v s u = printed_reply u
unprinted_effect w (acts.Supply h port) (acts.Supplied (Ok acted.Did)) v s u = printed_reply u
unprinted_effect w (acts.Supply h port) (acts.Supplied (Ok (acted.Idle why))) v s u = refl
unprinted_effect w (acts.Supply h port) (acts.Supplied (Err error)) v s u = refl
unprinted_effect w (acts.Release h port) (acts.Acted (Ok acted.Did)) v s u = printed_reply u
unprinted_effect w (acts.Release h port) (acts.Acted (Ok (acted.Idle why))) v s u = refl
unprinted_effect w (acts.Release h port) (acts.Acted (Err error)) v s u = refl
unprinted_effect w (acts.HandOver h port) (acts.Acted (Ok acted.Did)) v s u = printed_reply u
unprinted_effect w (acts.HandOver h port) (acts.Acted (Ok (acted.Idle why))) v s u = refl
unprinted_effect w (acts.HandOver h port) (acts.Acted (Err error)) v s u = refl
unprinted_effect w (acts.HandBack h port) (acts.Acted (Ok acted.Did)) v s u = printed_reply u
unprinted_effect w (acts.HandBack h port) (acts.Acted (Ok (acted.Idle why))) v s u = refl
unprinted_effect w (acts.HandBack h port) (acts.Acted (Err error)) v s u = refl
unprinted_effect w acts.Grant (acts.Granted (grants.Granted h)) v s u = printed_reply u
unprinted_effect w acts.Grant (acts.Granted (grants.Idle why)) v s u = refl
unprinted_effect w acts.Preempt (acts.Preempted (losses.Victim h)) v s u = printed_reply u
unprinted_effect w acts.Preempt (acts.Preempted (losses.Idle why)) v s u = refl
unprinted_effect w (acts.Claim h) (acts.Claimed (Ok (ClaimedWork work))) v s u = printed_reply u
unprinted_effect w (acts.Claim h) (acts.Claimed (Ok ClaimedBusy)) v s u = refl
unprinted_effect w (acts.Claim h) (acts.Claimed (Ok ClaimedNotRunning)) v s u = refl
unprinted_effect w (acts.Claim h) (acts.Claimed (Ok ClaimedEnded)) v s u = refl
unprinted_effect w (acts.Claim h) (acts.Claimed (Ok (ClaimedHeld port))) v s u = refl
unprinted_effect w (acts.Claim h) (acts.Claimed (Ok (ClaimedNoData port))) v s u = refl
unprinted_effect w (acts.Claim h) (acts.Claimed (Ok (ClaimedNoRoom port))) v s u = refl
unprinted_effect w (acts.Claim h) (acts.Claimed (Ok (ClaimedEvents room need))) v s u = refl
unprinted_effect w (acts.Claim h) (acts.Claimed (Err error)) v s u = refl
unprinted_effect w (acts.Finish done) acts.Finished v s u = printed_reply u
unprinted_effect w _ _ v s u = absurd s

pub unprinted_stays : (w : World) (a : Act) (r : Reply) (v : World) → Sound w → IsClosed w → Meets w a → Step w a r v → is_unprinted r ≡ true → v ≡ w
unprinted_stays w a r v S C M s u = elim (effects_close w a r v S M s) [
  | inl e ↦ e.1
  | inr c ↦ closed_closes w v C (subst (λ (x : World). ClosesTo x v) (unprinted_effect w a r v s u) c)
]

pub printed_run : (w : World) (history : List Entry) (v : World) → Sound w → IsClosed w → Run w (steps_of history) v → Run w (steps_of (printed history)) v
printed_run w [] v S C e = e
printed_run w (entry ∷ history) v S C h =
    let sound = sound_step w h.0 entry.act entry.reply h.1 h.2 S in
    let rest = printed_run h.0 history v sound (step_closed w entry.act entry.reply h.0 C h.2) h.3 in
    either (is_unprinted entry.reply)
    (λ out.
    let same = unprinted_stays w entry.act entry.reply h.0 S C h.1 h.2 out in
    rw out (subst (λ (x : World). Run x (steps_of (printed history)) v) same rest))
    (λ line. let first : Meets w entry.act × (Step w entry.act entry.reply h.0) = (h.1, h.2) in rw line (h.0, first.0, first.1, rest))

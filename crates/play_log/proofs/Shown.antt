-- The lines of a history with one entry more.
use Rattle.std.proofs.Common.{◌≡◌, true, false, not, List, [], ◌∷◌, ◌++◌, Option, Some, None, Result, Ok, Err, refl, sym, ap, ◌∙◌, subst}
use Rattle.std.proofs.lemmas.List.{append-nil}
use Rattle.std.proofs.lemmas.List.Elements.{All-append, All-cons, All-nil, filter-append}
use Rattle.omx_types.specs.declared.error.CallError.{CallError}
use Rattle.omx_types.specs.declared.error.CallError.TheVariants.{Omx, OutOfMemory}
use Rattle.omx_types.specs.declared.error.OmxError.{OmxError}
use Rattle.il_machine.specs.declared.answer.Acted.{Acted as ActAnswer}
use Rattle.il_machine.specs.declared.answer.Acted.TheVariants as acted
use Rattle.il_machine.specs.declared.answer.Granted.{Granted as GrantAnswer}
use Rattle.il_machine.specs.declared.answer.Preempted.{Preempted as PreemptAnswer}
use Rattle.il_machine.specs.Claims.{Claimed as ClaimAnswer, ClaimedWork}
use Rattle.il_machine.specs.Notes.{Took as Taking, TookNote, TakenEvent}
use Rattle.il_machine.specs.Acts.{Act, Reply}
use Rattle.il_machine.specs.Acts as acts
use Rattle.act_text.specs.declared.reply.TextReply.{TextReply}
use Rattle.act_text.specs.declared.reply.TextReply.TheVariants as texts
use Rattle.play_log.specs.Entries.{Entry, is_unprinted, printed}
use Rattle.play_log.specs.Lines.{LogLine, IsLogLine, is_left_out, lines_of}
use Rattle.play_log.specs.Logged.{AllSay, AreLinesOf}
use Rattle.play_log.specs.Saying.{Says, SaysReply, SaysFinished, SaysGranted, SaysVictim, claimed, did, or_error, reply_said, supplied, took}
use Rattle.play_log.specs.Scenes.{Scene}

-- ---- the reply of an entry that has a text is one that has a line

-- a text, where there is one, is one that has a line
abbrev IsShown : Option TextReply → Type 0
IsShown None = Unit {0}
IsShown (Some said) = is_left_out said ≡ false

shown_did : (answer : ActAnswer) → IsShown (did answer)
shown_did acted.Did = refl
shown_did (acted.Idle why) = tt

shown_supplied : (result : Result ActAnswer CallError) → IsShown (supplied result)
shown_supplied (Ok answer) = shown_did answer
shown_supplied (Err (Omx error)) = refl
shown_supplied (Err OutOfMemory) = tt

shown_took : (taking : Taking) → IsShown (took taking)
shown_took (TookNote (TakenEvent event)) = refl
shown_took (TookNote _) = tt
shown_took _ = tt

shown_claimed : (answer : ClaimAnswer) → IsShown (claimed answer)
shown_claimed (ClaimedWork work) = refl
shown_claimed _ = tt

shown_or_error : {T : Type 0} (reply : T → Option TextReply) (result : Result T OmxError) → ((x : T) → IsShown (reply x)) → IsShown (or_error reply result)
shown_or_error reply (Ok x) k = k x
shown_or_error reply (Err error) k = refl

shown_reply : (r : Reply) → IsShown (reply_said r)
shown_reply (acts.Removed result) = shown_or_error _ result (λ x. refl)
shown_reply (acts.Plain result) = shown_or_error _ result (λ x. refl)
shown_reply (acts.Stated result) = shown_or_error _ result (λ x. refl)
shown_reply (acts.Viewed result) = shown_or_error _ result (λ x. refl)
shown_reply (acts.Joined result) = shown_or_error _ result (λ x. refl)
shown_reply (acts.Acted result) = shown_or_error did result shown_did
shown_reply (acts.Supplied result) = shown_supplied result
shown_reply (acts.Took result) = shown_or_error took result shown_took
shown_reply (acts.Claimed result) = shown_or_error claimed result shown_claimed
shown_reply acts.Ended = refl
shown_reply _ = tt

by_text : (said : TextReply) (o : Option TextReply) → IsShown o → o ≡ Some said → is_left_out said ≡ false
by_text said o k e = subst IsShown e k

shown_finished : (said : TextReply) (a : Act) → SaysFinished said a → is_left_out said ≡ false
shown_finished said (acts.Finish done) e = rw e refl
shown_finished said _ e = absurd e

shown_granted : (s : Scene) (said : TextReply) (answer : GrantAnswer) → SaysGranted s said answer → is_left_out said ≡ false
shown_granted s (texts.Granted component) answer x = refl
shown_granted s _ answer x = absurd x

shown_victim : (s : Scene) (said : TextReply) (answer : PreemptAnswer) → SaysVictim s said answer → is_left_out said ≡ false
shown_victim s (texts.Victim component) answer x = refl
shown_victim s _ answer x = absurd x

shown : (s : Scene) (said : TextReply) (a : Act) (r : Reply) → SaysReply s said a r → is_left_out said ≡ false
shown s said a acts.Finished x = shown_finished said a x
shown s said a (acts.Granted answer) x = shown_granted s said answer x
shown s said a (acts.Preempted answer) x = shown_victim s said answer x
shown s said a (acts.Got result) x = by_text said _ (shown_reply (acts.Got result)) x
shown s said a (acts.Removed result) x = by_text said _ (shown_reply (acts.Removed result)) x
shown s said a (acts.Plain result) x = by_text said _ (shown_reply (acts.Plain result)) x
shown s said a (acts.Stated result) x = by_text said _ (shown_reply (acts.Stated result)) x
shown s said a (acts.Viewed result) x = by_text said _ (shown_reply (acts.Viewed result)) x
shown s said a (acts.Progressed result) x = by_text said _ (shown_reply (acts.Progressed result)) x
shown s said a (acts.Parameter result) x = by_text said _ (shown_reply (acts.Parameter result)) x
shown s said a (acts.Joined result) x = by_text said _ (shown_reply (acts.Joined result)) x
shown s said a (acts.Acted result) x = by_text said _ (shown_reply (acts.Acted result)) x
shown s said a (acts.Allocated result) x = by_text said _ (shown_reply (acts.Allocated result)) x
shown s said a (acts.Used result) x = by_text said _ (shown_reply (acts.Used result)) x
shown s said a (acts.Freed result) x = by_text said _ (shown_reply (acts.Freed result)) x
shown s said a (acts.Took result) x = by_text said _ (shown_reply (acts.Took result)) x
shown s said a acts.Ended x = by_text said _ (shown_reply acts.Ended) x
shown s said a (acts.Supplied result) x = by_text said _ (shown_reply (acts.Supplied result)) x
shown s said a (acts.Claimed result) x = by_text said _ (shown_reply (acts.Claimed result)) x

-- ---- one entry more

say_more : (s : Scene) (lines : List LogLine) (line : LogLine) (entries : List Entry) (entry : Entry) → AllSay s lines entries → Says s line entry → AllSay s (lines ++ line ∷ []) (entries ++ entry ∷ [])
say_more s [] line [] entry a x = (x, tt)
say_more s [] line (e ∷ es) entry a x = absurd a
say_more s (l ∷ ls) line [] entry a x = absurd a
say_more s (l ∷ ls) line (e ∷ es) entry a x = (a.0, say_more s ls line es entry a.1 x)

printed_more : (history : List Entry) (entry : Entry) → printed (history ++ entry ∷ []) ≡ printed history ++ printed (entry ∷ [])
printed_more history entry = filter-append (λ (e : Entry). not (is_unprinted e.reply)) history (entry ∷ [])

pub one_more : (s : Scene) (history : List Entry) (lines : List LogLine) (line : LogLine) (entry : Entry) → AreLinesOf s history lines → IsLogLine line → Says s line entry → is_unprinted entry.reply ≡ false
    → AreLinesOf s (history ++ entry ∷ []) (lines ++ lines_of line.pass line.said)
one_more s history lines line entry A L x p =
    let text : is_left_out (line.said).reply ≡ false = shown s (line.said).reply entry.act entry.reply x.reply in
    let one : printed (entry ∷ []) ≡ entry ∷ [] = rw p refl in
    let entries : printed (history ++ entry ∷ []) ≡ printed history ++ entry ∷ [] = printed_more history entry ∙ ap (λ (l : List Entry). printed history ++ l) one in
    let here : lines_of line.pass line.said ≡ line ∷ [] = rw text refl in
    let whole : AreLinesOf s (history ++ entry ∷ []) (lines ++ line ∷ []) = record {
      canonical = All-append IsLogLine lines (line ∷ []) A.canonical (All-cons IsLogLine line [] L (All-nil IsLogLine));
      say = subst (λ (es : List Entry). AllSay s (lines ++ line ∷ []) es) (sym entries) (say_more s lines line (printed history) entry A.say x);
    } in
    subst (λ (ls : List LogLine). AreLinesOf s (history ++ entry ∷ []) (lines ++ ls)) (sym here) whole

pub none_more : (s : Scene) (history : List Entry) (lines : List LogLine) (entry : Entry) → AreLinesOf s history lines → is_unprinted entry.reply ≡ true → AreLinesOf s (history ++ entry ∷ []) lines
none_more s history lines entry A u =
    let none : printed (entry ∷ []) ≡ [] = rw u refl in
    let entries : printed (history ++ entry ∷ []) ≡ printed history =
    printed_more history entry ∙ ap (λ (l : List Entry). printed history ++ l) none ∙ append-nil (printed history) in
    record { canonical = A.canonical; say = subst (λ (es : List Entry). AllSay s lines es) (sym entries) A.say }

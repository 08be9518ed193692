-- What a log has of a history: the entries that it leaves out tell nothing and request nothing.
use Rattle.std.proofs.Common.{◌≡◌, ℕ, Bool, true, false, not, List, [], ◌∷◌, ◌++◌, None, is_some, Ok, Err, refl, sym, ◌∙◌, ap, subst, append-nil}
use Rattle.std.specs.Prelude.{All, cond}
use Rattle.std.proofs.lemmas.List.{map-append}
use Rattle.std.proofs.lemmas.List.Elements.{All-cons, All-head, All-nil, All-tail}
use Rattle.omx_types.specs.declared.command.Note.{Note}
use Rattle.omx_types.specs.declared.handle.Handle.{Handle}
use Rattle.il_machine.specs.declared.answer.Acted.TheVariants as acted
use Rattle.il_machine.specs.declared.answer.Progress.{Progress}
use Rattle.il_machine.specs.Acts.{Act, Reply}
use Rattle.il_machine.specs.Acts as acts
use Rattle.il_machine.specs.Claims.{ClaimedWork}
use Rattle.il_machine.specs.Components.{no_progress}
use Rattle.il_machine.specs.Notes.{TookBusy, TookNone, TookNote}
use Rattle.il_machine.specs.Run.{Run, Step}
use Rattle.il_machine.specs.World.{World}
use Rattle.machine_laws.proofs.Finding.{either}
use Rattle.history_laws.specs.Given.{note_for}
use Rattle.history_laws.specs.GivenIn.{given_in, note_list}
use Rattle.play_build_laws.specs.Assembly.{Assembly, component_at}
use Rattle.play_world_laws.specs.Telling.{progress_by}
use Rattle.play_log.specs.Entries.{Entry, is_unprinted, printed, step_of, steps_of}
use Rattle.play_result_laws.specs.Asked.{Asking, BackToIdle, Disabling, Enabling, HasCause, IsConducted, IsDone, Retuning, ToExecuting, ToIdle, ToLoaded, asked, is_unasked, told_by}
use Rattle.play_history_laws.specs.Passes.{AreUnrefused, HaveLines}
use Rattle.play_history_laws.specs.Refused.{is_refused}
use Rattle.play_history_laws.specs.Requests.{AreRequested, is_request, is_request_act, requests}
use Rattle.play_history_laws.proofs.Conducted.{AreAll, asked_too, requested_all}
use Rattle.play_result_laws.proofs.ListFronts.{all_before, all_behind, kept_at, kept_cut, none_there}

-- ---- what was told

no_note : (n : ℕ) (a : Act) (r : Reply) → is_unprinted r ≡ true → note_for n a r ≡ None
no_note n (acts.TakeNote h) (acts.Took (Ok (TookNote taken))) u = absurd cc
no_note n _ _ u = refl

given_printed : (n : ℕ) (entries : List Entry) → given_in n (steps_of (printed entries)) ≡ given_in n (steps_of entries)
given_printed n [] = refl
given_printed n (e ∷ entries) =
    let r = given_printed n entries in
    either (is_unprinted e.reply)
    (λ u.
    let none : note_list (note_for n e.act e.reply) ≡ [] = ap note_list (no_note n e.act e.reply u) in
    ap (λ (b : Bool). given_in n (steps_of (cond (not b) (e ∷ printed entries) (printed entries)))) u ∙ (r ∙ ap (λ (ns : List Note). ns ++ given_in n (steps_of entries)) (sym none)))
    (λ f.
    ap (λ (b : Bool). given_in n (steps_of (cond (not b) (e ∷ printed entries) (printed entries)))) f ∙ ap (λ (ns : List Note). note_list (note_for n e.act e.reply) ++ ns) r)

pub told_printed : (place : ℕ) (entries : List Entry) → told_by place (steps_of (printed entries)) ≡ told_by place (steps_of entries)
told_printed place entries = ap (λ (ns : List Note). progress_by ns no_progress) (given_printed place entries)

-- what was told alone says whether an asking is done, and whether it has its cause
abbrev TellAlike : List (Act × Reply) → List (Act × Reply) → Type 0
TellAlike xs ys = (place : ℕ) → told_by place xs ≡ told_by place ys

done_alike : (s : Assembly) (one : Asking) (xs ys : List (Act × Reply)) → TellAlike xs ys → IsDone s one xs → IsDone s one ys
done_alike s ToIdle xs ys T D = λ place b. ap (λ (h : Progress). h.state) (sym (T place)) ∙ D place b
done_alike s ToExecuting xs ys T D = λ place b. ap (λ (h : Progress). h.state) (sym (T place)) ∙ D place b
done_alike s BackToIdle xs ys T D = λ place b. ap (λ (h : Progress). h.state) (sym (T place)) ∙ D place b
done_alike s ToLoaded xs ys T D = λ place b. ap (λ (h : Progress). h.state) (sym (T place)) ∙ D place b
done_alike s (Disabling l) xs ys T D = λ side. ap (λ (h : Progress). h.port) (sym (T (component_at s side l))) ∙ D side
done_alike s (Retuning l) xs ys T D = tt
done_alike s (Enabling l) xs ys T D = λ side. ap (λ (h : Progress). h.port) (sym (T (component_at s side l))) ∙ D side

cause_alike : (s : Assembly) (next : Asking) (xs ys : List (Act × Reply)) → TellAlike xs ys → HasCause s next xs → HasCause s next ys
cause_alike s (Disabling l) xs ys T C = ap (λ (h : Progress). is_some h.settings) (sym (T (component_at s false l))) ∙ C
cause_alike s BackToIdle xs ys T C = λ place b t. ap (λ (h : Progress). h.eos) (sym (T place)) ∙ C place b t
cause_alike s ToIdle xs ys T C = tt
cause_alike s ToExecuting xs ys T C = tt
cause_alike s ToLoaded xs ys T C = tt
cause_alike s (Retuning l) xs ys T C = tt
cause_alike s (Enabling l) xs ys T C = tt

-- ---- what was requested

-- the entries before a step, and behind it
record IsCut (entries : List Entry) (before : List (Act × Reply)) (step : Act × Reply) : Type 0 where
  front : List Entry
  entry : Entry
  rest : List Entry
  is : entries ≡ front ++ entry ∷ rest
  before_is : steps_of front ≡ before
  step_is : step_of entry ≡ step

cut_steps : (entries : List Entry) (before after : List (Act × Reply)) (step : Act × Reply) → steps_of entries ≡ before ++ step ∷ after → IsCut entries before step
cut_steps [] before after step e = absurd (none_there before after step e)
cut_steps (one ∷ entries) [] after step e = let is : step_of one ≡ step = cc in record { front = []; entry = one; rest = entries; is = refl; before_is = refl; step_is = is }
cut_steps (one ∷ entries) (b ∷ before) after step e =
    let is : step_of one ≡ b = cc in
    let C = cut_steps entries before after step (let f : steps_of entries ≡ before ++ step ∷ after = cc in f) in
    record { front = one ∷ C.front; entry = C.entry; rest = C.rest; is = λ j. one ∷ C.is j; before_is = λ j. is j ∷ C.before_is j; step_is = C.step_is }

abbrev has_line : Entry → Bool
has_line entry = not (is_unprinted entry.reply)

abbrev IsLined : Entry → Type 0
IsLined entry = is_request (step_of entry) ≡ true → is_unprinted entry.reply ≡ false

requests_printed : (entries : List Entry) → HaveLines entries → requests (steps_of (printed entries)) ≡ requests (steps_of entries)
requests_printed [] L = refl
requests_printed (e ∷ entries) L =
    let r = requests_printed entries (All-tail IsLined e entries L) in
    let its = All-head IsLined e entries L in
    either (is_unprinted e.reply)
    (λ u.
    let none : is_request (step_of e) ≡ false = either (is_request (step_of e)) (λ t. let z : true ≡ false = sym u ∙ its t in absurd cc) (λ f. f) in
    ap (λ (b : Bool). requests (steps_of (cond (not b) (e ∷ printed entries) (printed entries)))) u ∙ (r ∙ ap (λ (b : Bool). cond b (step_of e ∷ requests (steps_of entries)) (requests (steps_of entries))) (sym none)))
    (λ f.
    ap (λ (b : Bool). requests (steps_of (cond (not b) (e ∷ printed entries) (printed entries)))) f ∙ ap (λ (ys : List (Act × Reply)). cond (is_request (step_of e)) (step_of e ∷ ys) ys) r)

-- ---- what was done

abbrev DidSomething : Act × Reply → Type 0
DidSomething step = is_request step ≡ false → is_unasked step.0 step.1 ≡ true

abbrev IsUnrefused : Entry → Type 0
IsUnrefused entry = is_request (step_of entry) ≡ false → is_refused entry.reply ≡ false

pub did : (w v : World) (a : Act) (r : Reply) → Step w a r v → is_unprinted r ≡ false → is_refused r ≡ false → is_request_act a ≡ false → is_unasked a r ≡ true
did w v (acts.RunCommand h) (acts.Acted (Ok acted.Did)) s p u n = refl
did w v (acts.RunCommand h) (acts.Acted (Ok (acted.Idle why))) s p u n = absurd cc
did w v (acts.RunCommand h) (acts.Acted (Err e)) s p u n = absurd cc
did w v (acts.RunCommand h) _ s p u n = absurd s
did w v (acts.Claim h) (acts.Claimed (Ok (ClaimedWork work))) s p u n = refl
did w v (acts.Claim h) (acts.Claimed (Ok other)) s p u n = absurd cc
did w v (acts.Claim h) (acts.Claimed (Err e)) s p u n = absurd cc
did w v (acts.Claim h) _ s p u n = absurd s
did w v (acts.Finish done) acts.Finished s p u n = refl
did w v (acts.Finish done) _ s p u n = absurd s
did w v (acts.Supply h port) (acts.Supplied (Ok acted.Did)) s p u n = refl
did w v (acts.Supply h port) (acts.Supplied (Ok (acted.Idle why))) s p u n = absurd cc
did w v (acts.Supply h port) (acts.Supplied (Err e)) s p u n = absurd cc
did w v (acts.Supply h port) _ s p u n = absurd s
did w v (acts.Release h port) (acts.Acted (Ok acted.Did)) s p u n = refl
did w v (acts.Release h port) (acts.Acted (Ok (acted.Idle why))) s p u n = absurd cc
did w v (acts.Release h port) (acts.Acted (Err e)) s p u n = absurd cc
did w v (acts.Release h port) _ s p u n = absurd s
did w v (acts.HandOver h port) (acts.Acted (Ok acted.Did)) s p u n = refl
did w v (acts.HandOver h port) (acts.Acted (Ok (acted.Idle why))) s p u n = absurd cc
did w v (acts.HandOver h port) (acts.Acted (Err e)) s p u n = absurd cc
did w v (acts.HandOver h port) _ s p u n = absurd s
did w v (acts.HandBack h port) (acts.Acted (Ok acted.Did)) s p u n = refl
did w v (acts.HandBack h port) (acts.Acted (Ok (acted.Idle why))) s p u n = absurd cc
did w v (acts.HandBack h port) (acts.Acted (Err e)) s p u n = absurd cc
did w v (acts.HandBack h port) _ s p u n = absurd s
did w v (acts.TakeNote h) (acts.Took (Ok (TookNote taken))) s p u n = refl
did w v (acts.TakeNote h) (acts.Took (Ok TookNone)) s p u n = absurd cc
did w v (acts.TakeNote h) (acts.Took (Ok TookBusy)) s p u n = absurd cc
did w v (acts.TakeNote h) (acts.Took (Err e)) s p u n = absurd cc
did w v (acts.TakeNote h) _ s p u n = absurd s
did w v (acts.EndNote h progress) acts.Ended s p u n = refl
did w v (acts.EndNote h progress) _ s p u n = absurd s
did w v (acts.Progress h) (acts.Progressed result) s p u n = absurd cc
did w v (acts.Progress h) _ s p u n = absurd s
did w v _ r s p u n = absurd cc

printed_did : (entries : List Entry) (w v : World) → Run w (steps_of entries) v → AreUnrefused entries → All DidSomething (steps_of (printed entries))
printed_did [] w v r U = All-nil DidSomething
printed_did (e ∷ entries) w v (mid, meets, step, rest) U =
    let A = printed_did entries mid v rest (All-tail IsUnrefused e entries U) in
    let its = All-head IsUnrefused e entries U in
    either (is_unprinted e.reply)
    (λ u. subst (λ (b : Bool). All DidSomething (steps_of (cond (not b) (e ∷ printed entries) (printed entries)))) (sym u) A)
    (λ f.
    subst (λ (b : Bool). All DidSomething (steps_of (cond (not b) (e ∷ printed entries) (printed entries)))) (sym f)
    (All-cons DidSomething (step_of e) (steps_of (printed entries)) (λ n. did w mid e.act e.reply step f (its n) n) A))

module _ (s : Assembly) (handles : List Handle) where
  -- ---- the printed steps

  pub printed_requested : (links : List ℕ) (left : List (Act × Reply)) (entries : List Entry) → HaveLines entries → AreRequested s handles links left (steps_of entries) → AreRequested s handles links left (steps_of (printed entries))
  printed_requested links left entries L R = record {
    late = R.late;
    made = ap (λ (ys : List (Act × Reply)). ys ++ left) (requests_printed entries L) ∙ R.made;
    timely = λ number one next before after step a b e t h.
        let C = cut_steps (printed entries) before after step e in
        let F = kept_cut has_line entries C.front C.rest C.entry C.is in
        let front_lines : HaveLines F.0 = all_before IsLined F.0 (C.entry ∷ F.1) (subst (λ (es : List Entry). HaveLines es) F.2 L) in
        let same : steps_of (printed F.0) ≡ before = ap steps_of F.3 ∙ C.before_is in
        let D = R.timely number one next (steps_of F.0) (steps_of F.1) (step_of C.entry) a b (ap steps_of F.2 ∙ map-append step_of F.0 (C.entry ∷ F.1)) (ap is_request C.step_is ∙ t)
        (sym (requests_printed F.0 front_lines) ∙ (ap requests same ∙ h)) in
        let alike : TellAlike (steps_of F.0) before = λ place. sym (told_printed place F.0) ∙ ap (told_by place) same in
        (done_alike s one (steps_of F.0) before alike D.0, cause_alike s next (steps_of F.0) before alike D.1);
  }

  -- ---- and back

  pub whole_requested : (links : List ℕ) (left : List (Act × Reply)) (entries : List Entry) → HaveLines entries → AreRequested s handles links left (steps_of (printed entries)) → AreRequested s handles links left (steps_of entries)
  whole_requested links left entries L R = record {
    late = R.late;
    made = ap (λ (ys : List (Act × Reply)). ys ++ left) (sym (requests_printed entries L)) ∙ R.made;
    timely = λ number one next before after step a b e t h.
        let C = cut_steps entries before after step e in
        let M : HaveLines (C.front ++ C.entry ∷ C.rest) = subst (λ (es : List Entry). HaveLines es) C.is L in
        let front_lines : HaveLines C.front = all_before IsLined C.front (C.entry ∷ C.rest) M in
        let asked_here : is_request (step_of C.entry) ≡ true = ap is_request C.step_is ∙ t in
        let line : has_line C.entry ≡ true = ap (λ (b : Bool). not b) (All-head IsLined C.entry C.rest (all_behind IsLined C.front (C.entry ∷ C.rest) M) asked_here) in
        let kept : printed entries ≡ printed C.front ++ C.entry ∷ printed C.rest = ap printed C.is ∙ kept_at has_line C.front C.rest C.entry line in
        let D = R.timely number one next (steps_of (printed C.front)) (steps_of (printed C.rest)) (step_of C.entry) a b (ap steps_of kept ∙ map-append step_of (printed C.front) (C.entry ∷ printed C.rest)) asked_here
        (requests_printed C.front front_lines ∙ (ap requests C.before_is ∙ h)) in
        let alike : TellAlike (steps_of (printed C.front)) before = λ place. told_printed place C.front ∙ ap (told_by place) C.before_is in
        (done_alike s one (steps_of (printed C.front)) before alike D.0, cause_alike s next (steps_of (printed C.front)) before alike D.1);
  }

  -- ---- and conducted, where all else did something

  asked_is : (xs : List (Act × Reply)) → All DidSomething xs → asked xs ≡ requests xs
  asked_is [] U = refl
  asked_is (x ∷ xs) U =
      let r = asked_is xs (All-tail DidSomething x xs U) in
      let its = All-head DidSomething x xs U in
      either (is_request x)
      (λ t.
      ap (λ (b : Bool). cond b (x ∷ asked xs) (asked xs)) (asked_too x t) ∙ (ap (λ (ys : List (Act × Reply)). x ∷ ys) r ∙ ap (λ (b : Bool). cond b (x ∷ requests xs) (requests xs)) (sym t)))
      (λ f.
      ap (λ (b : Bool). cond (not b) (x ∷ asked xs) (asked xs)) (its f) ∙ (r ∙ ap (λ (b : Bool). cond b (x ∷ requests xs) (requests xs)) (sym f)))

  conducted_so : (links : List ℕ) (xs : List (Act × Reply)) → All DidSomething xs → AreRequested s handles links [] xs → IsConducted s handles xs
  conducted_so links xs U R = record {
    links = links;
    late = R.late;
    whole = asked_is xs U ∙ (sym (append-nil (requests xs)) ∙ R.made);
    timely = λ number one next before after step a b e t h.
        let V : All DidSomething (before ++ step ∷ after) = subst (λ (ys : List (Act × Reply)). All DidSomething ys) e U in
        let its = All-head DidSomething step after (all_behind DidSomething before (step ∷ after) V) in
        let requested : is_request step ≡ true = either (is_request step) (λ r. r) (λ f. let z : not true ≡ true = ap (λ (b : Bool). not b) (sym (its f)) ∙ t in absurd cc) in
        R.timely number one next before after step a b e requested (sym (asked_is before (all_before DidSomething before (step ∷ after) V)) ∙ h);
  }

  lines_of_all : (entries : List Entry) → AreAll (requests (steps_of entries)) → HaveLines entries
  lines_of_all [] A = All-nil IsLined
  lines_of_all (e ∷ entries) A = either (is_request (step_of e))
      (λ t.
      let B : AreAll (step_of e ∷ requests (steps_of entries)) = subst (λ (b : Bool). AreAll (cond b (step_of e ∷ requests (steps_of entries)) (requests (steps_of entries)))) t A in
      All-cons IsLined e entries (λ _. B.1) (lines_of_all entries B.2))
      (λ f.
      let B : AreAll (requests (steps_of entries)) = subst (λ (b : Bool). AreAll (cond b (step_of e ∷ requests (steps_of entries)) (requests (steps_of entries)))) f A in
      All-cons IsLined e entries (λ t. let z : true ≡ false = sym t ∙ f in absurd cc) (lines_of_all entries B))

  pub printed_conducted : (links : List ℕ) (entries : List Entry) (w v : World) → AreRequested s handles links [] (steps_of entries) → Run w (steps_of entries) v → AreUnrefused entries → IsConducted s handles (steps_of (printed entries))
  printed_conducted links entries w v R r U =
      conducted_so links (steps_of (printed entries)) (printed_did entries w v r U)
      (printed_requested links [] entries (lines_of_all entries (requested_all s handles links [] (steps_of entries) R)) R)

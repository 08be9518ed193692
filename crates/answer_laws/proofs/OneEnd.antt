-- The acts of a run with their answers lead to one world.
use Rattle.std.proofs.Common.{◌≡◌, List, [], ◌∷◌, Option, Some, None, Ok, Err, map, refl, sym, ◌∙◌, ap, subst}
use Rattle.omx_types.specs.declared.handle.Handle.{Handle}
use Rattle.omx_types.specs.declared.error.OmxError.{OmxError}
use Rattle.omx_types.specs.declared.error.CallError.TheVariants.{OutOfMemory}
use Rattle.il_machine.specs.World.{Component, World, is_at}
use Rattle.il_machine.specs.Answers.{AnswersOrMemory}
use Rattle.il_machine.specs.Components.{get_handle_refusal}
use Rattle.il_machine.specs.Look.{look}
use Rattle.il_machine.specs.Acts.{Act, Reply}
use Rattle.il_machine.specs.Acts as acts
use Rattle.il_machine.specs.Run.{Run, Step}
use Rattle.machine_laws.proofs.Finding.{either}
use Rattle.history_laws.specs.Determined.{AreAlike, Equal, FirstWants, GotBoth, SecondWants, WantsMemory, reseated, with_slot}
use Rattle.history_laws.proofs.DeterminedLaw.{steps_alike}
use Rattle.history_laws.proofs.Naming.{handle_is}

-- ---- want of memory leaves the world as it was

memory_stays : (w v : World) (refusal : Option OmxError) (Accepted : Handle → Type 0) → AnswersOrMemory refusal (Err OutOfMemory) w v Accepted → v ≡ w
memory_stays w v None Accepted h = h.1
memory_stays w v (Some error) Accepted h = h.1

asked_stays : (w : World) (a : Act) (v : World) → Step w a (acts.Got (Err OutOfMemory)) v → v ≡ w
asked_stays w (acts.GetHandle name) v step = memory_stays w v (get_handle_refusal (look w) name) _ step
asked_stays w _ v step = absurd step

wants_stays : (w : World) (a : Act) (r : Reply) (v : World) → Step w a r v → WantsMemory r → v ≡ w
wants_stays w a (acts.Got (Err OutOfMemory)) v step wants = asked_stays w a v step
wants_stays w a _ v step wants = absurd wants

-- ---- the slot of a handle is its own

seat_same : (h : Handle) (c : Component) → reseated h h.slot c ≡ c
seat_same h c = either (is_at h c)
    (λ t.
    let slot : h.slot ≡ c.handle.slot = ap (λ (k : Handle). k.slot) (sym (handle_is c.handle h t)) in
    rw t (λ i. record c { handle = record { slot = slot i; generation = c.handle.generation } }))
    (λ f. rw f refl)

seats_same : (h : Handle) (cs : List Component) → map (reseated h h.slot) cs ≡ cs
seats_same h [] = refl
seats_same h (c ∷ cs) = ap (λ (x : Component). x ∷ map (reseated h h.slot) cs) (seat_same h c) ∙ ap (λ (l : List Component). c ∷ l) (seats_same h cs)

slot_same : (h : Handle) (w : World) → with_slot h h.slot w ≡ w
slot_same h w = let same = seats_same h w.components in λ i. record w { components = same i }

same_handles : (r : Reply) (h k : Handle) → r ≡ acts.Got (Ok h) → r ≡ acts.Got (Ok k) → k ≡ h
same_handles r h k e f = let both : acts.Got (Ok h) ≡ acts.Got (Ok k) = sym e ∙ f in cc

-- ---- one step, and all

one_after : (w : World) (a : Act) (r : Reply) (u v : World) → Step w a r u → Step w a r v → AreAlike w r u r v → v ≡ u
one_after w a r u v first second (Equal same is) = is
one_after w a r u v first second (FirstWants wants stays) = wants_stays w a r v second wants ∙ sym stays
one_after w a r u v first second (SecondWants wants stays) = stays ∙ sym (wants_stays w a r u first wants)
one_after w a r u v first second (GotBoth G) =
    let same : G.second ≡ G.first = same_handles r G.first G.second G.one G.other in
    G.worlds ∙ (ap (λ (k : Handle). with_slot G.first k.slot u) same ∙ slot_same G.first u)

pub one_end : (w u v : World) (xs : List (Act × Reply)) → Run w xs u → Run w xs v → v ≡ u
one_end w u v [] e f = f ∙ sym e
one_end w u v (x ∷ xs) (mid, M, h, more) (other, N, k, rest) =
    let same : other ≡ mid = one_after w x.0 x.1 mid other h k (steps_alike w x.0 x.1 mid x.1 other h k) in
    one_end mid u v xs more (subst (λ (m : World). Run m xs v) same rest)

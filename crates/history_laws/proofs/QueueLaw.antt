-- The queues of each step.
use Rattle.std.proofs.Common.{◌≡◌, ◌⊎◌, inl, inr, ℕ, zero, suc, ◌≤◌, List, [], ◌∷◌, ◌++◌, Some, None, refl, sym, ◌∙◌, ap, arith}
use Rattle.std.specs.Prelude.{IsSome}
use Rattle.std.proofs.lemmas.List.{append-nil}
use Rattle.omx_types.specs.declared.command.Event.TheVariants as events
use Rattle.omx_types.specs.declared.command.Note.{Note}
use Rattle.omx_types.specs.declared.command.Note.TheVariants.{Told}
use Rattle.il_machine.specs.World.{component_numbered, Component, World}
use Rattle.il_machine.specs.Acts.{Act, Reply}
use Rattle.il_machine.specs.Run.{Step, Meets}
use Rattle.il_machine.specs.Effect.{effect}
use Rattle.il_machine.specs.Due.{HappenTimes, ClosesTo}
use Rattle.il_machine.specs.Queued.{queued_for, notes_given, Queues, StepQueues}
use Rattle.il_machine.specs.Sound.{Sound}
use Rattle.machine_laws.proofs.Keys.{none_or_some}
use Rattle.history_laws.specs.Runs.{IsUnchanged}
use Rattle.history_laws.proofs.Named.{named, is_named, none_set, none_above}
use Rattle.history_laws.proofs.Growth.{none_in}
use Rattle.history_laws.proofs.Quiet.{gather}
use Rattle.history_laws.proofs.Births.{TellsNothing, none_queued}
use Rattle.history_laws.proofs.Closing.{happening_of}
use Rattle.history_laws.proofs.Queues.{advances_not, step_queues}
use Rattle.history_laws.proofs.Outcome.{Turn, turn, no_turn, Outcome, Nothing, Done}
use Rattle.history_laws.proofs.Steps.{step_comes}

-- a component that isn't there doesn't come
pub times_none : (n number : ℕ) (w v : World) → HappenTimes n w v → named number w.components ≡ None → named number v.components ≡ None
times_none zero number w v e h = rw e h
times_none (suc n) number w v (mid, before, last) h =
    let a = times_none n number w mid before h in
    let H = happening_of mid v last in
    rw H.components (none_set number last.place mid.components last.component H.component last.there (H.grows).number a)

pub some_named : (number : ℕ) (w : World) → IsSome (component_numbered number w) → (c : Component) × (named number w.components ≡ Some c)
some_named number w h = elim (none_or_some (named number w.components)) [
  | inl none ↦ let a : IsSome {T = Component} None = rw (is_named number w ∙ none) at h in absurd cc
  | inr some ↦ some
]

-- the component is there, or its number isn't given yet
abbrev pub IsThere : World → ℕ → Type 0
IsThere w number = ((c : Component) × (named number w.components ≡ Some c)) ⊎ (w.numbered ≤ number)

-- a component that is there after was there before
pub was_there : (n number : ℕ) (w v : World) (c : Component) → HappenTimes n w v → named number v.components ≡ Some c → (b : Component) × (named number w.components ≡ Some b)
was_there n number w v c h e = elim (none_or_some (named number w.components)) [
  | inl none ↦ let a = times_none n number w v h none in absurd cc
  | inr some ↦ some
]

same_queues : (number : ℕ) (w mid v : World) → v ≡ w → mid ≡ w → Queues w mid v number
same_queues number w mid v e m = record {
  early = [];
  acted = ap (queued_for number) m ∙ sym (append-nil (queued_for number w));
  silent = refl;
  added = [];
  grows = ap (queued_for number) (e ∙ sym m) ∙ sym (append-nil (queued_for number mid));
  due = λ x h. absurd (none_in x h);
  placed = λ front rest x k. absurd (empty_apart front rest (Told (events.CmdComplete x)) k);
}
  where
    empty_apart : (front rest : List Note) (note : Note) → [] ≡ front ++ note ∷ rest → ⊥
    empty_apart [] rest note k = cc
    empty_apart (y ∷ front) rest note k = cc

-- the component was there before, or its number is new
pub record Arises (w mid v : World) (number : ℕ) : Type 0 where
  pub from : IsThere w number
  pub queues : Queues w mid v number

done_arises : (w mid v : World) (number : ℕ) (d : Component) → TellsNothing w mid → ClosesTo mid v → named number mid.components ≡ Some d → Arises w mid v number
done_arises w mid v number d T C m = elim (none_or_some (named number w.components)) [
  | inl none ↦
      let b = (T.births).born number d m none in
      record { from = inr b.0; queues = step_queues number w mid v (advances_not (λ x. ⊥) number w mid d m b.1) C }
  | inr some ↦ record { from = inl some; queues = step_queues number w mid v (T.quiet number some.0 d some.1 m).0 C }
]

-- the world before the close-out, where nothing is changed
pub unchanged_after : (w : World) (t : Turn) → t ≡ no_turn w → t.after ≡ w
unchanged_after w t e = ap (λ (x : Turn). x.after) e

outcome_arises : (w v : World) (t : Turn) (number : ℕ) (d : Component) → Outcome w t v → named number v.components ≡ Some d → Arises w t.after v number
outcome_arises w v t number d (Nothing e m) is = record { from = inl (d, rw e at is); queues = same_queues number w t.after v e (unchanged_after w t m) }
outcome_arises w v t number d (Done C E) is =
    let m = was_there C.steps number t.after v d C.by_steps is in
    done_arises w t.after v number m.0 E.silent C m.1

pub arises : (w : World) (a : Act) (r : Reply) (v : World) (number : ℕ) (d : Component) → Sound w → Meets w a → Step w a r v → named number v.components ≡ Some d → Arises w (effect w a r) v number
arises w a r v number d S M h is = outcome_arises w v (turn w a r) number d (step_comes w a r v S M h) is

pub queues_of_steps : (w : World) (a : Act) (r : Reply) (v : World) → Sound w → Meets w a → Step w a r v → StepQueues w a r v
queues_of_steps w a r v S M h = λ number there.
    let d = some_named number v there in
    (arises w a r v number d.0 S M h d.1).queues

-- ---- the close-out begins with the act's effect

outcome_closes : (w v : World) (t : Turn) → Outcome w t v → IsUnchanged w t.after v ⊎ ClosesTo t.after v
outcome_closes w v t (Nothing e m) = inl (unchanged_after w t m, e)
outcome_closes w v t (Done C E) = inr C

pub effects_close : (w : World) (a : Act) (r : Reply) (v : World) → Sound w → Meets w a → Step w a r v → IsUnchanged w (effect w a r) v ⊎ ClosesTo (effect w a r) v
effects_close w a r v S M h = outcome_closes w v (turn w a r) (step_comes w a r v S M h)

-- ---- a number that isn't given yet

times_numbered : (n : ℕ) (w v : World) → HappenTimes n w v → v.numbered ≡ w.numbered
times_numbered zero w v e = ap (λ (x : World). x.numbered) e
times_numbered (suc n) w v (mid, before, last) = (happening_of mid v last).numbered ∙ times_numbered n w mid before

pub times_given : (n : ℕ) (w v : World) → HappenTimes n w v → v.given ≡ w.given
times_given zero w v e = ap (λ (x : World). x.given) e
times_given (suc n) w v (mid, before, last) = (happening_of mid v last).given ∙ times_given n w mid before

none_there : (w : World) (number : ℕ) → Sound w → w.numbered ≤ number → named number w.components ≡ None
none_there w number S l = none_above number 0 w.numbered w.components S.rising l

pub given_late : (w v : World) (t : Turn) (number : ℕ) → Outcome w t v → v.numbered ≤ number → (w.numbered ≤ number) × (notes_given number v ≡ notes_given number w)
given_late w v t number (Nothing e m) l = (rw e at l, ap (notes_given number) e)
given_late w v t number (Done C E) l =
    let mid = t.after in
    let n = times_numbered C.steps mid v C.by_steps in
    let g : notes_given number v ≡ notes_given number mid = ap (gather number) (times_given C.steps mid v C.by_steps) in
    let B = (E.silent).births in
    let below : mid.numbered ≤ number = omega (arith, n, l) in
    (omega (arith, B.numbered, below), g ∙ B.late number below)

-- nothing is queued for it
pub late_queue : (w : World) (a : Act) (r : Reply) (v : World) (number : ℕ) → Sound w → Sound v → Meets w a → Step w a r v → v.numbered ≤ number → (w.numbered ≤ number) × (queued_for number v ≡ queued_for number w)
late_queue w a r v number S Z M h l =
    let g = given_late w v (turn w a r) number (step_comes w a r v S M h) l in
    (g.0, none_queued number v (none_there v number Z l) ∙ (g.1 ∙ sym (none_queued number w (none_there w number S g.0))))

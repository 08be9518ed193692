-- The queues of a run.
use Rattle.std.proofs.Common.{◌≡◌, inl, inr, ℕ, ◌≤◌, List, [], ◌∷◌, ◌++◌, Some, None, refl, sym, ◌∙◌, ap, subst, append_assoc}
use Rattle.std.specs.Prelude.{IsSome, Contains}
use Rattle.std.proofs.lemmas.List.{append-nil}
use Rattle.omx_types.specs.declared.command.Completion.{Completion}
use Rattle.omx_types.specs.declared.command.Note.{Note}
use Rattle.il_machine.specs.World.{component_numbered, Component, World, no_world}
use Rattle.il_machine.specs.Acts.{Act, Reply}
use Rattle.il_machine.specs.Run.{Step, Meets, Run}
use Rattle.il_machine.specs.Effect.{effect}
use Rattle.il_machine.specs.Queued.{queued_for, notes_given, completions_in, WasDue, Queues}
use Rattle.il_machine.specs.Sound.{Sound}
use Rattle.machine_laws.proofs.Steps.{sound_step, sound_run_of, sound_none}
use Rattle.history_laws.specs.Runs.{IsStepOf, WasDueIn, RunQueues}
use Rattle.history_laws.proofs.Named.{named, is_named}
use Rattle.history_laws.proofs.Growth.{none_in, in_either, completions_append}
use Rattle.history_laws.proofs.Births.{none_queued}
use Rattle.history_laws.proofs.Outcome.{Turn, turn, Outcome, Nothing, Done}
use Rattle.history_laws.proofs.Steps.{step_comes}
use Rattle.history_laws.proofs.QueueLaw.{IsThere, was_there, given_late, arises, late_queue, some_named}

-- a step of the rest of a run is one of the run
abbrev later_step : (w mid v : World) (a : Act) (r : Reply) (xs : List (Act × Reply)) → Meets w a → Step w a r mid → IsStepOf mid xs v → IsStepOf w ((a, r) ∷ xs) v
later_step w mid v a r xs M h s = record {
  earlier = (a, r) ∷ s.earlier;
  act = s.act;
  reply = s.reply;
  later = s.later;
  before = s.before;
  after = s.after;
  parts = ap (λ (l : List (Act × Reply)). (a, r) ∷ l) s.parts;
  reached = (mid, M, h, s.reached);
  meets = s.meets;
  step = s.step;
  goes_on = s.goes_on;
}

abbrev first_step : (w mid v : World) (a : Act) (r : Reply) (xs : List (Act × Reply)) → Meets w a → Step w a r mid → Run mid xs v → IsStepOf w ((a, r) ∷ xs) v
first_step w mid v a r xs M h more = record {
  earlier = [];
  act = a;
  reply = r;
  later = xs;
  before = w;
  after = mid;
  parts = refl;
  reached = refl;
  meets = M;
  step = h;
  goes_on = more;
}

-- what is true of a component that is there at a run's end
record Lives (w : World) (xs : List (Act × Reply)) (v : World) (number : ℕ) : Type 0 where
  from : IsThere w number
  queues : RunQueues w xs v number

later_due : (w mid v : World) (a : Act) (r : Reply) (xs : List (Act × Reply)) (number : ℕ) (x : Completion) → Meets w a → Step w a r mid → WasDueIn mid xs v number x → WasDueIn w ((a, r) ∷ xs) v number x
later_due w mid v a r xs number x M h D = (later_step w mid v a r xs M h D.0, D.1)

-- all that a step adds
queues_grow : (w mid v : World) (number : ℕ) (Q : Queues w mid v number) → queued_for number v ≡ queued_for number w ++ (Q.early ++ Q.added)
queues_grow w mid v number Q = Q.grows ∙ (ap (λ (l : List Note). l ++ Q.added) Q.acted ∙ append_assoc (queued_for number w) Q.early Q.added)

queues_due : (w mid v : World) (number : ℕ) (Q : Queues w mid v number) (x : Completion) → Contains (completions_in (Q.early ++ Q.added)) x → WasDue mid v number x
queues_due w mid v number Q x c =
    let e : completions_in (Q.early ++ Q.added) ≡ completions_in Q.added = completions_append Q.early Q.added ∙ ap (λ (l : List Completion). l ++ completions_in Q.added) Q.silent in
    Q.due x (subst (λ (l : List Completion). Contains l x) e c)

-- the queue after one more step in front
both_queues : (w mid v : World) (a : Act) (r : Reply) (xs : List (Act × Reply)) (number : ℕ) → Meets w a → Step w a r mid → Run mid xs v → Queues w (effect w a r) mid number → RunQueues mid xs v number → RunQueues w ((a, r) ∷ xs) v number
both_queues w mid v a r xs number M h more A B =
    let first : List Note = A.early ++ A.added in
    record {
      added = first ++ B.added;
      grows = B.grows ∙ (ap (λ (l : List Note). l ++ B.added) (queues_grow w (effect w a r) mid number A) ∙ append_assoc (queued_for number w) first B.added);
      due = λ x c. in_either (WasDueIn w ((a, r) ∷ xs) v number) (completions_in first) (completions_in B.added)
          (λ y d. (first_step w mid v a r xs M h more, queues_due w (effect w a r) mid number A y d))
          (λ y d. later_due w mid v a r xs number y M h (B.due y d))
          x (subst (λ (l : List Completion). Contains l x) (completions_append first B.added) c);
    }

-- a step before the component was made
late_queues : (w mid v : World) (a : Act) (r : Reply) (xs : List (Act × Reply)) (number : ℕ) → Meets w a → Step w a r mid → queued_for number mid ≡ queued_for number w → RunQueues mid xs v number → RunQueues w ((a, r) ∷ xs) v number
late_queues w mid v a r xs number M h e B = record {
  added = B.added;
  grows = B.grows ∙ ap (λ (l : List Note). l ++ B.added) e;
  due = λ x c. later_due w mid v a r xs number x M h (B.due x c);
}

lives_before : (w mid v : World) (a : Act) (r : Reply) (xs : List (Act × Reply)) (number : ℕ) → Sound w → Sound mid → Meets w a → Step w a r mid → Run mid xs v → Lives mid xs v number → Lives w ((a, r) ∷ xs) v number
lives_before w mid v a r xs number S Z M h more L = elim L.from [
  | inl there ↦
      let A = arises w a r mid number there.0 S M h there.1 in
      record { from = A.from; queues = both_queues w mid v a r xs number M h more A.queues L.queues }
  | inr late ↦
      let q = late_queue w a r mid number S Z M h late in
      record { from = inr q.0; queues = late_queues w mid v a r xs number M h q.1 L.queues }
]

lives : (w v : World) (xs : List (Act × Reply)) (number : ℕ) (d : Component) → Sound w → Run w xs v → named number v.components ≡ Some d → Lives w xs v number
lives w v [] number d S e is = record {
  from = inl (d, rw e at is);
  queues = record { added = []; grows = ap (queued_for number) e ∙ sym (append-nil (queued_for number w)); due = λ x h. absurd (none_in x h) };
}
lives w v (x ∷ xs) number d S (mid, M, h, more) is =
    let Z = sound_step w mid x.0 x.1 M h S in
    lives_before w mid v x.0 x.1 xs number S Z M h more (lives mid v xs number d Z more is)

pub queues_of_runs : (w v : World) (xs : List (Act × Reply)) (number : ℕ) → Sound w → Run w xs v → IsSome (component_numbered number v) → RunQueues w xs v number
queues_of_runs w v xs number S h there = let d = some_named number v there in (lives w v xs number d.0 S h d.1).queues

-- from the world in which nothing was made
pub all_were_due : (key units : ℕ) (xs : List (Act × Reply)) (v : World) (number : ℕ) (x : Completion) → Run (no_world key units) xs v → IsSome (component_numbered number v) → Contains (completions_in (queued_for number v)) x → WasDueIn (no_world key units) xs v number x
all_were_due key units xs v number x h there c =
    let q = queues_of_runs (no_world key units) v xs number (sound_none key units) h there in
    let e : queued_for number v ≡ q.added = q.grows in
    q.due x (subst (λ (l : List Note). Contains (completions_in l) x) e c)

-- ---- a component that comes

-- nothing is given to a client of a number that isn't given yet
abbrev pub NoneGiven : World → Type 0
NoneGiven w = (number : ℕ) → w.numbered ≤ number → notes_given number w ≡ []

pub none_given : (w v : World) (xs : List (Act × Reply)) → Sound w → NoneGiven w → Run w xs v → NoneGiven v
none_given w v [] S N e = rw e N
none_given w v (x ∷ xs) S N (mid, M, h, more) =
    none_given mid v xs (sound_step w mid x.0 x.1 M h S) (λ number l.
    let g = given_late w mid (turn w x.0 x.1) number (step_comes w x.0 x.1 mid S M h) l in
    g.1 ∙ N number g.0) more

pub outcome_empty : (w v : World) (t : Turn) (number : ℕ) (d : Component) → NoneGiven w → Outcome w t v → named number w.components ≡ None → named number v.components ≡ Some d → queued_for number t.after ≡ []
outcome_empty w v t number d N (Nothing e m) none is = let a : named number w.components ≡ Some d = rw e at is in absurd cc
outcome_empty w v t number d N (Done C E) none is =
    let m = was_there C.steps number t.after v d C.by_steps is in
    let b = ((E.silent).births).born number m.0 m.1 none in
    b.1 ∙ (none_queued number w none ∙ N number b.0)

pub comes_empty : (key units : ℕ) (xs : List (Act × Reply)) (w : World) (a : Act) (r : Reply) (v : World) (number : ℕ) → Run (no_world key units) xs w → Meets w a → Step w a r v
    → component_numbered number w ≡ None → IsSome (component_numbered number v) → queued_for number (effect w a r) ≡ []
comes_empty key units xs w a r v number R M h none there =
    let S = sound_run_of (no_world key units) w xs R (sound_none key units) in
    let N = none_given (no_world key units) w xs (sound_none key units) (λ k l. refl) R in
    let d = some_named number v there in
    outcome_empty w v (turn w a r) number d.0 N (step_comes w a r v S M h) (sym (is_named number w) ∙ none) d.1

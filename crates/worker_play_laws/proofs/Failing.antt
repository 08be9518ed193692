-- Why a failed step is told, and of which components steps fail.
use Rattle.std.proofs.Common.{◌≡◌, inl, inr, ℕ, ◌<◌, true, All, List, [], ◌∷◌, length, slice_get, Option, Some, MatchOption, sym, ◌∙◌, ap, subst, arith}
use Rattle.std.proofs.lemmas.List.Elements.{All-head, All-tail}
use Rattle.std.proofs.lemmas.Option.{slice_get_within}
use Rattle.omx_types.specs.declared.fault.PartFault.{PartFault}
use Rattle.omx_types.specs.declared.fault.PartFault.TheVariants as parts
use Rattle.il_machine.specs.Acts.{Act, Reply}
use Rattle.il_machine.specs.Acts as acts
use Rattle.il_machine.specs.Run.{Meets, Run}
use Rattle.il_machine.specs.Sound.{Sound}
use Rattle.il_machine.specs.Stepping.{IsDoneOf, WorkDone}
use Rattle.il_machine.specs.World.{Component, World, component_numbered, number_of}
use Rattle.machine_laws.proofs.Keys.{there_is}
use Rattle.machine_laws.proofs.Steps.{sound_step}
use Rattle.history_laws.proofs.HeldOut.{placed_in}
use Rattle.history_laws.proofs.Named.{is_named, named, named_number}
use Rattle.play_forms.specs.Plans.{PlanValue}
use Rattle.play_plan_laws.specs.Assemblies.{PlayFiles}
use Rattle.play_files.specs.Seen.{FileSeen}
use Rattle.play_course.specs.declared.player.RunFault.{RunFault}
use Rattle.play_course.specs.declared.player.RunFault.TheVariants as runs
use Rattle.play_course.specs.Failing.{HasFailure, IsFailureOf, ShowsAt, TellsFirst}
use Rattle.play_course.specs.Running.{IsRunCause}
use Rattle.worker_play_laws.specs.Files.{is_steady}
use Rattle.worker_play_laws.specs.Leaving.{IsSteadyRun}
use Rattle.worker_play_laws.proofs.Posts.{Post, step_posts, was_there}

-- the file of one that failed is why
pub told_cause : (before after : List (Option FileSeen)) (steps : List (Act × Reply)) (fault : RunFault) → TellsFirst steps fault → ((place : ℕ) (why : PartFault) → HasFailure steps place why → ShowsAt before after place why) → IsRunCause before after fault
told_cause before after steps runs.OutOfMemory T shows = tt
told_cause before after steps runs.Read T shows = let (first, last, was, at, rose) = shows T.0 parts.Read T.1 in (T.0, first, last, was, at, rose)
told_cause before after steps runs.Write T shows = let (first, last, was, at, rose) = shows T.0.0 parts.Write T.0.1 in (T.0.0, first, last, was, at, rose)
told_cause before after steps (runs.Short place at size) T shows = shows place (parts.Short at size) T.0

-- ---- where a step fails

-- there is a component of the number
pub record IsNumbered (w : World) (number : ℕ) : Type 0 where
  pub i : ℕ
  pub component : Component
  pub there : slice_get w.components i ≡ Some component
  pub named : number_of component ≡ number

finish_fails : (w : World) (done : WorkDone) → Meets w (acts.Finish done) → IsNumbered w done.component
finish_fails w done M =
    let c = there_is (component_numbered done.component w) (λ (y : Component). MatchOption y.work ⊥ (λ work. IsDoneOf w y work done)) M in
    let n : named done.component w.components ≡ Some c.0 = sym (is_named done.component w) ∙ c.1 in
    let i = placed_in done.component w.components c.0 n in
    record { i = i.0; component = c.0; there = i.1; named = named_number done.component w.components c.0 n }

act_fails : (w : World) (a : Act) (place : ℕ) (why : PartFault) → Meets w a → IsFailureOf a place why → IsNumbered w place
act_fails w (acts.Finish done) place why M F = subst (IsNumbered w) F.0 (finish_fails w done M)
act_fails w a place why M F = absurd F

-- so it was where the run begins
run_fails : (w v : World) (steps : List (Act × Reply)) → Sound w → All (λ (step : Act × Reply). is_steady step.0 ≡ true) steps → Run w steps v → (place : ℕ) (why : PartFault) → HasFailure steps place why → IsNumbered w place
run_fails w v [] S A R place why F = absurd F
run_fails w v (step ∷ steps) S A (mid, M, s, rest) place why F = elim F [
  | inl here ↦ act_fails w step.0 place why M here
  | inr later ↦
      let L = run_fails mid v steps (sound_step w mid step.0 step.1 M s S) (All-tail (λ (y : Act × Reply). is_steady y.0 ≡ true) step steps A) rest place why later in
      let x = was_there w mid (step_posts w S mid step.0 step.1 (All-head (λ (y : Act × Reply). is_steady y.0 ≡ true) step steps A) M s) L.i L.component L.there in
      record { i = L.i; component = x.0; there = x.1; named = ap (λ (p : Post). p.number) x.2 ∙ L.named }
]

-- so a step that fails is one of a component of the plan
pub failed_below : (plan : PlanValue) (given : PlayFiles) (steps : List (Act × Reply)) (world : World) → IsSteadyRun plan given steps world → (place : ℕ) (why : PartFault) → HasFailure steps place why → place < length plan.parts
failed_below plan given steps world R place why failed =
    let stage = (R.opens).1 in
    let V = stage.built in
    let F = run_fails R.opening world steps stage.sound R.steady R.runs place why failed in
    let K = (V.components).each F.i F.component F.there in
    let is : F.i ≡ place = sym K.number ∙ F.named in
    let many : length (R.opening).components ≡ length plan.parts = V.many in
    let below = slice_get_within (R.opening).components F.i F.component F.there in
    omega arith

-- The steps that failed in the history of a play on one thread, and what of them is told.
use Rattle.std.proofs.Common.{◌≡◌, ℕ, ◌≤◌, List, [], ◌∷◌, ◌++◌, All, Some, Ok, inl, inr, refl, sym, ◌∙◌, subst, arith}
use Rattle.std.proofs.lemmas.List.Elements.{All-head, All-tail}
use Rattle.omx_types.specs.declared.fault.PartFault.{PartFault}
use Rattle.omx_types.specs.declared.fault.PartFault.TheVariants as parts
use Rattle.omx_types.specs.declared.handle.Handle.{Handle}
use Rattle.il_machine.specs.Acts.{Act, Reply}
use Rattle.il_machine.specs.Acts as acts
use Rattle.il_machine.specs.Claims.{Claim, ClaimedWork, WorkSeen}
use Rattle.il_machine.specs.Finishing.{Finish}
use Rattle.il_machine.specs.Run.{Meets, Run}
use Rattle.il_machine.specs.Stepping.{WorkDone}
use Rattle.il_machine.specs.World.{World}
use Rattle.history_laws.proofs.Joining.{run_joined}
use Rattle.play_log.specs.Entries.{Entry, steps_of}
use Rattle.play_course.specs.Failing.{HasFailure, IsShortBehind, TellsFirst, fault_at}
use Rattle.play_course.proofs.Failing.{unfailed}
use Rattle.play_run.specs.Recording.{HasNotFailed}

-- among whole entries none failed
pub none_whole : (entries : List Entry) (place : ℕ) (why : PartFault) → All HasNotFailed entries → HasFailure (steps_of entries) place why → ⊥
none_whole [] place why whole failed = absurd failed
none_whole (entry ∷ entries) place why whole failed = elim failed [
  | inl here ↦ unfailed entry.act place why (All-head HasNotFailed entry entries whole) here
  | inr later ↦ none_whole entries place why (All-tail HasNotFailed entry entries whole) later
]

failed_later : (xs ys : List (Act × Reply)) (place : ℕ) (why : PartFault) → HasFailure ys place why → HasFailure (xs ++ ys) place why
failed_later [] ys place why failed = failed
failed_later (x ∷ xs) ys place why failed = inr (failed_later xs ys place why failed)

failed_behind : (entries : List Entry) (ys : List (Act × Reply)) (place : ℕ) (why : PartFault) → All HasNotFailed entries → HasFailure (steps_of entries ++ ys) place why → HasFailure ys place why
failed_behind [] ys place why whole failed = failed
failed_behind (entry ∷ entries) ys place why whole failed = elim failed [
  | inl here ↦ absurd (unfailed entry.act place why (All-head HasNotFailed entry entries whole) here)
  | inr later ↦ failed_behind entries ys place why (All-tail HasNotFailed entry entries whole) later
]

-- ---- a claim, and the end of its step, which failed

module _ (opening w between v : World) (entries : List Entry) (h : Handle) (work : WorkSeen) (done : WorkDone) (place : ℕ) (fault : PartFault)
    (goes : Claim w h (Ok (ClaimedWork work)) between) (meets : Meets between (acts.Finish done)) (comes : Finish between done v)
    (runs : Run opening (steps_of entries) w) (whole : All HasNotFailed entries) (its : done.component ≡ place) (failed : done.fault ≡ Some fault) where
  abbrev ending : List (Act × Reply)
  ending = (acts.Claim h, acts.Claimed (Ok (ClaimedWork work))) ∷ (acts.Finish done, acts.Finished) ∷ []

  abbrev pub all_steps : List (Act × Reply)
  all_steps = steps_of entries ++ ending

  pub all_run : Run opening all_steps v
  all_run = run_joined opening w v (steps_of entries) ending runs (between, tt, goes, (v, meets, comes, refl))

  pub all_last : HasFailure all_steps place fault
  all_last = failed_later (steps_of entries) ending place fault (inr (inl (its, failed)))

  of_ending : (other : ℕ) (why : PartFault) → HasFailure ending other why → (other ≡ place) × (why ≡ fault)
  of_ending other why (inl claim) = absurd claim
  of_ending other why (inr (inl step)) =
      let s : Some why ≡ Some fault = sym step.1 ∙ failed in
      (sym step.0 ∙ its, cc)
  of_ending other why (inr (inr none)) = absurd none

  pub all_alone : (other : ℕ) (why : PartFault) → HasFailure all_steps other why → (other ≡ place) × (why ≡ fault)
  all_alone other why f = of_ending other why (failed_behind entries ending other why whole f)

-- ---- what is told

-- where one step failed it is told
pub tells_only : (steps : List (Act × Reply)) (place : ℕ) (fault : PartFault) → HasFailure steps place fault → ((other : ℕ) (why : PartFault) → HasFailure steps other why → (other ≡ place) × (why ≡ fault)) → TellsFirst steps (fault_at place fault)
tells_only steps place parts.Read failed alone = (place, failed)
tells_only steps place parts.Write failed alone = ((place, failed), λ other f. (let e : parts.Read ≡ parts.Write = (alone other parts.Read f).1 in absurd cc))
tells_only steps place (parts.Short at size) failed alone = (
  failed,
  λ other why f.
      let a = alone other why f in
      let same = a.0 in
      let behind : place ≤ other = omega arith in
      subst (λ (y : PartFault). IsShortBehind place other y) (sym a.1) behind,
)

-- The steps that failed in a history are those that failed in its run of the machine, and which of them is told is the same.
use Rattle.std.proofs.Common.{◌≡◌, inl, inr, ℕ, true, false, List, [], ◌∷◌, Option, Some, None, refl, sym, ap, subst, leb-true}
use Rattle.omx_types.specs.declared.fault.PartFault.{PartFault}
use Rattle.omx_types.specs.declared.fault.PartFault.TheVariants as parts
use Rattle.omx_types.specs.declared.handle.Handle.{Handle}
use Rattle.il_machine.specs.Acts as acts
use Rattle.turnstile.specs.declared.entry.Entry.{Entry}
use Rattle.graph_acts.specs.declared.act.Act.{Act}
use Rattle.graph_acts.specs.declared.act.Act.TheVariants as asks
use Rattle.graph_acts.specs.declared.act.Reply.{Reply}
use Rattle.graph_acts.specs.Plain.{Sight, Unsaid, plain_act}
use Rattle.board.specs.Asking.{ArePlain}
use Rattle.play_worker.specs.declared.failure.Failure.{Failure}
use Rattle.play_worker.specs.Failing.{HasFailed, TellsWorst, failed_by, failure_in, is_fault_first}
use Rattle.play_course.specs.Failing.{HasFailure, IsFailureOf, IsShortBehind, TellsFirst, fault_at}

-- ---- one step

abbrev its_fault : Handle → PartFault → Failure
its_fault component fault = record { component = component; fault = fault }

failed_as : (component : Handle) (fault : Option PartFault) (failure : Failure) → failed_by component fault ≡ Some failure → (component.generation ≡ (failure.component).generation) × (fault ≡ Some failure.fault)
failed_as component None failure e = absurd cc
failed_as component (Some fault) failure e =
    let is : its_fault component fault ≡ failure = cc in
    (ap (λ (f : Failure). (f.component).generation) is, ap (λ (f : Failure). Some f.fault) is)

module _ {S K C : Type 0} (see : Sight S K C) where
  act_failed : (u : Unsaid) (a : Act S K C) (failure : Failure) → failure_in a ≡ Some failure → IsFailureOf (plain_act see u a) (failure.component).generation failure.fault
  act_failed u (asks.Finish done) failure e = failed_as done.component done.fault failure e
  act_failed u _ failure e = absurd cc

  failure_of : (u : Unsaid) (a : Act S K C) (place : ℕ) (fault : PartFault) → IsFailureOf (plain_act see u a) place fault
      → (failure : Failure) × (failure_in a ≡ Some failure) × ((failure.component).generation ≡ place) × (failure.fault ≡ fault)
  failure_of u (asks.Finish done) place fault (here, failed) = (its_fault done.component fault, ap (failed_by done.component) failed, here, refl)
  failure_of u _ place fault none = absurd none

  -- ---- a history

  pub has_failure : (log : List (Entry (Act S K C) (Reply S K C))) (steps : List (acts.Act × acts.Reply)) → ArePlain see log steps → (failure : Failure) → HasFailed log failure → HasFailure steps (failure.component).generation failure.fault
  has_failure [] steps P failure h = absurd h
  has_failure (e ∷ log) [] P failure h = absurd P
  has_failure (e ∷ log) (x ∷ xs) P failure h = elim h [
    | inl here ↦ inl (subst (λ (y : acts.Act × acts.Reply). IsFailureOf y.0 (failure.component).generation failure.fault) (sym P.0.1) (act_failed P.0.0 e.act failure here))
    | inr later ↦ inr (has_failure log xs P.1 failure later)
  ]

  pub has_failed : (log : List (Entry (Act S K C) (Reply S K C))) (steps : List (acts.Act × acts.Reply)) → ArePlain see log steps → (place : ℕ) (fault : PartFault) → HasFailure steps place fault
      → (failure : Failure) × HasFailed log failure × ((failure.component).generation ≡ place) × (failure.fault ≡ fault)
  has_failed log [] P place fault h = absurd h
  has_failed [] (x ∷ xs) P place fault h = absurd P
  has_failed (e ∷ log) (x ∷ xs) P place fault h = elim h [
    | inl here ↦
        let f = failure_of P.0.0 e.act place fault (subst (λ (y : acts.Act × acts.Reply). IsFailureOf y.0 place fault) P.0.1 here) in
        (f.0, inl f.1, f.2, f.3)
    | inr later ↦ let f = has_failed log xs P.1 place fault later in (f.0, inr f.1, f.2, f.3)
  ]

-- ---- which is told

is_behind : (place other at size : ℕ) (why : PartFault) → is_fault_first place other (parts.Short at size) why ≡ true → IsShortBehind place other why
is_behind place other at size parts.Read first = absurd cc
is_behind place other at size parts.Write first = absurd cc
is_behind place other at size (parts.Short at' size') first = leb-true place other first

tells_so : (steps : List (acts.Act × acts.Reply)) (place : ℕ) (fault : PartFault) → HasFailure steps place fault → ((other : ℕ) (why : PartFault) → HasFailure steps other why → is_fault_first place other fault why ≡ true)
    → TellsFirst steps (fault_at place fault)
tells_so steps place parts.Read failed first = (place, failed)
tells_so steps place parts.Write failed first = ((place, failed), λ other h. (let e : false ≡ true = first other parts.Read h in absurd cc))
tells_so steps place (parts.Short at size) failed first = (failed, λ other why h. is_behind place other at size why (first other why h))

module _ {S K C : Type 0} (see : Sight S K C) (log : List (Entry (Act S K C) (Reply S K C))) (steps : List (acts.Act × acts.Reply)) (P : ArePlain see log steps) where
  pub tells_failure : (failure : Failure) → TellsWorst log (Some failure) → TellsFirst steps (fault_at (failure.component).generation failure.fault)
  tells_failure failure told =
      tells_so steps (failure.component).generation failure.fault (has_failure see log steps P failure told.0) (λ other why h.
      let f = has_failed see log steps P other why h in
      subst (λ (y : ℕ × PartFault). is_fault_first (failure.component).generation y.0 failure.fault y.1 ≡ true) (λ i. (f.2 i, f.3 i)) (told.1 f.0 f.1))

  pub tells_none : TellsWorst log None → (place : ℕ) (fault : PartFault) → HasFailure steps place fault → ⊥
  tells_none told place fault h = let f = has_failed see log steps P place fault h in told f.0 f.1

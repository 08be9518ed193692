-- What is told of the steps of a run that failed, and of the world that it left.
use Rattle.std.proofs.Common.{◌≡◌, ℕ, zero, suc, Bool, true, false, List, [], ◌∷◌, length, slice_get, take, Option, Some, None, Result, Ok, Err, inl, inr, refl, sym, ◌∙◌, ap, subst, arith}
use Rattle.std.proofs.lemmas.List.{take_all}
use Rattle.omx_types.specs.declared.fault.Fault.{Fault}
use Rattle.omx_types.specs.declared.fault.Fault.TheVariants as Faults
use Rattle.omx_types.specs.declared.fault.PartFault.{PartFault}
use Rattle.omx_types.specs.declared.fault.PartFault.TheVariants as kinds
use Rattle.omx_types.specs.declared.fault.Which.TheVariants.{Line}
use Rattle.outside_io.specs.declared.source.Failed.{Failed}
use Rattle.il_machine.specs.Acts.{Act, Reply}
use Rattle.il_machine.specs.Acts as acts
use Rattle.il_machine.specs.Stepping.{IsFrontOf}
use Rattle.il_machine.specs.World.{World}
use Rattle.script_lang.specs.declared.play_line.PartLine.{PartLine}
use Rattle.play_log.specs.Entries.{Entry, steps_of}
use Rattle.play_log.specs.Lines.{LogLine}
use Rattle.play_log.specs.Naming.{IsUnbroken, NameAll}
use Rattle.play_log.specs.Scenes.{Scene}
use Rattle.play_course.specs.declared.player.RunFault.{RunFault}
use Rattle.play_course.specs.declared.player.RunFault.TheVariants as runs
use Rattle.play_course.specs.declared.settling.Ran.{Ran}
use Rattle.play_course.specs.Failing.{HasFailure, IsFailureOf, TellsFirst}
use Rattle.play_course.specs.Outcomes.{TellsLeast}
use Rattle.play_course.specs.Settling.{line_in, settled}

-- ---- a run without a failed step

pub unfailed : (act : Act) (place : ℕ) (why : PartFault) → IsUnbroken act → IsFailureOf act place why → ⊥
unfailed (acts.Finish done) place why whole failed = let z : Some why ≡ None = sym failed.1 ∙ whole in absurd cc
unfailed act place why whole failed = absurd failed

-- entries that a log names have none
pub named_unfailed : (s : Scene) (w : World) (lines : List LogLine) (entries : List Entry) (v : World) → NameAll s w lines entries v → (place : ℕ) (why : PartFault) → HasFailure (steps_of entries) place why → ⊥
named_unfailed s w [] [] v N place why failed = absurd failed
named_unfailed s w [] (entry ∷ entries) v N place why failed = absurd N
named_unfailed s w (line ∷ lines) [] v N place why failed = absurd N
named_unfailed s w (line ∷ lines) (entry ∷ entries) v N place why failed = elim failed [
  | inl here ↦ unfailed entry.act place why (N.0).unbroken here
  | inr later ↦ (let step = N.1 in named_unfailed s step.0 lines entries v step.2 place why later)
]

-- ---- what is told

pub least_whole : (parts : List PartLine) (steps : List (Act × Reply)) (it : Ran) (closed : Result (Unit {0}) Failed) (reads writes : Bool) (fault : Fault) → settled parts (Ok it) closed reads writes ≡ Err fault → TellsLeast parts steps fault
least_whole parts steps it closed true writes fault e = let s : Faults.ReadFault ≡ fault = cc in subst (TellsLeast parts steps) s tt
least_whole parts steps it closed false true fault e = let s : Faults.WriteFault ≡ fault = cc in subst (TellsLeast parts steps) s tt
least_whole parts steps it (Ok done) false false fault e = absurd cc
least_whole parts steps it (Err failed) false false fault e = let s : Faults.WriteFault ≡ fault = cc in subst (TellsLeast parts steps) s tt

pub least_told : (parts : List PartLine) (steps : List (Act × Reply)) (why : RunFault) (closed : Result (Unit {0}) Failed) (reads writes : Bool) (fault : Fault) → TellsFirst steps why
    → ((place at size : ℕ) → HasFailure steps place (kinds.Short at size) → (part : PartLine) × (slice_get parts place ≡ Some part)) → settled {A = Ran} parts (Err why) closed reads writes ≡ Err fault → TellsLeast parts steps fault
least_told parts steps why closed true writes fault first there e = let s : Faults.ReadFault ≡ fault = cc in subst (TellsLeast parts steps) s tt
least_told parts steps why closed false true fault first there e = let s : Faults.WriteFault ≡ fault = cc in subst (TellsLeast parts steps) s tt
least_told parts steps runs.OutOfMemory closed false false fault first there e = let s : Faults.OutOfMemory ≡ fault = cc in subst (TellsLeast parts steps) s tt
least_told parts steps runs.Read closed false false fault first there e = let s : Faults.ReadFault ≡ fault = cc in subst (TellsLeast parts steps) s tt
least_told parts steps runs.Write closed false false fault first there e = let s : Faults.WriteFault ≡ fault = cc in subst (TellsLeast parts steps) s tt
least_told parts steps (runs.Short place at size) (Ok done) false false fault first there e =
    let s : Faults.Short (Line (line_in (slice_get parts place))) at size ≡ fault = cc in
    let t = there place at size first.0 in
    subst (TellsLeast parts steps) s (place, t.0, t.1, ap (λ (o : Option PartLine). Line (line_in o)) t.1, first.0, first.1)
least_told parts steps (runs.Short place at size) (Err failed) false false fault first there e = let s : Faults.WriteFault ≡ fault = cc in subst (TellsLeast parts steps) s tt

-- ---- fronts

pub itself_front : (bytes : List ℕ) → IsFrontOf bytes bytes
itself_front bytes = (length bytes, omega arith, sym (take_all (length bytes) bytes (omega arith)))

pub take_none : (count : ℕ) → ◌≡◌ {A = List ℕ} (take count []) []
take_none zero = refl
take_none (suc count) = refl

-- An absence that was counted is told by what a command comes to.
use Rattle.std.proofs.Common.{◌≡◌, ◌≢◌, inl, inr, ℕ, List, Result, Ok, Err, ap, ◌∙◌}
use Rattle.outside_io.specs.Files.{AbsencesStand, Outside, TellsAbsence}
use Rattle.outside_io.specs.declared.media.Refused.{Refused}
use Rattle.outside_io.specs.declared.media.Refused.TheVariants as Refusals
use Rattle.outside_io.specs.declared.whole.Unread.{Unread}
use Rattle.outside_io.specs.declared.whole.Unread.TheVariants as Unreads
use Rattle.omx_types.specs.declared.fault.Fault.{Fault}
use Rattle.omx_types.specs.declared.fault.Fault.TheVariants as Faults
use Rattle.omx_types.specs.declared.fault.Which.TheVariants as Files
use Rattle.script_lang.specs.declared.script.Script.{Script}
use Rattle.play_course.specs.Outcomes.{IsUndone}
use Rattle.omxrun.specs.Absences.{AreAbsencesTold}
use Rattle.omxrun.specs.Faults.{fault_of_script}
use Rattle.omxrun.specs.Opened.{fault_of_input, fault_of_output}

-- by the fault
abbrev pub IsAbsenceTold : Outside → Outside → Fault → Type 0
IsAbsenceTold old new fault = TellsAbsence Faults.Absent old new fault

-- none was counted
pub none-counted : {T : Type 0} (old new : Outside) (outcome : Result T Fault) → AbsencesStand old new → AreAbsencesTold old new outcome
none-counted old new (Ok done) stands = stands
none-counted old new (Err fault) stands = λ _. stands

-- none was counted before
pub none-before : {T : Type 0} (old mid new : Outside) (outcome : Result T Fault) → AbsencesStand old mid → AreAbsencesTold mid new outcome → AreAbsencesTold old new outcome
none-before old mid new (Ok done) before told = told ∙ before
none-before old mid new (Err fault) before told = λ none. told none ∙ before

-- a script
pub script-told : (old new : Outside) (unread : Unread) (fault : Fault) → fault ≡ fault_of_script unread → (unread ≢ Unreads.Absent → new.absences ≡ old.absences) → IsAbsenceTold old new fault
script-told old new unread fault is stands = λ none. stands (λ e. none Files.Script (is ∙ ap fault_of_script e))

-- an input
pub input-told : (old new : Outside) (refused : Refused) (fault : Fault) → fault ≡ fault_of_input refused → (refused ≢ Refusals.Absent → new.absences ≡ old.absences) → IsAbsenceTold old new fault
input-told old new refused fault is stands = λ none. stands (λ e. none Files.Input (is ∙ ap fault_of_input e))

-- an output, once the input was opened, which is closed again
pub output-told : (old mid later new : Outside) (refused : Refused) (fault : Fault) → fault ≡ fault_of_output refused → AbsencesStand old mid → (refused ≢ Refusals.Absent → later.absences ≡ mid.absences) → AbsencesStand later new → IsAbsenceTold old new fault
output-told old mid later new refused fault is before stands after = λ none. after ∙ (stands (λ e. none Files.Output (is ∙ ap fault_of_output e)) ∙ before)

-- a play that wasn't done whole
pub undone-told : {workers : ℕ} (script : Script) (log : List ℕ) (old new : Outside) (fault : Fault) → IsUndone workers script log old new fault → IsAbsenceTold old new fault
undone-told script log old new fault (inl (inl U)) = λ _. (U.still).absences
undone-told script log old new fault (inl (inr (planned, is, inl U))) = let M = U.met in (M.refused).unabsent
undone-told script log old new fault (inl (inr (planned, is, inr (inl U)))) = λ _. (U.still).absences
undone-told script log old new fault (inl (inr (planned, is, inr (inr U)))) = U.unabsent
undone-told script log old new fault (inr (inl B)) = λ _. B.absences
undone-told script log old new fault (inr (inr U)) = U.unabsent

-- A play, from its open files to its log.
use Rattle.std.proofs.Common.{◌≡◌, ◌≢◌, ℕ, List, Option, Some, Result, Ok, Err, IsTrue, inl, inr, refl, sym, ◌∙◌, ap, subst}
use Rattle.omx_types.specs.declared.fault.Fault.{Fault}
use Rattle.outside_io.specs.Files.{AbsencesStand, CountsStand, GoesOn, Outside, SameBut, with_name}
use Rattle.outside_io.specs.Whole.{HasWriteReason, IsKeptOrFrontOf}
use Rattle.outside_io.specs.declared.media.Refused.{Refused}
use Rattle.outside_io.specs.declared.media.Refused.TheVariants as Refusals
use Rattle.script_lang.specs.PlayScripts.{IsPlayScript}
use Rattle.script_lang.specs.declared.play_line.PartLine.{PartLine}
use Rattle.script_lang.specs.declared.script.Script.{Script}
use Rattle.script_lang.specs.declared.script.Script.TheVariants.{Play, Trace}
use Rattle.play_forms.specs.Plans.{IsPlanOfScript, PlanValue}
use Rattle.play_files.specs.Names.{HaveOwnFiles}
use Rattle.play_files.specs.Seen.{FileSeen, files_seen}
use Rattle.play_files.specs.Whole.{AreAllOpen}
use Rattle.play_files.proofs.Closings.{then}
use Rattle.play_files.proofs.OwnFiles.{own_files}
use Rattle.play_course.specs.declared.settling.Ran.{Ran}
use Rattle.play_course.specs.Courses.{HasEnded}
use Rattle.play_course.specs.Outcomes.{HoldsTold, IsDone, IsUndone}
use Rattle.play_course.specs.Players.{CanPlay}
use Rattle.play_course.specs.Settling.{fault_of_log, parts_of}
use Rattle.play_course.proofs.Ends.{absent_none, broken, done, gates_tell, goes, log_calm, log_told, log_why, stand, stays, unlogged, unmade_by}
use Rattle.play_course.proofs.Ways.{can_play}

pub parts_so : (script : Script) (plan : PlanValue) → IsPlanOfScript script plan → plan.parts ≡ parts_of script
parts_so (Play units parts links) plan P = P.parts_of
parts_so (Trace units lines) plan P = absurd P

-- what is left of a play that was done whole, and of its log
pub record IsLogged (workers : ℕ) (Tells : List PartLine → List ℕ → Type 0) (script : Script) (log : List ℕ) (old final : Outside) (it : Ran) : Type 0 where
  pub goes_on : GoesOn old final
  pub done : IsDone workers script log old final it.summary
  pub told : IsTrue old.tells → HoldsTold (Tells (parts_of script)) log final
  pub stand : CountsStand old final
  pub absences : AbsencesStand old final

module _ {F : Type 0} (seen : F → FileSeen) (script : Script) (name log text : List ℕ) (is_script : IsPlayScript name log text script) (old mid : Outside) (plan : PlanValue) (entries : List (Option F)) (O : AreAllOpen seen script old mid plan entries) where
  parts_are : plan.parts ≡ parts_of script
  parts_are = (O.fitted).parts ∙ parts_so script O.planned O.is_plan

  own : HaveOwnFiles name log plan.parts
  own = subst (HaveOwnFiles name log) (sym (O.fitted).parts) (own_files name log text script O.planned is_script O.is_plan)

  pub can : CanPlay plan (files_seen seen entries)
  can = can_play seen script name log old mid plan entries O own

  module _ {workers : ℕ} {Tells : List PartLine → List ℕ → Type 0} (new : Outside) (parts : List PartLine) (are : parts ≡ parts_of script) (result : Result Ran Fault) (E : HasEnded workers Tells plan parts (files_seen seen entries) mid new result) where
    H : HasEnded workers Tells plan plan.parts (files_seen seen entries) mid new result
    H = subst (λ (ps : List PartLine). HasEnded workers Tells plan ps (files_seen seen entries) mid new result) (are ∙ sym parts_are) E

    on : GoesOn old new
    on = goes seen script name log old mid new plan entries O own result H

    absent : AbsencesStand old new
    absent = absent_none seen script name log old mid new plan entries O own result H

    pub broken_off : (fault : Fault) → result ≡ Err fault → IsUndone workers script log old new fault
    broken_off fault e = inr (inl (broken seen script name log old mid new plan entries O own result H fault e))

    module _ (it : Ran) (e : result ≡ Ok it) (final : Outside) (goes_on : GoesOn new final) (others : IsTrue new.tells → SameBut log new final) (reads : final.read_faults ≡ new.read_faults) where
      stood : CountsStand old new
      stood = stand seen script name log old mid new plan entries O own result H it e

      -- its log was written
      pub logged : final.openings ≡ with_name log 1 new.openings → (IsTrue new.tells → final.file log ≡ Some it.text) → final.write_faults ≡ new.write_faults → final.absences ≡ new.absences → IsLogged workers Tells script log old final it
      logged asked held writes absences = record {
        goes_on = then old new final on goes_on;
        done = done seen script name log old mid new plan entries O own result H it e final asked (λ t. others (on.tells ∙ t)) (λ t. held (on.tells ∙ t));
        told = λ t. subst (λ (ps : List PartLine). HoldsTold (Tells ps) log final) parts_are (gates_tell seen script name log old mid new plan entries O own result H it e final (held (on.tells ∙ t)));
        stand = record { reads = reads ∙ stood.reads; writes = writes ∙ stood.writes };
        absences = absences ∙ absent;
      }

      -- it wasn't
      module _ (refused : Refused) (reason : HasWriteReason log new final refused) (write_stays : refused ≢ Refusals.Failed → final.write_faults ≡ new.write_faults) where
        pub not_logged : (refused ≢ Refusals.Absent → final.absences ≡ new.absences) → (refused ≢ Refusals.OutOfMemory → final.openings ≡ with_name log 1 new.openings)
            → (IsTrue new.tells → IsKeptOrFrontOf (new.file log) (final.file log) it.text) → (IsTrue new.tells → (times : ℕ) × (final.failed_writes ≡ with_name log times new.failed_writes)) → IsUndone workers script log old final (fault_of_log refused)
        not_logged absences asked front failed =
            inr (inr (unlogged seen script name log old mid new plan entries O own result H it e final (fault_of_log refused) goes_on
            (log_why log it.text new new final refused (stays new) (record { reads = refl; writes = refl }) reason reads write_stays)
            (log_calm old new final refused stood reads write_stays)
            (λ t. others (on.tells ∙ t))
            (λ t. front (on.tells ∙ t))
            (log_why log it.text old new final refused on stood reason reads write_stays)
            (unmade_by log new final refused reason)
            (log_told old new final refused absent absences)
            (λ n. asked (λ same. n (ap fault_of_log same)))
            (λ t. failed (on.tells ∙ t))))

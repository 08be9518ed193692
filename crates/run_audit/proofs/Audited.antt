-- What is known of an audit once its files are closed.
use Rattle.std.proofs.Common.{◌≡◌, ℕ, ◌<◌, ◌≤◌, ◌^◌, Bool, List, [], ◌∷◌, length, Option, Some, Result, Ok, OnOk, IsTrue, sym, ◌∙◌, ap, subst}
use Rattle.omx_types.specs.declared.fault.Fault.TheVariants as Faults
use Rattle.outside_io.specs.declared.source.Source.{Ghosts as SourceGhosts}
use Rattle.outside_io.specs.Files.{CountsStand, GoesOn, Outside}
use Rattle.outside_io.specs.Moves.{WhereTold}
use Rattle.audio_parts.specs.declared.part_file.PartFile.{PartFile}
use Rattle.script_lang.specs.PlayScripts.{IsPlayScript}
use Rattle.script_lang.specs.declared.play_line.PartLine.{PartLine}
use Rattle.script_lang.specs.declared.script.Script.{Script}
use Rattle.play_forms.specs.Plans.{PlanValue}
use Rattle.play_files.specs.Asked.{HasAskedFor}
use Rattle.play_files.specs.Closing.{AreClosed}
use Rattle.play_files.specs.Seen.{files_seen}
use Rattle.play_files.proofs.Closings.{then}
use Rattle.play_course.specs.Settling.{parts_of}
use Rattle.play_plan_laws.specs.Assemblies.{PlayFiles}
use Rattle.il_graph.specs.Shown.{offered}
use Rattle.compared_files.specs.Comparing.{ComparingValue}
use Rattle.audit_files.specs.Compared.{AreCompared, read_seen}
use Rattle.run_audit.specs.declared.auditing.AuditFault.{AuditFault}
use Rattle.run_audit.specs.declared.replaying.Replayed.{Replayed}
use Rattle.run_audit.specs.declared.replaying.Replayed.TheVariants as comes
use Rattle.run_audit.specs.Auditing.{IsMetBy, IsUnaudited, outcome_of}
use Rattle.run_audit.specs.Ending.{GiveAll}
use Rattle.run_audit.specs.Faults.{AreGivenToEnd}
use Rattle.run_audit.specs.Opening.{play_sight}
use Rattle.run_audit.specs.Replayed.{AreGiven, FilesComeBack, IsVerdictBy, OnFailure, OnVerdict}
use Rattle.run_audit.specs.Seeing.{compared}
use Rattle.play_course.proofs.Logged.{parts_so}
use Rattle.run_audit.proofs.Judged as judged
use Rattle.run_audit.proofs.Outcome as outcome
use Rattle.run_audit.proofs.Outcome.{ComesTo}
use Rattle.run_audit.proofs.ToTheEnd.{given_yes}

-- what lies outside
pub record Leaves (old new : Outside) : Type 0 where
  pub goes_on : GoesOn old new
  pub files : new.file ≡ old.file
  pub writes : new.write_faults ≡ old.write_faults

-- and of the answer
pub record IsKnown (script : Script) (log : List ℕ) (old late new : Outside) (answer : Result ℕ AuditFault) : Type 0 where
  pub comes : ComesTo script log old new answer
  pub stands : new.read_faults ≡ late.read_faults → CountsStand old new
  pub to_end : OnOk answer (AreGivenToEnd script old)

module _ {S : Type 0} (reads : SourceGhosts S) (script : Script) (log : List ℕ) (old mid late new : Outside) (plan : PlanValue) (before after : List (Option (PartFile S (ComparingValue S)))) (A : AreCompared reads script old mid plan before)
    (goes : GoesOn mid late) (same_files : late.file ≡ mid.file) (same_writes : late.write_faults ≡ mid.write_faults)
    (closed : List (Option (PartFile S (ComparingValue S)))) (written : closed ≡ after) (shut : AreClosed (files_seen (read_seen reads) closed) late new (Ok tt)) where
  C : AreClosed (files_seen (read_seen reads) after) late new (Ok tt)
  C = subst (λ (fs : List (Option (PartFile S (ComparingValue S)))). AreClosed (files_seen (read_seen reads) fs) late new (Ok tt)) written shut

  pub leaves : Leaves old new
  leaves = record {
    goes_on = then old late new (then old mid late (A.still).goes_on goes) C.goes_on;
    files = outcome.new_files reads script log old mid late new plan before after A goes same_files same_writes C;
    writes = outcome.new_writes reads script log old mid late new plan before after A goes same_files same_writes C;
  }

  module _ (asked : HasAskedFor mid late (log ∷ [])) (absences : late.absences ≡ mid.absences) (still_reads : late.read_faults ≡ mid.read_faults) (still_names : late.failed_reads ≡ mid.failed_reads)
      (text : List ℕ) (held : IsTrue mid.tells → mid.file log ≡ Some text) (given : WhereTold (mid.ends log) (λ end. length text ≤ end))
      (entries : List (Option (PartFile S (ComparingValue S)))) (value : entries ≡ before) (many : length after ≡ length entries) (back : FilesComeBack (play_sight reads) plan entries after) (few : late.read_faults < 2 ^ 64) where
    as_many : length after ≡ length before
    as_many = many ∙ ap (λ (fs : List (Option (PartFile S (ComparingValue S)))). length fs) value

    back_here : FilesComeBack (play_sight reads) plan before after
    back_here = subst (λ (fs : List (Option (PartFile S (ComparingValue S)))). FilesComeBack (play_sight reads) plan fs after) value back

    -- the count rose while they were closed
    pub risen : (new.read_faults ≡ late.read_faults → ⊥) → IsUnaudited script log old new Faults.ReadFault
    risen n = outcome.risen reads script log old mid late new plan before after A goes same_files same_writes C asked absences still_reads still_names text held given few as_many back_here n

    module _ (name its : List ℕ) (lines : List ℕ) (is_script : IsPlayScript name lines its script) (replayed : Replayed) (bytes : List ℕ) (same_text : bytes ≡ text)
        (verdict : (given : PlayFiles) (sinks : ℕ → Option (List ℕ)) → (tells : Bool) → IsTrue tells → AreGiven tells reads.told (offered reads.offset reads.size reads.told (compared reads).told) plan given sinks entries → OnVerdict replayed (IsVerdictBy plan given sinks bytes))
        (gives : (acts : ℕ) → replayed ≡ comes.Yes acts → GiveAll reads.told reads.ends after) (failed : OnFailure (play_sight reads) plan entries after replayed)
        (seen : List (Option (PartFile S (ComparingValue S)))) (as_closed : seen ≡ closed) (met : IsMetBy reads seen replayed)
        (parts : List PartLine) (parts_are : parts ≡ parts_of script) (answer : Result ℕ AuditFault) (told : answer ≡ outcome_of parts seen replayed) where
      V : IsTrue old.tells → OnVerdict replayed (IsVerdictBy plan A.known (judged.sinks_of old.tells old plan) text)
      V t =
          subst (λ (b : List ℕ). OnVerdict replayed (IsVerdictBy plan A.known (judged.sinks_of old.tells old plan) b)) same_text
          (verdict A.known (judged.sinks_of old.tells old plan) old.tells t (outcome.given_so reads script old mid plan before A name lines its is_script entries value))

      answer_is : answer ≡ outcome_of plan.parts after replayed
      answer_is =
          told ∙ (ap (λ (ps : List PartLine). outcome_of ps seen replayed) (parts_are ∙ sym ((A.fitted).parts ∙ parts_so script A.planned A.is_plan))
          ∙ ap (λ (fs : List (Option (PartFile S (ComparingValue S)))). outcome_of plan.parts fs replayed) (as_closed ∙ written))

      pub known : IsKnown script log old late new answer
      known = record {
        comes = subst (ComesTo script log old new) (sym answer_is)
            (outcome.comes_to reads script log old mid late new plan before after A goes same_files same_writes C asked absences still_reads still_names text held given name its lines is_script few replayed V as_many back_here
            (subst (λ (fs : List (Option (PartFile S (ComparingValue S)))). OnFailure (play_sight reads) plan fs after replayed) value failed)
            (subst (λ (fs : List (Option (PartFile S (ComparingValue S)))). IsMetBy reads fs replayed) (as_closed ∙ written) met));
        stands = outcome.counts reads script log old mid late new plan before after A goes same_files same_writes C asked absences still_reads still_names text held given;
        to_end = subst (λ (r : Result ℕ AuditFault). OnOk r (AreGivenToEnd script old)) (sym answer_is) (given_yes reads script old mid plan before after A back_here replayed gives);
      }

-- Behind a yes each sink's file is one that gives all its bytes.
use Rattle.std.proofs.Common.{◌≡◌, ℕ, List, Option, Some, None, OnOk, refl, sym, ◌∙◌, subst, true}
use Rattle.std.specs.List.{slice_index_or}
use Rattle.std.proofs.lemmas.Option.{slice_get_within}
use Rattle.outside_io.specs.declared.source.Source.{Ghosts as SourceGhosts}
use Rattle.outside_io.specs.Files.{Outside}
use Rattle.audio_parts.specs.declared.part_file.PartFile.{PartFile}
use Rattle.audio_parts.specs.declared.part_file.PartFile.TheVariants as files
use Rattle.script_lang.specs.declared.play_line.PartLine.{PartLine}
use Rattle.script_lang.specs.declared.script.Script.{Script}
use Rattle.play_forms.specs.Plans.{PlanValue}
use Rattle.play_result_laws.specs.Files.{IsWriter}
use Rattle.compared_files.specs.Comparing.{ComparingValue, IsGivenToEnd}
use Rattle.compared_files.proofs.Known.{known_bytes, known_ends}
use Rattle.audit_files.specs.Compared.{AreCompared, IsComparedBy}
use Rattle.run_audit.specs.declared.replaying.Replayed.{Replayed}
use Rattle.run_audit.specs.declared.replaying.Replayed.TheVariants as comes
use Rattle.run_audit.specs.Auditing.{outcome_of}
use Rattle.run_audit.specs.Ending.{GiveAll, GivesAll}
use Rattle.run_audit.specs.Faults.{AreGivenToEnd}
use Rattle.run_audit.specs.Files.{FileGoesOn}
use Rattle.run_audit.specs.Opening.{play_sight}
use Rattle.run_audit.specs.Replayed.{FilesComeBack}
use Rattle.play_course.proofs.Logged.{parts_so}

module _ {S : Type 0} (reads : SourceGhosts S) (script : Script) (old mid : Outside) (plan : PlanValue) (before after : List (Option (PartFile S (ComparingValue S)))) (A : AreCompared reads script old mid plan before)
    (back : FilesComeBack (play_sight reads) plan before after) where
  -- what holds of the comparison at the end holds of the file that was opened
  by_file : (planned : ℕ) (name : List ℕ) (file then : Option (PartFile S (ComparingValue S))) → IsComparedBy reads old planned name file → FileGoesOn (play_sight reads) true file then → GivesAll reads.told reads.ends then → IsGivenToEnd (old.file name) (old.ends name)
  by_file planned name (Some (files.To snk frames)) (Some (files.To now count)) I on gives =
      let same = (on.1).name in
      let told : old.file name ≡ reads.told now.src = sym ((I.2).told) ∙ sym (known_bytes (reads.name now.src) (reads.name snk.src) (reads.told now.src) (reads.told snk.src) (reads.ends now.src) (reads.ends snk.src) same) in
      let ends : old.ends name ≡ reads.ends now.src = sym ((I.2).ends) ∙ sym (known_ends (reads.name now.src) (reads.name snk.src) (reads.told now.src) (reads.told snk.src) (reads.ends now.src) (reads.ends snk.src) same) in
      λ known is end at. gives known (sym told ∙ is) end (sym ends ∙ at)
  by_file planned name (Some (files.To snk frames)) (Some (files.From src format count)) I on gives = absurd on
  by_file planned name (Some (files.To snk frames)) None I on gives = absurd on
  by_file planned name (Some (files.From src format frames)) then I on gives = absurd I
  by_file planned name None then I on gives = absurd I

  given_all : GiveAll reads.told reads.ends after → AreGivenToEnd script old
  given_all all place name W =
      let e = (A.fitted).parts ∙ parts_so script A.planned A.is_plan in
      let (part, there, writes) = subst (λ (ps : List PartLine). IsWriter ps place name) (sym e) W in
      let (file, at, compared) = A.sinks place part name there writes in
      let (then, then_at, on) = back place file (slice_get_within plan.parts place part there) at in
      by_file (slice_index_or plan.frames place 0) name file then compared on (all place then then_at)

  pub given_yes : (replayed : Replayed) → ((acts : ℕ) → replayed ≡ comes.Yes acts → GiveAll reads.told reads.ends after) → OnOk (outcome_of plan.parts after replayed) (AreGivenToEnd script old)
  given_yes (comes.Yes acts) gives = given_all (gives acts refl)
  given_yes (comes.No line why) gives = tt
  given_yes (comes.Failed component fault) gives = tt
  given_yes comes.OutOfMemory gives = tt

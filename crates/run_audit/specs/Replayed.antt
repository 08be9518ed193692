-- What the replay of a log's text comes to.
use Rattle.std.specs.Prelude.{◌≡◌, ℕ, ◌<◌, Bool, List, [], length, slice_get, Option, Some, None, true, IsFalse, IsTrue}
use Rattle.outside_io.specs.Files.{Outside}
use Rattle.il_machine.specs.Files.{Offered}
use Rattle.il_machine.specs.World.{World}
use Rattle.audio_parts.specs.declared.part_file.PartFile.{PartFile}
use Rattle.audio_parts.specs.Objects.{FileShows, OnBoth, SinkShows, SourceShows}
use Rattle.play_forms.specs.Plans.{PlanValue}
use Rattle.play_plan_laws.specs.Assemblies.{IsReady, PlayFiles}
use Rattle.play_log.specs.Scenes.{HaveOwnNames, scene_of}
use Rattle.play_result_laws.specs.Files.{AreFiles, IsWriter}
use Rattle.play_result_laws.specs.Worlds.{IsOpening}
use Rattle.play_graph.specs.Making.{AreOffered}
use Rattle.compared_files.specs.Comparing.{ComparingValue}
use Rattle.graph_acts.specs.Plain.{Sight}
use Rattle.audit_lines.specs.Lines.{pieces_of}
use Rattle.audit_forms.specs.Audited.{Audits, Case, No, Verdict, Yes}
use Rattle.audit_forms.specs.Whole.{start_at}
use Rattle.run_audit.specs.declared.replaying.Replayed.{Replayed}
use Rattle.run_audit.specs.declared.replaying.Replayed.TheVariants as comes
use Rattle.run_audit.specs.Files.{FileGoesOn}
use Rattle.run_audit.specs.Leaving.{HasThen}
use Rattle.run_audit.specs.Replaying.{IsComparedWith}

abbrev pub case_from : PlanValue → World → (ℕ → Option (List ℕ)) → Case
case_from plan opening sinks = record { plan = plan; scene = scene_of plan.parts opening; sinks = sinks }

-- in a world where the plan's play begins the text has this verdict
abbrev pub IsVerdictBy : PlanValue → PlayFiles → (ℕ → Option (List ℕ)) → List ℕ → Verdict → Type 0
IsVerdictBy plan given sinks text verdict =
    (opening : World) × IsOpening plan given opening × Audits (case_from plan opening sinks) 1 (start_at plan opening) (pieces_of text) verdict

-- The entries are the plan's files, and where the media tells, those of the sinks are compared with these bytes.
pub record AreGiven {S : Type 0} (tells : Bool) (told : S → Option (List ℕ)) (offered_by : PartFile S (ComparingValue S) → Offered) (plan : PlanValue) (given : PlayFiles) (known : ℕ → Option (List ℕ)) (entries : List (Option (PartFile S (ComparingValue S)))) : Type 0 where
  pub ready : IsReady plan given
  pub own : HaveOwnNames plan.parts
  pub many : length entries ≡ length plan.parts
  pub offered : AreOffered plan given offered_by entries
  pub told_are : IsTrue tells → (outside : Outside) × (samples : List (List ℕ)) × AreFiles outside plan.parts given samples
  pub empty : (place : ℕ) (text : List ℕ) → known place ≡ Some text → given.known place ≡ Some []
  pub compared : IsTrue tells → (place : ℕ) (file : Option (PartFile S (ComparingValue S))) → slice_get entries place ≡ Some file → IsComparedWith told (known place) file
  pub sinks : (place : ℕ) (text : List ℕ) → known place ≡ Some text → (name : List ℕ) × IsWriter plan.parts place name
  pub untold : IsFalse tells → (place : ℕ) → known place ≡ None

abbrev pub OnVerdict : Replayed → (Verdict → Type 0) → Type 0
OnVerdict (comes.Yes acts) P = P (Yes acts)
OnVerdict (comes.No line why) P = P (No line why)
OnVerdict (comes.Failed component fault) P = Unit {0}
OnVerdict comes.OutOfMemory P = Unit {0}

module _ {S C : Type 0} (see : Sight S (ComparingValue S) C) where
  -- each file is back at its place, read or compared further
  abbrev pub FilesComeBack : PlanValue → List (Option (PartFile S (ComparingValue S))) → List (Option (PartFile S (ComparingValue S))) → Type 0
  FilesComeBack plan before after = (place : ℕ) (file : Option (PartFile S (ComparingValue S))) → place < length plan.parts → slice_get before place ≡ Some file → HasThen (FileGoesOn see true file) after place

  -- a step that failed shows in its component's file
  abbrev pub OnFailure : PlanValue → List (Option (PartFile S (ComparingValue S))) → List (Option (PartFile S (ComparingValue S))) → Replayed → Type 0
  OnFailure plan before after (comes.Failed component fault) = (component < length plan.parts) × ((file : Option (PartFile S (ComparingValue S))) → slice_get before component ≡ Some file
      → HasThen (OnBoth (FileShows (SourceShows see.reads.size see.reads.ends see.reads.offset see.reads.faults fault) (SinkShows see.writes.faults fault)) file) after component)
  OnFailure plan before after other = Unit {0}

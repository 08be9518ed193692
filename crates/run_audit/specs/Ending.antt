-- A replay at the end of its lines.
use Rattle.std.specs.Prelude.{◌≡◌, ℕ, All, List, [], slice_get, Option, Some, None}
use Rattle.il_machine.specs.World.{World}
use Rattle.outside_io.specs.Moves.{WhereTold}
use Rattle.play_plan_laws.specs.Assemblies.{IsReady, PlayFiles}
use Rattle.play_log.specs.Scenes.{HaveOwnNames, scene_of}
use Rattle.play_result_laws.specs.Worlds.{IsOpening}
use Rattle.audio_parts.specs.declared.part_file.PartFile.{PartFile}
use Rattle.audio_parts.specs.declared.part_file.PartFile.TheVariants as files
use Rattle.compared_files.specs.Comparing.{ComparingValue, IsGivenToEnd, given_by, told_by}
use Rattle.audit_order.specs.Steps.{IsComplete}
use Rattle.audit_forms.specs.Audited.{Case, IsResting, Moment}
use Rattle.audit_forms.specs.Whole.{start_at}
use Rattle.run_audit.specs.Walking.{PassAll}

-- from a world where the play of the case's plan begins, lines that pass have led to the moment
pub record HasCome (x : Case) (now : Moment) : Type 0 where
  pub files : PlayFiles
  pub ready : IsReady x.plan files
  pub own : HaveOwnNames (x.plan).parts
  pub opening : World
  pub opens : IsOpening x.plan files opening
  pub scene : x.scene ≡ scene_of (x.plan).parts opening
  pub pieces : List (List ℕ)
  pub passed : PassAll x 1 (start_at x.plan opening) pieces now

-- all rests, and all was asked
pub record IsAtRest (x : Case) (at : Moment) : Type 0 where
  pub resting : All IsResting (at.world).components
  pub unmade : (at.world).headers ≡ []
  pub complete : IsComplete x.plan at.order

module _ {S : Type 0} (told : S → Option (List ℕ)) where
  abbrev pub IsComparison : List (Option (PartFile S (ComparingValue S))) → ℕ → ComparingValue S → Type 0
  IsComparison entries place snk = (frames : ℕ) × (slice_get entries place ≡ Some (Some (files.To snk frames)))

  -- each comparison was given its whole file
  abbrev pub AreWhole : List (Option (PartFile S (ComparingValue S))) → Type 0
  AreWhole entries = (place : ℕ) (snk : ComparingValue S) → IsComparison entries place snk → told_by (told snk.src) snk ≡ told snk.src

  -- one wasn't, where its file is told
  abbrev pub HasUnlike : List (Option (PartFile S (ComparingValue S))) → Type 0
  HasUnlike entries = (place : ℕ) × (snk : ComparingValue S) × IsComparison entries place snk × WhereTold (told snk.src) (λ known. given_by known snk ≡ known → ⊥)

  -- the same of one file
  abbrev pub IsGiven : Option (PartFile S (ComparingValue S)) → Type 0
  IsGiven None = Unit {0}
  IsGiven (Some (files.From src format frames)) = Unit {0}
  IsGiven (Some (files.To snk frames)) = told_by (told snk.src) snk ≡ told snk.src

  abbrev pub IsUngiven : Option (PartFile S (ComparingValue S)) → Type 0
  IsUngiven None = ⊥
  IsUngiven (Some (files.From src format frames)) = ⊥
  IsUngiven (Some (files.To snk frames)) = WhereTold (told snk.src) (λ known. given_by known snk ≡ known → ⊥)

module _ {S : Type 0} (told : S → Option (List ℕ)) (ends : S → Option ℕ) where
  -- a file with which a sink is compared gives all its bytes
  abbrev pub GivesAll : Option (PartFile S (ComparingValue S)) → Type 0
  GivesAll None = Unit {0}
  GivesAll (Some (files.From src format frames)) = Unit {0}
  GivesAll (Some (files.To snk frames)) = IsGivenToEnd (told snk.src) (ends snk.src)

  abbrev pub GiveAll : List (Option (PartFile S (ComparingValue S))) → Type 0
  GiveAll entries = (place : ℕ) (file : Option (PartFile S (ComparingValue S))) → slice_get entries place ≡ Some file → GivesAll file

-- The verdict on a told log, by its script's plan and the told files.
use Rattle.std.specs.Prelude.{◌≡◌, ℕ, List, Option, Some, slice_get, option_and_then}
use Rattle.outside_io.specs.Files.{Outside}
use Rattle.il_machine.specs.World.{World}
use Rattle.script_lang.specs.declared.play_line.PartLine.{PartLine}
use Rattle.play_forms.specs.Plans.{PlanValue}
use Rattle.play_plan_laws.specs.Assemblies.{IsReady, PlayFiles}
use Rattle.play_log.specs.Scenes.{scene_of}
use Rattle.play_result_laws.specs.Files.{IsWriter, written_by}
use Rattle.play_result_laws.specs.Results.{IsPlanIn}
use Rattle.play_result_laws.specs.Worlds.{IsOpening}
use Rattle.audit_order.specs.Steps.{nothing_asked}
use Rattle.audit_lines.specs.Lines.{pieces_of}
use Rattle.audit_forms.specs.Audited.{Audits, Case, Moment, Verdict}
use Rattle.audit_forms.specs.Told.{nothing_told}

-- the told file of the sink at the place
abbrev pub file_by : Outside → Option PartLine → Option (List ℕ)
file_by outside part = option_and_then (λ (name : List ℕ). outside.file name) (option_and_then (λ (p : PartLine). written_by p.form) part)

abbrev pub case_of : Outside → PlanValue → World → Case
case_of outside plan opening = record { plan = plan; scene = scene_of plan.parts opening; sinks = λ place. file_by outside (slice_get plan.parts place) }

-- before the first line
abbrev pub start_at : PlanValue → World → Moment
start_at plan opening = record { world = opening; told = nothing_told plan.parts; order = nothing_asked }

-- the verdict on the text, from this world on
abbrev pub IsVerdictFrom : Outside → PlanValue → World → List ℕ → Verdict → Type 0
IsVerdictFrom outside plan opening text verdict = Audits (case_of outside plan opening) 1 (start_at plan opening) (pieces_of text) verdict

-- the verdict on the text: from the world where the plan's play begins on
pub record IsVerdict (outside : Outside) (plan : PlanValue) (files : PlayFiles) (text : List ℕ) (verdict : Verdict) : Type 0 where
  pub opening : World
  pub opens : IsOpening plan files opening
  pub audits : IsVerdictFrom outside plan opening text verdict

-- The told file of the second name is a log with this verdict, by the script that the first one holds and the told files. The plan is ready
-- for its files, and the name of each sink is among the told ones.
pub record IsAudited (script log : List ℕ) (outside : Outside) (verdict : Verdict) : Type 0 where
  pub plan : PlanValue
  pub files : PlayFiles
  pub samples : List (List ℕ)
  pub is : IsPlanIn script log outside plan files samples
  pub ready : IsReady plan files
  pub sinks : (place : ℕ) (name : List ℕ) → IsWriter plan.parts place name → (told : List ℕ) × (outside.file name ≡ Some told)
  pub text : List ℕ
  pub held : outside.file log ≡ Some text
  pub verdict_is : IsVerdict outside plan files text verdict

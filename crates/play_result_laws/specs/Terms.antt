-- What each component of a plan is set to, once its graph is assembled.
use Rattle.std.specs.Prelude.{ℕ, [], slice_get, Option, Some, None, option_and_then, option_map}
use Rattle.omx_types.specs.declared.kind.Kind.TheVariants.{Source}
use Rattle.part_api.specs.Terms.{Terms}
use Rattle.part_forms.specs.Kinds.{inputs_of, outputs_of}
use Rattle.il_machine.specs.Files.{attached}
use Rattle.script_lang.specs.declared.play_line.PartLine.{PartLine}
use Rattle.play_forms.specs.Fitting.{format_into}
use Rattle.play_forms.specs.Parts.{factors_of, kind_of}
use Rattle.play_forms.specs.Plain.{format_out, formats_of}
use Rattle.play_forms.specs.Plans.{PlanValue}
use Rattle.play_plan_laws.specs.Casting.{place_of}
use Rattle.play_plan_laws.specs.Assemblies.{PlayFiles, file_at}

-- the component at the place: its ports have the formats of their links
abbrev pub terms_by : PlanValue → PlayFiles → ℕ → PartLine → Terms
terms_by plan files place part =
    let kind = kind_of part.form in
    record {
      kind = kind;
      inputs = formats_of (inputs_of kind) (format_into plan.joints plan.flows place);
      outputs = formats_of (outputs_of kind) (format_out plan place kind);
      factors = factors_of part.form;
      file = option_map attached (file_at plan files place);
    }

-- a number beyond the components stands for a source of nothing
abbrev pub no_terms : Terms
no_terms = record { kind = Source; inputs = []; outputs = []; factors = []; file = None }

abbrev pub terms_at : PlanValue → PlayFiles → ℕ → Option PartLine → Terms
terms_at plan files place None = no_terms
terms_at plan files place (Some part) = terms_by plan files place part

-- the line of the component that has its turn then
abbrev pub part_at : PlanValue → ℕ → Option PartLine
part_at plan c = option_and_then (slice_get plan.parts) (slice_get plan.order c)

abbrev pub terms_in : PlanValue → PlayFiles → ℕ → Terms
terms_in plan files c = terms_at plan files (place_of plan c) (part_at plan c)

-- What a play tells of its sinks, by its plan.
use Rattle.std.specs.Prelude.{ℕ, ◌+◌, List, [], ◌∷◌, slice_index_or}
use Rattle.script_lang.specs.declared.play_line.PartLine.{PartLine}
use Rattle.play_forms.specs.Fitting.{format_into}
use Rattle.play_forms.specs.Plans.{PlanValue}
use Rattle.play_result_laws.specs.Files.{written_by}
use Rattle.play_result_laws.specs.Summaries.{SinkLine, with_line}
use Rattle.play_result_laws.specs.Texts.{size_of}
use Rattle.play_course.specs.declared.summary.SinkLine.{SinkLine as Line}

abbrev pub planned_line : PlanValue → ℕ → SinkLine
planned_line plan place = record {
  component = place;
  frames = slice_index_or plan.frames place 0;
  bytes = size_of (format_into plan.joints plan.flows place 0) (slice_index_or plan.frames place 0);
}

-- the sinks from a place on
abbrev pub planned_from : PlanValue → ℕ → List PartLine → List SinkLine
planned_from plan place [] = []
planned_from plan place (part ∷ parts) = with_line (written_by part.form) (planned_line plan place) (planned_from plan (place + 1) parts)

-- each sink once, in script order, with its planned frames and the size of their file
abbrev pub planned_summary : PlanValue → List SinkLine
planned_summary plan = planned_from plan 0 plan.parts

abbrev pub line_value : Line → SinkLine
line_value line = record { component = line.component; frames = line.frames; bytes = line.bytes }

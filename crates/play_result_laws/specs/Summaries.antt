-- What a play tells at its end.
use Rattle.std.specs.Prelude.{ℕ, ◌+◌, List, [], ◌∷◌, ◌++◌, length, slice_get, slice_index_or, Option, Some, None, codes}
use Rattle.std.specs.Fmt.{decimal}
use Rattle.script_lang.specs.declared.play_line.PartLine.{PartLine}
use Rattle.play_forms.specs.Plain.{sink_text}
use Rattle.play_forms.specs.Plans.{PlanValue}
use Rattle.play_result_laws.specs.Files.{written_by}

-- of a sink, by the place of its line in the script: its frames, and the bytes of its file
pub record SinkLine : Type 0 where
  pub component : ℕ
  pub frames : ℕ
  pub bytes : ℕ

abbrev pub line_of : PlanValue → List (List ℕ) → ℕ → SinkLine
line_of plan samples place = record { component = place; frames = slice_index_or plan.frames place 0; bytes = length (sink_text plan samples place) }

abbrev pub with_line : Option (List ℕ) → SinkLine → List SinkLine → List SinkLine
with_line None line lines = lines
with_line (Some file) line lines = line ∷ lines

-- the sinks from a place on
abbrev pub lines_from : PlanValue → List (List ℕ) → ℕ → List PartLine → List SinkLine
lines_from plan samples place [] = []
lines_from plan samples place (part ∷ parts) =
    with_line (written_by part.form) (line_of plan samples place) (lines_from plan samples (place + 1) parts)

-- each sink once, in script order
abbrev pub summary_of : PlanValue → List (List ℕ) → List SinkLine
summary_of plan samples = lines_from plan samples 0 plan.parts

-- ---- its text

abbrev pub name_in : Option PartLine → List ℕ
name_in None = []
name_in (Some part) = part.name

-- `sink NAME FRAMES frames BYTES bytes`
abbrev pub line_text : List PartLine → SinkLine → List ℕ
line_text parts line =
    codes "sink " ++ name_in (slice_get parts line.component) ++ codes " " ++ decimal line.frames ++ codes " frames " ++ decimal line.bytes
    ++ codes " bytes\n"

-- a line for each sink, and then `ok`
abbrev pub summary_text : List PartLine → List SinkLine → List ℕ
summary_text parts [] = codes "ok\n"
summary_text parts (line ∷ lines) = line_text parts line ++ summary_text parts lines

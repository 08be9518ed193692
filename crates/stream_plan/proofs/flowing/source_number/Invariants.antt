use Rattle.std.proofs.Common.{◌≡◌, ◌≤◌, take}
use Rattle.std.specs.List.{count_by}
use Rattle.play_forms.specs.Parts.{is_source_part}
use Rattle.stream_plan.proofs.flowing.source_number.Given as goal

abbrev pub invariant-loop-part : goal.invariant-loop-part
invariant-loop-part l = record { sum : l.number ≡ count_by is_source_part (take l.part-index (take l.place l.parts)); few : l.number ≤ l.part-index }

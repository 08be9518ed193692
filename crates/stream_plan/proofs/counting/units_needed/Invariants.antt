use Rattle.std.proofs.Common.{◌≡◌, ◌≤◌, ◌*◌, take}
use Rattle.play_forms.specs.Parts.{units_needed}
use Rattle.stream_plan.proofs.counting.units_needed.Given as goal

abbrev pub invariant-loop-part : goal.invariant-loop-part
invariant-loop-part l = record { sum : l.needed ≡ units_needed (take l.part-index l.parts); few : l.needed ≤ 3 * l.part-index }

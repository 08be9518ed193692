-- The two ends of a link. The crates below have a Bool for an end, some of them of its output, and others of its input.
use Rattle.std.specs.Prelude.{ℕ, Bool, true, false, not}
use Rattle.play_forms.specs.declared.joint.Joint.{Joint}
use Rattle.play_graph.specs.declared.link_end.End.{End}
use Rattle.play_graph.specs.declared.link_end.End.TheVariants.{Input, Output}

abbrev pub at_output : End → Bool
at_output Output = true
at_output Input = false

abbrev pub at_input : End → Bool
at_input end = not (at_output end)

-- the component there, by its place, and its port
abbrev pub place_by : End → Joint → ℕ
place_by Output joint = joint.giver
place_by Input joint = joint.taker

abbrev pub index_by : End → Joint → ℕ
index_by Output joint = joint.output
index_by Input joint = joint.input

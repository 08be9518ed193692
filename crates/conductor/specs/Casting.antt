-- What a conductor takes from a plan.
use Rattle.std.specs.Prelude.{ℕ, suc, Bool, true, false, ◌==◌, List, [], ◌∷◌, ◌++◌, length, map, replicate, find, Option, Some}
use Rattle.il_machine.specs.Components.{no_progress}
use Rattle.script_lang.specs.declared.play_line.PartForm.{PartForm}
use Rattle.script_lang.specs.declared.play_line.PartForm.TheVariants.{Late, Sink}
use Rattle.script_lang.specs.declared.play_line.PartLine.{PartLine}
use Rattle.play_forms.specs.declared.joint.Joint.{Joint}
use Rattle.play_forms.specs.Plans.{PlanValue}
use Rattle.conductor.specs.declared.phase.LateLink.{LateLink}
use Rattle.conductor.specs.Hearing.{ConductorValue}

abbrev pub is_sink : PartForm → Bool
is_sink (Sink file) = true
is_sink other = false

-- the link of a late source, of which nothing was changed
abbrev pub unchanged : ℕ → Joint → LateLink
unchanged place joint = record {
  source = place;
  taker = joint.taker;
  input = joint.input;
  steps = 0;
  output_disabled = false;
  input_disabled = false;
  output_enabled = false;
  input_enabled = false;
}

abbrev pub late_link : PartForm → ℕ → Option Joint → List LateLink
late_link (Late file) place (Some joint) = unchanged place joint ∷ []
late_link _ place _ = []

abbrev pub link_from : List Joint → ℕ → Option Joint
link_from joints place = find (λ (joint : Joint). joint.giver == place) joints

-- those of the components from a place on
abbrev pub late_links : List Joint → ℕ → List PartLine → List LateLink
late_links joints place [] = []
late_links joints place (part ∷ parts) = late_link part.form place (link_from joints place) ++ late_links joints (suc place) parts

-- nothing was told and nothing was sent
abbrev pub cast_of : PlanValue → ConductorValue
cast_of plan = record {
  sinks = map (λ (part : PartLine). is_sink part.form) plan.parts;
  told = replicate (length plan.parts) no_progress;
  lates = late_links plan.joints 0 plan.parts;
  sends = 0;
}

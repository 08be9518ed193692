-- The link of a late source, as lines name it.
use Rattle.std.specs.Prelude.{ℕ, ◌==◌, Bool, List, slice_get, Option, Some, None}
use Rattle.std.specs.List.{position_or_len}
use Rattle.act_text.specs.declared.name.PortName.{PortName}
use Rattle.script_lang.specs.declared.play_line.PartLine.{PartLine}
use Rattle.play_forms.specs.declared.flow.Flow.{Flow}
use Rattle.play_forms.specs.declared.joint.Joint.{Joint}
use Rattle.play_forms.specs.Plans.{PlanValue}
use Rattle.audit_order.specs.declared.ends.LinkEnds.{LinkEnds}

abbrev pub gives : ℕ → Joint → Bool
gives source joint = joint.giver == source

abbrev pub position_from : PlanValue → ℕ → ℕ
position_from plan source = position_or_len (gives source) plan.joints

abbrev pub port_named : List ℕ → ℕ → PortName
port_named component index = record { component = component; index = index }

abbrev pub ends_by : Option PartLine → Option PartLine → Joint → Flow → Option LinkEnds
ends_by (Some giver) (Some taker) joint flow =
    Some (record {
      output = port_named giver.name joint.output;
      input = port_named taker.name joint.input;
      taker = joint.taker;
      format = flow.format;
      count = joint.count;
      size = joint.size;
    })
ends_by _ _ joint flow = None

abbrev pub link_at : List PartLine → Option Joint → Option Flow → Option LinkEnds
link_at parts (Some joint) (Some flow) = ends_by (slice_get parts joint.giver) (slice_get parts joint.taker) joint flow
link_at parts _ _ = None

-- the link that the component at the place gives into
abbrev pub link_of : PlanValue → ℕ → Option LinkEnds
link_of plan source = link_at plan.parts (slice_get plan.joints (position_from plan source)) (slice_get plan.flows (position_from plan source))

-- The ends of a link that is being changed.
use Rattle.std.proofs.Common.{◌≡◌, ◌<◌, ℕ, true, nat_le, length, slice_get, Some, refl, sym, ◌∙◌, ap, subst, leb-true}
use Rattle.std.proofs.lemmas.Bool.{le-ltb}
use Rattle.std.proofs.lemmas.Option.{slice_get-get_or}
use Rattle.omx_types.specs.declared.handle.Handle.{Handle}
use Rattle.part_forms.specs.Kinds.{inputs_of, is_input}
use Rattle.machine_laws.proofs.Accepting.{both_of}
use Rattle.script_lang.specs.declared.play_line.PartLine.{PartLine}
use Rattle.play_forms.specs.Parts.{has_input, has_output, kind_of, passes_at}
use Rattle.play_forms.specs.declared.joint.Joint.{Joint}
use Rattle.play_forms.specs.Plans.{IsValid, PlanValue}
use Rattle.play_model.specs.Play.{Play, component_at}
use Rattle.play_world_laws.specs.Cast.{script_place}
use Rattle.play_world_laws.specs.Worlds.{Names}
use Rattle.play_plan_laws.specs.Casting.{joint_of, no_joint}
use Rattle.play_plan_laws.proofs.Links.{ports_of_joint}
use Rattle.play_graph.specs.declared.link_end.End.{End}
use Rattle.play_graph.specs.declared.link_end.End.TheVariants.{Input, Output}
use Rattle.play_graph.specs.Graphs.{IsHandleAt}
use Rattle.play_graph.specs.LinkEnds.{at_input, at_output, index_by, place_by}
use Rattle.play_graph.proofs.Naming.{named_at}
use Rattle.play_graph.proofs.Standing.{givers_there, takers_there}
use Rattle.play_world_laws.specs.PlayWorlds.{port_number}
use Rattle.play_run.proofs.Linking.{link_is}
use Rattle.play_run.specs.Playing.{IsStanding, PlayingValue, cast, layout_of}

pub end_place : (plan : PlanValue) (l : ℕ) (end : End) → IsValid plan → l < length plan.joints → script_place (cast plan) (component_at (layout_of plan) (at_output end) l) ≡ place_by end (joint_of plan l)
end_place plan l Output V b = (link_is plan l V b).giver
end_place plan l Input V b = (link_is plan l V b).taker

pub end_index : (plan : PlanValue) (l : ℕ) (end : End) → index_by end (joint_of plan l) ≡ port_number (cast plan) (at_output end) l
end_index plan l Output = refl
end_index plan l Input = refl

pub end_there : (plan : PlanValue) (l place : ℕ) (end : End) (j : Joint) → IsValid plan → l < length plan.joints → j ≡ joint_of plan l → place ≡ place_by end j → place < length plan.parts
end_there plan l place Output j V b J P = subst (λ (n : ℕ). n < length plan.parts) (sym P) (givers_there plan l j V b J)
end_there plan l place Input j V b J P = subst (λ (n : ℕ). n < length plan.parts) (sym P) (takers_there plan l j V b J)

-- the port is of that direction
pub end_input : (plan : PlanValue) (l : ℕ) (end : End) (part : PartLine) → IsValid plan → l < length plan.joints → slice_get plan.parts (place_by end (joint_of plan l)) ≡ Some part
    → is_input (kind_of part.form) (index_by end (joint_of plan l)) ≡ at_input end
end_input plan l Output part V b e =
    let P = ports_of_joint plan V l (joint_of plan l) (slice_get-get_or plan.joints l no_joint b) in
    let has : has_output (joint_of plan l).output (kind_of part.form) ≡ true = ap (passes_at (has_output (joint_of plan l).output)) (sym e) ∙ P.0 in
    let low = leb-true (inputs_of (kind_of part.form)) (joint_of plan l).output (both_of (nat_le (inputs_of (kind_of part.form)) (joint_of plan l).output) _ has).0 in
    le-ltb (joint_of plan l).output (inputs_of (kind_of part.form)) low
end_input plan l Input part V b e =
    let P = ports_of_joint plan V l (joint_of plan l) (slice_get-get_or plan.joints l no_joint b) in
    ap (passes_at (has_input (joint_of plan l).input)) (sym e) ∙ P.1

module _ {S K : Type 0} where
  pub end_named : (x : PlayingValue S K) (p : Play) (Z : IsStanding x p) (l : ℕ) (end : End) (h : Handle) → l < length x.plan.joints → IsHandleAt x.graph (place_by end (joint_of x.plan l)) h
      → Names (cast x.plan) Z.world (component_at (layout_of x.plan) (at_output end) l) h
  end_named x p Z l end h b H = named_at Z.world (place_by end (joint_of x.plan l)) h ((Z.conducted).play).sound (H Z.world Z.stands) ∙ ap Some (sym (end_place x.plan l end Z.valid b))

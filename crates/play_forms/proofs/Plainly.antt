-- In a valid plan each giver is a component, and the plain function gives the streams that each giver makes.
use Rattle.std.proofs.Common.{◌≡◌, ℕ, ◌<◌, Bool, true, not, List, [], length, take, Option, Some, None, refl}
use Rattle.std.specs.Prelude.{slice_get}
use Rattle.std.specs.List.{list_any}
use Rattle.std.proofs.lemmas.List.{length-replicate}
use Rattle.std.proofs.lemmas.Option.{slice_get_within}
use Rattle.omx_types.specs.declared.kind.Kind.{Kind}
use Rattle.script_lang.specs.declared.play_line.PartLine.{PartLine}
use Rattle.play_forms.specs.declared.joint.Joint.{Joint}
use Rattle.play_forms.specs.Joints.{AllJoin, is_joint, shares_port}
use Rattle.play_forms.specs.Parts.{has_input, has_output, passes_at}
use Rattle.play_forms.specs.Plain.{ArePlain, plain, stream_rule}
use Rattle.play_forms.specs.Plans.{IsValid, PlanValue}
use Rattle.play_forms.proofs.Places.{and_both}
use Rattle.play_forms.proofs.Settled.{settled}

-- where a test passes there is a component
passes_there : (test : Kind → Bool) (parts : List PartLine) (place : ℕ) (part : Option PartLine) → slice_get parts place ≡ part → passes_at test part ≡ true → place < length parts
passes_there test parts place None is e = absurd cc
passes_there test parts place (Some part) is e = slice_get_within parts place part is

pub passes_within : (test : Kind → Bool) (parts : List PartLine) (place : ℕ) → passes_at test (slice_get parts place) ≡ true → place < length parts
passes_within test parts place e = passes_there test parts place (slice_get parts place) refl e

pub givers_within : (parts : List PartLine) (joints : List Joint) → AllJoin parts joints → (k : ℕ) (joint : Joint) → slice_get joints k ≡ Some joint → joint.giver < length parts
givers_within parts joints all k joint e =
    let can = and_both (is_joint parts joint) (not (list_any (shares_port joint) (take k joints))) (all k joint e) in
    let ends = and_both (passes_at (has_output joint.output) (slice_get parts joint.giver)) (passes_at (has_input joint.input) (slice_get parts joint.taker)) can.0 in
    passes_within (has_output joint.output) parts joint.giver ends.0

pub plain_is : (plan : PlanValue) (samples : List (List ℕ)) → IsValid plan → ArePlain plan samples (plain plan samples)
plain_is plan samples valid =
    settled (stream_rule plan samples) [] plan.joints (length plan.parts) plan.order _ valid.placed
    (givers_within plan.parts plan.joints valid.joined) (length-replicate (length plan.joints) [])

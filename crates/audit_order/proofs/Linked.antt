-- In a valid plan each late source gives into a link.
use Rattle.std.proofs.Common.{◌≡◌, ℕ, zero, suc, ◌+◌, ◌<◌, Bool, true, false, ◌==◌, ◌&&◌, ◌||◌, nat_lt, List, [], ◌∷◌, length, slice_get, Option, Some, None, find, refl, sym, ◌∙◌, ap, subst, arith}
use Rattle.std.specs.List.{list_any}
use Rattle.std.proofs.lemmas.Bool.{and_parts, eqb-true}
use Rattle.std.proofs.lemmas.Grind.{common_steps}
use Rattle.std.proofs.lemmas.List.Folds.{find_at}
use Rattle.std.proofs.lemmas.Option.{slice_get_within}
use Rattle.omx_types.specs.declared.kind.Kind.{Kind}
use Rattle.omx_types.specs.declared.kind.Kind.TheVariants as kinds
use Rattle.part_forms.specs.Kinds.{inputs_of, is_late, ports_in}
use Rattle.script_lang.specs.declared.play_line.PartLine.{PartLine}
use Rattle.play_forms.proofs.Places.{Some_same, either}
use Rattle.play_forms.specs.declared.flow.Flow.{Flow}
use Rattle.play_forms.specs.declared.joint.Joint.{Joint}
use Rattle.play_forms.specs.Joints.{AllJoin, can_join, is_joint, is_linked, names_port}
use Rattle.play_forms.specs.Parts.{has_input, has_output, kind_of, passes_at}
use Rattle.play_forms.specs.Plans.{IsValid, PlanValue}
use Rattle.audit_order.specs.declared.ends.LinkEnds.{LinkEnds}
use Rattle.audit_order.specs.Ends.{ends_by, gives, link_at, link_of, position_from}
use Rattle.audit_order.specs.Wanted.{HaveLinks}
use Rattle.audit_order.proofs.Admitted.{there_at}

late_inputs : (kind : Kind) → is_late kind ≡ true → inputs_of kind ≡ 0
late_inputs kinds.Source e = absurd cc
late_inputs kinds.Decoder e = absurd cc
late_inputs kinds.Alaw e = absurd cc
late_inputs kinds.Mulaw e = absurd cc
late_inputs kinds.Gain e = absurd cc
late_inputs (kinds.Mixer inputs) e = absurd cc
late_inputs (kinds.Splitter outputs) e = absurd cc
late_inputs kinds.Sink e = absurd cc
late_inputs kinds.Late e = refl

late_ports : (kind : Kind) → is_late kind ≡ true → 0 < ports_in kind
late_ports kinds.Source e = absurd cc
late_ports kinds.Decoder e = absurd cc
late_ports kinds.Alaw e = absurd cc
late_ports kinds.Mulaw e = absurd cc
late_ports kinds.Gain e = absurd cc
late_ports (kinds.Mixer inputs) e = absurd cc
late_ports (kinds.Splitter outputs) e = absurd cc
late_ports kinds.Sink e = absurd cc
late_ports kinds.Late e = omega arith

no_input : (input : ℕ) (kind : Kind) → is_late kind ≡ true → has_input input kind ≡ true → ⊥
no_input input kind late has = let none = late_inputs kind late in grind (arith, common_steps, none, has)

-- a component for which a test passes is there
record IsThere (test : Kind → Bool) (o : Option PartLine) : Type 0 where
  part : PartLine
  is : o ≡ Some part
  passes : test (kind_of part.form) ≡ true

there_of : (test : Kind → Bool) (o : Option PartLine) → passes_at test o ≡ true → IsThere test o
there_of test None e = absurd cc
there_of test (Some part) e = record { part = part; is = refl; passes = e }

-- the first joint of a list that passes a test, where one does
record IsFound (test : Joint → Bool) (joints : List Joint) : Type 0 where
  joint : Joint
  found : find test joints ≡ Some joint

find_first : (test : Joint → Bool) (joint : Joint) (joints : List Joint) → test joint ≡ true → find test (joint ∷ joints) ≡ Some joint
find_first test joint joints t = rw t refl

find_next : (test : Joint → Bool) (joint : Joint) (joints : List Joint) → test joint ≡ false → find test (joint ∷ joints) ≡ find test joints
find_next test joint joints f = rw f refl

module _ (parts : List PartLine) (place : ℕ) (late : passes_at is_late (slice_get parts place) ≡ true) where
  taken : (joint : Joint) → is_joint parts joint ≡ true → (joint.taker == place) ≡ true → ⊥
  taken joint joins same =
      let both = and_parts (passes_at (has_output joint.output) (slice_get parts joint.giver)) (passes_at (has_input joint.input) (slice_get parts joint.taker)) joins in
      let at : joint.taker ≡ place = eqb-true joint.taker place same in
      let L = there_of is_late (slice_get parts place) late in
      let I = there_of (has_input joint.input) (slice_get parts joint.taker) both.1 in
      let one : I.part ≡ L.part = Some_same I.part L.part (sym I.is ∙ ap (slice_get parts) at ∙ L.is) in
      no_input joint.input (kind_of (L.part).form) L.passes (subst (λ (p : PartLine). has_input joint.input (kind_of p.form) ≡ true) one I.passes)

  given : (giver output taker input : Bool) → ((giver && output) || (taker && input)) ≡ true → (taker ≡ true → ⊥) → giver ≡ true
  given true output taker input e never = refl
  given false output true input e never = absurd (never refl)
  given false output false input e never = absurd cc

  found : (joints : List Joint) → ((k : ℕ) (joint : Joint) → slice_get joints k ≡ Some joint → is_joint parts joint ≡ true) → list_any (names_port place 0) joints ≡ true → IsFound (gives place) joints
  found [] all any = absurd (grind (arith, common_steps, any))
  found (joint ∷ joints) all any = either (gives place joint)
      (λ t. record { joint = joint; found = find_first (gives place) joint joints t })
      (λ f.
      let F = found joints (λ k j at. all (suc k) j at) (either (names_port place 0 joint)
      (λ named. let g = given (joint.giver == place) (joint.output == 0) (joint.taker == place) (joint.input == 0) named (taken joint (all 0 joint refl)) in
      let clash : true ≡ false = sym g ∙ f in absurd cc)
      (λ other. grind (arith, common_steps, any, other))) in
      record { joint = F.joint; found = find_next (gives place) joint joints f ∙ F.found })

pub all_linked : (plan : PlanValue) → IsValid plan → HaveLinks plan
all_linked plan V place late =
    let L = there_of is_late (slice_get plan.parts place) late in
    let joins : (k : ℕ) (joint : Joint) → slice_get plan.joints k ≡ Some joint → is_joint plan.parts joint ≡ true =
    λ k joint at. (and_parts (is_joint plan.parts joint) _ (V.joined k joint at)).0 in
    let any = V.linked place L.part L.is 0 (late_ports (kind_of (L.part).form) L.passes) in
    let F = found plan.parts place late plan.joints joins any in
    let joint : Joint = F.joint in
    let at : slice_get plan.joints (position_from plan place) ≡ Some joint = sym (find_at (gives place) plan.joints) ∙ F.found in
    let flow = there_at plan.flows (position_from plan place) (let within = slice_get_within plan.joints (position_from plan place) joint at in let many = V.flows in omega (arith, within, many)) in
    let both = and_parts (passes_at (has_output joint.output) (slice_get plan.parts joint.giver)) (passes_at (has_input joint.input) (slice_get plan.parts joint.taker)) (joins (position_from plan place) joint at) in
    let giver = there_of (has_output joint.output) (slice_get plan.parts joint.giver) both.0 in
    let taker = there_of (has_input joint.input) (slice_get plan.parts joint.taker) both.1 in
    let by = some_ends giver.part taker.part joint flow.0 in
    (by.0, (λ j. link_at plan.parts (at j) (flow.1 j)) ∙ (λ j. ends_by (giver.is j) (taker.is j) joint flow.0) ∙ by.1)
  where
    some_ends : (giver taker : PartLine) (joint : Joint) (flow : Flow) → (ends : LinkEnds) × (ends_by (Some giver) (Some taker) joint flow ≡ Some ends)
    some_ends giver taker joint flow = (_, refl)

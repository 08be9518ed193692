use Rattle.std.proofs.Common.{◌≡◌, ℕ, List, length, refl, sym, ◌∙◌, ap, subst}
use Rattle.std.specs.Prelude.{OnOk}
use Rattle.std.specs.Vec.{vec_len, with_items}
use Rattle.std.proofs.lemmas.List.{with_items_is}
use Rattle.script_lang.specs.declared.play_line.PartLine.{PartLine}
use Rattle.play_forms.specs.declared.flow.Flow.{Flow}
use Rattle.play_forms.specs.declared.joint.Joint.{Joint}
use Rattle.play_forms.specs.Fitting.{AllFit}
use Rattle.play_forms.specs.Flows.{AreFlows, AreFrames, flow_rule, no_flow}
use Rattle.play_forms.specs.Plans.{IsFitted, IsValid, PlanValue}
use Rattle.play_forms.specs.Settling.{given_along}
use Rattle.stream_plan.proofs.Fitted.{flows_are}
use Rattle.stream_plan.proofs.plan.Plan.fit.Goals as goal
use Rattle.stream_plan.proofs.plan.Plan.fit.Goals.{in-Some, in-None}

pub returns-clause-fitted : goal.returns-clause-fitted
returns-clause-fitted c =
    let inside = c.self.inside in
    let heads = c.args.heads.now in
    let parts = inside.parts.items in
    let joints = inside.joints.items in
    let order = inside.order.items in
    let after = c.set_flows.new.flows in
    let valid : IsValid (record { units = inside.units; parts = parts; joints = joints; order = order; flows = inside.flows.items; frames = inside.frames.items }) =
    subst IsValid (sym c.self.view_is) c.requires in
    let along : after ≡ given_along (flow_rule parts heads) no_flow joints order inside.flows.items =
    c.set_flows.ensures
    ∙ ap (λ (ps : List PartLine). given_along (flow_rule ps heads) no_flow c.as_slice-2.result.now c.as_slice-3.result.now c.as_mut_slice.result.now) c.as_slice.ensures.value
    ∙ ap (λ (js : List Joint). given_along (flow_rule parts heads) no_flow js c.as_slice-3.result.now c.as_mut_slice.result.now) c.as_slice-2.ensures.value
    ∙ ap (λ (os : List ℕ). given_along (flow_rule parts heads) no_flow joints os c.as_mut_slice.result.now) c.as_slice-3.ensures.value
    ∙ ap (given_along (flow_rule parts heads) no_flow joints order) c.as_mut_slice.ensures.value in
    let flows : AreFlows parts joints heads after = flows_are parts joints heads order inside.flows.items after valid.joined valid.placed valid.flows along in
    let before_size : length c.as_mut_slice.result.now ≡ vec_len inside.flows = c.as_mut_slice.ensures.len in
    let size : length after ≡ vec_len inside.flows =
    flows.many ∙ sym valid.flows ∙ sym (ap length c.as_mut_slice.ensures.value) ∙ before_size in
    let kept : (with_items inside.flows after).items ≡ after = with_items_is inside.flows after size in
    let frames : AreFrames parts joints heads (with_items inside.flows after).items c.set_frames.new.frames =
    subst (λ (ps : List PartLine). AreFrames ps joints heads (with_items inside.flows after).items c.set_frames.new.frames) c.as_slice.ensures.value
    (subst (λ (js : List Joint). AreFrames c.as_slice.result.now js heads (with_items inside.flows after).items c.set_frames.new.frames) c.as_slice-2.ensures.value
    (subst (λ (fs : List Flow). AreFrames c.as_slice.result.now c.as_slice-2.result.now heads fs c.set_frames.new.frames) c.as_slice-4.ensures.value c.set_frames.ensures)) in
    let frames_size : length c.set_frames.new.frames ≡ vec_len inside.frames =
    frames.many ∙ sym valid.frames ∙ sym (ap length c.as_mut_slice-2.ensures.value) ∙ c.as_mut_slice-2.ensures.len in
    let frames_kept : (with_items inside.frames c.set_frames.new.frames).items ≡ c.set_frames.new.frames = with_items_is inside.frames c.set_frames.new.frames frames_size in
    subst (λ (plan : PlanValue). IsFitted plan heads (record {
      units = inside.units;
      parts = parts;
      joints = joints;
      order = order;
      flows = (with_items inside.flows after).items;
      frames = (with_items inside.frames c.set_frames.new.frames).items;
    })) c.self.view_is
    (record {
      units = refl;
      parts = refl;
      joints = refl;
      order = refl;
      flows = subst (AreFlows parts joints heads) (sym kept) flows;
      frames = subst (AreFrames parts joints heads (with_items inside.flows after).items) (sym frames_kept) frames;
    })

pub returns-clause-fits : goal.returns-clause-fits
returns-clause-fits c =
    let inside = c.self.inside in
    let parts = inside.parts.items in
    let joints = inside.joints.items in
    let order = inside.order.items in
    let flows = (with_items inside.flows c.set_flows.new.flows).items in
    elim c.match-misfit.branch [
      | in-Some w ↦ subst (λ result. OnOk result (AllFit parts joints flows order)) (sym w.result-is) tt
      | in-None w ↦ subst (λ result. OnOk result (AllFit parts joints flows order)) (sym w.result-is)
          (subst (λ (ps : List PartLine). AllFit ps joints flows order) c.as_slice-5.ensures.value
          (subst (λ (js : List Joint). AllFit c.as_slice-5.result.now js flows order) c.as_slice-6.ensures.value
          (subst (λ (os : List ℕ). AllFit c.as_slice-5.result.now c.as_slice-6.result.now flows os) c.as_slice-7.ensures.value
          (subst (λ (fs : List Flow). AllFit c.as_slice-5.result.now c.as_slice-6.result.now fs c.as_slice-7.result.now) c.as_slice-8.ensures.value w.in-None.ensures.none))))
    ]

use Rattle.std.proofs.Common.{◌≡◌, true, false, [], ◌∷◌, ◌++◌, Some, sym, ◌∙◌, ap, subst}
use Rattle.std.specs.Prelude.{slice_get}
use Rattle.play_forms.specs.declared.joint.Joint.{Joint}
use Rattle.play_forms.specs.Joints.{AllJoin, IsTwice, can_join, joint_of, joints_of}
use Rattle.stream_plan.proofs.Links.{joined_more, joints_more, twice_there}
use Rattle.stream_plan.proofs.Lists.{there_at}
use Rattle.stream_plan.proofs.joining.joints_of.Goals as goal

pub returns-then-not-can_join-clause-twice : goal.returns-then-not-can_join-clause-twice
returns-then-not-can_join-clause-twice c =
    let parts = c.args.parts.now in
    let links = c.args.links.now in
    let link = c.link-item.result in
    let joints = c.loop-link.joints.items in
    let there : slice_get links c.loop-link.link-index ≡ Some link =
    there_at links c.loop-link.link-index link c.loop-link-test.true ∙ ap Some (sym c.link-item.is) in
    let clash : can_join parts joints (joint_of parts link) ≡ false =
    subst (λ joint. can_join parts joints joint ≡ false) c.joint_of-joint.ensures
    (subst (λ earlier. can_join parts earlier c.joint_of-joint.result ≡ false) c.as_slice.ensures.value (sym c.can_join.ensures ∙ c.if-not-can_join.true)) in
    subst (λ (joint : Joint). IsTwice parts (joints_of parts links) joint.line) (sym c.joint_of-joint.ensures)
    (twice_there parts links c.loop-link.link-index link joints there c.loop-link.invariant.these c.loop-link.invariant.joined clash)

pub loop-link-preserved : goal.loop-link-preserved
loop-link-preserved c =
    let parts = c.args.parts.now in
    let links = c.args.links.now in
    let link = c.link-item.result in
    let joints = c.loop-link.joints.items in
    let there : slice_get links c.loop-link.link-index ≡ Some link =
    there_at links c.loop-link.link-index link c.loop-link-test.true ∙ ap Some (sym c.link-item.is) in
    let can : can_join parts joints (joint_of parts link) ≡ true =
    subst (λ joint. can_join parts joints joint ≡ true) c.joint_of-joint.ensures
    (subst (λ earlier. can_join parts earlier c.joint_of-joint.result ≡ true) c.as_slice.ensures.value (sym c.can_join.ensures ∙ c.if-not-can_join.false)) in
    let pushed : c.push.new.self.items ≡ joints ++ (joint_of parts link ∷ []) =
    c.in_ok-push.ensures.items ∙ ap (λ (joint : Joint). joints ++ (joint ∷ [])) c.joint_of-joint.ensures in
    record {
      these = pushed ∙ joints_more parts links c.loop-link.link-index link joints there c.loop-link.invariant.these;
      joined = subst (AllJoin parts) (sym pushed) (joined_more parts joints (joint_of parts link) c.loop-link.invariant.joined can);
    }

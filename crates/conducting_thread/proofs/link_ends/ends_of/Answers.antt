use Rattle.std.proofs.Common.{true, false, ◌∙◌, ap, arith}
use Rattle.play_forms.specs.declared.joint.Joint.{Joint}
use Rattle.play_build_laws.specs.Building.{no_handle}
use Rattle.std.specs.Prelude.{slice_index_or}
use Rattle.work_signs.specs.Seats.{handles_of}
use Rattle.conducting_thread.proofs.Seats.{giver_there, handle_there, taker_there}
use Rattle.conducting_thread.proofs.link_ends.ends_of.Goals as goal

pub handle_at-giver-requires : goal.handle_at-giver-requires
handle_at-giver-requires c =
    let many = c.requires.seats.many in
    let below = giver_there c.args.plan.now c.args.link c.joint_at-joint.result c.requires.valid c.requires.below c.joint_at-joint.ensures in
    omega arith

pub handle_at-taker-requires : goal.handle_at-taker-requires
handle_at-taker-requires c =
    let many = c.requires.seats.many in
    let below = taker_there c.args.plan.now c.args.link c.joint_at-joint.result c.requires.valid c.requires.below c.joint_at-joint.ensures in
    omega arith

pub returns : goal.returns
returns c =
    let handles = handles_of c.args.seats.now in
    let E = c.joint_at-joint.ensures in
    let F = c.flow_at-flow.ensures in
    let giver = handle_there c.args.seats.now (c.joint_at-joint.result).giver c.handle_at-giver.result c.handle_at-giver.ensures ∙ ap (λ (j : Joint). slice_index_or handles j.giver no_handle) E in
    let taker = handle_there c.args.seats.now (c.joint_at-joint.result).taker c.handle_at-taker.result c.handle_at-taker.ensures ∙ ap (λ (j : Joint). slice_index_or handles j.taker no_handle) E in
    let given = c.definition-given.ensures ∙ (λ i. record { input = false; format = (F i).format; count = (E i).count; size = (E i).size }) in
    let taken = c.definition-taken.ensures ∙ (λ i. record { input = true; format = (F i).format; count = (E i).count; size = (E i).size }) in
    λ i. record {
      output = record { handle = giver i; index = (E i).output };
      input = record { handle = taker i; index = (E i).input };
      given = given i;
      taken = taken i;
    }

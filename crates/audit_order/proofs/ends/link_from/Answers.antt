use Rattle.std.proofs.Common.{◌≡◌, true, get_or, sym, arith}
use Rattle.std.proofs.lemmas.Grind.{common_steps}
use Rattle.std.proofs.lemmas.List.Sums.{position_or_len_is}
use Rattle.play_forms.specs.declared.joint.Joint.{Joint}
use Rattle.audit_order.specs.Ends.{gives}
use Rattle.audit_order.proofs.ends.link_from.Goals as goal

no_joint : Joint
no_joint = record { line = 0; giver = 0; output = 0; taker = 0; input = 0; count = 0; size = 0 }

pub returns : goal.returns
returns c =
    sym (position_or_len_is (gives c.args.source) c.args.joints.now _ no_joint (omega arith)
    (λ k below. c.loop-place.invariant no_joint k (omega arith)) (λ below. absurd (omega arith)))

pub returns-then-joint-source : goal.returns-then-joint-source
returns-then-joint-source c =
    sym (position_or_len_is (gives c.args.source) c.args.joints.now c.loop-place.place no_joint (omega arith)
    (c.loop-place.invariant no_joint) (λ below. grind (arith, common_steps, c.if-joint-source.true)))

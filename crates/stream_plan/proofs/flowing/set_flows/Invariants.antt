use Rattle.std.proofs.Common.{◌≡◌, length, drop}
use Rattle.play_forms.specs.Flows.{flow_rule, no_flow}
use Rattle.play_forms.specs.Settling.{given_along}
use Rattle.stream_plan.proofs.flowing.set_flows.Given as goal

abbrev pub invariant-loop-place : goal.invariant-loop-place
invariant-loop-place l = record {
  many : length l.flows ≡ length l.scene.joints.now;
  along : given_along (flow_rule l.scene.parts.now l.scene.heads.now) no_flow l.scene.joints.now (drop l.place-index l.order) l.flows ≡ given_along (flow_rule l.scene.parts.now l.scene.heads.now) no_flow l.scene.joints.now l.order l.initial.flows;
}

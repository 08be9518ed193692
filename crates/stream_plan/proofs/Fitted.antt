-- The flows that a plan gets are those of its links.
use Rattle.std.proofs.Common.{◌≡◌, ℕ, List, length, sym, subst}
use Rattle.script_lang.specs.declared.play_line.PartLine.{PartLine}
use Rattle.wav_form.specs.declared.heads.WavHead.{WavHead}
use Rattle.play_forms.specs.declared.flow.Flow.{Flow}
use Rattle.play_forms.specs.declared.joint.Joint.{Joint}
use Rattle.play_forms.specs.Flows.{AreFlows, flow_rule, no_flow}
use Rattle.play_forms.specs.Joints.{AllJoin}
use Rattle.play_forms.specs.Placing.{IsOrder}
use Rattle.play_forms.specs.Settling.{given_along}
use Rattle.play_forms.proofs.Plainly.{givers_within}
use Rattle.play_forms.proofs.Settled.{settled}

pub flows_are : (parts : List PartLine) (joints : List Joint) (heads : List WavHead) (order : List ℕ) (before after : List Flow) → AllJoin parts joints → IsOrder joints (length parts) order
    → length before ≡ length joints → after ≡ given_along (flow_rule parts heads) no_flow joints order before → AreFlows parts joints heads after
flows_are parts joints heads order before after joined placed many is =
    subst (AreFlows parts joints heads) (sym is)
    (settled (flow_rule parts heads) no_flow joints (length parts) order before placed (givers_within parts joints joined) many)

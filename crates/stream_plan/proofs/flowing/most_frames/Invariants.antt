use Rattle.std.proofs.Common.{◌≡◌}
use Rattle.play_forms.specs.Flows.{most_frames, no_flow}
use Rattle.play_forms.specs.Settling.{into}
use Rattle.stream_plan.proofs.flowing.most_frames.Given as goal

abbrev pub invariant-loop-input : goal.invariant-loop-input
invariant-loop-input l = l.most ≡ most_frames l.input (into no_flow l.joints l.flows l.place)

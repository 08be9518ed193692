use Rattle.std.proofs.Common.{◌≡◌, drop}
use Rattle.play_forms.specs.Flows.{no_flow}
use Rattle.play_forms.specs.Settling.{into}
use Rattle.play_course.proofs.summary.flow_into.Given as goal

abbrev pub invariant-loop-number : goal.invariant-loop-number
invariant-loop-number l = into no_flow (drop l.number l.joints) (drop l.number l.flows) l.place 0 ≡ into no_flow l.joints l.flows l.place 0

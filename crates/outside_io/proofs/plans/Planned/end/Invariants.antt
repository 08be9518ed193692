use Rattle.std.proofs.Common.{◌≡◌, ◌≤◌, ◌-◌, ◌^◌, drop, min}
use Rattle.outside_io.specs.Fails.{end_of, fails_of}
use Rattle.outside_io.proofs.plans.Planned.end.Given as goal

abbrev pub invariant-loop-plan : goal.invariant-loop-plan
invariant-loop-plan l = record {
  fits : l.end ≤ 2 ^ 64 - 1;
  least : min l.end (end_of (fails_of (drop l.plan-index l.plans)) l.name) ≡ end_of (fails_of l.plans) l.name;
}

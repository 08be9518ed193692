use Rattle.std.proofs.Common.{◌≡◌, length, take}
use Rattle.il_component.specs.Entries.{component_of}
use Rattle.work_landing.specs.Landed.{AreWays}
use Rattle.graph_core.proofs.finishing.ways_of.Given as goal

abbrev pub invariant-loop-index : goal.invariant-loop-index
invariant-loop-index g l =
    let c = component_of l.component in
    record { ways : AreWays c 0 (take l.index l.ways); all : length l.ways ≡ 9 }

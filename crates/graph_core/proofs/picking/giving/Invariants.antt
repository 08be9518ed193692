use Rattle.std.proofs.Common.{◌≡◌, length, map, take}
use Rattle.il_machine.specs.World.{ports_of}
use Rattle.il_component.specs.Entries.{component_of}
use Rattle.graph_core.specs.Claiming.{gives_to}
use Rattle.graph_core.proofs.picking.giving.Given as goal

abbrev pub invariant-loop-index : goal.invariant-loop-index
invariant-loop-index g l =
    let c = component_of l.component in
    record { flags : take l.index l.gives ≡ map (gives_to l.announces c) (take l.index (ports_of c)); all : length l.gives ≡ 9 }

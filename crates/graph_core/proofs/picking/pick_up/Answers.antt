use Rattle.std.proofs.Common.{◌≡◌, length, sym, ◌∙◌, arith}
use Rattle.il_machine.specs.World.{number_of, ports_of}
use Rattle.il_component.specs.Entries.{component_of}
use Rattle.port_stock.specs.Kept.{stocked}
use Rattle.graph_core.specs.Claiming.{gives_to}
use Rattle.graph_core.proofs.Picked.{ports_there}
use Rattle.graph_core.proofs.picking.pick_up.Goals as goal

pub pick_ports-requires-clause-there : goal.pick_ports-requires-clause-there
pick_ports-requires-clause-there g c =
    let k = component_of c.args.component.now in
    let n : c.ports.result ≡ length (ports_of k) = c.ports.ensures.count ∙ sym c.requires.ports.many in
    rw (c.handle.ensures, n, c.giving-gives.ensures) (ports_there (number_of k) 0 (gives_to c.args.announces k) k.settings.ports k.ports (stocked c.args.stock.now) (λ port a b. c.requires.ports.ports port (omega arith)))

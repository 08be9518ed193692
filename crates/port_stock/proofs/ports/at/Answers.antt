use Rattle.port_stock.proofs.Finding.{placed, read_port}
use Rattle.port_stock.proofs.ports.at.Goals as goal

pub returns : goal.returns
returns c = read_port c.args.key _ c.args.ports.now _ (placed c.args.key _ c.args.ports.now c.requires.differ c.place_of-place.ensures) c.index-ports-place.is

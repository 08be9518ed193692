use Rattle.std.proofs.Common.{sym, ◌∙◌}
use Rattle.port_stock.proofs.Finding.{not_missing, searched}
use Rattle.port_stock.proofs.ports.place_of.Goals as goal

pub unreachable-requires : goal.unreachable-requires
unreachable-requires c = not_missing c.args.key c.args.ports.now (sym c.looked_up_place.ensures ∙ c.in-None.is) c.requires

pub returns : goal.returns
returns c = searched c.args.key _ c.args.ports.now (sym c.looked_up_place.ensures ∙ c.in-Some-looked_up_place.is)

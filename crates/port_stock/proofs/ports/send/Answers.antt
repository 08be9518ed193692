use Rattle.std.proofs.Common.{◌≡◌, ℕ, slice_get, ◌∙◌, ap}
use Rattle.circular_buffer.specs.Buffer.{Buffer}
use Rattle.port_stock.specs.declared.port.Port.{Port}
use Rattle.port_stock.specs.Rings.{port_at, without_done}
use Rattle.port_stock.proofs.Finding.{Placed, keyed_port, placed, read_port, replaced}
use Rattle.port_stock.proofs.ports.send.Goals as goal

there : (c : goal.After-ports-1) → Placed c.args.key c.place_of-place.result c.args.ports.now.items
there c = placed c.args.key _ c.args.ports.now.items c.requires.differ (rw c.deref.ensures.value at c.place_of-place.ensures)

same : (c : goal.After-ports-1) → c.index_mut-port.result.now ≡ port_at c.args.key c.args.ports.now.items
same c = read_port c.args.key _ c.args.ports.now.items _ (there c) c.index_mut-port.ensures.value

pub returns-clause-front : goal.returns-clause-front
returns-clause-front c = c.pop_front.ensures.value ∙ ap (λ (p : Port). slice_get p.done.items 0) (same c)

pub returns-clause-ports : goal.returns-clause-ports
returns-clause-ports c =
    replaced c.args.key _ c.args.ports.now.items _ (without_done (port_at c.args.key c.args.ports.now.items)) c.requires.differ (there c)
    (ap (λ (b : Buffer ℕ). record c.index_mut-port.result.now { done = b }) c.pop_front.ensures.items ∙ ap without_done (same c)) (keyed_port c.args.key _ c.args.ports.now.items (there c))

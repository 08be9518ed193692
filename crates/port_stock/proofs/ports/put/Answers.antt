use Rattle.std.proofs.Common.{◌<◌, length, sym, ◌∙◌, ap, subst}
use Rattle.port_stock.specs.declared.port.Port.{Port}
use Rattle.port_stock.specs.Rings.{port_at, with_number}
use Rattle.port_stock.proofs.Finding.{keyed_port, placed, read_port, replaced, with_number-key}
use Rattle.port_stock.proofs.ports.put.Goals as goal

pub put-requires-clause-todo : goal.put-requires-clause-todo
put-requires-clause-todo c =
    let P = placed c.args.key _ c.args.ports.now.items c.requires.differ (rw c.deref.ensures.value at c.place_of-place.ensures) in
    subst (λ (p : Port). length p.todo.items < p.todo.capacity) (sym (read_port c.args.key _ c.args.ports.now.items _ P c.index_mut-port.ensures.value)) c.requires.todo

pub put-requires-clause-done : goal.put-requires-clause-done
put-requires-clause-done c =
    let P = placed c.args.key _ c.args.ports.now.items c.requires.differ (rw c.deref.ensures.value at c.place_of-place.ensures) in
    subst (λ (p : Port). length p.done.items < p.done.capacity) (sym (read_port c.args.key _ c.args.ports.now.items _ P c.index_mut-port.ensures.value)) c.requires.done

pub returns : goal.returns
returns c =
    let P = placed c.args.key _ c.args.ports.now.items c.requires.differ (rw c.deref.ensures.value at c.place_of-place.ensures) in
    let e = read_port c.args.key _ c.args.ports.now.items _ P c.index_mut-port.ensures.value in
    replaced c.args.key _ c.args.ports.now.items _ (with_number c.args.spot c.args.number (port_at c.args.key c.args.ports.now.items)) c.requires.differ P
    (c.put.ensures ∙ ap (with_number c.args.spot c.args.number) e) (with_number-key c.args.spot c.args.number (port_at c.args.key c.args.ports.now.items) ∙ keyed_port c.args.key _ c.args.ports.now.items P)

use Rattle.std.proofs.Common.{sym, ◌∙◌, ap, subst}
use Rattle.il_machine.specs.declared.port.PortKey.{PortKey}
use Rattle.port_stock.specs.declared.port.Port.{Port}
use Rattle.port_stock.specs.Rings.{HasCounted, IsForWhere, port_at, recounted}
use Rattle.port_stock.proofs.Finding.{keyed_port, placed, read_port, replaced}
use Rattle.port_stock.proofs.ports.recount_at.Goals as goal

pub recount-requires-clause-counted : goal.recount-requires-clause-counted
recount-requires-clause-counted c =
    let P = placed c.args.key _ c.args.ports.now.items c.requires.differ (rw c.deref.ensures.value at c.place_of-place.ensures) in
    subst (HasCounted c.args.before.now) (sym (read_port c.args.key _ c.args.ports.now.items _ P c.index_mut-port.ensures.value)) c.requires.counted

pub recount-requires-clause-before : goal.recount-requires-clause-before
recount-requires-clause-before c =
    let P = placed c.args.key _ c.args.ports.now.items c.requires.differ (rw c.deref.ensures.value at c.place_of-place.ensures) in
    let e = read_port c.args.key _ c.args.ports.now.items _ P c.index_mut-port.ensures.value in
    subst (λ (k : PortKey). IsForWhere k c.args.before.now) (sym (ap (λ (p : Port). p.key) e ∙ keyed_port c.args.key _ c.args.ports.now.items P)) c.requires.before

pub recount-requires-clause-after : goal.recount-requires-clause-after
recount-requires-clause-after c =
    let P = placed c.args.key _ c.args.ports.now.items c.requires.differ (rw c.deref.ensures.value at c.place_of-place.ensures) in
    let e = read_port c.args.key _ c.args.ports.now.items _ P c.index_mut-port.ensures.value in
    subst (λ (k : PortKey). IsForWhere k c.args.after.now) (sym (ap (λ (p : Port). p.key) e ∙ keyed_port c.args.key _ c.args.ports.now.items P)) c.requires.after

pub returns : goal.returns
returns c =
    let P = placed c.args.key _ c.args.ports.now.items c.requires.differ (rw c.deref.ensures.value at c.place_of-place.ensures) in
    let e = read_port c.args.key _ c.args.ports.now.items _ P c.index_mut-port.ensures.value in
    let k = keyed_port c.args.key _ c.args.ports.now.items P in
    let p : Port = port_at c.args.key c.args.ports.now.items in
    replaced c.args.key _ c.args.ports.now.items _ (recounted c.args.key c.args.before.now c.args.after.now p) c.requires.differ P
    (c.recount.ensures ∙ (ap (λ (x : Port). recounted x.key c.args.before.now c.args.after.now x) e ∙ ap (λ (x : PortKey). recounted x c.args.before.now c.args.after.now p) k)) k

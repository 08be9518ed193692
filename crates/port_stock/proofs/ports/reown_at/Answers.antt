use Rattle.std.proofs.Common.{◌≡◌, Some, true, sym, ◌∙◌, ap, subst}
use Rattle.il_machine.specs.declared.port.PortKey.{PortKey}
use Rattle.il_machine.specs.declared.header.HeaderState.{HeaderState}
use Rattle.il_machine.specs.Headers.{is_for}
use Rattle.port_stock.specs.declared.port.Port.{Port}
use Rattle.port_stock.specs.Rings.{HasCounted, port_at, recounted}
use Rattle.port_stock.proofs.Finding.{keyed_port, placed, read_port, replaced}
use Rattle.port_stock.proofs.ports.reown_at.Goals as goal

pub reown-requires-clause-counted : goal.reown-requires-clause-counted
reown-requires-clause-counted c =
    let P = placed c.args.key _ c.args.ports.now.items c.requires.differ (rw c.deref.ensures.value at c.place_of-place.ensures) in
    subst (HasCounted (Some c.args.state.now)) (sym (read_port c.args.key _ c.args.ports.now.items _ P c.index_mut-port.ensures.value)) c.requires.counted

pub reown-requires-clause-made_for : goal.reown-requires-clause-made_for
reown-requires-clause-made_for c =
    let P = placed c.args.key _ c.args.ports.now.items c.requires.differ (rw c.deref.ensures.value at c.place_of-place.ensures) in
    let e = read_port c.args.key _ c.args.ports.now.items _ P c.index_mut-port.ensures.value in
    subst (λ (k : PortKey). is_for k c.args.state.now ≡ true) (sym (ap (λ (p : Port). p.key) e ∙ keyed_port c.args.key _ c.args.ports.now.items P)) c.requires.made_for

pub returns : goal.returns
returns c =
    let P = placed c.args.key _ c.args.ports.now.items c.requires.differ (rw c.deref.ensures.value at c.place_of-place.ensures) in
    let e = read_port c.args.key _ c.args.ports.now.items _ P c.index_mut-port.ensures.value in
    let k = keyed_port c.args.key _ c.args.ports.now.items P in
    let p : Port = port_at c.args.key c.args.ports.now.items in
    let after : HeaderState = record c.args.state.now { owner = c.args.owner } in
    replaced c.args.key _ c.args.ports.now.items _ (recounted c.args.key (Some c.args.state.now) (Some after) p) c.requires.differ P
    (c.reown.ensures ∙ (ap (λ (x : Port). recounted x.key (Some c.args.state.now) (Some after) x) e ∙ ap (λ (x : PortKey). recounted x (Some c.args.state.now) (Some after) p) k)) k

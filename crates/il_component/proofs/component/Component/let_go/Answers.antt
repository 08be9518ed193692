use Rattle.std.proofs.Common.{◌≡◌, ◌<◌, ◌≤◌, length, set, refl, sym, ◌∙◌, arith, length-set, nat_eq, true, false, ap, Some}
use Rattle.std.proofs.lemmas.Bool.Decides.{nat_tests}
use Rattle.il_machine.specs.Due.{unheld}
use Rattle.il_machine.proofs.Joined.{port_past}
use Rattle.il_component.specs.Entries.{Entry, component_of}
use Rattle.il_component.proofs.Fit.{fit_again}
use Rattle.il_component.proofs.Named.{places_unheld, port_is}
use Rattle.il_component.proofs.component.Component.let_go.Goals.{else-key-eq1-via-then-key-eq1+else-key-ports, else-key-eq1-via-else-key-eq1}
use Rattle.std.proofs.lemmas.Option.{slice_get-get_or}
use Rattle.il_component.proofs.Calm.{busy_set}
use Rattle.il_component.proofs.component.Component.let_go.Goals as goal

pub invariant_of-self : goal.invariant_of-self
invariant_of-self g c =
    let i = c.self.inside in
    let e : Entry (g.row.C.Denot) = record { handle = i.handle; settings = i.params; state = i.state; pending = i.pending; loss_mark = i.loss_mark; holds = i.holds; waiting = i.waiting; work = i.work; file = i.file; part = record { ended_inputs = i.ended_inputs.items; ended = i.ended; failed = i.failed }; ports = i.ports.items; queues = i.notes } in
    let n = c.self.invariant.0.ports in
    let b : c.args.key.port < length i.ports.items = omega (arith, c.ports.ensures.count) in
    let old = c.index_mut.result.now in (
      fit_again e (record e { ports = set i.ports.items c.args.key.port (unheld old) }) c.self.invariant.0 refl (length-set i.ports.items c.args.key.port (unheld old)) (places_unheld c.args.key.port i.ports.items old b c.index_mut.ensures.value) refl refl refl refl,
      busy_set i.ports.items i.busy c.args.key.port old (unheld old) c.self.invariant.1 (slice_get-get_or i.ports.items c.args.key.port old b ∙ ap Some (sym c.index_mut.ensures.value)) refl,
    )

pub returns-then-key-ports-clause-component : goal.returns-then-key-ports-clause-component
returns-then-key-ports-clause-component g c =
    let i = c.self.inside in
    let e : Entry (g.row.C.Denot) = record { handle = i.handle; settings = i.params; state = i.state; pending = i.pending; loss_mark = i.loss_mark; holds = i.holds; waiting = i.waiting; work = i.work; file = i.file; part = record { ended_inputs = i.ended_inputs.items; ended = i.ended; failed = i.failed }; ports = i.ports.items; queues = i.notes } in
    let n = c.self.invariant.0.ports in
    let b : c.args.key.port < length i.ports.items = omega (arith, c.ports.ensures.count) in
    let h = port_is e c.args.key.port c.index_mut.result.now c.self.invariant.0 b c.index_mut.ensures.value in
    let t : nat_eq c.args.key.index 1 ≡ true = grind (arith, nat_tests) in
    rw (← c.self.view_is, t, h.1) refl

pub returns-else-key-eq1-clause-component : goal.returns-else-key-eq1-clause-component
returns-else-key-eq1-clause-component g c = elim c.else-key-eq1.branch [
  | else-key-eq1-via-then-key-eq1+else-key-ports w ↦
      let k = component_of c.args.self.now in
      let i = c.self.inside in
      let few = w.ports.ensures.settings in
      let past : length i.params.ports ≤ c.args.key.port = omega (arith, w.if-key-ports.false) in
      let a : length k.settings.ports ≡ length k.ports = rw (← c.self.view_is) (c.self.invariant.0.whole.ports ∙ sym c.self.invariant.0.ports) in
      let b : length k.settings.ports ≤ c.args.key.port = rw (← c.self.view_is) past in
      let t : nat_eq c.args.key.index 1 ≡ true = grind (arith, nat_tests, w.if-key-eq1.true) in
      rw (t, port_past k c.args.key.port a b) refl
  | else-key-eq1-via-else-key-eq1 w ↦
      let f : nat_eq c.args.key.index 1 ≡ false = grind (arith, nat_tests, w.if-key-eq1.false) in
      rw f refl
]

use Rattle.std.proofs.Common.{◌≡◌, None, ℕ, Option, option_map, sym, ◌∙◌, ap, subst}
use Rattle.port_rules.specs.declared.due.Due.{Due}
use Rattle.stock_laws.specs.Bare.{StepsBare}
use Rattle.stock_laws.proofs.Closing.{one_more, all_closed}
use Rattle.il_machine.specs.Due.{ClosesTo, Happens, first_due}
use Rattle.graph_core.specs.Clients.{KeepsAllClients}
use Rattle.graph_core.specs.Entries.{Entries, kept, look_of}
use Rattle.graph_core.proofs.core_graph.Core.close_out.Goals as goal

pub loop-place-preserved : goal.loop-place-preserved
loop-place-preserved g c =
    let p = g.C.Client.progress in
    let same = c.first_due.ensures.unchanged in
    let happens : StepsBare (kept p c.loop-place.self) (kept p c.happen.new.self) Happens = subst (λ (x : Entries (g.row.C.Denot)). StepsBare (kept p x) (kept p c.happen.new.self) Happens) same c.happen.ensures.happens in
    let clients : KeepsAllClients c.loop-place.self c.happen.new.self = subst (λ (x : Entries (g.row.C.Denot)). KeepsAllClients x c.happen.new.self) same c.happen.ensures.clients in
    (one_more (kept p c.args.self.now) (kept p c.loop-place.self) (kept p c.happen.new.self) c.loop-place.invariant.0 happens, λ k. clients k ∙ c.loop-place.invariant.1 k)

pub returns-clause-closes : goal.returns-clause-closes
returns-clause-closes g c =
    let p = g.C.Client.progress in
    let none : first_due (look_of c.loop-place.self) ≡ None = sym c.first_due.ensures.place ∙ ap (λ (o : Option (ℕ × Due)). option_map (λ first. first.0) o) c.in_default.is in
    subst (λ (x : Entries (g.row.C.Denot)). StepsBare (kept p c.args.self.now) (kept p x) ClosesTo) (sym c.first_due.ensures.unchanged)
    (all_closed (kept p c.args.self.now) (kept p c.loop-place.self) c.loop-place.invariant.0 none)

pub returns-clause-clients : goal.returns-clause-clients
returns-clause-clients g c = subst (KeepsAllClients c.args.self.now) (sym c.first_due.ensures.unchanged) c.loop-place.invariant.1

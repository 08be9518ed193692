use Rattle.std.proofs.Common.{◌≤◌, sym, ◌∙◌, subst}
use Rattle.il_machine.specs.Room.{used}
use Rattle.il_component.specs.Entries.{component_of}
use Rattle.il_component.proofs.Running.{run_first}
use Rattle.il_component.proofs.component.Component.run.Goals as goal

pub carry_out-requires : goal.carry_out-requires
carry_out-requires g c = λ l e.
    let k = component_of c.args.self.now in
    rw c.pop.ensures.component (subst (λ d. used d ≤ 256) (run_first l k.commands c.in-Some.command k (sym c.in-Some.is ∙ c.pop.ensures.command)) (c.requires l e))

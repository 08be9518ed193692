use Rattle.std.proofs.Common.{Bool, Ok, sym, subst}
use Rattle.il_machine.specs.Acts as acts
use Rattle.play_world_laws.specs.Conducting.{port_command}
use Rattle.play_log.specs.Said.{SaysOf}
use Rattle.play_run.proofs.changing.port_sent.Goals as goal

pub returns-then-disables : goal.returns-then-disables
returns-then-disables c = subst (λ (b : Bool). SaysOf c.args.port.component c.disabled.result (λ h. acts.SendCommand h (port_command b c.args.port.index)) (acts.Plain (Ok tt))) (sym c.if-disables.true) c.disabled.ensures

pub returns-else-disables : goal.returns-else-disables
returns-else-disables c = subst (λ (b : Bool). SaysOf c.args.port.component c.enabled.result (λ h. acts.SendCommand h (port_command b c.args.port.index)) (acts.Plain (Ok tt))) (sym c.if-disables.false) c.enabled.ensures

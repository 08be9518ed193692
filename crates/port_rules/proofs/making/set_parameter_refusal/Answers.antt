use Rattle.std.proofs.Common.{sym, ◌∙◌}
use Rattle.il_component.specs.Entries.{component_of}
use Rattle.port_stock.specs.Kept.{stocked}
use Rattle.port_rules.proofs.Passing.{fault_found, none_of, time_found}
use Rattle.port_rules.proofs.making.set_parameter_refusal.Goals as goal

pub returns-then-is_some : goal.returns-then-is_some
returns-then-is_some g c = sym (fault_found (stocked c.args.stock.now).headers (component_of c.args.component.now) c.args.key c.args.value c.settings_refusal-fault.result (sym c.is_invalid.ensures ∙ c.if-is_invalid.false) (sym c.settings_refusal-fault.ensures) (sym c.is_some.ensures ∙ c.if-is_some.true))

pub returns-then-is_wrong_time : goal.returns-then-is_wrong_time
returns-then-is_wrong_time g c =
    let fault = sym c.settings_refusal-fault.ensures ∙ none_of c.settings_refusal-fault.result (sym c.is_some.ensures ∙ c.if-is_some.false) in
    sym (time_found (stocked c.args.stock.now).headers (component_of c.args.component.now) c.args.key c.args.value (sym c.is_invalid.ensures ∙ c.if-is_invalid.false) fault (sym c.is_wrong_time.ensures ∙ c.if-is_wrong_time.true))

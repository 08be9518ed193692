use Rattle.std.proofs.Common.{sym, ◌∙◌}
use Rattle.il_machine.specs.Settings.{get_refusals, value_refusals}
use Rattle.il_machine.proofs.Refusals.{first_of_first, first_of_second}
use Rattle.param_store.proofs.params.Params.set_refusal.Goals as goal

pub returns-in-Some : goal.returns-in-Some
returns-in-Some c = sym (first_of_first (get_refusals c.args.self.now c.args.key c.args.config) (value_refusals c.args.self.now c.args.key c.args.value c.args.free) c.in-Some.error (sym c.in-Some.ensures))

pub returns : goal.returns
returns c = let d = c.in_default in c.value_refusal.ensures ∙ sym (first_of_second (get_refusals c.args.self.now c.args.key c.args.config) (value_refusals c.args.self.now c.args.key c.args.value c.args.free) (sym c.in_default.ensures))

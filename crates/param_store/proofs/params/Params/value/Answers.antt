use Rattle.std.proofs.Common.{◌<◌, length, sym, ◌∙◌, ap, arith}
use Rattle.omx_types.specs.declared.param.Param.TheVariants.{Weight}
use Rattle.il_machine.specs.Settings.{weights_in}
use Rattle.param_store.proofs.Weights.{weight_there, few_weights, value_is_weight, taken_at}
use Rattle.param_store.proofs.params.Params.value.Goals as goal

pub returns-else-key-eq4 : goal.returns-else-key-eq4
returns-else-key-eq4 c =
    let k = c.args.key in
    let there = rw (← c.self.view_is) at (weight_there c.args.self.now k c.args.config c.requires c.if-key-eq1.false c.if-key-eq2.false c.if-key-eq3.false c.if-key-eq4.false) in
    let few = few_weights c.self.inside.kind c.self.invariant.1 in
    let t = c.self.told in
    let b : k.port < length c.self.inside.weights = omega arith in
    sym (value_is_weight c.args.self.now k c.if-key-eq1.false c.if-key-eq2.false c.if-key-eq3.false c.if-key-eq4.false
    ∙ rw (← c.self.view_is) (ap Weight (taken_at (weights_in c.self.inside.kind) k.port c.self.inside.weights there b)))

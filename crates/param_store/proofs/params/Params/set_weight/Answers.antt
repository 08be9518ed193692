use Rattle.il_machine.specs.Settings.{weights_in}
use Rattle.param_store.proofs.Runs.{take_set}
use Rattle.param_store.proofs.params.Params.set_weight.Goals as goal

pub returns : goal.returns
returns c = rw (← c.self.view_is) (let t = take_set (weights_in c.self.inside.kind) c.args.input c.self.inside.weights c.args.weight in cc)

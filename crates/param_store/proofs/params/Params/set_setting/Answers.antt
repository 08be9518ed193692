use Rattle.il_machine.specs.Kinds.{ports_in}
use Rattle.param_store.proofs.Runs.{take_set}
use Rattle.param_store.proofs.params.Params.set_setting.Goals as goal

pub returns : goal.returns
returns c = rw (← c.self.view_is) (let t = take_set (ports_in c.self.inside.kind) c.args.port c.self.inside.ports c.args.setting in cc)

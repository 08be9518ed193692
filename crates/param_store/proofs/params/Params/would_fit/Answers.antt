use Rattle.std.proofs.Common.{◌≡◌, take, set}
use Rattle.il_machine.specs.declared.port.PortSetting.{PortSetting}
use Rattle.il_machine.specs.Kinds.{ports_in}
use Rattle.il_machine.specs.Settings.{setting_at}
use Rattle.param_store.proofs.Runs.{take_set}
use Rattle.param_store.proofs.params.Params.would_fit.Goals as goal

pub returns : goal.returns
returns c =
    let kind = c.self.inside.kind in
    let setting : PortSetting = record (setting_at c.args.self.now c.args.port) { definition = c.args.definition } in
    let t : take (ports_in kind) (set c.self.inside.ports c.args.port setting) ≡ set (take (ports_in kind) c.self.inside.ports) c.args.port setting = take_set (ports_in kind) c.args.port c.self.inside.ports setting in
    rw (← c.self.view_is) (let e = c.are_fitting.ensures in let f = c.ports.ensures.count in cc)

use Rattle.std.proofs.Common.{◌≡◌, ◌+◌, ◌-◌, arith, ℕ}
use Rattle.il_machine.specs.Settings.{weights_in}
use Rattle.param_store.proofs.Runs.{take_run}
use Rattle.param_store.proofs.Weights.{few_weights}
use Rattle.param_store.proofs.params.Params.new.Goals as goal

pub returns : goal.returns
returns c =
    let n = weights_in c.args.kind in
    let few = few_weights c.args.kind c.requires in
    let m : n + (8 - n) ≡ 8 = omega arith in
    let w = rw m at (take_run {A = ℕ} n (8 - n) 4096) in
    let p = c.default_ports.ensures.ports in
    cc

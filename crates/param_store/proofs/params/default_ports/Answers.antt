use Rattle.std.proofs.Common.{◌≡◌, ◌+◌, ◌-◌, suc, true, false, ◌∙◌, ap, arith, set}
use Rattle.il_machine.specs.Kinds.{inputs_of, outputs_of}
use Rattle.il_machine.specs.Settings.{default_setting}
use Rattle.param_store.proofs.Runs.{longer_run, take_runs}
use Rattle.param_store.proofs.Weights.{few_ports}
use Rattle.param_store.proofs.params.default_ports.Goals as goal

pub returns-clause-ports : goal.returns-clause-ports
returns-clause-ports c =
    let few = few_ports c.args.kind c.requires in
    let e : c.loop-i.i ≡ inputs_of c.args.kind = omega arith in
    let o = outputs_of c.args.kind in
    let m : 9 - c.loop-i.i ≡ o + (9 - c.loop-i.i - o) = omega arith in
    rw (c.loop-i.invariant, m, e) (take_runs (inputs_of c.args.kind) o (9 - inputs_of c.args.kind - o) (default_setting c.args.kind true) (default_setting c.args.kind false))

pub loop-i-preserved : goal.loop-i-preserved
loop-i-preserved c =
    let few = few_ports c.args.kind c.requires in
    let m : 9 - c.loop-i.i ≡ suc (9 - (c.loop-i.i + 1)) = omega arith in
    let n : c.loop-i.i + 1 ≡ suc c.loop-i.i = omega arith in
    ap (λ xs. set xs c.loop-i.i c.default_setting-input.result) c.loop-i.invariant ∙ rw (c.default_setting-input.ensures, m, n) (longer_run c.loop-i.i (9 - suc c.loop-i.i) (default_setting c.args.kind true) (default_setting c.args.kind false))

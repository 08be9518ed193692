use Rattle.std.proofs.Common.{◌≡◌, ◌-◌, ◌++◌, replicate}
use Rattle.il_machine.specs.Settings.{default_setting}
use Rattle.std.proofs.Common.{true, false}
use Rattle.param_store.proofs.params.default_ports.Given as goal

abbrev pub invariant-loop-i : goal.invariant-loop-i
invariant-loop-i l = l.settings ≡ replicate l.i (default_setting l.fn.kind true) ++ replicate (9 - l.i) (default_setting l.fn.kind false)

use Rattle.std.proofs.Common.{arith, sym, ap}
use Rattle.omx_types.specs.declared.format.Format.{Format}
use Rattle.std.proofs.Common.{List}
use Rattle.il_machine.specs.Settings.{are_fitting, is_known, formats_of}
use Rattle.param_store.proofs.Fitting.{fits_by_first, none_of_filter}
use Rattle.param_store.proofs.limits.are_fitting.Goals as goal

pub returns-in_default : goal.returns-in_default
returns-in_default c = sym (ap (λ (fs : List Format). are_fitting c.args.kind fs) (none_of_filter is_known (formats_of c.args.ports.now) (sym c.in_default.ensures)))

pub returns-else-not-is_splitter : goal.returns-else-not-is_splitter
returns-else-not-is_splitter c =
    let e = fits_by_first c.args.kind is_known (formats_of c.args.ports.now) c.in-Some.format (sym c.in-Some.ensures) in
    grind (arith, e)

pub returns-else-all_alike : goal.returns-else-all_alike
returns-else-all_alike c =
    let e = fits_by_first c.args.kind is_known (formats_of c.args.ports.now) c.in-Some.format (sym c.in-Some.ensures) in
    grind (arith, e)

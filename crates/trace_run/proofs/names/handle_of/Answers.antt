-- No component has the name, so the handle is that of none.
use Rattle.std.proofs.Common.{◌∙◌, ap, Option}
use Rattle.std.specs.Prelude.{unwrap_or}
use Rattle.omx_types.specs.declared.handle.Handle.{Handle}
use Rattle.trace_run.specs.Naming.{no_handle}
use Rattle.trace_run.proofs.names.handle_of.Goals as goal

pub returns-in-None : goal.returns-in-None
returns-in-None c =
    let slot = c.none.ensures.slot in
    let generation = c.none.ensures.generation in
    (λ i. record { slot = slot i; generation = generation i }) ∙ ap (λ (o : Option Handle). unwrap_or o no_handle) c.in-None.ensures

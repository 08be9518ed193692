use Rattle.std.proofs.Common.{Some, None, Ok, Err, ap, refl}
use Rattle.omx_types.specs.declared.error.OmxError.TheVariants as errors
use Rattle.il_machine.specs.Components.{state_answer}
use Rattle.il_graph.proofs.Looking.{alike, named}
use Rattle.il_graph.proofs.Whole.{always}
use Rattle.il_graph.proofs.graph.Graph.state_near.Goals as goal

pub returns-in_default : goal.returns-in_default
returns-in_default g c =
    let p = g.C.Client.progress in
    rw (← c.self.view_is) (always p _ _ (alike p c.self.inside.core (state_answer c.args.h) (Err errors.InvalidComponent) (rw (named p c.self.inside.core c.args.h None c.in_default.ensures) refl)))

pub returns : goal.returns
returns g c =
    let p = g.C.Client.progress in
    rw (← c.self.view_is) (always p _ _ (alike p c.self.inside.core (state_answer c.args.h) (Ok c.state.result) (rw (named p c.self.inside.core c.args.h (Some c.in-Some.component.now) c.in-Some.ensures) (ap Ok c.state.ensures))))

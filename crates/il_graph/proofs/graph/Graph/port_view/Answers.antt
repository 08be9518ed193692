use Rattle.std.proofs.Common.{Ok, Err, refl}
use Rattle.omx_types.specs.declared.error.OmxError.TheVariants as errors
use Rattle.il_machine.specs.Components.{view_answer}
use Rattle.il_graph.proofs.Looking.{alike}
use Rattle.il_graph.proofs.Calling.{Found, found, not_seen, port_seen, no_port_seen}
use Rattle.il_graph.proofs.Whole.{always}
use Rattle.il_graph.proofs.graph.Graph.port_view.Goals as goal

pub returns-in_default : goal.returns-in_default
returns-in_default g c =
    let p = g.C.Client.progress in
    rw (← c.self.view_is) (always p _ _ (alike p c.self.inside.core (view_answer c.args.h c.args.port) (Err errors.InvalidComponent) (rw (not_seen p c.self.inside.core c.args.h c.in_default.ensures.place) refl)))

pub returns-in-Some-port_view : goal.returns-in-Some-port_view
returns-in-Some-port_view g c =
    let p = g.C.Client.progress in
    let G = c.self.inside.core in
    let F : Found p G c.args.h c.in-Some.place = found p G c.args.h c.in-Some.place c.in-Some.ensures.place c.in-Some.ensures.within in
    rw (← c.self.view_is) (always p _ _ (alike p G (view_answer c.args.h c.args.port) (Ok c.in-Some-port_view.view) (port_seen p G c.args.h c.in-Some.place c.args.port c.in-Some-port_view.view F c.in-Some-port_view.ensures)))

pub returns-in-None : goal.returns-in-None
returns-in-None g c =
    let p = g.C.Client.progress in
    let G = c.self.inside.core in
    let F : Found p G c.args.h c.in-Some.place = found p G c.args.h c.in-Some.place c.in-Some.ensures.place c.in-Some.ensures.within in
    rw (← c.self.view_is) (always p _ _ (alike p G (view_answer c.args.h c.args.port) (Err errors.BadPortIndex) (no_port_seen p G c.args.h c.in-Some.place c.args.port F c.in-None.ensures)))

use Rattle.std.proofs.Common.{subst}
use Rattle.omx_types.specs.declared.param.ParamKey.{ParamKey}
use Rattle.il_machine.specs.Acts as acts
use Rattle.il_machine.specs.Whole.{Steps}
use Rattle.trace_run.specs.Standing.{graph_kept, Replied}
use Rattle.trace_run.proofs.Replying.{replied}
use Rattle.trace_run.proofs.acts.parameters.set_parameter.Goals as goal

pub returns : goal.returns
returns c components =
    let old = graph_kept c.args.graph.now in
    let new = graph_kept c.set_parameter.new.self in
    let with_key = replied components (acts.SetParameter c.args.h c.key.result c.args.value) (acts.Plain c.set_parameter.result) c.plain_reply.result old new
    (λ headers. c.plain_reply.ensures (record { components = components; headers = headers })) c.set_parameter.ensures.step in
    subst (λ (k : ParamKey). Steps old new (λ w v. Replied components (acts.SetParameter c.args.h k c.args.value) c.plain_reply.result w v)) c.key.ensures with_key

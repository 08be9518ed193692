use Rattle.std.proofs.Common.{rules, ◌≡◌, IfErr, subst}
use Rattle.script_lang.specs.declared.script.Script.{Script}
use Rattle.script_lang.specs.declared.script.Script.TheVariants.{Trace}
use Rattle.trace_run.specs.Traced.{IsStopped}
use Rattle.trace_run.proofs.OneTrace.{one_text}
use Rattle.trace_run.proofs.tracing.trace.Goals as goal

pub returns-clause-stopped : goal.returns-clause-stopped
returns-clause-stopped g c =
    let that = c.trace_lines.ensures.stopped in
    let same : Trace _ c.as_slice.result.now ≡ c.args.script.now = search rules in
    subst (λ (s : Script). IfErr c.trace_lines.result (IsStopped s (g.O.Sink.told c.args.out.now) (g.O.Sink.told c.trace_lines.new.out) (g.O.Sink.faults c.args.out.now) (g.O.Sink.faults c.trace_lines.new.out))) same that

pub returns-clause-one : goal.returns-clause-one
returns-clause-one g c = one_text c.args.script.now

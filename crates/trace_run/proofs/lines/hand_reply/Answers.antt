use Rattle.std.proofs.Common.{ℕ, List, sym, subst}
use Rattle.script_lang.specs.declared.form.TraceForm.{TraceForm}
use Rattle.script_lang.specs.declared.form.TraceForm.TheVariants as forms
use Rattle.trace_run.specs.Replying.{Plain}
use Rattle.trace_run.specs.Standing.{parts, Leads}
use Rattle.trace_run.proofs.lines.hand_reply.Goals as goal

-- the bytes are those of the line
pub returns-in-Etb : goal.returns-in-Etb
returns-in-Etb c =
    let cs = c.args.components.now in
    let old = parts c.args.graph.now cs c.args.slots.now.items in
    let new = parts c.empty.new.graph cs c.empty.new.slots.items in
    let it = c.in-Etb in
    subst (λ (f : TraceForm). Leads old new f (Plain c.empty.result)) (sym it.is)
    (subst (λ (b : List ℕ). Leads old new (forms.Etb it.header it.port b it.eos) (Plain c.empty.result)) c.as_bytes-bytes.ensures c.empty.ensures)

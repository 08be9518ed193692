use Rattle.std.proofs.Common.{ℕ, List, Result, Ok, Err, refl, sym, ap, subst}
use Rattle.std.specs.Prelude.{IfOk, OnErr}
use Rattle.script_lang.specs.declared.form.TraceForm.{TraceForm}
use Rattle.script_lang.specs.declared.form.TraceForm.TheVariants as forms
use Rattle.trace_run.specs.declared.reply.LineAnswer.TheVariants as answers
use Rattle.trace_run.specs.Replying.{Plain}
use Rattle.trace_run.specs.Standing.{Parts, parts, Leads, LeadsTo}
use Rattle.trace_run.specs.Works.{LeadsAllTo}
use Rattle.trace_run.proofs.HeldLines.{form_still, keeps_named, keeps_named_got, still_to}
use Rattle.trace_run.proofs.lines.answer.Goals as goal

-- the kind is the line's
pub returns-in_ok-get-in-Get-clause-leads : goal.returns-in_ok-get-in-Get-clause-leads
returns-in_ok-get-in-Get-clause-leads c =
    let desk = c.args.desk.now in
    let it = c.in-Get in
    let works = desk.works.items in
    let said = c.in_ok-get-in-Get.field-0 in
    let old = parts desk.graph desk.components.items desk.slots.items in
    let new = parts c.get.new.graph c.get.new.components.items desk.slots.items in
    let on : TraceForm → Type 0 = λ form. LeadsAllTo (record { parts = old; works = works }) (record { parts = new; works = works }) form (answers.Plain said) in
    let leads = subst (λ (kind : List ℕ). Leads old new (forms.Get it.component kind) (Plain said)) c.as_bytes.ensures (c.in_ok-get-in-Get.ensures.leads desk.slots.items) in
    subst on (sym it.is) (still_to old new works (forms.Get it.component it.kind) (answers.Plain said) tt (keeps_named_got old new it.component it.kind) (Plain said, refl, leads))

on_err : {A E : Type 0} (r : Result A E) (P : Type 0) → P → OnErr r P
on_err (Ok x) P p = tt
on_err (Err e) P p = p

pub returns-in_err-get-in-Get-clause-unchanged : goal.returns-in_err-get-in-Get-clause-unchanged
returns-in_err-get-in-Get-clause-unchanged c =
    let desk = c.args.desk.now in
    on_err _ _ (ap (λ (p : Parts). record { parts = p; works = desk.works.items }) (c.in_err-get-in-Get.ensures.unchanged desk.slots.items))

if_ok : {A E : Type 0} (r : Result A E) (P Q : A → Type 0) → ((x : A) → P x → Q x) → IfOk r P → IfOk r Q
if_ok (Ok x) P Q f p = f x p
if_ok (Err e) P Q f p = tt

pub returns-in_default-clause-leads : goal.returns-in_default-clause-leads
returns-in_default-clause-leads c =
    let desk = c.args.desk.now in
    let form = c.args.form.now in
    let works = desk.works.items in
    let old = parts desk.graph desk.components.items desk.slots.items in
    let new = parts c.header_answer.new.graph desk.components.items c.header_answer.new.slots.items in
    let leads = rw c.as_slice-in_default.ensures.value at c.header_answer.ensures.leads in
    if_ok c.header_answer.result (LeadsTo old new form) (LeadsAllTo (record { parts = old; works = works }) (record { parts = new; works = works }) form)
    (λ x l. still_to old new works form x (form_still form c.in_default.not-Act) (keeps_named old new form refl) l) leads

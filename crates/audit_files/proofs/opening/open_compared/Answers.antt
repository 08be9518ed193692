use Rattle.std.proofs.Common.{◌≤◌, List, length, inl, inr, refl, ◌∙◌, subst, arith}
use Rattle.std.proofs.lemmas.Option.{slice_get_within}
use Rattle.script_lang.specs.declared.play_line.PartLine.{PartLine}
use Rattle.script_lang.specs.declared.script.Script.{Script}
use Rattle.script_lang.specs.declared.script.Script.TheVariants.{Play, Trace}
use Rattle.play_forms.specs.declared.plan_fault.PlanFault.TheVariants.{OutOfMemory}
use Rattle.play_forms.specs.Plans.{IsFaultOfScript, IsPlanOfScript, PlanValue}
use Rattle.omx_types.specs.declared.fault.Fault.TheVariants as Faults
use Rattle.outside_io.specs.Files.{Outside}
use Rattle.play_plan_laws.proofs.Scripts.{scripted}
use Rattle.play_files.proofs.Closings.{then}
use Rattle.play_files.proofs.Fronts.{still, still_then}
use Rattle.play_files.proofs.Stopped.{have_heads, source_refused_later}
use Rattle.play_files.specs.Left.{HaveHeads}
use Rattle.play_files.specs.Seen.{file_seen}
use Rattle.audit_files.specs.Compared.{compared}
use Rattle.audit_files.specs.Left.{IsUncompared}
use Rattle.audit_files.proofs.Closed.{closed_still, compared_each, read_each}
use Rattle.audit_files.proofs.Ready.{all_compared}
use Rattle.audit_files.proofs.Refusals.{known_fault_later}
use Rattle.audit_files.proofs.Writing.{sinks_there}
use Rattle.audit_files.proofs.opening.open_compared.Goals as goal

-- want of memory for a script that has a plan
memory_fault : (script : Script) (plan : PlanValue) → IsPlanOfScript script plan → IsFaultOfScript script OutOfMemory
memory_fault (Play units parts links) plan is = tt
memory_fault (Trace units lines) plan is = absurd is

unplanned : (script : Script) (plan : PlanValue) (old : Outside) → IsPlanOfScript script plan → IsUncompared script old old Faults.OutOfMemory
unplanned script plan old is = inl (record { why = OutOfMemory; is = memory_fault script plan is; told = refl; still = still old; unasked = refl })

pub returns-in_default-clause-unopened : goal.returns-in_default-clause-unopened
returns-in_default-clause-unopened g c = unplanned c.args.script.now c.in_ok-plan.plan (g.M.Media.outside c.args.media.now) c.in_ok-plan.ensures.plan

pub returns-in_default-with_capacity-clause-unopened : goal.returns-in_default-with_capacity-clause-unopened
returns-in_default-with_capacity-clause-unopened g c = unplanned c.args.script.now c.in_ok-plan.plan (g.M.Media.outside c.args.media.now) c.in_ok-plan.ensures.plan

pub returns-in-Ok-compare_planned-clause-opened : goal.returns-in-Ok-compare_planned-clause-opened
returns-in-Ok-compare_planned-clause-opened g c =
    let R = c.requires in
    let S = scripted R.0 R.1 R.2 c.args.script.now c.in_ok-plan.plan R.3 c.in_ok-plan.ensures.plan in
    all_compared g.M.Src.Source c.args.script.now (g.M.Media.outside c.args.media.now) (g.M.Media.outside c.compare_planned.new.media) c.in_ok-plan.plan c.compare_planned.new.plan
    c.compare_planned.new.heads.items c.compare_planned.new.files.items c.in_ok-plan.ensures.plan S c.in-Ok-compare_planned.ensures.whole

pub returns-in-Err-clause-unopened : goal.returns-in-Err-clause-unopened
returns-in-Err-clause-unopened g c =
    let old = g.M.Media.outside c.args.media.now in
    let mid = g.M.Media.outside c.compare_planned.new.media in
    let new = g.M.Media.outside c.close_compared.new.media in
    let planned = c.in_ok-plan.plan in
    let plan = c.compare_planned.new.plan in
    let heads = c.compare_planned.new.heads.items in
    let files = c.compare_planned.new.files.items in
    let fault = c.in-Err.fault in
    inr (
      planned,
      c.in_ok-plan.ensures.plan,
      elim c.in-Err.ensures.stopped [
        | inl (inl A) ↦
            let few : A.place ≤ length planned.parts = (let b = slice_get_within planned.parts A.place (A.met).part (A.met).there in omega arith) in
            let S = closed_still g.M.Src.Source files mid new (read_each g.M.Src.Source old planned.parts A.place heads files A.read few) c.close_compared.ensures in
            inl (record {
              place = A.place;
              heads = heads;
              before = have_heads (file_seen g.M.Src.Source (compared g.M.Src.Source)) files old planned.parts A.place heads A.read few;
              met = record { part = (A.met).part; there = (A.met).there; name = (A.met).name; reads = (A.met).reads; refused = source_refused_later (A.met).part.line (A.met).name old mid new fault S (A.met).refused; asked = λ n. c.close_compared.ensures.openings ∙ (A.met).asked n };
            })
        | inl (inr A) ↦
            let S = closed_still g.M.Src.Source files mid new (read_each g.M.Src.Source old planned.parts (length planned.parts) heads files A.read (omega arith)) c.close_compared.ensures in
            inr (inl (record {
              heads = heads;
              have = have_heads (file_seen g.M.Src.Source (compared g.M.Src.Source)) files old planned.parts (length planned.parts) heads A.read (omega arith);
              plan = plan;
              fitted = A.fitted;
              why = A.why;
              is = A.is;
              told = A.told;
              still = still_then old mid new A.still S;
              asked = c.close_compared.ensures.openings ∙ A.asked;
            }))
        | inr A ↦
            let G = A.gone in
            let refused = (A.met).refused in
            let S = closed_still g.M.Src.Source files mid new (compared_each g.M.Src.Source old plan.parts plan.frames A.place heads G.before files G.read G.have) c.close_compared.ensures in
            inr (inr (record {
              plan = plan;
              heads = heads;
              have = subst (λ (ps : List PartLine). HaveHeads old ps (length ps) heads) (G.fitted).parts
                  (have_heads (file_seen g.M.Src.Source (compared g.M.Src.Source)) G.before old plan.parts (length plan.parts) heads G.read (omega arith));
              fitted = G.fitted;
              fit = G.fit;
              goes_on = then old mid new refused.goes_on S.goes_on;
              files = S.files ∙ refused.files;
              written = S.writes ∙ refused.writes;
              unread = λ n. S.unread ∙ refused.unread n;
              unabsent = λ none. S.absences ∙ refused.unabsent none;
              part = (A.met).part;
              place = A.place;
              there = (A.met).there;
              name = (A.met).name;
              writes = (A.met).writes;
              before = sinks_there g.M.Src.Source old plan.parts plan.frames A.place G.before files G.have;
              why = known_fault_later (A.met).part.line (A.met).name old mid new fault S refused.why;
              asked = λ n. c.close_compared.ensures.openings ∙ A.asked n;
            }))
      ],
    )

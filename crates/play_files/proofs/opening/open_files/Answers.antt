use Rattle.std.proofs.Common.{◌≤◌, length, inl, inr, refl, subst, sym, ◌∙◌, arith}
use Rattle.std.proofs.lemmas.Option.{slice_get_within}
use Rattle.script_lang.specs.declared.script.Script.{Script}
use Rattle.play_forms.specs.declared.plan_fault.PlanFault.TheVariants.{OutOfMemory}
use Rattle.play_forms.specs.Plans.{IsFaultOfScript, IsPlanOfScript, PlanValue}
use Rattle.script_lang.specs.declared.script.Script.TheVariants.{Play, Trace}
use Rattle.omx_types.specs.declared.fault.Fault.TheVariants as Faults
use Rattle.outside_io.specs.Files.{Outside}
use Rattle.play_plan_laws.proofs.Scripts.{scripted}
use Rattle.play_files.specs.Left.{IsUnopened}
use Rattle.play_files.specs.Names.{HaveOwnFiles}
use Rattle.play_files.specs.Seen.{file_seen}
use Rattle.play_files.proofs.Closings.{then}
use Rattle.play_files.proofs.Fronts.{still, still_then}
use Rattle.play_files.proofs.OwnFiles.{own_files}
use Rattle.play_files.proofs.Ready.{are_files, are_offered, is_ready, left_files, left_told}
use Rattle.play_files.proofs.Stopped.{calm_names, calm_reads, emptied, have_heads, sink_fault_later, source_refused_later, sources_closed}
use Rattle.play_files.proofs.opening.open_files.Goals as goal

-- want of memory for a script that has a plan
memory_fault : (script : Script) (plan : PlanValue) → IsPlanOfScript script plan → IsFaultOfScript script OutOfMemory
memory_fault (Play units parts links) plan is = tt
memory_fault (Trace units lines) plan is = absurd is

unplanned : (script : Script) (plan : PlanValue) (old : Outside) → IsPlanOfScript script plan → IsUnopened script old old Faults.OutOfMemory
unplanned script plan old is = inl (record { why = OutOfMemory; is = memory_fault script plan is; told = refl; still = still old; unasked = refl })

pub returns-in_default-clause-unopened : goal.returns-in_default-clause-unopened
returns-in_default-clause-unopened g c = unplanned c.args.script.now c.in_ok-plan.plan (g.M.Media.outside c.args.media.now) c.in_ok-plan.ensures.plan

pub returns-in_default-with_capacity-clause-unopened : goal.returns-in_default-with_capacity-clause-unopened
returns-in_default-with_capacity-clause-unopened g c = unplanned c.args.script.now c.in_ok-plan.plan (g.M.Media.outside c.args.media.now) c.in_ok-plan.ensures.plan

pub returns-in-Ok-open_planned-clause-opened : goal.returns-in-Ok-open_planned-clause-opened
returns-in-Ok-open_planned-clause-opened g c =
    let seen = file_seen g.M.Src.Source g.M.Snk.Sink in
    let old = g.M.Media.outside c.args.media.now in
    let new = g.M.Media.outside c.open_planned.new.media in
    let planned = c.in_ok-plan.plan in
    let plan = c.open_planned.new.plan in
    let heads = c.open_planned.new.heads.items in
    let files = c.open_planned.new.files.items in
    let R = c.requires in
    let S = scripted R.0 R.1 R.2 c.args.script.now planned R.3 c.in_ok-plan.ensures.plan in
    let W = c.in-Ok-open_planned.ensures.whole in
    record {
      planned = planned;
      heads = heads;
      is_plan = c.in_ok-plan.ensures.plan;
      fitted = W.fitted;
      fit = W.fit;
      still = W.still;
      opened = W.opened;
      asked = W.asked;
      ready = is_ready seen old new planned plan heads files W S;
      offered = are_offered seen old new planned plan heads files W S;
      files_are = are_files seen old new planned plan heads files W S;
    }

pub returns-in-Err-clause-unopened : goal.returns-in-Err-clause-unopened
returns-in-Err-clause-unopened g c =
    let seen = file_seen g.M.Src.Source g.M.Snk.Sink in
    let old = g.M.Media.outside c.args.media.now in
    let mid = g.M.Media.outside c.open_planned.new.media in
    let new = g.M.Media.outside c.close_files.new.media in
    let planned = c.in_ok-plan.plan in
    let plan = c.open_planned.new.plan in
    let heads = c.open_planned.new.heads.items in
    let files = c.open_planned.new.files.items in
    let R = c.requires in
    let fault = c.in-Err.fault in
    inr (
      planned,
      c.in_ok-plan.ensures.plan,
      elim c.in-Err.ensures.stopped [
        | inl (inl A) ↦
            let few : A.place ≤ length planned.parts = (let b = slice_get_within planned.parts A.place (A.met).part (A.met).there in omega arith) in
            let S = sources_closed seen files old planned.parts A.place heads A.read few mid new c.close_files.result c.close_files.ensures in
            inl (record {
              place = A.place;
              heads = heads;
              before = have_heads seen files old planned.parts A.place heads A.read few;
              met = record { part = (A.met).part; there = (A.met).there; name = (A.met).name; reads = (A.met).reads; refused = source_refused_later (A.met).part.line (A.met).name old mid new fault S (A.met).refused; asked = λ n. c.close_files.ensures.openings ∙ (A.met).asked n };
            })
        | inl (inr A) ↦
            let S = sources_closed seen files old planned.parts (length planned.parts) heads A.read (omega arith) mid new c.close_files.result c.close_files.ensures in
            inr (inl (record {
              heads = heads;
              have = have_heads seen files old planned.parts (length planned.parts) heads A.read (omega arith);
              plan = plan;
              fitted = A.fitted;
              why = A.why;
              is = A.is;
              told = A.told;
              still = still_then old mid new A.still S;
              asked = c.close_files.ensures.openings ∙ A.asked;
            }))
        | inr A ↦
            let refused = (A.met).refused in
            let own : HaveOwnFiles R.0 R.1 plan.parts = subst (HaveOwnFiles R.0 R.1) (sym (A.fitted).parts) (own_files R.0 R.1 R.2 c.args.script.now planned R.3 c.in_ok-plan.ensures.plan) in
            inr (inr (record {
              plan = plan;
              files = left_files seen plan.parts heads files;
              fitted = A.fitted;
              fit = A.fit;
              files_are = left_told seen old plan.parts plan.frames A.place heads files A.opened;
              goes_on = then old mid new refused.goes_on c.close_files.ensures.goes_on;
              unabsent = λ none. c.close_files.ensures.absences ∙ refused.unabsent none;
              reads = calm_reads seen files old plan.parts plan.frames A.place heads A.opened mid new c.close_files.result c.close_files.ensures ∙ refused.reads;
              unread = calm_names seen files old plan.parts plan.frames A.place heads A.opened mid new c.close_files.result c.close_files.ensures ∙ refused.unread;
              part = (A.met).part;
              place = A.place;
              there = (A.met).there;
              name = (A.met).name;
              writes = (A.met).writes;
              why = sink_fault_later (A.met).part.line (A.met).name old mid new fault c.close_files.ensures.goes_on refused.why;
              asked = λ n. c.close_files.ensures.openings ∙ A.asked n;
              left = λ tells. emptied seen files old plan.parts plan.frames A.place heads A.opened R.0 R.1 own tells mid new c.close_files.result refused.files c.close_files.ensures;
            }))
      ],
    )

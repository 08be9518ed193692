use Rattle.std.proofs.Common.{◌<◌, ◌^◌, Err, inl, refl, sym, ◌∙◌, arith}
use Rattle.std.proofs.lemmas.List.{with_items_is}
use Rattle.std.proofs.lemmas.Result.{err_from_is_err_and}
use Rattle.omx_types.specs.declared.fault.Fault.TheVariants as Faults
use Rattle.outside_io.specs.Files.{CountsStand}
use Rattle.run_audit.specs.declared.auditing.AuditFault.TheVariants as audits
use Rattle.run_audit.specs.Auditing.{IsUnaudited}
use Rattle.run_audit.proofs.Audited as audited
use Rattle.run_audit.proofs.Causes as causes
use Rattle.run_audit.proofs.FaultOfCall.{told_asked}
use Rattle.run_audit.proofs.Judged as judged
use Rattle.run_audit.proofs.Outcome as outcome
use Rattle.run_audit.proofs.auditing.audit.Goals as goal
use Rattle.run_audit.proofs.auditing.audit.Goals.{else-is_ok-via-then-is_ok+else-read_faults-before, else-is_ok-via-else-is_ok}

pub returns-in_err-opened : goal.returns-in_err-opened
returns-in_err-opened g c =
    let script = c.args.script.now in
    let log = c.args.log.now in
    let old = g.M.Media.outside c.args.media.now in
    let new = g.M.Media.outside c.open_compared.new.media in
    let fault = c.in_err-opened.field-0.0 in
    let U = c.in_err-opened.ensures.unopened in
    let other : IsUnaudited script log old new fault = inl U in
    let p = err_from_is_err_and c.from_residual.result c.from_residual.ensures.1 in
    rw (p.1, p.2) (
    record {
      goes_on = outcome.unopened_goes script old new fault U;
      files = outcome.unopened_files script old new fault U;
      writes = outcome.unopened_writes script old new fault U;
      yes = tt;
      stand = tt;
      other = other;
      asked = λ wanted tells calm asks. told_asked script log old new tells calm (Err (audits.Fault fault)) tt other wanted asks;
      given = λ tells. tt;
      played = tt;
      plays = tt;
    }
    )

pub returns-in-Err : goal.returns-in-Err
returns-in-Err g c =
    let R = c.in-Err.ensures in
    let reads = g.M.Src.Source in
    let script = c.args.script.now in
    let log = c.args.log.now in
    let old = g.M.Media.outside c.args.media.now in
    let mid = g.M.Media.outside c.open_compared.new.media in
    let late = g.M.Media.outside c.read_whole.new.media in
    let new = g.M.Media.outside c.close_compared.new.media in
    let A = c.in_ok-opened.ensures.opened in
    let plan = c.in_ok-opened.opened.plan in
    let files = c.in_ok-opened.opened.files.items in
    let fault = c.log_fault.result in
    let L = audited.leaves reads script log old mid late new plan files files A R.goes_on R.files R.write_faults files refl c.close_compared.ensures in
    let other : IsUnaudited script log old new fault =
    outcome.unread_log reads script log old mid late new plan files files A R.goes_on R.files R.write_faults c.close_compared.ensures
    c.in-Err.unread fault c.log_fault.ensures R.reason R.there (λ n. R.absences_stay (λ e. n (cc))) (λ n. R.asked (λ e. n (cc))) (causes.none_failed reads script old mid plan files A) in
    record {
      goes_on = L.goes_on;
      files = L.files;
      writes = L.writes;
      yes = tt;
      stand = tt;
      other = other;
      asked = λ wanted tells calm asks. told_asked script log old new tells calm (Err (audits.Fault fault)) tt other wanted asks;
      given = λ tells. tt;
      played = tt;
      plays = tt;
    }

pub replay-replayed-requires-clause-files : goal.replay-replayed-requires-clause-files
replay-replayed-requires-clause-files g c =
    let q = c.requires.script in
    let old = g.M.Media.outside c.args.media.now in
    let A = c.in_ok-opened.ensures.opened in (
      old.tells,
      A.known,
      judged.sinks_of old.tells old c.in_ok-opened.opened.plan,
      outcome.given_so g.M.Src.Source c.args.script.now old (g.M.Media.outside c.open_compared.new.media) c.in_ok-opened.opened.plan c.in_ok-opened.opened.files.items A q.0 c.args.log.now q.1 q.2 c.as_mut_slice.result.now c.as_mut_slice.ensures.value,
    )

pub returns-then-read_faults-before : goal.returns-then-read_faults-before
returns-then-read_faults-before g c =
    let R = c.in-Ok.ensures in
    let reads = g.M.Src.Source in
    let script = c.args.script.now in
    let log = c.args.log.now in
    let old = g.M.Media.outside c.args.media.now in
    let mid = g.M.Media.outside c.open_compared.new.media in
    let late = g.M.Media.outside c.read_whole.new.media in
    let new = g.M.Media.outside c.close_compared-2.new.media in
    let A = c.in_ok-opened.ensures.opened in
    let plan = c.in_ok-opened.opened.plan in
    let before = c.in_ok-opened.opened.files.items in
    let after = c.replay-replayed.new.files in
    let entries = c.as_mut_slice.result.now in
    let written = with_items_is c.in_ok-opened.opened.files after (c.replay-replayed.ensures.many ∙ c.as_mut_slice.ensures.len) in
    let few : late.read_faults < 2 ^ 64 = omega (arith, c.read_faults-before.type_inv, c.read_faults-before.ensures) in
    let L = audited.leaves reads script log old mid late new plan before after A R.goes_on R.files R.write_faults _ written c.close_compared-2.ensures in
    let other : IsUnaudited script log old new Faults.ReadFault =
    audited.risen reads script log old mid late new plan before after A R.goes_on R.files R.write_faults _ written c.close_compared-2.ensures (R.asked (λ e. cc)) (R.absences_stay (λ e. cc)) (R.read_stays (λ e. cc)) (R.none_failed (λ e. cc)) c.in-Ok.text.items R.bytes R.given
    entries c.as_mut_slice.ensures.value c.replay-replayed.ensures.many c.replay-replayed.ensures.files few (λ e. c.if-read_faults-before.true (c.read_faults.ensures ∙ (e ∙ sym c.read_faults-before.ensures))) in
    record {
      goes_on = L.goes_on;
      files = L.files;
      writes = L.writes;
      yes = tt;
      stand = tt;
      other = other;
      asked = λ wanted tells calm asks. told_asked script log old new tells calm (Err (audits.Fault Faults.ReadFault)) tt other wanted asks;
      given = λ tells. tt;
      played = tt;
      plays = tt;
    }

pub returns : goal.returns
returns g c =
    let R = c.in-Ok.ensures in
    let reads = g.M.Src.Source in
    let script = c.args.script.now in
    let log = c.args.log.now in
    let old = g.M.Media.outside c.args.media.now in
    let mid = g.M.Media.outside c.open_compared.new.media in
    let late = g.M.Media.outside c.read_whole.new.media in
    let new = g.M.Media.outside c.close_compared-2.new.media in
    let A = c.in_ok-opened.ensures.opened in
    let plan = c.in_ok-opened.opened.plan in
    let before = c.in_ok-opened.opened.files.items in
    let after = c.replay-replayed.new.files in
    let entries = c.as_mut_slice.result.now in
    let answer = c.outcome-answer.result in
    let q = c.requires.script in
    let written = with_items_is c.in_ok-opened.opened.files after (c.replay-replayed.ensures.many ∙ c.as_mut_slice.ensures.len) in
    let few : late.read_faults < 2 ^ 64 = omega (arith, c.read_faults-before.type_inv, c.read_faults-before.ensures) in
    let L = audited.leaves reads script log old mid late new plan before after A R.goes_on R.files R.write_faults _ written c.close_compared-2.ensures in
    let N =
    audited.known reads script log old mid late new plan before after A R.goes_on R.files R.write_faults _ written c.close_compared-2.ensures (R.asked (λ e. cc)) (R.absences_stay (λ e. cc)) (R.read_stays (λ e. cc)) (R.none_failed (λ e. cc)) c.in-Ok.text.items R.bytes R.given
    entries c.as_mut_slice.ensures.value c.replay-replayed.ensures.many c.replay-replayed.ensures.files few q.0 q.1 c.args.log.now q.2 c.replay-replayed.result c.as_slice.result.now c.as_slice.ensures.value c.replay-replayed.ensures.verdict c.replay-replayed.ensures.gives c.replay-replayed.ensures.failed
    c.as_slice-2.result.now c.as_slice-2.ensures.value c.outcome-answer.ensures.met c.parts_of.result.now c.parts_of.ensures answer c.outcome-answer.ensures.told in
    record {
      goes_on = L.goes_on;
      files = L.files;
      writes = L.writes;
      yes = (N.comes).yes;
      stand = elim c.else-is_ok.branch [
        | else-is_ok-via-then-is_ok+else-read_faults-before w ↦
            outcome.on_ok answer (CountsStand old new) (N.stands (sym w.read_faults.ensures ∙ (w.if-read_faults-before.false ∙ c.read_faults-before.ensures)))
        | else-is_ok-via-else-is_ok w ↦ outcome.not_ok answer (CountsStand old new) (sym c.is_ok.ensures.value ∙ w.if-is_ok.false)
      ];
      other = (N.comes).other;
      asked = λ wanted tells calm asks. told_asked script log old new tells calm answer (N.comes).yes (N.comes).other wanted asks;
      given = λ tells. N.to_end;
      played = outcome.is_run script log old answer c.law_of_audits.ensures.yes (N.comes).said;
      plays = (N.comes).no_play c.law_of_verdicts.ensures.one (λ P. c.law_of_audits.ensures.plays P.name log P.text old P.plan P.files P.samples P.workers P.few P.is P.ready P.held P.short P.sinks P.log_is);
    }

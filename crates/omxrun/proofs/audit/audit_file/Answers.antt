use Rattle.std.proofs.Common.{ℕ, Result, subst, sym}
use Rattle.std.proofs.lemmas.Result.{err_from_is_err_and}
use Rattle.omx_types.specs.declared.fault.Fault.{Fault}
use Rattle.omxrun.specs.Audits.{IsAuditOutcome}
use Rattle.omxrun.specs.declared.done.Done.{Done}
use Rattle.omxrun.proofs.Audits.{audit-outcome, unread-audit}
use Rattle.omxrun.proofs.audit.audit_file.Goals as goal

pub returns-clause-outcome : goal.returns-clause-outcome
returns-clause-outcome g c =
    let old = g.M.Media.outside c.args.media.now in
    let mid = g.M.Media.outside c.script_of.new.media in
    let new = g.M.Media.outside c.audit.new.media in
    subst (λ (outcome : Result Done Fault). IsAuditOutcome c.args.name.now c.args.log.now old new outcome) (sym c.outcome_of.ensures)
    (audit-outcome c.one_play.ensures.same c.law_of_names.ensures c.args.name.now c.args.log.now old mid new c.in_ok-script.script c.in_ok-script.ensures.read c.audit.ensures.files c.audit.ensures.writes
    c.audit.result c.audit.ensures.yes c.audit.ensures.stand c.audit.ensures.other c.audit.ensures.given c.audit.ensures.played c.audit.ensures.plays)

pub returns-in_err-script-clause-outcome : goal.returns-in_err-script-clause-outcome
returns-in_err-script-clause-outcome g c =
    let old = g.M.Media.outside c.args.media.now in
    let mid = g.M.Media.outside c.script_of.new.media in
    let p = err_from_is_err_and c.from_residual.result c.from_residual.ensures.1 in
    rw (p.1, p.2) (unread-audit c.args.name.now c.args.log.now old mid c.in_err-script.field-0.0 c.script_of.ensures.kept c.script_of.ensures.unwritten c.in_err-script.ensures.reason c.in_err-script.ensures.unabsent)

use Rattle.audit_lines.proofs.Cut.{log_cut, log_whole}
use Rattle.audit_lines.proofs.laws.law_of_log_lines.Goals as goal

pub returns : goal.returns
returns c = record { cut = log_cut; whole = log_whole }

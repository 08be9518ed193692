use Rattle.audit_lines.proofs.Short.{line_short, line_taken}
use Rattle.audit_lines.proofs.Spelled.{one_line}
use Rattle.audit_lines.proofs.laws.law_of_short_lines.Goals as goal

pub returns : goal.returns
returns c = record { short = line_short; taken = line_taken; one = one_line }

use Rattle.std.proofs.Common.{sym, ◌∙◌}
use Rattle.trace_run.proofs.HandedOut.{good_name, kind_refused}
use Rattle.trace_run.proofs.KindNames.{no_kind}
use Rattle.trace_run.proofs.headers.no_such_kind.Goals as goal

pub returns-else-kind-gt127 : goal.returns-else-kind-gt127
returns-else-kind-gt127 c w = kind_refused w c.args.kind.now (good_name c.args.kind.now (sym c.is_empty.ensures ∙ c.if-kind-gt127.false.0) c.if-kind-gt127.false.1) (no_kind c.args.kind.now c.requires)

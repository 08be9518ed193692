use Rattle.std.proofs.Common.{Ok, codes, rules}
use Rattle.script_lang.specs.Scripts.{TraceComes, nothing_before, seen}
use Rattle.script_lang.proofs.OneByOne.{read-behind}
use Rattle.script_lang.proofs.script.read_trace.Goals as goal

pub returns-clause-script : goal.returns-clause-script
returns-clause-script c =
    let before = seen c.in_ok-reading.reading in (
      before,
      read-behind TraceComes nothing_before (codes "trace") c.args.bytes.now c.in_ok-lines.lines.now (Ok before) c.in_ok-lines.ensures.behind c.in_ok-reading.ensures.all,
      search rules,
    )

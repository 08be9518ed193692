use Rattle.std.proofs.Common.{Ok, codes, rules}
use Rattle.script_lang.specs.PlayScripts.{PlayComes, no_play, play_seen}
use Rattle.script_lang.proofs.OneByOne.{read-behind}
use Rattle.script_lang.proofs.script.read_play.Goals as goal

pub returns-clause-script : goal.returns-clause-script
returns-clause-script c =
    let before = play_seen c.in_ok-reading.reading in (
      before,
      read-behind (PlayComes c.args.taken.script.now c.args.taken.log.now) no_play (codes "play") c.args.bytes.now c.in_ok-lines.lines.now (Ok before) c.in_ok-lines.ensures.behind c.in_ok-reading.ensures.all,
      search rules,
    )

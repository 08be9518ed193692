use Rattle.script_lang.proofs.OnePlay.{one-play}
use Rattle.script_lang.proofs.laws.one_play.Goals as goal

pub returns : goal.returns
returns c = record { same = one-play }

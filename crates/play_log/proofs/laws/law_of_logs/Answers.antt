use Rattle.play_log.proofs.Names.{logged_names, naming_runs, one_naming}
use Rattle.play_log.proofs.Unprinted.{unprinted_stays}
use Rattle.play_log.proofs.laws.law_of_logs.Goals as goal

pub returns : goal.returns
returns c = record {
  names = logged_names;
  runs = naming_runs;
  only = one_naming;
  stays = λ w v entry. unprinted_stays w entry.act entry.reply v;
}

use Rattle.bare_run_laws.proofs.Meeting.{meets_back, meets_bare, sound_apart}
use Rattle.bare_run_laws.proofs.Runs.{all_go, one_follows}
use Rattle.bare_run_laws.proofs.laws.law_of_bare_runs.Goals as goal

pub returns : goal.returns
returns c = record { apart = sound_apart; meets = λ w a r P. (meets_bare w a r P, meets_back w a r P); goes = all_go; follows = one_follows }

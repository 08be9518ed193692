use Rattle.history_laws.proofs.ClientHeaders.{steps_clients, closing_clients, runs_clients}
use Rattle.history_laws.proofs.ComingHeaders.{steps_taken, steps_come, closing_comes, runs_come}
use Rattle.history_laws.proofs.GivenHeaders.{steps_give}
use Rattle.history_laws.proofs.histories.law_of_client_headers.Goals as goal

pub returns : goal.returns
returns c = record {
  stays = steps_clients;
  taken = steps_taken;
  comes = steps_come;
  closing = closing_clients;
  closing_back = closing_comes;
  given = steps_give;
  runs = runs_clients;
  runs_back = runs_come;
}

use Rattle.bare_run_laws.proofs.Acts.{back_bare, claim_bare, over_bare, release_bare, send_bare, supply_bare}
use Rattle.bare_run_laws.proofs.Closings.{bare_closes}
use Rattle.bare_run_laws.proofs.Finishing.{finish_bare}
use Rattle.bare_run_laws.proofs.More.{drop_bare, run_bare, set_bare, setup_bare}
use Rattle.bare_run_laws.proofs.Telling.{end_bare, take_bare}
use Rattle.bare_run_laws.proofs.laws.law_of_bare_acts.Goals as goal

pub returns : goal.returns
returns c = record {
  closing = bare_closes;
  sends = send_bare;
  sets = set_bare;
  drops = drop_bare;
  setups = setup_bare;
  runs = run_bare;
  supplies = supply_bare;
  releases = release_bare;
  overs = over_bare;
  backs = back_bare;
  claims = claim_bare;
  finishes = finish_bare;
  takes = take_bare;
  ends = end_bare;
}

use Rattle.bare_run_laws.proofs.Returning.{back_back, claim_back, drop_back, end_back, finish_back, over_back, release_back, run_back, send_back, set_back, setup_back, supply_back, take_back}
use Rattle.bare_run_laws.proofs.laws.law_of_bare_returns.Goals as goal

pub returns : goal.returns
returns c = record {
  sends = send_back;
  sets = set_back;
  drops = drop_back;
  setups = setup_back;
  runs = run_back;
  supplies = supply_back;
  releases = release_back;
  overs = over_back;
  backs = back_back;
  claims = claim_back;
  finishes = finish_back;
  takes = take_back;
  ends = end_back;
}

use Rattle.read_world_laws.proofs.Mended.{closes_in, ends_in, fault_given, finishes_in, meets_in, step_in, takes_so}
use Rattle.read_world_laws.proofs.law_of_mended_worlds.Goals as goal

pub returns : goal.returns
returns c = record {
  steps = step_in;
  finishes = finishes_in;
  meets = meets_in;
  closes = closes_in;
  takes = takes_so;
  told = fault_given;
  back = ends_in;
}

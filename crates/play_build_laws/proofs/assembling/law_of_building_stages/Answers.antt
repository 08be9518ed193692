use Rattle.play_build_laws.proofs.Stages.{begins, names, at_rest, all_made, one_factored, all_factored, all_set, none_filed, all_filed}
use Rattle.play_build_laws.proofs.assembling.law_of_building_stages.Goals as goal

pub returns : goal.returns
returns c = record {
  begins = begins;
  all_made = all_made;
  one_factored = one_factored;
  all_factored = all_factored;
  all_set = all_set;
  no_file = none_filed;
  all_filed = all_filed;
  names = names;
  closed = at_rest;
}

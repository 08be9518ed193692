use Rattle.read_world_laws.proofs.Inside.{after_closed, back_in_same, between, closes_in, ends_so, finishes_in, meets_in, step_in, takes_so}
use Rattle.read_world_laws.proofs.law_of_taken_notes.Goals as goal

pub returns : goal.returns
returns c = record {
  steps = step_in;
  finishes = finishes_in;
  meets = meets_in;
  closes = closes_in;
  took = λ w i c event e h n o f Z. (after_closed w i c event e h n o f Z, (between w i c event e h n o f Z, takes_so w i c event e h n o f Z, ends_so w i c event e h n o f Z));
  back = back_in_same;
}

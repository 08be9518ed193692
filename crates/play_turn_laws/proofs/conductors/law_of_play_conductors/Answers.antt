use Rattle.play_turn_laws.proofs.Changing.{conductor_changes, conductor_goes_on, conductor_waits}
use Rattle.play_turn_laws.proofs.Hearing.{conductor_hears}
use Rattle.play_turn_laws.proofs.Sending.{conductor_begins, conductor_ends, conductor_over, conductor_sends, conductor_whole}
use Rattle.play_turn_laws.proofs.conductors.law_of_play_conductors.Goals as goal

pub returns : goal.returns
returns c = record {
  hears = λ x recent p w value views W D C H. conductor_hears x recent p w W value views H D C;
  sends = λ x recent p w value next state W V C. conductor_sends x recent p w W value V next state C;
  begins = λ x recent p w value W V B. conductor_begins x recent p w W value V B;
  changes = λ x recent p w value next component step W V C. conductor_changes x recent p w W value V next component step C;
  goes_on = λ x recent p w value l W V A. conductor_goes_on x recent p w W value V l A;
  over = λ x recent p w value next W V C. conductor_over x recent p w W value V next C;
  ends = λ x recent p w value W V O. conductor_ends x recent p w W value V O;
  waits = λ x recent p w value next W V C. conductor_waits x recent p w W value V next C;
  whole = λ x recent p w value next W V C. conductor_whole x recent p w W value V next C;
}

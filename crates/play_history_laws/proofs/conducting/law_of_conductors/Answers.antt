use Rattle.play_history_laws.proofs.Rounds.{conducted_accepted, conducted_over, conducted_requests, conducted_tunnels}
use Rattle.play_history_laws.proofs.conducting.law_of_conductors.Goals as goal

pub returns : goal.returns
returns c = record {
  requests = λ plan files handles w R S own entries after N r value C. conducted_requests plan files handles w R S own entries after N r value C;
  accepted = λ plan files handles w R S own entries after N r F. conducted_accepted plan files handles w R S own entries after N r F;
  over = λ plan files handles w R S own entries after N r value C next O. conducted_over plan files handles w R S own entries after N r value C next O;
  tunnels = λ plan files handles w R S own entries after N r value C. conducted_tunnels plan files handles w R S own entries after N r value C;
}

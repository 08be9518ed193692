use Rattle.play_world_laws.proofs.Ports.{announced_state, disabled_state, disabling_state, dropped_state, enabled_state, enabling_state, joined_again, other_state, set_input_state, set_output_state, told_state}
use Rattle.play_world_laws.proofs.worlds.law_of_changed_ports.Goals as goal

pub returns : goal.returns
returns c = record {
  announced = announced_state;
  dropped = dropped_state;
  set_output = set_output_state;
  set_input = set_input_state;
  joined = joined_again;
  disabling = disabling_state;
  disabled = disabled_state;
  enabling = enabling_state;
  enabled = enabled_state;
  told = told_state;
  other = other_state;
}

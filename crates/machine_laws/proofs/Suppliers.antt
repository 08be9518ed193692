-- The nine pairs of preferences.
use Rattle.std.proofs.Common.{refl}
use Rattle.machine_laws.specs.Laws.{NinePairs}

pub nine_pairs : NinePairs
nine_pairs = record {
  none_none = refl;
  output_none = refl;
  input_none = refl;
  none_input = refl;
  output_input = refl;
  input_input = refl;
  none_output = refl;
  output_output = refl;
  input_output = refl;
}

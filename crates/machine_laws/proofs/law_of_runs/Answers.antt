use Rattle.il_machine.specs.World.{no_world}
use Rattle.machine_laws.proofs.Steps.{sound_run_of, sound_none}
use Rattle.machine_laws.proofs.Standing.{sound_census}
use Rattle.machine_laws.proofs.law_of_runs.Goals as goal

pub returns : goal.returns
returns c = record {
  sound = λ key units xs v run. sound_run_of (no_world key units) v xs run (sound_none key units);
  census = λ key units xs v run. sound_census v (sound_run_of (no_world key units) v xs run (sound_none key units));
}

use Rattle.machine_laws.proofs.Steps.{sound_step}
use Rattle.machine_laws.proofs.Happening.{sound_closes}
use Rattle.machine_laws.proofs.law_of_steps.Goals as goal

pub returns : goal.returns
returns c = record { step = sound_step; closing = sound_closes }

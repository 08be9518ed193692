use Rattle.slot_laws.proofs.Calling.{get_goes, get_refused}
use Rattle.slot_laws.proofs.Closings.{moved_closes}
use Rattle.slot_laws.proofs.Steps.{step_goes}
use Rattle.slot_laws.proofs.law_of_moved_steps.Goals as goal

pub returns : goal.returns
returns c = record { goes = step_goes; makes = get_goes; refuses = get_refused; closing = moved_closes }

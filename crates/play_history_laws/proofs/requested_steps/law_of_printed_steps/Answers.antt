use Rattle.play_history_laws.proofs.Printed.{printed_conducted, told_printed, whole_requested}
use Rattle.play_history_laws.proofs.PlanUnrefused.{not_refused}
use Rattle.play_history_laws.proofs.requested_steps.law_of_printed_steps.Goals as goal

pub returns : goal.returns
returns c = record { told = told_printed; conducted = printed_conducted; requested = whole_requested; unrefused = not_refused }

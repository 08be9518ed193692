use Rattle.play_model.proofs.Stuck.{never_stuck, first_or_ended}
use Rattle.play_model.proofs.Claims.{claim_steps, some_move}
use Rattle.play_model.proofs.Measure.{complete}
use Rattle.play_model.proofs.Exact.{exact_number}
use Rattle.play_model.proofs.flows.law_of_enabled_moves.Goals as goal

pub returns : goal.returns
returns c = record { enabled = never_stuck; first = first_or_ended; steps = claim_steps; exact = exact_number; some = some_move; complete = complete }

use Rattle.history_laws.proofs.Naming.{own_named, named_below, named_one}
use Rattle.history_laws.proofs.Seats.{handle_lives, handle_stays}
use Rattle.history_laws.proofs.runs.law_of_handles.Goals as goal

pub returns : goal.returns
returns c = record { own = own_named; below = named_below; one = named_one; stays = handle_lives; numbered = handle_stays }

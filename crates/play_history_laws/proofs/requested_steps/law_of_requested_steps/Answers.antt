use Rattle.play_history_laws.proofs.Conducted.{conducted_requested, front_requested}
use Rattle.play_history_laws.proofs.Ordered.{history_ordered}
use Rattle.play_history_laws.proofs.Own.{own_requests}
use Rattle.play_history_laws.proofs.Requested.{requested_history}
use Rattle.play_history_laws.proofs.requested_steps.law_of_requested_steps.Goals as goal

pub returns : goal.returns
returns c = record { goes = requested_history; conducted = conducted_requested; asks = history_ordered; own = own_requests; fronts = front_requested }

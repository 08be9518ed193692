use Rattle.play_history_laws.proofs.Hearing.{old_hears}
use Rattle.play_history_laws.proofs.ViewsKept.{heard_old, old_changed, old_stays, views_on}
use Rattle.play_history_laws.proofs.Standing.{old_changes, old_over, old_sends, old_whole}
use Rattle.play_history_laws.proofs.old_views.law_of_old_views.Goals as goal

pub returns : goal.returns
returns c = record { hears = old_hears; sends = old_sends; changes = old_changes; over = old_over; whole = old_whole; stays = old_stays; changed = old_changed; views = views_on; exact = heard_old }

use Rattle.play_world_laws.proofs.Announced.{announce_finished}
use Rattle.play_world_laws.proofs.Announcing.{announce_claimed}
use Rattle.play_world_laws.proofs.Claiming.{claim_announces}
use Rattle.play_world_laws.proofs.changes.law_of_announcements.Goals as goal

pub returns : goal.returns
returns c = record { claimed = announce_claimed; can = claim_announces; finished = announce_finished }

use Rattle.play_world_laws.proofs.Releases.{release_can, release_leads}
use Rattle.play_world_laws.proofs.link_calls.law_of_play_releases.Goals as goal

pub returns : goal.returns
returns c = record { done = release_leads; can = release_can }

-- A play and its conductor.
use Rattle.std.specs.Prelude.{◌≢◌, ℕ, ◌<◌}
use Rattle.il_machine.specs.World.{World}
use Rattle.conductor.specs.Hearing.{ConductorValue}
use Rattle.play_model.specs.Numbers.{not_sent}
use Rattle.play_model.specs.Play.{Layout, Play}
use Rattle.play_world_laws.specs.PlayWorlds.{IsPlayWorld, PlayCast}
use Rattle.play_world_laws.specs.Waiting.{IsWaiting}
use Rattle.play_turn_laws.specs.Conducting.{AreCarriedOut, IsPlayConducting}

-- no state that was begun is still to be sent to a component
abbrev pub AreSent : Layout → Play → Type 0
AreSent w p = (c : ℕ) → c < (w.network).components → p.stage c ≢ not_sent

-- The world is one of the play, and the conductor knows how far that is; the link whose change was begun last is the one it began last.
pub record IsPlayConducted (x : PlayCast) (recent : ℕ) (p : Play) (w : World) (value : ConductorValue) : Type 0 where
  pub play : IsPlayWorld x recent p w
  pub waiting : IsWaiting (x.cast).layout p
  pub conducting : IsPlayConducting x.cast recent p value

-- between two turns: what the conductor answered is sent and carried out
pub record IsBetweenTurns (x : PlayCast) (recent : ℕ) (p : Play) (w : World) (value : ConductorValue) : Type 0 where
  pub standing : IsPlayConducted x recent p w value
  pub sent : AreSent (x.cast).layout p
  pub carried : AreCarriedOut x.cast p value.lates

-- An act of the machine in a play.
use Rattle.std.specs.Prelude.{ℕ}
use Rattle.il_machine.specs.Due.{ClosesTo}
use Rattle.il_machine.specs.World.{World}
use Rattle.play_model.specs.Play.{Play}
use Rattle.play_world_laws.specs.PlayWorlds.{IsPlayWorld, PlayCast}

-- The act leads to a world of the play, from which the close-out comes to this one.
pub record PlayLeadsTo (x : PlayCast) (recent : ℕ) (p : Play) (v : World) : Type 0 where
  pub effect : World
  pub play : IsPlayWorld x recent p effect
  pub closes : ClosesTo effect v

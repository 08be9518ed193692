-- What an act leaves, where a note counts as told once its client object is back.
use Rattle.std.proofs.Common.{ℕ}
use Rattle.il_machine.specs.World.{World}
use Rattle.play_model.specs.Play.{Play}
use Rattle.play_world_laws.specs.PlayWorlds.{PlayCast}
use Rattle.play_history_laws.specs.Following.{GoesTo, IsPlayed, StreamsLead}
use Rattle.play_history_laws.specs.Order.{Cursor}

pub record HasCome (x : PlayCast) (k : Cursor) (was : ℕ) (p : Play) (j : Cursor) (w v : World) : Type 0 where
  pub recent : ℕ
  pub now : Play
  pub played : IsPlayed x j recent now v
  pub goes : GoesTo (x.cast).layout k was p j recent now
  pub streams : StreamsLead x p w now v

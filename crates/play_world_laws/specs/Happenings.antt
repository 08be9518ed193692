-- The close-out of a world of a play.
use Rattle.std.specs.Prelude.{ℕ, List, [], ◌∷◌}
use Rattle.il_machine.specs.World.{World}
use Rattle.play_model.specs.Acts.{Act, CanActs, all_acted}
use Rattle.play_model.specs.Acts.Act.{Happen, HappenPort}
use Rattle.play_model.specs.Play.{Play}
use Rattle.play_world_laws.specs.PlayWorlds.{IsPlayWorld, PlayCast}
use Rattle.play_world_laws.specs.Waiting.{IsWaiting}

-- what is due happens: a component's transition, or a port's disable or enable
abbrev pub IsHappening : Act → Type 0
IsHappening (Happen c) = Unit {0}
IsHappening (HappenPort l output) = Unit {0}
IsHappening _ = ⊥

abbrev pub AreHappenings : List Act → Type 0
AreHappenings [] = Unit {0}
AreHappenings (a ∷ acts) = IsHappening a × AreHappenings acts

-- So many happenings lead to this world of the play.
pub record PlayHappensTo (x : PlayCast) (recent : ℕ) (p : Play) (v : World) : Type 0 where
  pub acts : List Act
  pub happen : AreHappenings acts
  pub can : CanActs (x.cast).layout p acts
  pub play : IsPlayWorld x recent (all_acted (x.cast).layout acts p) v
  pub waiting : IsWaiting (x.cast).layout (all_acted (x.cast).layout acts p)

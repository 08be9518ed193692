-- What a conductor knows whose views of the components may be older than the world, each by itself: all that it holds for told is told.
use Rattle.std.specs.Prelude.{◌≡◌, ℕ, ◌<◌, ◌≤◌, Bool, true, List, slice_get, Option, Some, None, is_some, MatchOption}
use Rattle.il_machine.specs.declared.answer.Progress.{Progress}
use Rattle.conductor.specs.Hearing.{ConductorValue}
use Rattle.play_model.specs.Network.{IsOutput}
use Rattle.play_model.specs.Changes.{port_at}
use Rattle.play_model.specs.Play.{Play, component_at}
use Rattle.play_world_laws.specs.Cast.{Cast, components_of, links_of, script_place}
use Rattle.play_world_laws.specs.Telling.{last_told}
use Rattle.play_world_laws.specs.Changing.{IsPast}
use Rattle.play_world_laws.specs.PlayWorlds.{port_number}
use Rattle.play_turn_laws.specs.Conducting.{AreCarriedOut, IsPlayConducting}

-- The component told so much at some stage of the StateSet that was begun last, and has told no less since.
pub record IsBehind (cast : Cast) (play : Play) (component : ℕ) (progress : Progress) : Type 0 where
  pub stage : ℕ
  pub within : stage ≤ play.stage component
  pub state : progress.state ≡ last_told play.phase stage
  pub eos : progress.eos ≡ true → play.told component ≡ true
  pub error : progress.error ≡ None
  pub settings : (link : ℕ) → IsOutput (cast.layout).network component link → (cast.layout).is_late link ≡ true → is_some progress.settings ≡ true → 2 ≤ (play.change link).step
  pub past : (output : Bool) (link : ℕ) → link < links_of cast → component_at cast.layout output link ≡ component → (cast.layout).is_late link ≡ true
      → IsPast (port_at output (play.change link)) (port_number cast output link) progress.port

-- It knows no more than is so, and each step that it answered is carried out.
pub record IsOld (cast : Cast) (recent : ℕ) (play : Play) (value : ConductorValue) : Type 0 where
  pub conducting : IsPlayConducting cast recent play value
  pub told : (component : ℕ) → component < components_of cast
      → (progress : Progress) × (slice_get value.told (script_place cast component) ≡ Some progress) × IsBehind cast play component progress
  pub carried : AreCarriedOut cast play value.lates

-- each view tells nothing, or no more than is so
pub record AreOldViews (cast : Cast) (play : Play) (views : List (Option Progress)) : Type 0 where
  pub each : (component : ℕ) → component < components_of cast
      → (view : Option Progress) × (slice_get views (script_place cast component) ≡ Some view) × MatchOption view (Unit {0}) (IsBehind cast play component)

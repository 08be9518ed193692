-- What a conductor knows while the play is where the model has it.
use Rattle.std.specs.Prelude.{◌≡◌, ℕ, ◌<◌, List, length, slice_get, Option, Some}
use Rattle.il_machine.specs.declared.answer.Progress.{Progress}
use Rattle.il_machine.specs.World.{Component, World}
use Rattle.conductor.specs.Hearing.{ConductorValue, heard_view}
use Rattle.play_world_laws.specs.Cast.{Cast, components_of, script_place}
use Rattle.play_world_laws.specs.Telling.{heard}

-- it knows which components are sinks
pub record HasSinks (x : Cast) (value : ConductorValue) : Type 0 where
  pub many : length value.sinks ≡ components_of x
  pub each : (c : ℕ) → c < components_of x → slice_get value.sinks (script_place x c) ≡ Some ((x.layout).is_sink c)

-- what it hears of a component, with what it knew of it, is the progress of what that has told
pub record HasView (w : World) (a : Component) (value : ConductorValue) (views : List (Option Progress)) (place : ℕ) : Type 0 where
  pub old : Progress
  pub view : Option Progress
  pub known : slice_get value.told place ≡ Some old
  pub there : slice_get views place ≡ Some view
  pub now : heard_view old view ≡ heard w a

pub record HasViews (x : Cast) (w : World) (value : ConductorValue) (views : List (Option Progress)) : Type 0 where
  pub known_many : length value.told ≡ components_of x
  pub many : length views ≡ components_of x
  pub each : (c : ℕ) (a : Component) → c < components_of x → slice_get w.components (script_place x c) ≡ Some a → HasView w a value views (script_place x c)

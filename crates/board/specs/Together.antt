-- A history of turns, behind the acts that led to the board's first graph.
use Rattle.std.specs.Prelude.{◌≡◌, ℕ, false, List, All, ◌++◌, IsSome, Contains}
use Rattle.omx_types.specs.declared.command.Completion.{Completion}
use Rattle.il_machine.specs.World.{World, component_numbered, no_world}
use Rattle.il_machine.specs.Acts.{Act, Reply}
use Rattle.il_machine.specs.Run.{Run}
use Rattle.il_machine.specs.Sound.{Sound}
use Rattle.il_machine.specs.Due.{IsClosed}
use Rattle.il_machine.specs.Census.{Census, HasRoom}
use Rattle.il_machine.specs.Trails.{Move, RunMoves, HaveTrails}
use Rattle.il_machine.specs.Queued.{completions_in, notes_of, queued_for}
use Rattle.history_laws.specs.Given.{is_freed_by}
use Rattle.history_laws.specs.Runs.{WasDueIn}
use Rattle.history_laws.specs.GivenIn.{given_in}

-- The two are one run, with its census, its trails and its deliveries, and nothing is due at its end.
pub record AreOneRun (key units : ℕ) (xs ys : List (Act × Reply)) : Type 0 where
  pub world : World
  pub run : Run (no_world key units) (xs ++ ys) world
  pub sound : Sound world
  pub closed : IsClosed world
  pub census : Census world
  pub room : HasRoom world
  -- each completion that was queued was due in the step that queued it
  pub due : (number : ℕ) (x : Completion) → IsSome (component_numbered number world) → Contains (completions_in (queued_for number world)) x → WasDueIn (no_world key units) (xs ++ ys) world number x
  pub moves : List Move
  pub run_moves : RunMoves (no_world key units) (xs ++ ys) moves world
  pub trails : HaveTrails world moves
  -- What was given with each client object, in its order and each once, is a front of what was queued for its component.
  pub delivered : (number : ℕ) → All (λ x. is_freed_by number x.0 x.1 ≡ false) (xs ++ ys) → queued_for number world ≡ given_in number (xs ++ ys) ++ notes_of (component_numbered number world)

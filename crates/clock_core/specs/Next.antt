-- The next moment at which a request is fulfilled.
use Rattle.std.specs.Prelude.{◌≡◌, ◌≢◌, ℕ, ◌+◌, ◌-◌, ◌^◌, ◌<◌, ◌⊎◌, List, [], ◌∷◌, Option, Some, None}
use Rattle.clock_core.specs.Clock.{State, notes_passing}
use Rattle.clock_core.specs.Pace.{first_within}
use Rattle.clock_core.specs.declared.act.Request.{Request}
use Rattle.clock_core.specs.declared.motion.Motion.{Motion}
use Rattle.clock_core.specs.declared.motion.Motion.TheVariants.{Running}
use Rattle.clock_core.specs.declared.pace.Pace.{Pace}

-- the least moment at which a request is fulfilled if only time passes
pub record IsNextWall (state : State) (wall : ℕ) : Type 0 where
  pub later : state.wall < wall
  pub quiet : (n : ℕ) → state.wall + n < wall → notes_passing n state ≡ []
  pub fulfils : notes_passing (wall - state.wall) state ≢ []

abbrev pub IsRunning : Motion → Type 0
IsRunning (Running since media) = Unit {0}
IsRunning other = ⊥

-- the media time doesn't go on, no request is outstanding, or the moment is behind 2 ^ 53
abbrev pub HasNoNext : State → Type 0
HasNoNext state =
    (¬ (IsRunning state.motion)) ⊎ (state.scale ≡ 0) ⊎ (state.requests ≡ []) ⊎ ((wall : ℕ) × IsNextWall state wall × (2 ^ 53 < wall))

-- the moment of the front request, by division
abbrev pub front_moment : Option Pace → List Request → Option ℕ
front_moment None requests = None
front_moment (Some pace) [] = None
front_moment (Some pace) (first ∷ requests) = first_within pace first.media

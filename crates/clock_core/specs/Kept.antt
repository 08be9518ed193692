-- What holds of each clock.
use Rattle.std.specs.Prelude.{◌≡◌, ℕ, ◌+◌, ◌*◌, ◌^◌, ◌<◌, ◌≤◌, List, [], length, Option, Some, None, IsTrue}
use Rattle.clock_core.specs.Clock.{State, pace_of, waits_for}
use Rattle.clock_core.specs.Due.{AreInOrder, due_until}
use Rattle.clock_core.specs.Pace.{IsSlow}
use Rattle.clock_core.specs.declared.act.ClockAct.{ClockAct}
use Rattle.clock_core.specs.declared.act.ClockAct.TheVariants.{Port, Ask}
use Rattle.clock_core.specs.declared.act.Request.{Request}
use Rattle.clock_core.specs.declared.motion.Motion.{Motion}
use Rattle.clock_core.specs.declared.motion.Motion.TheVariants.{Stopped, Running, Waiting}
use Rattle.clock_core.specs.declared.pace.Pace.{Pace}

abbrev pub IsWithin : Option ℕ → Type 0
IsWithin None = Unit {0}
IsWithin (Some media) = media ≤ 2 ^ 53

-- the media time is one that can be reached
abbrev pub IsReachable : ℕ → Motion → Type 0
IsReachable wall Stopped = Unit {0}
IsReachable wall (Running since media) = (since ≤ wall) × (media ≤ 2 ^ 53 + 16 * since)
IsReachable wall (Waiting ports least) = IsWithin least

-- nothing is due that wasn't fulfilled
pub record IsKept (state : State) : Type 0 where
  pub wall : state.wall ≤ 2 ^ 53
  pub scale : state.scale ≤ 2 ^ 20
  pub motion : IsReachable state.wall state.motion
  pub few : length state.requests ≤ 64
  pub ordered : AreInOrder state.requests
  pub none_due : due_until (pace_of state.motion state.scale) state.wall state.requests ≡ []

-- the media times up to a moment fit
abbrev pub CanGoOn : Option Pace → ℕ → Type 0
CanGoOn None until = Unit {0}
CanGoOn (Some pace) until = IsSlow pace × (pace.since ≤ until)

-- a port that tells is waited for
abbrev pub IsWaitedFor : Motion → ClockAct → Type 0
IsWaitedFor motion (Port port media) = IsTrue (waits_for motion port)
IsWaitedFor motion other = Unit {0}

-- one more request has room
abbrev pub HasRoomFor : ClockAct → List Request → Type 0
HasRoomFor (Ask id media) requests = length requests < 64
HasRoomFor other requests = Unit {0}

-- A component's work goes out, is done, and comes back.
use Rattle.std.specs.Prelude.{◌≡◌, ℕ, Ok}
use Rattle.omx_types.specs.declared.handle.Handle.{Handle}
use Rattle.il_machine.specs.Acts as acts
use Rattle.il_machine.specs.Claims.{Claim, ClaimedWork, WorkSeen}
use Rattle.il_machine.specs.Finishing.{Finish}
use Rattle.il_machine.specs.Run.{Meets}
use Rattle.il_machine.specs.Stepping.{WorkDone}
use Rattle.il_machine.specs.World.{World}

-- the work of the component that the handle names went out, and came back from a step of so many frames
pub record WorkedOnce (h : Handle) (frames : ℕ) (w v : World) : Type 0 where
  pub work : WorkSeen
  pub between : World
  pub goes : Claim w h (Ok (ClaimedWork work)) between
  pub done : WorkDone
  pub frames_are : done.frames ≡ frames
  pub meets : Meets between (acts.Finish done)
  pub comes : Finish between done v

-- How far the graph of a play is stopped: first its components are, then its links are cleared.
use Rattle.std.specs.Prelude.{◌≡◌, ℕ, ◌<◌, Bool, true, false, All, length, None, Result, Ok, Err}
use Rattle.il_machine.specs.declared.answer.Acted.{Acted}
use Rattle.il_machine.specs.declared.answer.Acted.TheVariants.{Did, Idle}
use Rattle.il_machine.specs.declared.answer.Progress.{Progress}
use Rattle.il_machine.specs.Components.{moved_by}
use Rattle.il_machine.specs.World.{World}
use Rattle.note_queues.specs.declared.taken.Taken.{Taken}
use Rattle.note_queues.specs.declared.taken.Taken.TheVariants.{Told}
use Rattle.play_build_laws.specs.Halting.{AreStoppedTo, IsBrought, IsCleared, IsLinked}
use Rattle.play_forms.specs.Plans.{PlanValue}
use Rattle.play_model.specs.Play.{Play}
use Rattle.play_world_laws.specs.Cast.{links_of}
use Rattle.play_world_laws.specs.Changing.{is_joined_at}
use Rattle.play_world_laws.specs.PlayWorlds.{PlayCast}
use Rattle.play_plan_laws.specs.Endings.{ends_of}

-- The world has the plan's components, joined as its links say; no work and no client object is out. So many are stopped, and the others
-- aren't Invalid.
pub record HasStopped (plan : PlanValue) (places : ℕ) (w : World) : Type 0 where
  pub many : length w.components ≡ length plan.parts
  pub linked : IsLinked (ends_of plan) (length plan.joints) w
  pub stopped : AreStoppedTo places w

-- All are, and so many links have no header.
pub record HasCleared (plan : PlanValue) (links : ℕ) (w : World) : Type 0 where
  pub many : length w.components ≡ length plan.parts
  pub cleared : IsCleared (ends_of plan) (length plan.joints) links w

-- so it is, and the headers of the next link are at its input
pub record HasBrought (plan : PlanValue) (link : ℕ) (w : World) : Type 0 where
  pub many : length w.components ≡ length plan.parts
  pub brought : IsBrought (ends_of plan) (length plan.joints) link w

-- each late source's link has its tunnel
abbrev pub HaveTunnels : PlayCast → Play → Type 0
HaveTunnels x p = (l : ℕ) → l < links_of x.cast → ((x.cast).layout).is_late l ≡ true → is_joined_at (p.change l).step ≡ true

-- no work and no client object is out
pub record HasNoneOut (w : World) : Type 0 where
  pub works : All (λ a. a.work ≡ None) w.components
  pub clients : All (λ a. a.client_out ≡ false) w.components

-- ---- what calls answer

-- the act was done, or there was no header for it
abbrev pub IsActed : {E : Type 0} → Result Acted E → Type 0
IsActed (Ok acted) = Unit {0}
IsActed (Err error) = ⊥

abbrev pub has_acted : {E : Type 0} → Result Acted E → Bool
has_acted (Ok Did) = true
has_acted (Ok (Idle why)) = false
has_acted (Err error) = false

-- the note is an event
abbrev pub IsEvent : Taken → Type 0
IsEvent (Told event) = Unit {0}
IsEvent other = ⊥

-- the progress of one who was told the note
abbrev pub told_by : Taken → Progress → Progress
told_by (Told event) client = moved_by event client
told_by other client = client

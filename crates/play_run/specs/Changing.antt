-- How far a step of the change of a late source's link is made.
use Rattle.std.specs.Prelude.{◌≡◌, ◌≢◌, ℕ, ◌+◌, ◌<◌, ◌≤◌, Bool, true, false, List, drop, length, slice_get, Some}
use Rattle.conductor.specs.declared.phase.ChangeStep.{ChangeStep}
use Rattle.conductor.specs.declared.phase.ChangeStep.TheVariants.{Disable, Retune, Enable}
use Rattle.conductor.specs.declared.phase.LateLink.{LateLink}
use Rattle.play_forms.specs.Plans.{PlanValue}
use Rattle.play_model.specs.Acts.{Act, CanAct}
use Rattle.play_model.specs.Play.{Play}
use Rattle.play_loop.specs.Turns.{HasActed, IsAtRest, SomePlay}
use Rattle.play_world_laws.specs.Cast.{Cast, giver_of, script_place}
use Rattle.play_plan_laws.specs.Casting.{joint_of}
use Rattle.play_turn_laws.specs.Conducting.{AreCarriedOut, IsLateOf, IsUnderWay, step_from, step_to}
use Rattle.play_turn_laws.specs.Playing.{AreSent}
use Rattle.play_graph.specs.declared.link_end.End.{End}
use Rattle.play_graph.specs.declared.link_end.End.TheVariants.{Input, Output}
use Rattle.play_result_laws.specs.Asked.{acts_of as asked_acts, tuned}
use Rattle.play_run.specs.Asking.{asking_of, handles_of}
use Rattle.play_run.specs.Playing.{IsPlaying, IsStanding, PlayingValue, cast, layout_of}

-- the component at the place gives into the link
pub record IsLinkFrom (plan : PlanValue) (place l : ℕ) : Type 0 where
  pub below : l < length plan.joints
  pub gives : (joint_of plan l).giver ≡ place

-- so it does, by the play's cast
abbrev pub IsSourceOf : PlanValue → ℕ → ℕ → Type 0
IsSourceOf plan place l = place ≡ script_place (cast plan) (giver_of (cast plan) l)

-- ---- the acts of a step

abbrev pub acts_of : ChangeStep → ℕ
acts_of Disable = 2
acts_of Retune = 4
acts_of Enable = 2

-- the step that disables the ports, or that enables them; and which act of it is that of the end
abbrev pub sending : Bool → ChangeStep
sending true = Disable
sending false = Enable

abbrev pub sent_as : End → ℕ
sent_as Output = 0
sent_as Input = 1

-- which act of a retuning sets the format at the end
abbrev pub set_as : End → ℕ
set_as Output = 1
set_as Input = 2

-- So many acts of the step on the link are made. What the conductor knows of the link is under way until all are, and then each step that it
-- answered is carried out.
pub record IsOnStep (x : Cast) (p : Play) (lates : List LateLink) (l : ℕ) (step : ChangeStep) (made : ℕ) : Type 0 where
  pub gone : (p.change l).step ≡ step_from step + made
  pub can : made < acts_of step → CanAct x.layout p (Act.Conduct l)
  pub number : ℕ
  pub known : LateLink
  pub there : slice_get lates number ≡ Some known
  pub of_link : IsLateOf x l known
  pub way : (acts : ℕ) → step_from step ≤ acts → acts ≤ step_to step → IsUnderWay known.steps acts
  pub carried : (q : Play) → (q.change l).step ≡ step_to step → ((k : ℕ) → k ≢ l → (q.change k).step ≡ (p.change k).step) → AreCarriedOut x q lates

module _ {S K : Type 0} where
  -- the graph stands for a play in which so many acts of the step on the link are made
  pub record IsChanging (x : PlayingValue S K) (p : Play) (l : ℕ) (step : ChangeStep) (made : ℕ) : Type 0 where
    pub standing : IsStanding x p
    pub recent : standing.recent ≡ l
    pub left : standing.left ≡ drop made (asked_acts (tuned x.plan standing.files) (handles_of standing.opening) (asking_of step l))
    pub sent : AreSent (layout_of x.plan) p
    pub on : IsOnStep (cast x.plan) p (x.conductor).lates l step made

  abbrev pub CanChange : PlayingValue S K → ℕ → ChangeStep → ℕ → Type 0
  CanChange x l step made = SomePlay (λ p. IsChanging x p l step made)

  -- from each play in which so many acts of the step are made, by acts of the play to one in which more are, that began with the same files
  abbrev pub ChangesTo : PlayingValue S K → PlayingValue S K → ℕ → ChangeStep → ℕ → ℕ → Type 0
  ChangesTo old new l step made more = (p : Play) (Y : IsChanging old p l step made)
      → (q : Play) × (Z : IsChanging new q l step more) × HasActed (layout_of old.plan) p q × IsAtRest (layout_of old.plan) q
      × (Z.standing.files ≡ Y.standing.files)

  -- ---- the whole step, on the link of the late source at a place

  abbrev pub CanChangeFrom : PlayingValue S K → ℕ → ChangeStep → Type 0
  CanChangeFrom x place step = (l : ℕ) × IsSourceOf x.plan place l × CanChange x l step 0

  abbrev pub ChangedFrom : PlayingValue S K → PlayingValue S K → ℕ → ChangeStep → Type 0
  ChangedFrom old new place step = (l : ℕ) → IsSourceOf old.plan place l → (p : Play) (Y : IsChanging old p l step 0)
      → (q : Play) × (Z : IsPlaying new q) × HasActed (layout_of old.plan) p q × IsAtRest (layout_of old.plan) q
      × (Z.standing.files ≡ Y.standing.files)

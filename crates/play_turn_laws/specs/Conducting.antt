-- What a conductor knows while a play with late sources is where the model has it.
use Rattle.std.specs.Prelude.{◌≡◌, ◌≢◌, ℕ, zero, suc, ◌+◌, ◌<◌, ◌≤◌, true, false, nat_le, List, [], ◌∷◌, length, slice_get, Some}
use Rattle.il_machine.specs.declared.answer.Progress.{Progress}
use Rattle.conductor.specs.declared.phase.ChangeStep.{ChangeStep}
use Rattle.conductor.specs.declared.phase.ChangeStep.TheVariants.{Disable, Retune, Enable}
use Rattle.conductor.specs.declared.phase.LateLink.{LateLink}
use Rattle.conductor.specs.Hearing.{ConductorValue}
use Rattle.conductor.specs.Phases.{is_changed, is_disabled}
use Rattle.play_model.specs.Numbers.{settings_told, both_disables_sent, tunnel_set_up, both_enables_sent, disable_told, enable_told}
use Rattle.play_model.specs.Acts.{Act, CanAct}
use Rattle.play_model.specs.Changes.{Change}
use Rattle.play_model.specs.Play.{Play}
use Rattle.play_world_laws.specs.Cast.{Cast, components_of, giver_of, links_of, script_place, taker_of}
use Rattle.play_plan_laws.specs.Conducting.{HasSinks}
use Rattle.play_world_laws.specs.PlayWorlds.{HasHeard}

-- ---- a step, by the conductor's acts of a change

-- how far the change is when it is answered, and once it is carried out
abbrev pub step_from : ChangeStep → ℕ
step_from Disable = settings_told
step_from Retune = both_disables_sent
step_from Enable = tunnel_set_up

abbrev pub step_to : ChangeStep → ℕ
step_to Disable = both_disables_sent
step_to Retune = tunnel_set_up
step_to Enable = both_enables_sent

-- So many steps were answered, and the last of them is being carried out, or is carried out.
abbrev pub IsUnderWay : ℕ → ℕ → Type 0
IsUnderWay zero acts = acts ≤ settings_told
IsUnderWay (suc zero) acts = (settings_told ≤ acts) × (acts ≤ both_disables_sent)
IsUnderWay (suc (suc zero)) acts = (both_disables_sent ≤ acts) × (acts ≤ tunnel_set_up)
IsUnderWay (suc (suc (suc zero))) acts = (tunnel_set_up ≤ acts) × (acts ≤ both_enables_sent)
IsUnderWay _ acts = ⊥

abbrev pub IsCarriedOut : ℕ → ℕ → Type 0
IsCarriedOut zero acts = acts ≤ settings_told
IsCarriedOut (suc zero) acts = acts ≡ both_disables_sent
IsCarriedOut (suc (suc zero)) acts = acts ≡ tunnel_set_up
IsCarriedOut (suc (suc (suc zero))) acts = acts ≡ both_enables_sent
IsCarriedOut _ acts = ⊥

-- ---- what it knows of a link

-- the late source and the taker by their places; a late source has one port
pub record IsLateOf (x : Cast) (l : ℕ) (entry : LateLink) : Type 0 where
  pub below : l < links_of x
  pub late : (x.layout).is_late l ≡ true
  pub source : entry.source ≡ script_place x (giver_of x l)
  pub taker : entry.taker ≡ script_place x (taker_of x l)
  pub input : entry.input ≡ x.input_port l
  pub first : x.output_port l ≡ 0

-- what it holds for told is told
pub record IsToldBy (k : Change) (late : LateLink) : Type 0 where
  pub output_disabled : late.output_disabled ≡ true → disable_told ≤ k.output
  pub input_disabled : late.input_disabled ≡ true → disable_told ≤ k.input
  pub output_enabled : late.output_enabled ≡ true → enable_told ≤ k.output
  pub input_enabled : late.input_enabled ≡ true → enable_told ≤ k.input

-- and of all that is told it knows
pub record HasHeardOf (k : Change) (late : LateLink) : Type 0 where
  pub output_disabled : late.output_disabled ≡ nat_le disable_told k.output
  pub input_disabled : late.input_disabled ≡ nat_le disable_told k.input
  pub output_enabled : late.output_enabled ≡ nat_le enable_told k.output
  pub input_enabled : late.input_enabled ≡ nat_le enable_told k.input

-- Of the links whose changes were begun and aren't known to be done, there is this one alone.
pub record IsLateAt (x : Cast) (recent : ℕ) (p : Play) (l : ℕ) (late : LateLink) : Type 0 where
  pub of_link : IsLateOf x l late
  pub way : IsUnderWay late.steps (p.change l).step
  pub told : IsToldBy (p.change l) late
  pub disabled : 2 ≤ late.steps → is_disabled late ≡ true
  pub latest : 1 ≤ late.steps → is_changed late ≡ false → l ≡ recent

-- ---- what it knows of them all

-- one for each late source, by their order in the script
pub record AreLates (x : Cast) (recent : ℕ) (p : Play) (lates : List LateLink) : Type 0 where
  pub each : (i : ℕ) (late : LateLink) → slice_get lates i ≡ Some late → (l : ℕ) × IsLateAt x recent p l late
  pub some : (l : ℕ) → l < links_of x → (x.layout).is_late l ≡ true → (i : ℕ) × (late : LateLink) × (slice_get lates i ≡ Some late) × IsLateAt x recent p l late
  pub rising : (i j : ℕ) (a b : LateLink) → i < j → slice_get lates i ≡ Some a → slice_get lates j ≡ Some b → a.source < b.source

abbrev pub AreCarriedOut : Cast → Play → List LateLink → Type 0
AreCarriedOut x p lates = (i l : ℕ) (late : LateLink) → slice_get lates i ≡ Some late → IsLateOf x l late → IsCarriedOut late.steps (p.change l).step

-- ---- a conductor

-- before it hears what was told since
pub record IsPlayConducting (x : Cast) (recent : ℕ) (p : Play) (value : ConductorValue) : Type 0 where
  pub sinks : HasSinks x value
  pub many : length value.told ≡ components_of x
  pub lates : AreLates x recent p value.lates
  pub sends : value.sends ≡ p.phase

-- it has heard all that was told, and each step that it answered is carried out
pub record IsPlayConductor (x : Cast) (recent : ℕ) (p : Play) (value : ConductorValue) : Type 0 where
  pub conducting : IsPlayConducting x recent p value
  pub told : (c : ℕ) → c < components_of x → (h : Progress) × (slice_get value.told (script_place x c) ≡ Some h) × HasHeard x recent p c h
  pub heard : (i l : ℕ) (late : LateLink) → slice_get value.lates i ≡ Some late → IsLateOf x l late → HasHeardOf (p.change l) late
  pub carried : AreCarriedOut x p value.lates

-- Where its change isn't begun, the late source of this link is, of those that have told their settings and whose changes
-- aren't begun, the first in script order.
abbrev pub IsFirstTold : Cast → Play → ℕ → Type 0
IsFirstTold x p l = (p.change l).step ≡ settings_told → (k : ℕ) → k < links_of x → (x.layout).is_late k ≡ true → (p.change k).step ≡ settings_told
    → script_place x (giver_of x l) ≤ script_place x (giver_of x k)

-- What it is that it answers a step of a change: what the step begins with can be done.
pub record IsChangeOf (x : Cast) (p : Play) (component : ℕ) (step : ChangeStep) (next : ConductorValue) (l : ℕ) : Type 0 where
  pub can : CanAct x.layout p (Act.Conduct l)
  pub its_source : component ≡ script_place x (giver_of x l)
  pub from : (p.change l).step ≡ step_from step
  pub conducting : IsPlayConducting x l p next
  -- which it is in what it knows, and that it is under way from there on
  pub number : ℕ
  pub known : LateLink
  pub there : slice_get next.lates number ≡ Some known
  pub of_link : IsLateOf x l known
  pub way : (acts : ℕ) → step_from step ≤ acts → acts ≤ step_to step → IsUnderWay known.steps acts
  -- once that is carried out of it, and the others are as they were
  pub carried : (q : Play) → (q.change l).step ≡ step_to step → ((k : ℕ) → k ≢ l → (q.change k).step ≡ (p.change k).step) → AreCarriedOut x q next.lates

-- an act of the play that the conductor doesn't order
abbrev pub IsOwnAct : Act → Type 0
IsOwnAct Act.Begin = ⊥
IsOwnAct (Act.Conduct l) = ⊥
IsOwnAct _ = Unit {0}

-- these acts are so many of the conductor's on the link, and what happens in their close-outs
abbrev pub AreOnLink : ℕ → List Act → ℕ → Type 0
AreOnLink l [] n = n ≡ 0
AreOnLink l (Act.Conduct k ∷ acts) n = (k ≡ l) × (m : ℕ) × (n ≡ m + 1) × AreOnLink l acts m
AreOnLink l (Act.Happen c ∷ acts) n = AreOnLink l acts n
AreOnLink l (Act.HappenPort k output ∷ acts) n = AreOnLink l acts n
AreOnLink l (_ ∷ acts) n = ⊥

-- the conductor's acts of the link have gone on by so many, and those of no other
pub record HasGoneOn (l : ℕ) (p q : Play) (n : ℕ) : Type 0 where
  pub on_link : (q.change l).step ≡ (p.change l).step + n
  pub others : (k : ℕ) → k ≢ l → (q.change k).step ≡ (p.change k).step

-- What a turn of a component, or of a link, comes to in a play.
use Rattle.std.specs.Prelude.{◌≡◌, ◌≢◌, ℕ, ◌+◌, Bool, true, false, List, slice_get, Some, Result, Ok, Err}
use Rattle.il_machine.specs.declared.answer.Acted.{Acted}
use Rattle.il_machine.specs.declared.answer.Acted.TheVariants.{Did, Idle}
use Rattle.il_machine.specs.World.{World}
use Rattle.conductor.specs.declared.phase.LateLink.{LateLink}
use Rattle.play_model.specs.Numbers.{not_sent}
use Rattle.play_model.specs.Acts.{Act, CanAct, acted}
use Rattle.play_model.specs.Acts.Act.{Announce, HandBack, HandUnused, Run, RunPort, Step}
use Rattle.play_model.specs.Play.{Layout, Play, component_at}
use Rattle.play_loop.specs.Turns.{CanNone, HasActed, IsAtRest}
use Rattle.play_world_laws.specs.PlayWorlds.{IsPlayWorld, PlayCast}
use Rattle.play_world_laws.specs.Leading.{PlayLeadsTo}
use Rattle.play_world_laws.specs.Waiting.{IsWaiting}
use Rattle.play_turn_laws.specs.Conducting.{AreCarriedOut, AreLates, HasGoneOn, IsLateOf, IsOwnAct, IsUnderWay}

-- the component's command is run: the conductor's StateSet, or the disable or enable of a port
abbrev pub IsRunOf : Layout → ℕ → Act → Type 0
IsRunOf w c (Run k) = k ≡ c
IsRunOf w c (RunPort l output) = component_at w output l ≡ c
IsRunOf w c _ = ⊥

-- its part does a step, or announces that its settings changed
abbrev pub IsStepOf : Layout → ℕ → Act → Type 0
IsStepOf w c (Step k n last) = k ≡ c
IsStepOf w c (Announce l) = (w.network).giver l ≡ c
IsStepOf w c _ = ⊥

-- the end of the link that doesn't supply it hands back a header that it filled or emptied, or one that it didn't use
abbrev pub IsBackOf : ℕ → Act → Type 0
IsBackOf l (HandBack k) = k ≡ l
IsBackOf l (HandUnused k) = k ≡ l
IsBackOf l _ = ⊥

abbrev pub IsAct : Act → Act → Type 0
IsAct a b = b ≡ a

abbrev pub is_did : {E : Type 0} → Result Acted E → Bool
is_did (Ok Did) = true
is_did (Ok (Idle why)) = false
is_did (Err e) = false

-- one of those acts was accepted, which the conductor doesn't order, or none of them can be made
abbrev pub PlayCame : PlayCast → ℕ → Play → World → Bool → (Act → Type 0) → Type 0
PlayCame x recent p v true P = (a : Act) × P a × IsOwnAct a × CanAct (x.cast).layout p a × PlayLeadsTo x recent (acted (x.cast).layout a p) v
PlayCame x recent p v false P = CanNone (x.cast).layout p P

-- An accepted act with its whole close-out. What the conductor knows stays so.
pub record IsPlayTurn (x : PlayCast) (recent : ℕ) (p q : Play) (v : World) : Type 0 where
  pub acted : HasActed (x.cast).layout p q
  pub rest : IsAtRest (x.cast).layout q
  pub play : IsPlayWorld x recent q v
  pub waiting : IsWaiting (x.cast).layout q
  pub phase : q.phase ≡ p.phase
  pub sent : (c : ℕ) → p.stage c ≢ not_sent → q.stage c ≢ not_sent
  pub lates : (lates : List LateLink) → AreLates x.cast recent p lates → AreLates x.cast recent q lates
  pub carried : (lates : List LateLink) → AreCarriedOut x.cast p lates → AreCarriedOut x.cast q lates

-- An act of the conductor on a link, with its whole close-out. What it knows stays so while the step that it answered last is being
-- carried out.
pub record IsPlayChange (x : PlayCast) (l : ℕ) (p q : Play) (v : World) : Type 0 where
  pub acted : HasActed (x.cast).layout p q
  pub rest : IsAtRest (x.cast).layout q
  pub play : IsPlayWorld x l q v
  pub waiting : IsWaiting (x.cast).layout q
  pub phase : q.phase ≡ p.phase
  pub sent : (c : ℕ) → p.stage c ≢ not_sent → q.stage c ≢ not_sent
  pub on : HasGoneOn l p q 1
  pub lates : (lates : List LateLink) (i : ℕ) (late : LateLink) → AreLates x.cast l p lates → slice_get lates i ≡ Some late → IsLateOf x.cast l late → IsUnderWay late.steps ((p.change l).step + 1)
      → AreLates x.cast l q lates

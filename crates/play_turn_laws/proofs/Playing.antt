-- A play and its conductor, from turn to turn.
use Rattle.std.proofs.Common.{◌≡◌, ℕ, ◌+◌, List, slice_get, Option, Some, sym, ◌∙◌, ap, subst}
use Rattle.omx_types.specs.declared.state.State.{State}
use Rattle.il_machine.specs.declared.answer.Progress.{Progress}
use Rattle.il_machine.specs.World.{World}
use Rattle.conductor.specs.declared.phase.ChangeStep.{ChangeStep}
use Rattle.conductor.specs.declared.phase.LateLink.{LateLink}
use Rattle.conductor.specs.declared.phase.Phase.TheVariants as phases
use Rattle.conductor.specs.Hearing.{ConductorValue, heard}
use Rattle.conductor.specs.Phases.{Conducts}
use Rattle.play_model.specs.Acts.{Act, CanAct, acted}
use Rattle.play_model.specs.Acts.Act.{Begin, Send, Run, Happen, Tell, TellEnd, Supply, Release, HandOver, HandBack, HandUnused, Announce, TellSettings, Conduct, RunPort, HappenPort, TellPort, Step}
use Rattle.play_model.specs.Play.{Play}
use Rattle.play_model.specs.Reached.{IsOver}
use Rattle.play_loop.specs.Turns.{CanNone, IsSend}
use Rattle.play_world_laws.specs.Standing.{target}
use Rattle.play_plan_laws.specs.Conducting.{HasViews}
use Rattle.play_world_laws.specs.PlayWorlds.{PlayCast}
use Rattle.play_world_laws.proofs.Begins.{begins}
use Rattle.play_world_laws.proofs.Waiting.{waits_on}
use Rattle.play_turn_laws.specs.Conducting.{AreCarriedOut, AreLates, HasGoneOn, IsChangeOf, IsPlayConducting, IsPlayConductor, IsLateOf, IsUnderWay, step_from, step_to}
use Rattle.play_turn_laws.proofs.Changing.{conductor_waits}
use Rattle.play_turn_laws.proofs.Hearing.{conductor_hears}
use Rattle.play_turn_laws.proofs.Sending.{conductor_sends}
use Rattle.play_turn_laws.specs.Playing.{AreSent, IsBetweenTurns, IsPlayConducted}
use Rattle.play_turn_laws.specs.Turns.{IsPlayChange, IsPlayTurn}

-- ---- the conductor

pub playing_hears : (x : PlayCast) (recent : ℕ) (p : Play) (w : World) (value : ConductorValue) (views : List (Option Progress)) → IsBetweenTurns x recent p w value → HasViews x.cast w value views
    → IsPlayConductor x.cast recent p (heard value views) × IsBetweenTurns x recent p w (heard value views)
playing_hears x recent p w value views Y H =
    let Z = Y.standing in
    let C = conductor_hears x recent p w Z.play value views H Z.conducting Y.carried in
    (C, record { standing = record { play = Z.play; waiting = Z.waiting; conducting = C.conducting }; sent = Y.sent; carried = C.carried })

pub playing_waits : (x : PlayCast) (recent : ℕ) (p : Play) (w : World) (value next : ConductorValue) → IsBetweenTurns x recent p w value → IsPlayConductor x.cast recent p value → Conducts value phases.Wait next → CanNone (x.cast).layout p IsSend × (next ≡ value)
playing_waits x recent p w value next Y V C = (none, waits.3)
  where
    waits : (CanAct (x.cast).layout p Act.Begin → ⊥) × ((l : ℕ) → CanAct (x.cast).layout p (Act.Conduct l) → ⊥) × (IsOver (x.cast).layout p → ⊥) × (next ≡ value)
    waits = conductor_waits x recent p w (Y.standing).play value V next C

    none : CanNone (x.cast).layout p IsSend
    none Begin s A = waits.0 A
    none (Conduct l) s A = waits.1 l A
    none (Send c) s A = Y.sent c A.0 A.1
    none (Run c) s A = absurd s
    none (Happen c) s A = absurd s
    none (Tell c) s A = absurd s
    none (TellEnd c) s A = absurd s
    none (Supply l) s A = absurd s
    none (Release l) s A = absurd s
    none (HandOver l) s A = absurd s
    none (HandBack l) s A = absurd s
    none (HandUnused l) s A = absurd s
    none (Announce l) s A = absurd s
    none (TellSettings l) s A = absurd s
    none (RunPort l o) s A = absurd s
    none (HappenPort l o) s A = absurd s
    none (TellPort l o) s A = absurd s
    none (Step c n last) s A = absurd s

pub playing_begins : (x : PlayCast) (recent : ℕ) (p : Play) (w : World) (value next : ConductorValue) (state : State) → IsBetweenTurns x recent p w value → IsPlayConductor x.cast recent p value → Conducts value (phases.Send state) next
    → CanAct (x.cast).layout p Act.Begin × (state ≡ target (p.phase + 1)) × IsPlayConducted x recent (acted (x.cast).layout Act.Begin p) w next × AreCarriedOut x.cast (acted (x.cast).layout Act.Begin p) next.lates
playing_begins x recent p w value next state Y V C =
    let Z = Y.standing in
    let b = conductor_sends x recent p w Z.play value V next state C in
    let lates : next.lates ≡ value.lates = ap (λ (v : ConductorValue). v.lates) C.2 in (
      b.0,
      b.1,
      record { play = begins x recent p w Z.play b.0; waiting = waits_on (x.cast).layout p Act.Begin (Z.play).reached b.0 Z.waiting; conducting = b.2 },
      subst (AreCarriedOut x.cast (acted (x.cast).layout Act.Begin p)) (sym lates) (λ i l late e O. Y.carried i l late e O),
    )

-- ---- turns

pub still_conducting : (x : PlayCast) (recent : ℕ) (p q : Play) (value : ConductorValue) → IsPlayConducting x.cast recent p value → q.phase ≡ p.phase → AreLates x.cast recent q value.lates → IsPlayConducting x.cast recent q value
still_conducting x recent p q value D e L = record { sinks = D.sinks; many = D.many; lates = L; sends = D.sends ∙ sym e }

pub turn_stands : (x : PlayCast) (recent : ℕ) (p q : Play) (w v : World) (value : ConductorValue) → IsPlayConducted x recent p w value → IsPlayTurn x recent p q v → IsPlayConducted x recent q v value
turn_stands x recent p q w v value Z T = record { play = T.play; waiting = T.waiting; conducting = still_conducting x recent p q value Z.conducting T.phase (T.lates value.lates (Z.conducting).lates) }

pub turn_plays : (x : PlayCast) (recent : ℕ) (p q : Play) (w v : World) (value : ConductorValue) → IsBetweenTurns x recent p w value → IsPlayTurn x recent p q v → IsBetweenTurns x recent q v value
turn_plays x recent p q w v value Y T = record { standing = turn_stands x recent p q w v value Y.standing T; sent = λ c b. T.sent c (Y.sent c b); carried = T.carried value.lates Y.carried }

pub change_stands : (x : PlayCast) (p q : Play) (l i : ℕ) (late : LateLink) (v : World) (value : ConductorValue) → IsPlayConducting x.cast l p value → IsPlayChange x l p q v → slice_get value.lates i ≡ Some late → IsLateOf x.cast l late
    → IsUnderWay late.steps ((p.change l).step + 1) → IsPlayConducted x l q v value
change_stands x p q l i late v value D T e O more = record { play = T.play; waiting = T.waiting; conducting = still_conducting x l p q value D T.phase (T.lates value.lates i late D.lates e O more) }

pub change_plays : (x : PlayCast) (p q : Play) (l component n : ℕ) (step : ChangeStep) (v : World) (value : ConductorValue) → IsChangeOf x.cast p component step value l → HasGoneOn l p q n → step_from step + n ≡ step_to step
    → IsPlayConducted x l q v value → AreSent (x.cast).layout q → IsBetweenTurns x l q v value
change_plays x p q l component n step v value C G e Z S = record {
  standing = Z;
  sent = S;
  carried = C.carried q (G.on_link ∙ (ap (λ (k : ℕ). k + n) C.from ∙ e)) G.others;
}

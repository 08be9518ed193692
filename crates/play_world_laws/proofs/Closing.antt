-- The close-out of a world of a play: so many happenings of the model.
use Rattle.std.proofs.Common.{◌≡◌, ℕ, zero, suc, List, [], ◌∷◌, ◌++◌, refl, sym, subst, arith}
use Rattle.il_machine.specs.Due.{ClosesTo, HappenTimes, IsClosed}
use Rattle.il_machine.specs.World.{World}
use Rattle.play_loop.specs.Turns.{HasActed, IsAtRest}
use Rattle.play_model.specs.Acts.{Act, CanAct, CanActs, acted, all_acted}
use Rattle.play_model.specs.Acts.Act.{Happen, HappenPort}
use Rattle.play_model.specs.Play.{Layout, Play}
use Rattle.play_model.specs.Reached.{IsReached}
use Rattle.play_world_laws.specs.PlayWorlds.{IsPlayWorld, PlayCast}
use Rattle.play_world_laws.specs.Leading.{PlayLeadsTo}
use Rattle.play_world_laws.specs.Happenings.{AreHappenings, IsHappening, PlayHappensTo}
use Rattle.play_world_laws.specs.Waiting.{IsWaiting}
use Rattle.play_world_laws.proofs.StageHappening.{none_due, one_happens}
use Rattle.play_world_laws.proofs.Waiting.{waits_on}

can_push : (w : Layout) (p : Play) (acts : List Act) (a : Act) → CanActs w p acts → CanAct w (all_acted w acts p) a → CanActs w p (acts ++ a ∷ [])
can_push w p [] a C D = (D, tt)
can_push w p (b ∷ acts) a C D = (C.0, can_push w (acted w b p) acts a C.1 D)

all_push : (w : Layout) (p : Play) (acts : List Act) (a : Act) → all_acted w (acts ++ a ∷ []) p ≡ acted w a (all_acted w acts p)
all_push w p [] a = refl
all_push w p (b ∷ acts) a = all_push w (acted w b p) acts a

happen_push : (acts : List Act) (a : Act) → AreHappenings acts → IsHappening a → AreHappenings (acts ++ a ∷ [])
happen_push [] a H h = (h, tt)
happen_push (b ∷ acts) a H h = (H.0, happen_push acts a H.1 h)

times_lead : (x : PlayCast) (recent : ℕ) (p : Play) (n : ℕ) (w v : World) → IsPlayWorld x recent p w → IsWaiting (x.cast).layout p → HappenTimes n w v → PlayHappensTo x recent p v
times_lead x recent p zero w v W V h = record { acts = []; happen = tt; can = tt; play = subst (λ (y : World). IsPlayWorld x recent p y) (sym h) W; waiting = V }
times_lead x recent p (suc n) w v W V h =
    let w1 : Layout = (x.cast).layout in
    let mid : World = h.0 in
    let B : PlayHappensTo x recent p mid = times_lead x recent p n w mid W V h.1 in
    let q : Play = all_acted w1 B.acts p in
    let L = one_happens x recent q mid v B.play B.waiting h.2 in
    let a : Act = L.0 in
    let push = all_push w1 p B.acts a in
    record {
      acts = B.acts ++ a ∷ [];
      happen = happen_push B.acts a B.happen L.1;
      can = can_push w1 p B.acts a B.can L.2;
      play = subst (λ (y : Play). IsPlayWorld x recent y v) (sym push) L.3;
      waiting = subst (λ (y : Play). IsWaiting w1 y) (sym push) (waits_on w1 q a (B.play).reached L.2 B.waiting);
    }

pub closes_lead : (x : PlayCast) (recent : ℕ) (p : Play) (w v : World) → IsPlayWorld x recent p w → IsWaiting (x.cast).layout p → ClosesTo w v → PlayHappensTo x recent p v
closes_lead x recent p w v W V C = times_lead x recent p C.steps w v W V C.by_steps

-- ---- an act with its close-out

pub act_closes : (x : PlayCast) (recent : ℕ) (p : Play) (a : Act) (v : World) → IsReached (x.cast).layout p → IsWaiting (x.cast).layout p → CanAct (x.cast).layout p a → PlayLeadsTo x recent (acted (x.cast).layout a p) v
    → (q : Play) × HasActed (x.cast).layout p q × IsAtRest (x.cast).layout q × IsWaiting (x.cast).layout q × IsPlayWorld x recent q v
act_closes x recent p a v R V C L =
    let w1 : Layout = (x.cast).layout in
    let H = closes_lead x recent (acted w1 a p) L.effect v L.play (waits_on w1 p a R C V) L.closes in
    let q : Play = all_acted w1 H.acts (acted w1 a p) in
    (q, record { acts = a ∷ H.acts; some = omega arith; enabled = (C, H.can); after = refl }, none_due x recent q v H.play (L.closes).closed, H.waiting, H.play)

none_happens : (x : PlayCast) (recent : ℕ) (p : Play) (w v : World) (acts : List Act) → IsAtRest (x.cast).layout p → AreHappenings acts → CanActs (x.cast).layout p acts → IsPlayWorld x recent (all_acted (x.cast).layout acts p) v → IsPlayWorld x recent p v
none_happens x recent p w v [] R H C P = P
none_happens x recent p w v (a ∷ acts) R H C P = absurd (no_act a H.0 C.0)
  where
    no_act : (a : Act) → IsHappening a → CanAct (x.cast).layout p a → ⊥
    no_act (Happen c) h C = R.components c C
    no_act (HappenPort l o) h C = R.ports l o C
    no_act Act.Begin h C = h
    no_act (Act.Send c) h C = h
    no_act (Act.Run c) h C = h
    no_act (Act.Tell c) h C = h
    no_act (Act.TellEnd c) h C = h
    no_act (Act.Supply l) h C = h
    no_act (Act.Release l) h C = h
    no_act (Act.HandOver l) h C = h
    no_act (Act.HandBack l) h C = h
    no_act (Act.HandUnused l) h C = h
    no_act (Act.Announce l) h C = h
    no_act (Act.TellSettings l) h C = h
    no_act (Act.Conduct l) h C = h
    no_act (Act.RunPort l o) h C = h
    no_act (Act.TellPort l o) h C = h
    no_act (Act.Step c n last) h C = h

pub idle_closes : (x : PlayCast) (recent : ℕ) (p : Play) (w v : World) → IsPlayWorld x recent p w → IsWaiting (x.cast).layout p → IsClosed w → PlayLeadsTo x recent p v → IsPlayWorld x recent p v × IsClosed v
idle_closes x recent p w v W V Z L =
    let H = closes_lead x recent p L.effect v L.play V L.closes in
    (none_happens x recent p w v H.acts (none_due x recent p w W Z) H.happen H.can H.play, (L.closes).closed)

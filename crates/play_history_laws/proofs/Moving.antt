-- An act with its close-out leads from a world of a play to one in which nothing is due.
use Rattle.std.proofs.Common.{◌≡◌, ℕ, sym, subst}
use Rattle.il_machine.specs.Due.{ClosesTo, IsClosed}
use Rattle.il_machine.specs.World.{World}
use Rattle.machine_laws.proofs.Closing.{closed_closes}
use Rattle.play_model.specs.Acts.{Act, CanAct, acted, all_acted}
use Rattle.play_model.specs.Play.{Layout, Play}
use Rattle.play_world_laws.specs.PlayWorlds.{IsPlayWorld, PlayCast}
use Rattle.play_world_laws.specs.Leading.{PlayLeadsTo}
use Rattle.play_world_laws.specs.Waiting.{IsWaiting}
use Rattle.play_world_laws.proofs.Closing.{closes_lead, idle_closes}
use Rattle.play_world_laws.proofs.Waiting.{waits_on}
use Rattle.play_history_laws.specs.Following.{IsLater}
use Rattle.play_history_laws.proofs.Keeping.{IsWorkers, KeepsAsked, keeps_happening, keeps_itself, keeps_own, keeps_through}
use Rattle.play_history_laws.proofs.Onward.{later_happening, later_itself, later_own, later_through}

-- what was asked stays, and what was told
pub record IsMoved (x : PlayCast) (recent : ℕ) (p q : Play) (v : World) : Type 0 where
  pub keeps : KeepsAsked p q
  pub later : IsLater p q
  pub play : IsPlayWorld x recent q v
  pub waiting : IsWaiting (x.cast).layout q
  pub closed : IsClosed v

-- from the play once the act is made
pub closes : (x : PlayCast) (recent : ℕ) (p : Play) (v : World) → IsWaiting (x.cast).layout p → PlayLeadsTo x recent p v → (q : Play) × IsMoved x recent p q v
closes x recent p v N L =
    let net : Layout = (x.cast).layout in
    let H = closes_lead x recent p L.effect v L.play N L.closes in (
      all_acted net H.acts p,
      record { keeps = keeps_happening net p H.acts H.can H.happen; later = later_happening net p H.acts H.can H.happen; play = H.play; waiting = H.waiting; closed = (L.closes).closed },
    )

-- an act that nobody asks for
pub moves : (x : PlayCast) (recent : ℕ) (p : Play) (a : Act) (w v : World) → IsPlayWorld x recent p w → IsWaiting (x.cast).layout p → IsWorkers a → CanAct (x.cast).layout p a → PlayLeadsTo x recent (acted (x.cast).layout a p) v
    → (q : Play) × IsMoved x recent p q v
moves x recent p a w v W N O C L =
    let net : Layout = (x.cast).layout in
    let m : Play = acted net a p in
    let T = closes x recent m v (waits_on net p a W.reached C N) L in
    let M = T.1 in (
      T.0,
      record {
        keeps = keeps_through p m T.0 (keeps_own net p a O C) M.keeps;
        later = later_through p m T.0 (later_own net p a O C) M.later;
        play = M.play;
        waiting = M.waiting;
        closed = M.closed;
      },
    )

-- one that is nothing for the play
pub idles : (x : PlayCast) (recent : ℕ) (p : Play) (w v : World) → IsPlayWorld x recent p w → IsWaiting (x.cast).layout p → IsClosed w → PlayLeadsTo x recent p v → IsMoved x recent p p v
idles x recent p w v W N Z L = let I = idle_closes x recent p w v W N Z L in record { keeps = keeps_itself p; later = later_itself p; play = I.0; waiting = N; closed = I.1 }

-- one that leaves the world as it was
pub stays : (x : PlayCast) (recent : ℕ) (p : Play) (w v : World) → IsPlayWorld x recent p w → IsWaiting (x.cast).layout p → IsClosed w → v ≡ w → IsMoved x recent p p v
stays x recent p w v W N Z e = record {
  keeps = keeps_itself p;
  later = later_itself p;
  play = subst (λ (y : World). IsPlayWorld x recent p y) (sym e) W;
  waiting = N;
  closed = subst IsClosed (sym e) Z;
}

pub looks : (x : PlayCast) (recent : ℕ) (p : Play) (w v : World) → IsPlayWorld x recent p w → IsWaiting (x.cast).layout p → IsClosed w → ClosesTo w v → IsMoved x recent p p v
looks x recent p w v W N Z C = stays x recent p w v W N Z (closed_closes w v Z C)

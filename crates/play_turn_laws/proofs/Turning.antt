-- An accepted act with its close-out: what it leaves as it was.
use Rattle.std.proofs.Common.{◌≡◌, ◌≢◌, ℕ, ◌≤◌, nat_eq, if◌then◌else◌, List, [], ◌∷◌, refl, ◌∙◌, arith}
use Rattle.il_machine.specs.World.{World}
use Rattle.machine_laws.proofs.Finding.{either}
use Rattle.conductor.specs.declared.phase.LateLink.{LateLink}
use Rattle.play_model.specs.Acts.{Act, CanAct, CanActs, acted, all_acted}
use Rattle.play_model.specs.Acts.Act.{Begin, Send, Run, Happen, Tell, TellEnd, Supply, Release, HandOver, HandBack, HandUnused, Announce, TellSettings, Conduct, RunPort, HappenPort, TellPort, Step}
use Rattle.play_model.specs.Play.{Layout, Play}
use Rattle.play_world_laws.specs.Cast.{Cast}
use Rattle.play_world_laws.specs.PlayWorlds.{IsPlayWorld, PlayCast}
use Rattle.play_world_laws.specs.Leading.{PlayLeadsTo}
use Rattle.play_world_laws.specs.Happenings.{AreHappenings, IsHappening}
use Rattle.play_world_laws.specs.Waiting.{IsWaiting}
use Rattle.play_world_laws.proofs.Closing.{closes_lead}
use Rattle.play_world_laws.proofs.StageHappening.{none_due}
use Rattle.play_world_laws.proofs.Waiting.{waits_on}
use Rattle.play_turn_laws.specs.Conducting.{AreCarriedOut, AreLates, AreOnLink, IsOwnAct}
use Rattle.play_turn_laws.proofs.Keeping.{acts_gone, acts_keep, carried_kept, lates_kept}
use Rattle.play_turn_laws.specs.Turns.{IsPlayChange, IsPlayTurn}

-- ---- one act

phase_own : (w : Layout) (p : Play) (a : Act) → IsOwnAct a → (acted w a p).phase ≡ p.phase
phase_own w p Begin O = absurd O
phase_own w p (Conduct l) O = absurd O
phase_own w p (Send c) O = refl
phase_own w p (Run c) O = refl
phase_own w p (Happen c) O = refl
phase_own w p (Tell c) O = refl
phase_own w p (TellEnd c) O = refl
phase_own w p (Supply l) O = refl
phase_own w p (Release l) O = refl
phase_own w p (HandOver l) O = refl
phase_own w p (HandBack l) O = refl
phase_own w p (HandUnused l) O = refl
phase_own w p (Announce l) O = refl
phase_own w p (TellSettings l) O = refl
phase_own w p (RunPort l o) O = refl
phase_own w p (HappenPort l o) O = refl
phase_own w p (TellPort l o) O = refl
phase_own w p (Step c n last) O = refl

-- a stage that an act sets isn't 0
stays_sent : (c d k m : ℕ) → 1 ≤ k → m ≢ 0 → (if nat_eq c d then k else m) ≢ 0
stays_sent c d k m a b = either (nat_eq c d) (λ t. rw t (λ e. absurd (omega arith))) (λ f. rw f b)

sent_own : (w : Layout) (p : Play) (a : Act) → IsOwnAct a → (c : ℕ) → p.stage c ≢ 0 → (acted w a p).stage c ≢ 0
sent_own w p Begin O c n = absurd O
sent_own w p (Conduct l) O c n = n
sent_own w p (Send d) O c n = stays_sent c d 1 (p.stage c) (omega arith) n
sent_own w p (Run d) O c n = stays_sent c d 2 (p.stage c) (omega arith) n
sent_own w p (Happen d) O c n = stays_sent c d 3 (p.stage c) (omega arith) n
sent_own w p (Tell d) O c n = stays_sent c d 4 (p.stage c) (omega arith) n
sent_own w p (TellEnd d) O c n = n
sent_own w p (Supply l) O c n = n
sent_own w p (Release l) O c n = n
sent_own w p (HandOver l) O c n = n
sent_own w p (HandBack l) O c n = n
sent_own w p (HandUnused l) O c n = n
sent_own w p (Announce l) O c n = n
sent_own w p (TellSettings l) O c n = n
sent_own w p (RunPort l o) O c n = n
sent_own w p (HappenPort l o) O c n = n
sent_own w p (TellPort l o) O c n = n
sent_own w p (Step d k last) O c n = n

own_happening : (a : Act) → IsHappening a → IsOwnAct a
own_happening (Happen c) h = tt
own_happening (HappenPort l o) h = tt
own_happening Begin h = absurd h
own_happening (Send c) h = absurd h
own_happening (Run c) h = absurd h
own_happening (Tell c) h = absurd h
own_happening (TellEnd c) h = absurd h
own_happening (Supply l) h = absurd h
own_happening (Release l) h = absurd h
own_happening (HandOver l) h = absurd h
own_happening (HandBack l) h = absurd h
own_happening (HandUnused l) h = absurd h
own_happening (Announce l) h = absurd h
own_happening (TellSettings l) h = absurd h
own_happening (Conduct l) h = absurd h
own_happening (RunPort l o) h = absurd h
own_happening (TellPort l o) h = absurd h
own_happening (Step c n last) h = absurd h

-- ---- what stays over acts of the play

record AreKept (x : Cast) (recent : ℕ) (p q : Play) : Type 0 where
  phase : q.phase ≡ p.phase
  sent : (c : ℕ) → p.stage c ≢ 0 → q.stage c ≢ 0
  lates : (lates : List LateLink) → AreLates x recent p lates → AreLates x recent q lates
  carried : (lates : List LateLink) → AreCarriedOut x p lates → AreCarriedOut x q lates

kept_by : (x : Cast) (recent : ℕ) (p : Play) (a : Act) → CanAct x.layout p a → IsOwnAct a → AreKept x recent p (acted x.layout a p)
kept_by x recent p a C O = record {
  phase = phase_own x.layout p a O;
  sent = sent_own x.layout p a O;
  lates = λ ls L. lates_kept x recent p a ls C O L;
  carried = λ ls D. carried_kept x p a ls C O D;
}

kept_through : (x : Cast) (recent : ℕ) (p m q : Play) → AreKept x recent p m → AreKept x recent m q → AreKept x recent p q
kept_through x recent p m q A B = record {
  phase = B.phase ∙ A.phase;
  sent = λ c n. B.sent c (A.sent c n);
  lates = λ ls L. B.lates ls (A.lates ls L);
  carried = λ ls D. B.carried ls (A.carried ls D);
}

kept_happening : (x : Cast) (recent : ℕ) (p : Play) (acts : List Act) → CanActs x.layout p acts → AreHappenings acts → AreKept x recent p (all_acted x.layout acts p)
kept_happening x recent p [] C H = record { phase = refl; sent = λ c n. n; lates = λ ls L. L; carried = λ ls D. D }
kept_happening x recent p (a ∷ acts) C H = kept_through x recent p (acted x.layout a p) (all_acted x.layout acts (acted x.layout a p)) (kept_by x recent p a C.0 (own_happening a H.0)) (kept_happening x recent (acted x.layout a p) acts C.1 H.1)

-- ---- a turn

pub turn_goes : (x : PlayCast) (recent : ℕ) (p : Play) (a : Act) (w v : World) → IsPlayWorld x recent p w → IsWaiting (x.cast).layout p → IsOwnAct a → CanAct (x.cast).layout p a → PlayLeadsTo x recent (acted (x.cast).layout a p) v
    → (q : Play) × IsPlayTurn x recent p q v
turn_goes x recent p a w v W N O C L =
    let net = (x.cast).layout in
    let H = closes_lead x recent (acted net a p) L.effect v L.play (waits_on net p a W.reached C N) L.closes in
    let q : Play = all_acted net H.acts (acted net a p) in
    let K = kept_through x.cast recent p (acted net a p) q (kept_by x.cast recent p a C O) (kept_happening x.cast recent (acted net a p) H.acts H.can H.happen) in (
      q,
      record {
        acted = record { acts = a ∷ H.acts; some = omega arith; enabled = (C, H.can); after = refl };
        rest = none_due x recent q v H.play (L.closes).closed;
        play = H.play;
        waiting = H.waiting;
        phase = K.phase;
        sent = K.sent;
        lates = K.lates;
        carried = K.carried;
      },
    )

-- ---- an act of the conductor on a link

happening_on : (l : ℕ) (acts : List Act) → AreHappenings acts → AreOnLink l acts 0
happening_on l [] H = refl
happening_on l (Happen c ∷ acts) H = happening_on l acts H.1
happening_on l (HappenPort k o ∷ acts) H = happening_on l acts H.1
happening_on l (Begin ∷ acts) H = absurd H.0
happening_on l (Send c ∷ acts) H = absurd H.0
happening_on l (Run c ∷ acts) H = absurd H.0
happening_on l (Tell c ∷ acts) H = absurd H.0
happening_on l (TellEnd c ∷ acts) H = absurd H.0
happening_on l (Supply k ∷ acts) H = absurd H.0
happening_on l (Release k ∷ acts) H = absurd H.0
happening_on l (HandOver k ∷ acts) H = absurd H.0
happening_on l (HandBack k ∷ acts) H = absurd H.0
happening_on l (HandUnused k ∷ acts) H = absurd H.0
happening_on l (Announce k ∷ acts) H = absurd H.0
happening_on l (TellSettings k ∷ acts) H = absurd H.0
happening_on l (Conduct k ∷ acts) H = absurd H.0
happening_on l (RunPort k o ∷ acts) H = absurd H.0
happening_on l (TellPort k o ∷ acts) H = absurd H.0
happening_on l (Step c n last ∷ acts) H = absurd H.0

pub change_goes : (x : PlayCast) (recent : ℕ) (p : Play) (l : ℕ) (w v : World) → IsPlayWorld x recent p w → IsWaiting (x.cast).layout p → CanAct (x.cast).layout p (Act.Conduct l) → PlayLeadsTo x l (acted (x.cast).layout (Act.Conduct l) p) v
    → (q : Play) × IsPlayChange x l p q v
change_goes x recent p l w v W N C L =
    let net = (x.cast).layout in
    let m : Play = acted net (Act.Conduct l) p in
    let H = closes_lead x l m L.effect v L.play (waits_on net p (Act.Conduct l) W.reached C N) L.closes in
    let q : Play = all_acted net H.acts m in
    let K = kept_happening x.cast l m H.acts H.can H.happen in
    let mine : AreOnLink l (Act.Conduct l ∷ H.acts) 1 = (refl, 0, refl, happening_on l H.acts H.happen) in (
      q,
      record {
        acted = record { acts = Act.Conduct l ∷ H.acts; some = omega arith; enabled = (C, H.can); after = refl };
        rest = none_due x l q v H.play (L.closes).closed;
        play = H.play;
        waiting = H.waiting;
        phase = K.phase;
        sent = K.sent;
        on = acts_gone net p l 1 (Act.Conduct l ∷ H.acts) mine;
        lates = λ ls i late A e O more. acts_keep x.cast p l i 1 late ls (Act.Conduct l ∷ H.acts) (C, H.can) mine A e O more;
      },
    )

-- Acts that move headers, and steps, lead from a reached play to a reached one.
use Rattle.std.proofs.Common.{◌≡◌, ◌≢◌, ◌⊎◌, inl, inr, ℕ, suc, ◌+◌, ◌<◌, ◌≤◌, Bool, true, false, not, nat_eq, List, [], ◌∷◌, ◌++◌, length, refl, sym, ◌∙◌, ap, subst, length-append, eqb-true, ne_eqb, arith}
use Rattle.std.proofs.lemmas.Bool.{eqb-false}
use Rattle.play_model.specs.Network.{Network, Filled, LinkState, Flow, headers_of, queue}
use Rattle.play_model.specs.Moves.{IsFront, Move, Can, moved, with_link, sent_on, sent_back, took, took_front}
use Rattle.play_model.specs.Progress.{IsLinkOf}
use Rattle.play_model.proofs.Queues.{either, both}
use Rattle.play_model.proofs.Keeps.{Same, same_at, same_keeps, on_same, move_keeps, ended_other, took_closed, took_going}
use Rattle.play_model.proofs.Full.{move_headers, opening_sound}
use Rattle.play_model.specs.Changes.{IsDisabling, HasAllHeaders, IsEmptied}
use Rattle.play_model.specs.Play.{Layout, Play, supplier, other_component, IsExecuting, IsRunning, IsSettled, HasDone, HasUnused}
use Rattle.play_model.specs.Acts.{Act, CanAct, CanActs, back_held, given_unused, hand, other_port, acted, all_acted}
use Rattle.play_model.specs.Reached.{IsChanging, IsReached, IsBegun}
use Rattle.play_model.proofs.LinkEnds.{end_is}
use Rattle.play_model.proofs.ChangesKept.{later_changing, flow_changing}
use Rattle.play_model.proofs.Changing.{announce_keeps, tell_settings_keeps, conduct_keeps, run_port_keeps, happen_port_keeps, tell_port_keeps}
use Rattle.play_model.proofs.Reaching.{nil_parts, disabling_quiet, at_case, send_keeps, run_keeps, tell_keeps, happen_keeps, begins_keep, tell_end_keeps, supply_keeps, release_keeps}

-- ---- what a hand over or back is

pub hand_can : (net : Network) (s : Flow) (out : Bool) (l : ℕ) → l < net.links → HasDone out (s.link l) → Can net s (hand out l)
hand_can net s true l b D = (b, D)
hand_can net s false l b D = (b, D)

pub hand_ended : (net : Network) (s : Flow) (out : Bool) (l c : ℕ) → (moved net (hand out l) s).ended c ≡ s.ended c
hand_ended net s true l c = refl
hand_ended net s false l c = refl

hand_case : (P : ℕ → LinkState → Type 0) (net : Network) (s : Flow) (out : Bool) (l k : ℕ) → (k ≡ l → ⊥) ⊎ ((x : LinkState) → P l x) → (k ≢ l → P k (s.link k)) → P k ((moved net (hand out l) s).link k)
hand_case P net s true l k same apart = at_case P l (λ x. sent_on x.sent x) s k (λ e. elim same [ inl n ↦ absurd (n e) | inr h ↦ h (sent_on (s.link l).sent (s.link l)) ]) apart
hand_case P net s false l k same apart = at_case P l sent_back s k (λ e. elim same [ inl n ↦ absurd (n e) | inr h ↦ h (sent_back (s.link l)) ]) apart

-- a header that the other end has done isn't at home
done_away : (out : Bool) (x : LinkState) → HasDone (not out) x → IsSettled out x → ⊥
done_away true x D S = let a = S.1 in omega arith
done_away false x D S = none (x.sent) D S.1
  where
    none : (q : List Filled) → IsFront (λ h. Unit {0}) q → q ≡ [] → ⊥
    none [] F e = F
    none (h ∷ q) F e = let z : suc (length q) ≡ 0 = ap length e in omega arith

unused_away : (out : Bool) (x : LinkState) → HasUnused out x → IsSettled out x → ⊥
unused_away true x D S = none x.held D.1 S.0
  where
    none : (q : List Filled) → IsFront (λ h. Unit {0}) q → q ≡ [] → ⊥
    none [] F e = F
    none (h ∷ q) F e = let z : suc (length q) ≡ 0 = ap length e in omega arith
unused_away false x D S = let a = S.0 in let b = D.1 in omega arith

hand_same : (net : Network) (s : Flow) (out : Bool) (l k : ℕ) → Same (s.link k) ((moved net (hand out l) s).link k)
hand_same net s true l k = same_at l (λ x. sent_on x.sent x) s (on_same (s.link l) (s.link l).sent refl) k
hand_same net s false l k = same_at l sent_back s (record { taken = refl; closed = refl; filled = refl }) k

-- ---- a hand over or back in the phases two and three, where no component that is settled touches the link
hand_keeps : (w : Layout) (p : Play) (out : Bool) (l : ℕ) → IsReached w p → 2 ≤ p.phase → p.phase ≤ 3 → l < (w.network).links → HasDone out ((p.flow).link l) →
    (p.phase ≡ 3 → (c : ℕ) → c < (w.network).components → 3 ≤ p.stage c → IsLinkOf w.network c l → ⊥) → IsReached w (record p { flow = moved w.network (hand out l) p.flow })
hand_keeps w p out l R low high b D away =
    let s : Flow = p.flow in
    let C : Can w.network s (hand out l) = hand_can w.network s out l b D in
    record {
      layout = R.layout;
      phase = R.phase;
      stage = R.stage;
      told = λ c d h. hand_ended w.network s out l c ∙ R.told c d h;
      few = λ k d. let f = R.few k d in omega (arith, move_headers w.network s (hand out l) C k d);
      first = R.first;
      up = λ q. absurd (omega arith);
      full = λ x y k d W. move_headers w.network s (hand out l) C k d ∙ R.full x y k d W;
      opening = λ q. absurd (omega arith);
      sound = λ q. move_keeps w.network s (hand out l) (R.layout).network (R.sound q) C;
      ended = λ q c d. hand_ended w.network s out l c ∙ R.ended q c d;
      settled = λ q c d h k I. hand_case (λ j x. IsSettled (w.by_output j) x) w.network s out l k
          (inl (λ e. away q c d h (subst (λ (j : ℕ). IsLinkOf w.network c j) e I)))
          (λ _. R.settled q c d h k I);
      home = λ q. absurd (omega arith);
      unmade = λ q. absurd (omega arith);
      leaving = λ q. absurd (omega arith);
      changes = λ k d. flow_changing w p (moved w.network (hand out l) s) k (p.change k)
          (λ e. move_headers w.network s (hand out l) C k d ∙ (R.changes k d).emptied e)
          (λ y e. let Q = (R.changes k d).quiet y e in ((hand_same w.network s out l k).filled ∙ Q.0, hand_ended w.network s out l ((w.network).giver k) ∙ Q.1))
          (R.changes k d);
    }

running_phase : (p : Play) (c : ℕ) → IsRunning p c → (2 ≤ p.phase) × (p.phase ≤ 3)
running_phase p c (inl a) = let e = a.0 in (omega arith, omega arith)
running_phase p c (inr a) = let e = a.0 in (omega arith, omega arith)

executing_phase : (p : Play) (c : ℕ) → IsExecuting p c → (2 ≤ p.phase) × (p.phase ≤ 3)
executing_phase p c (inl a) = let e = a.0 in (omega arith, omega arith)
executing_phase p c (inr a) = let e = a.0 in (omega arith, omega arith)

pub running_three : (p : Play) (c : ℕ) → IsRunning p c → p.phase ≡ 3 → p.stage c ≤ 1
running_three p c (inl a) e = absurd (let d = a.0 in omega arith)
running_three p c (inr a) e = a.1

over_keeps : (w : Layout) (p : Play) (l : ℕ) → IsReached w p → CanAct w p (Act.HandOver l) → IsReached w (acted w (Act.HandOver l) p)
over_keeps w p l R C =
    let x = running_phase p (supplier w l) C.1 in
    hand_keeps w p (w.by_output l) l R x.0 x.1 C.0 C.3 (λ q c b h I. elim (end_is w c l I) [
      | inl e ↦ let z = running_three p (supplier w l) C.1 q in let y : p.stage c ≡ p.stage (supplier w l) = ap p.stage e in omega arith
      | inr e ↦ let z = running_three p (other_component w l) C.2 q in let y : p.stage c ≡ p.stage (other_component w l) = ap p.stage e in omega arith
    ])

back_keeps : (w : Layout) (p : Play) (l : ℕ) → IsReached w p → CanAct w p (Act.HandBack l) → IsReached w (acted w (Act.HandBack l) p)
back_keeps w p l R C =
    let x = executing_phase p (other_component w l) C.1 in
    hand_keeps w p (not (w.by_output l)) l R x.0 x.1 C.0 C.2 (λ q c b h I. done_away (w.by_output l) ((p.flow).link l) C.2 (R.settled q c b h l I))

-- ---- an unused header comes back

back_held_headers : (q : List Filled) (x : LinkState) → x.held ≡ q → IsFront (λ h. Unit {0}) q → headers_of (back_held q x) ≡ headers_of x
back_held_headers [] x e F = absurd F
back_held_headers (h ∷ q) x e F =
    let u : length (q ++ x.sent) ≡ length q + length x.sent = length-append q x.sent in
    let v : length (queue x) ≡ length x.held + length x.sent = length-append x.held x.sent in
    let z : length x.held ≡ suc (length q) = ap length e in
    omega arith

pub unused_headers : (out : Bool) (x : LinkState) → HasUnused out x → headers_of (given_unused out x) ≡ headers_of x
unused_headers true x U = back_held_headers x.held x refl U.1
unused_headers false x U = let p = U.1 in omega arith

unused_down : (w : Layout) (p : Play) (l : ℕ) → IsReached w p → l < (w.network).links → p.phase ≡ 3 → HasUnused (w.by_output l) ((p.flow).link l) → IsReached w (acted w (Act.HandUnused l) p)
unused_down w p l R below e unused =
    let out : Bool = w.by_output l in
    let s : Flow = p.flow in
    let same : headers_of (given_unused out (s.link l)) ≡ headers_of (s.link l) = unused_headers out (s.link l) unused in
    record {
      layout = R.layout;
      phase = R.phase;
      stage = R.stage;
      told = R.told;
      few = λ k b. at_case (λ j x. headers_of x ≤ (w.network).count j) l (given_unused out) s k (λ _. let f = R.few l below in omega arith) (λ _. R.few k b);
      first = R.first;
      up = λ q. absurd (omega arith);
      full = λ x y k b W. at_case (λ j z. headers_of z ≡ (w.network).count j) l (given_unused out) s k (λ d. same ∙ R.full x y l below (subst (λ (j : ℕ). HasAllHeaders (p.change j)) d W)) (λ _. R.full x y k b W);
      opening = λ q. absurd (omega arith);
      sound = λ q. absurd (omega arith);
      ended = R.ended;
      settled = λ q c b h k I. at_case (λ j x. IsSettled (w.by_output j) x) l (given_unused out) s k
          (λ d. absurd (unused_away out (s.link l) unused (R.settled q c b h l (subst (λ (j : ℕ). IsLinkOf w.network c j) d I))))
          (λ _. R.settled q c b h k I);
      home = λ q. absurd (omega arith);
      unmade = λ q. absurd (omega arith);
      leaving = λ q. absurd (omega arith);
      changes = λ k b. later_changing w p (record p { flow = with_link l (given_unused out) s }) k (p.change k) (R.changes k b) (omega arith) (omega arith);
    }

-- where nothing is on its way in a link, the header that comes back was at its output
back_held_same : (q : List Filled) (x : LinkState) → q ≡ [] → Same x (back_held q x)
back_held_same [] x e = record { taken = refl; closed = refl; filled = refl }
back_held_same (h ∷ q) x e = absurd (let z : suc (length q) ≡ 0 = ap length e in omega arith)

unused_same : (out : Bool) (x : LinkState) → queue x ≡ [] → Same x (given_unused out x)
unused_same true x e = back_held_same x.held x (nil_parts x.held x.sent e).0
unused_same false x e = record { taken = refl; closed = refl; filled = refl }

pub unused_change_same : (w : Layout) (p : Play) (l : ℕ) → IsReached w p → l < (w.network).links → IsDisabling (other_port w p l) → (k : ℕ) →
    Same ((p.flow).link k) ((with_link l (given_unused (w.by_output l)) p.flow).link k)
unused_change_same w p l R below e k = same_at l (given_unused (w.by_output l)) p.flow (unused_same (w.by_output l) ((p.flow).link l) (disabling_quiet w p (not (w.by_output l)) l R below e).2) k

unused_change : (w : Layout) (p : Play) (l : ℕ) → IsReached w p → l < (w.network).links → IsDisabling (other_port w p l) → HasUnused (w.by_output l) ((p.flow).link l) → IsReached w (acted w (Act.HandUnused l) p)
unused_change w p l R below e unused =
    let two : p.phase ≡ 2 = (disabling_quiet w p (not (w.by_output l)) l R below e).0 in
    let out : Bool = w.by_output l in
    let s : Flow = p.flow in
    let t : Flow = with_link l (given_unused out) s in
    let headers : headers_of (given_unused out (s.link l)) ≡ headers_of (s.link l) = unused_headers out (s.link l) unused in
    let same : (k : ℕ) → Same (s.link k) (t.link k) = unused_change_same w p l R below e in
    record {
      layout = R.layout;
      phase = R.phase;
      stage = R.stage;
      told = R.told;
      few = λ k b. at_case (λ j x. headers_of x ≤ (w.network).count j) l (given_unused out) s k (λ _. let f = R.few l below in omega arith) (λ _. R.few k b);
      first = R.first;
      up = λ q. absurd (omega arith);
      full = λ x y k b W. at_case (λ j z. headers_of z ≡ (w.network).count j) l (given_unused out) s k (λ d. headers ∙ R.full x y l below (subst (λ (j : ℕ). HasAllHeaders (p.change j)) d W)) (λ _. R.full x y k b W);
      opening = λ q. absurd (omega arith);
      sound = λ q. same_keeps w.network s t.link same (R.sound q);
      ended = λ q. absurd (omega arith);
      settled = λ q. absurd (omega arith);
      home = λ q. absurd (omega arith);
      unmade = λ q. absurd (omega arith);
      leaving = λ q. absurd (omega arith);
      changes = λ k b. flow_changing w p t k (p.change k)
          (λ h. at_case (λ j x. headers_of x ≡ 0) l (given_unused out) s k (λ d. headers ∙ (R.changes l below).emptied (subst (λ (j : ℕ). IsEmptied (p.change j)) d h)) (λ _. (R.changes k b).emptied h))
          (λ y h. let Q = (R.changes k b).quiet y h in ((same k).filled ∙ Q.0, Q.1))
          (R.changes k b);
    }

unused_keeps : (w : Layout) (p : Play) (l : ℕ) → IsReached w p → CanAct w p (Act.HandUnused l) → IsReached w (acted w (Act.HandUnused l) p)
unused_keeps w p l R C = elim C.1 [
  | inl returns ↦ unused_down w p l R C.0 returns.0 C.2
  | inr e ↦ unused_change w p l R C.0 e C.2
]

-- ---- a step: only while Executing was the last that was sent

pub step_phase : (w : Layout) (p : Play) (c n : ℕ) (last : Bool) → IsReached w p → CanAct w p (Act.Step c n last) → p.phase ≡ 2
step_phase w p c n last R C = elim C.0 [
  | inl a ↦ a.0
  | inr a ↦ let e = a.0 in both ((p.flow).ended c) (R.ended (omega arith) c (C.1.0).inside) (C.1.0).going
]

took_nothing : (n : ℕ) (q : List Filled) (x : LinkState) → q ≡ [] → queue (took_front n q x) ≡ queue x
took_nothing n [] x e = refl
took_nothing n (h ∷ q) x e = absurd (let z : suc (length q) ≡ 0 = ap length e in omega arith)

took_quiet : (n : ℕ) (x : LinkState) → queue x ≡ [] → queue (took n x) ≡ []
took_quiet n x e = either x.closed
    (λ t. ap (λ (y : LinkState). queue y) (took_closed n x t) ∙ e)
    (λ f. ap (λ (y : LinkState). queue y) (took_going n x f) ∙ took_nothing n x.held x (nil_parts x.held x.sent e).0 ∙ e)

-- nothing comes to be on its way in a link into which another component gives
step_quiet : (net : Network) (s : Flow) (c n : ℕ) (last : Bool) (l : ℕ) → net.giver l ≢ c → queue (s.link l) ≡ [] → queue ((moved net (Move.Step c n last) s).link l) ≡ []
step_quiet net s c n last l apart e = either (nat_eq (net.taker l) c)
    (λ t. rw t (took_quiet n (s.link l) e))
    (λ f. let g : nat_eq (net.giver l) c ≡ false = ne_eqb (net.giver l) c apart in rw (f, g) e)

step_reaches : (w : Layout) (p : Play) (c n : ℕ) (last : Bool) → IsReached w p → CanAct w p (Act.Step c n last) → IsReached w (acted w (Act.Step c n last) p)
step_reaches w p c n last R C =
    let e : p.phase ≡ 2 = step_phase w p c n last R C in
    let s : Flow = p.flow in
    let m : Move = Move.Step c n last in
    record {
      layout = R.layout;
      phase = R.phase;
      stage = R.stage;
      told = λ k b h. either (nat_eq k c)
          (λ t. both (s.ended c) (ap s.ended (sym (eqb-true _ _ t)) ∙ R.told k b h) (C.1.0).going)
          (λ f. ended_other w.network c n last s k (eqb-false _ _ f) ∙ R.told k b h);
      few = λ l b. let f = R.few l b in omega (arith, move_headers w.network s m C.1 l b);
      first = R.first;
      up = λ q. absurd (omega arith);
      full = λ x y k b W. move_headers w.network s m C.1 k b ∙ R.full x y k b W;
      opening = λ q. absurd (omega arith);
      sound = λ q. move_keeps w.network s m (R.layout).network (R.sound q) C.1;
      ended = λ q. absurd (omega arith);
      settled = λ q. absurd (omega arith);
      home = λ q. absurd (omega arith);
      unmade = λ q. absurd (omega arith);
      leaving = λ q. absurd (omega arith);
      changes = λ l b. flow_changing w p (moved w.network m s) l (p.change l)
          (λ h. move_headers w.network s m C.1 l b ∙ (R.changes l b).emptied h)
          (λ y h.
          let Q = (R.changes l b).quiet y h in
          let apart : (w.network).giver l ≢ c = λ g. let up = (C.2).outputs l (record { below = b; given_by = g }) y in omega arith in
          (step_quiet w.network s c n last l apart Q.0, ended_other w.network c n last s ((w.network).giver l) apart ∙ Q.1))
          (R.changes l b);
    }

-- ---- each act

pub act_reaches : (w : Layout) (p : Play) (a : Act) → IsReached w p → CanAct w p a → IsReached w (acted w a p)
act_reaches w p Act.Begin R C = begins_keep w p R C
act_reaches w p (Act.Send c) R C = send_keeps w p c R C.0 C.1
act_reaches w p (Act.Run c) R C = run_keeps w p c R C.0 C.1
act_reaches w p (Act.Happen c) R C = happen_keeps w p c R C
act_reaches w p (Act.Tell c) R C = tell_keeps w p c R C.0 C.1
act_reaches w p (Act.TellEnd c) R C = tell_end_keeps w p c R C.4
act_reaches w p (Act.Supply l) R C = supply_keeps w p l R C
act_reaches w p (Act.Release l) R C = release_keeps w p l R C
act_reaches w p (Act.HandOver l) R C = over_keeps w p l R C
act_reaches w p (Act.HandBack l) R C = back_keeps w p l R C
act_reaches w p (Act.HandUnused l) R C = unused_keeps w p l R C
act_reaches w p (Act.Announce l) R C = announce_keeps w p l R C
act_reaches w p (Act.TellSettings l) R C = tell_settings_keeps w p l R C
act_reaches w p (Act.Conduct l) R C = conduct_keeps w p l R C
act_reaches w p (Act.RunPort l output) R C = run_port_keeps w p l output R C
act_reaches w p (Act.HappenPort l output) R C = happen_port_keeps w p l output R C
act_reaches w p (Act.TellPort l output) R C = tell_port_keeps w p l output R C
act_reaches w p (Act.Step c n last) R C = step_reaches w p c n last R C

pub acts_reach : (w : Layout) (p : Play) (acts : List Act) → IsReached w p → CanActs w p acts → IsReached w (all_acted w acts p)
acts_reach w p [] R C = R
acts_reach w p (a ∷ acts) R C = acts_reach w (acted w a p) acts (act_reaches w p a R C.0) C.1

begun_changing : (w : Layout) (p : Play) (l : ℕ) → IsBegun w p → IsChanging w p l (p.change l)
begun_changing w p l B =
    let e : p.phase ≡ 0 = B.phase in
    rw (B.unchanged l) (record {
      order = record {
        steps = omega arith;
        outputs = omega arith;
        inputs = omega arith;
        output_unsent = λ _. refl;
        input_unsent = λ _. refl;
        output_disabled = λ h. absurd (omega (arith, h));
        input_disabled = λ h. absurd (omega (arith, h));
        told = λ h. absurd (omega (arith, h));
        output_waits = λ _. omega arith;
        input_waits = λ _. omega arith;
        output_enabled = λ h. absurd (omega (arith, h));
        input_enabled = λ h. absurd (omega (arith, h));
      };
      fixed = λ _. refl;
      early = λ _. refl;
      over = λ h. absurd (omega (arith, h));
      half = λ h. absurd (let a = h.0 in omega arith);
      emptied = λ _. B.none l;
      quiet = λ _ _. ((B.opening).empty l, (B.opening).going ((w.network).giver l));
    })

pub begun_reached : (w : Layout) (p : Play) → IsBegun w p → IsReached w p
begun_reached w p B =
    let e = B.phase in
    record {
      layout = B.layout;
      phase = omega arith;
      stage = λ c b. omega (arith, B.stage c);
      told = λ c b h. both (p.told c) h (B.told c);
      few = λ l b. omega (arith, B.none l);
      first = λ _ c b. B.stage c;
      up = λ q. absurd (omega arith);
      full = λ a. absurd (omega arith);
      opening = λ _. B.opening;
      sound = λ _. opening_sound w.network p.flow (B.layout).network B.opening;
      ended = λ q. absurd (omega arith);
      settled = λ q. absurd (omega arith);
      home = λ q. absurd (omega arith);
      unmade = λ q. absurd (omega arith);
      leaving = λ q. absurd (omega arith);
      changes = λ l d. begun_changing w p l B;
    }

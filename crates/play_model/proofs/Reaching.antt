-- Each act of a reached play leads to a reached play.
use Rattle.std.proofs.Common.{◌≡◌, ◌≢◌, ◌⊎◌, inl, inr, ℕ, zero, suc, ◌+◌, ◌<◌, ◌≤◌, Bool, true, false, nat_eq, List, [], ◌∷◌, ◌++◌, length, refl, sym, ◌∙◌, ap, subst, length-append, eqb-true, arith}
use Rattle.std.proofs.lemmas.Bool.{eqb-false}
use Rattle.play_model.specs.Network.{Network, IsNetwork, IsOutput, Filled, LinkState, Flow, headers_of, queue}
use Rattle.play_model.specs.Moves.{with_link}
use Rattle.play_model.specs.Account.{IsSound, IsOpening}
use Rattle.play_model.specs.Progress.{IsLinkOf, AllEnded}
use Rattle.play_model.proofs.Queues.{either, both}
use Rattle.play_model.proofs.Keeps.{Same, same_at, same_keeps}
use Rattle.play_model.specs.Changes.{Change, port_at, IsChanged, IsHalfChanged, IsEnabledPort, IsDisabling, HasAllHeaders, IsEmptied}
use Rattle.play_model.specs.Play.{Layout, Play, made, supplier, IsSettled, IsLeaving, HasHome, IsDue}
use Rattle.play_model.specs.Acts.{Act, CanBegin, CanAct, with_stage, reset_link, reset_all, supplied, less_sent, less_held, released, supplier_port, acted}
use Rattle.play_model.specs.Reached.{IsChanging, IsReached}
use Rattle.play_model.proofs.LinkEnds.{end_inside}
use Rattle.play_model.proofs.Changes.{enabling_step, disabling_step, disabling_part}
use Rattle.play_model.proofs.ChangesKept.{unsent, later_whole, later_changing, stage_changing, flow_changing}

-- ---- a stage that goes up

pub stage_case : (P : ℕ → Type 0) (p : Play) (c k j : ℕ) → (j ≡ c → P k) → (j ≢ c → P (p.stage j)) → P ((with_stage c k p).stage j)
stage_case P p c k j same apart = either (nat_eq j c) (λ t. rw t (same (eqb-true _ _ t))) (λ f. rw f (apart (eqb-false _ _ f)))

abbrev Above : Play → ℕ → ℕ → ℕ → Type 0
Above p c k j = ((j ≡ c) × (3 ≤ k)) ⊎ (3 ≤ p.stage j)

two_of : (p : Play) (c k j : ℕ) → 3 ≤ (with_stage c k p).stage j → Above p c k j
two_of p c k j = stage_case (λ n. 3 ≤ n → Above p c k j) p c k j (λ e h. inl (e, h)) (λ _ h. inr h)

stage_keeps : (w : Layout) (p : Play) (c k : ℕ) → IsReached w p → c < (w.network).components → p.stage c ≢ 4 → 1 ≤ p.phase → (2 ≤ p.stage c → 2 ≤ k) → k ≤ 4 →
    (3 ≤ k → p.phase ≡ 1 → (l : ℕ) → IsLinkOf w.network c l → made p l ≡ (w.network).count l) →
    (3 ≤ k → p.phase ≡ 3 → (l : ℕ) → IsLinkOf w.network c l → IsSettled (w.by_output l) ((p.flow).link l)) →
    (3 ≤ k → p.phase ≡ 4 → (l : ℕ) → IsLinkOf w.network c l → made p l ≡ 0) →
    IsReached w (with_stage c k p)
stage_keeps w p c k R b ne later low high up settled unmade = record {
  layout = R.layout;
  phase = R.phase;
  stage = λ j b. stage_case (λ n. n ≤ 4) p c k j (λ _. high) (λ _. R.stage j b);
  told = R.told;
  few = R.few;
  first = λ e j b. absurd (omega arith);
  up = λ e j b h l I. elim (two_of p c k j h) [ inl a ↦ up a.1 e l (subst (λ (i : ℕ). IsLinkOf w.network i l) a.0 I) | inr q ↦ R.up e j b q l I ];
  full = R.full;
  opening = R.opening;
  sound = R.sound;
  ended = R.ended;
  settled = λ e j b h l I. elim (two_of p c k j h) [ inl a ↦ settled a.1 e l (subst (λ (i : ℕ). IsLinkOf w.network i l) a.0 I) | inr q ↦ R.settled e j b q l I ];
  home = R.home;
  unmade = λ e j b h l I. elim (two_of p c k j h) [ inl a ↦ unmade a.1 e l (subst (λ (i : ℕ). IsLinkOf w.network i l) a.0 I) | inr q ↦ R.unmade e j b q l I ];
  leaving = λ e l b h. stage_case (λ n. 2 ≤ n) p c k (supplier w l) (λ q. low (subst (λ (j : ℕ). 2 ≤ p.stage j) q (R.leaving e l b h))) (λ _. R.leaving e l b h);
  changes = λ l d. stage_changing w p c k l (p.change l) b ne (R.changes l d);
}

begun : (w : Layout) (p : Play) → IsReached w p → (c : ℕ) → c < (w.network).components → p.stage c ≢ 4 → 1 ≤ p.phase
begun w p R c b n = either (nat_eq p.phase 0)
    (λ t. absurd (n (R.first (eqb-true _ _ t) c b)))
    (λ f. let d = eqb-false _ _ f in omega arith)

pub send_keeps : (w : Layout) (p : Play) (c : ℕ) → IsReached w p → c < (w.network).components → p.stage c ≡ 0 → IsReached w (with_stage c 1 p)
send_keeps w p c R b e = stage_keeps w p c 1 R b (λ q. omega arith) (begun w p R c b (λ q. omega arith)) (λ h. absurd (omega (arith, h))) (omega arith) (λ h. absurd (omega (arith, h))) (λ h. absurd (omega (arith, h))) (λ h. absurd (omega (arith, h)))

pub run_keeps : (w : Layout) (p : Play) (c : ℕ) → IsReached w p → c < (w.network).components → p.stage c ≡ 1 → IsReached w (with_stage c 2 p)
run_keeps w p c R b e = stage_keeps w p c 2 R b (λ q. omega arith) (begun w p R c b (λ q. omega arith)) (λ _. omega arith) (omega arith) (λ h. absurd (omega (arith, h))) (λ h. absurd (omega (arith, h))) (λ h. absurd (omega (arith, h)))

pub tell_keeps : (w : Layout) (p : Play) (c : ℕ) → IsReached w p → c < (w.network).components → p.stage c ≡ 3 → IsReached w (with_stage c 4 p)
tell_keeps w p c R b e = stage_keeps w p c 4 R b (λ q. omega arith) (begun w p R c b (λ q. omega arith)) (λ _. omega arith) (omega arith)
    (λ _ q l I. R.up q c b (omega arith) l I) (λ _ q l I. R.settled q c b (omega arith) l I) (λ _ q l I. R.unmade q c b (omega arith) l I)

-- ---- the reset of the headers at home

pub reset_headers : (out : Bool) (x : LinkState) → headers_of (reset_link out x) ≡ headers_of x
reset_headers true x =
    let a : length (queue x) ≡ length x.held + length x.sent = length-append x.held x.sent in
    let b : length (queue (reset_link true x)) ≡ length x.held + 0 = length-append x.held [] in
    omega arith
reset_headers false x =
    let a : length (queue x) ≡ length x.held + length x.sent = length-append x.held x.sent in
    omega arith

reset_settled : (out : Bool) (x : LinkState) → IsSettled out x → IsSettled out (reset_link out x)
reset_settled true x S = S
reset_settled false x S = S

pub reset_case : (w : Layout) (c : ℕ) (s : Flow) (P : ℕ → LinkState → Type 0) → ((l : ℕ) → P l (s.link l) → P l (reset_link (w.by_output l) (s.link l))) → (l : ℕ) → P l (s.link l) → P l ((reset_all w c s).link l)
reset_case w c s P h l x = either (nat_eq (supplier w l) c) (λ t. rw t (h l x)) (λ f. rw f x)

reset_keeps : (w : Layout) (p : Play) (c : ℕ) → p.phase ≡ 3 → IsReached w p → IsReached w (record p { flow = reset_all w c p.flow })
reset_keeps w p c e R =
    let s : Flow = p.flow in
    let same : (l : ℕ) → headers_of ((reset_all w c s).link l) ≡ headers_of (s.link l) = λ l.
    reset_case w c s (λ k x. headers_of x ≡ headers_of (s.link k)) (λ k h. reset_headers (w.by_output k) (s.link k) ∙ h) l refl in
    record {
      layout = R.layout;
      phase = R.phase;
      stage = R.stage;
      told = R.told;
      few = λ l b. let f = R.few l b in omega (arith, same l);
      first = R.first;
      up = λ q. absurd (omega arith);
      full = λ a b l d W. same l ∙ R.full a b l d W;
      opening = λ q. absurd (omega arith);
      sound = λ q. absurd (omega arith);
      ended = R.ended;
      settled = λ q j b h l I. reset_case w c s (λ k x. IsSettled (w.by_output k) x) (λ k. reset_settled (w.by_output k) (s.link k)) l (R.settled q j b h l I);
      home = λ q. absurd (omega arith);
      unmade = λ q. absurd (omega arith);
      leaving = λ q. absurd (omega arith);
      changes = λ l b. later_changing w p (record p { flow = reset_all w c s }) l (p.change l) (R.changes l b) (omega arith) (omega arith);
    }

pub happen_keeps : (w : Layout) (p : Play) (c : ℕ) → IsReached w p → CanAct w p (Act.Happen c) → IsReached w (acted w (Act.Happen c) p)
happen_keeps w p c R C =
    let D : IsDue w p c = C.2 in
    let Q : IsReached w (with_stage c 3 p) = stage_keeps w p c 3 R C.0 (λ q. let k = C.1 in omega arith) (begun w p R c C.0 (λ q. let k = C.1 in omega arith)) (λ _. omega arith) (omega arith) (λ _. D.up) (λ _. D.down) (λ _. D.unmade) in
    either (nat_eq p.phase 3)
    (λ t. rw t (reset_keeps w (with_stage c 3 p) c (eqb-true _ _ t) Q))
    (λ f. rw f Q)

-- ---- the next command

begin_keeps : (w : Layout) (p : Play) → IsReached w p → CanBegin w p → AllEnded w.network p.flow ⊎ (p.phase ≢ 2) →
    ((l : ℕ) → l < (w.network).links → IsChanging w (acted w Act.Begin p) l (p.change l)) → IsReached w (acted w Act.Begin p)
begin_keeps w p R C E changes =
    let net : Network = w.network in
    let more = C.more in
    let giver : (l : ℕ) → l < net.links → IsLinkOf net (net.giver l) l = λ l b. inr (record { below = b; given_by = refl }) in
    let up : p.phase ≡ 1 → (l : ℕ) → l < net.links → made p l ≡ net.count l = λ e l b.
    let inside = end_inside w R.layout (net.giver l) l (giver l b) in
    R.up e (net.giver l) inside (let k = C.all (net.giver l) inside in omega arith) l (giver l b) in
    record {
      layout = R.layout;
      phase = omega arith;
      stage = λ c b. omega arith;
      told = R.told;
      few = R.few;
      first = λ q. absurd (omega (arith, q));
      up = λ q c b h. absurd (omega (arith, h));
      full = λ a b l d W. either (nat_eq p.phase 1)
          (λ t. up (eqb-true _ _ t) l d)
          (λ f. let n = eqb-false _ _ f in R.full (omega arith) (omega arith) l d W);
      opening = λ q. R.opening (omega arith);
      sound = λ q. R.sound (omega arith);
      ended = λ q. elim E [ inl all ↦ all | inr n ↦ R.ended (omega arith) ];
      settled = λ q c b h. absurd (omega (arith, h));
      home = λ q l b.
          let e : p.phase ≡ 3 = omega arith in
          let inside = end_inside w R.layout (net.giver l) l (giver l b) in
          R.settled e (net.giver l) inside (let k = C.all (net.giver l) inside in omega arith) l (giver l b);
      unmade = λ q c b h. absurd (omega (arith, h));
      leaving = λ q l b h. absurd (let f = R.full (omega arith) (omega arith) l b (later_whole w p l (p.change l) (R.changes l b) (omega arith)) in omega arith);
      changes = changes;
    }

-- where each sink was told the end, all have ended: from the last in the order of placing down
pub ended_from : (w : Layout) (p : Play) → IsReached w p → p.phase ≡ 2 → ((c : ℕ) → c < (w.network).components → w.is_sink c ≡ true → p.told c ≡ true) → (m c : ℕ) → (w.network).components ≤ c + m → c < (w.network).components → (p.flow).ended c ≡ true
ended_from w p R e T zero c m b = absurd (omega arith)
ended_from w p R e T (suc m) c le b = either (w.is_sink c)
    (λ t. R.told c b (T c b t))
    (λ f.
    let o = (R.layout).outputs c b f in
    let l : ℕ = o.0 in
    let O : IsOutput w.network c l = o.1 in
    let W : IsNetwork w.network = (R.layout).network in
    let S : IsSound w.network p.flow = R.sound (omega arith) in
    let d : ℕ = (w.network).taker l in
    let inside : d < (w.network).components = W.inside l O.below in
    let later : c < d = subst (λ (g : ℕ). g < d) O.given_by (W.order l O.below) in
    let over : (p.flow).ended d ≡ true = ended_from w p R e T m d (omega arith) inside in
    let closed : ((p.flow).link l).closed ≡ true = (S.components d inside).over (W.unfed l O.below) over l (record { below = O.below; taken_by = refl }) in
    ap (p.flow).ended (sym O.given_by) ∙ ((S.links l O.below).after closed).1)

-- before the second Idle is begun all links of late sources are changed
pub all_changed : (w : Layout) (p : Play) → IsReached w p → CanBegin w p → p.phase ≡ 2 → AllEnded w.network p.flow → (l : ℕ) → l < (w.network).links → w.is_late l ≡ true → IsChanged (p.change l)
all_changed w p R C two E l b t =
    let K : IsChanging w p l (p.change l) = R.changes l b in
    elim (C.changes two l b t) [
      | inl low ↦
          let u = (unsent w p l (p.change l) K (omega arith)).0 in
          let g : ℕ = (w.network).giver l in
          let inside : g < (w.network).components = end_inside w R.layout g l (inr (record { below = b; given_by = refl })) in
          both ((p.flow).ended g) (E g inside) (K.quiet t (omega arith)).1
      | inr is ↦ is
    ]

begin_changing : (w : Layout) (p : Play) → IsReached w p → CanBegin w p → AllEnded w.network p.flow ⊎ (p.phase ≢ 2) → (l : ℕ) → l < (w.network).links → IsChanging w (acted w Act.Begin p) l (p.change l)
begin_changing w p R C E l b =
    let K : IsChanging w p l (p.change l) = R.changes l b in
    record {
      order = K.order;
      fixed = K.fixed;
      early = λ q. K.early (omega arith);
      over = λ q t. elim E [
        | inl all ↦ either (nat_eq p.phase 2)
            (λ y. all_changed w p R C (eqb-true _ _ y) all l b t)
            (λ n. let d = eqb-false _ _ n in K.over (omega arith) t)
        | inr n ↦ K.over (omega arith) t
      ];
      half = λ h. absurd (
          let two : p.phase ≡ 2 = (K.half h).0 in
          either (w.is_late l)
          (λ t. elim (C.changes two l b t) [ inl low ↦ (let a = h.0 in omega arith) | inr is ↦ half_changed (p.change l) h is ])
          (λ f. let z = K.fixed f in let a = h.0 in omega arith));
      emptied = K.emptied;
      quiet = K.quiet;
    }
  where
    half_changed : (k : Change) → IsHalfChanged k → IsChanged k → ⊥
    half_changed k h is = elim h.1 [ inl o ↦ (let e = is.1 in omega arith) | inr o ↦ (let e = is.2 in omega arith) ]

pub begins_keep : (w : Layout) (p : Play) → IsReached w p → CanBegin w p → IsReached w (acted w Act.Begin p)
begins_keep w p R C =
    let E : AllEnded w.network p.flow ⊎ (p.phase ≢ 2) = either (nat_eq p.phase 2)
    (λ t. let e : p.phase ≡ 2 = eqb-true _ _ t in inl (λ c b. ended_from w p R e (C.ends e) (w.network).components c (omega arith) b))
    (λ f. inr (eqb-false _ _ f)) in
    begin_keeps w p R C E (begin_changing w p R C E)

-- ---- the end of a stream is told

pub tell_end_keeps : (w : Layout) (p : Play) (c : ℕ) → IsReached w p → (p.flow).ended c ≡ true → IsReached w (acted w (Act.TellEnd c) p)
tell_end_keeps w p c R e = record {
  layout = R.layout;
  phase = R.phase;
  stage = R.stage;
  told = λ j b h. either (nat_eq j c) (λ t. ap (p.flow).ended (eqb-true _ _ t) ∙ e) (λ f. R.told j b (rw f at h));
  few = R.few;
  first = R.first;
  up = R.up;
  full = R.full;
  opening = R.opening;
  sound = R.sound;
  ended = R.ended;
  settled = R.settled;
  home = R.home;
  unmade = R.unmade;
  leaving = R.leaving;
  changes = λ l b. let K = R.changes l b in record { order = K.order; fixed = K.fixed; early = K.early; over = K.over; half = K.half; emptied = K.emptied; quiet = K.quiet };
}

-- ---- a change of one link

pub at_case : (P : ℕ → LinkState → Type 0) (l : ℕ) (change : LinkState → LinkState) (s : Flow) (k : ℕ) → (k ≡ l → P l (change (s.link l))) → (k ≢ l → P k (s.link k)) → P k ((with_link l change s).link k)
at_case P l change s k same apart = either (nat_eq k l)
    (λ t. let e : k ≡ l = eqb-true _ _ t in rw t (subst (λ (j : ℕ). P j (change (s.link j))) (sym e) (same e)))
    (λ f. rw f (apart (eqb-false _ _ f)))

pub same_supplied : (out : Bool) (x : LinkState) → Same x (supplied out x)
same_supplied true x = record { taken = refl; closed = refl; filled = refl }
same_supplied false x = record { taken = refl; closed = refl; filled = refl }

pub more_supplied : (out : Bool) (x : LinkState) → headers_of (supplied out x) ≡ headers_of x + 1
more_supplied true x = omega arith
more_supplied false x = omega arith

same_opening : (net : Network) (s : Flow) (link : ℕ → LinkState) → ((k : ℕ) → Same (s.link k) (link k)) → IsOpening net s → IsOpening net (record s { link = link })
same_opening net s link h O = record {
  done = O.done;
  going = O.going;
  empty = λ l. (h l).filled ∙ O.empty l;
  taken = λ l. (h l).taken ∙ O.taken l;
  open_ = λ l. (h l).closed ∙ O.open_ l;
}

-- headers are made on the way up, and once a port is Enabling
pub supply_when : (w : Layout) (p : Play) (l : ℕ) → IsReached w p → CanAct w p (Act.Supply l) → (p.phase ≡ 1) ⊎ ((p.phase ≡ 2) × (9 ≤ (p.change l).step))
supply_when w p l R C =
    let few = C.3 in
    elim C.1 [
      | inl a ↦ inl a.0
      | inr (inl a) ↦ let q = a.0 in inr (q, again (omega arith) (omega arith))
      | inr (inr (inl a)) ↦ let q = a.0 in let f = R.full (omega arith) (omega arith) l C.0 (later_whole w p l (p.change l) (R.changes l C.0) (omega arith)) in absurd (omega arith)
      | inr (inr (inr a)) ↦ let q = a.1 in let v = R.leaving a.0 l C.0 few in absurd (omega arith)
    ]
  where
    enabling : (k : Change) → IsEnabledPort k.output × IsEnabledPort k.input → (HasAllHeaders k → ⊥) → (6 ≤ k.output) ⊎ (6 ≤ k.input)
    enabling k (inl a, inl b) n = absurd (n (inl (a, b)))
    enabling k (inr a, b) n = inl a
    enabling k (inl a, inr b) n = inr b

    again : 2 ≤ p.phase → p.phase ≤ 3 → 9 ≤ (p.change l).step
    again low high = enabling_step (p.change l) (R.changes l C.0).order
        (enabling (p.change l) C.4 (λ W. let f = R.full low high l C.0 W in let few = C.3 in absurd (omega arith)))

pub supply_keeps : (w : Layout) (p : Play) (l : ℕ) → IsReached w p → CanAct w p (Act.Supply l) → IsReached w (acted w (Act.Supply l) p)
supply_keeps w p l R C =
    let low : p.phase ≤ 2 = elim (supply_when w p l R C) [ inl e ↦ omega arith | inr e ↦ let z = e.0 in omega arith ] in
    let out : Bool = w.by_output l in
    let s : Flow = p.flow in
    let t : Flow = with_link l (supplied out) s in
    let same : (k : ℕ) → Same (s.link k) (t.link k) = same_at l (supplied out) s (same_supplied out (s.link l)) in
    record {
      layout = R.layout;
      phase = R.phase;
      stage = R.stage;
      told = R.told;
      few = λ k b. at_case (λ j x. headers_of x ≤ (w.network).count j) l (supplied out) s k (λ _. let less = C.3 in omega (arith, more_supplied out (s.link l))) (λ _. R.few k b);
      first = R.first;
      up = λ q c b h k I. at_case (λ j x. headers_of x ≡ (w.network).count j) l (supplied out) s k
          (λ d. absurd (let less = C.3 in let f = R.up q c b h l (subst (λ (j : ℕ). IsLinkOf w.network c j) d I) in omega arith))
          (λ _. R.up q c b h k I);
      full = λ x y k b W. at_case (λ j z. headers_of z ≡ (w.network).count j) l (supplied out) s k
          (λ d. absurd (let less = C.3 in let f = R.full x y l C.0 (subst (λ (j : ℕ). HasAllHeaders (p.change j)) d W) in omega arith))
          (λ _. R.full x y k b W);
      opening = λ q. same_opening w.network s t.link same (R.opening q);
      sound = λ q. same_keeps w.network s t.link same (R.sound q);
      ended = λ q. absurd (omega arith);
      settled = λ q. absurd (omega arith);
      home = λ q. absurd (omega arith);
      unmade = λ q. absurd (omega arith);
      leaving = λ q. absurd (omega arith);
      changes = λ k b. flow_changing w p t k (p.change k)
          (λ h. at_case (λ j x. headers_of x ≡ 0) l (supplied out) s k
          (λ d. absurd (enabled_full (p.change l) C.4 (subst (λ (j : ℕ). IsEmptied (p.change j)) d h)))
          (λ _. (R.changes k b).emptied h))
          (λ y h. let Q = (R.changes k b).quiet y h in ((same k).filled ∙ Q.0, Q.1))
          (R.changes k b);
    }
  where
    enabled_full : (k : Change) → IsEnabledPort k.output × IsEnabledPort k.input → IsEmptied k → ⊥
    enabled_full k E h = let a = E.0 in let b = E.1 in grind (arith, a, b, h)

-- ---- a header is unmade

less_sent_headers : (k : ℕ) (q : List Filled) (x : LinkState) → x.ready ≡ k → x.sent ≡ q → 0 < k + length q → headers_of (less_sent k q x) + 1 ≡ headers_of x
less_sent_headers zero [] x e d h = absurd (omega (arith, h))
less_sent_headers zero (a ∷ q) x e d h =
    let u : length (x.held ++ q) ≡ length x.held + length q = length-append x.held q in
    let v : length (queue x) ≡ length x.held + length x.sent = length-append x.held x.sent in
    let z : length x.sent ≡ suc (length q) = ap length d in
    omega arith
less_sent_headers (suc k) q x e d h = omega arith

less_held_headers : (q : List Filled) (x : LinkState) → x.held ≡ q → 0 < x.spent + length q → headers_of (less_held q x) + 1 ≡ headers_of x
less_held_headers [] x d h = let g : 0 < x.spent = omega (arith, h) in omega arith
less_held_headers (a ∷ q) x d h =
    let u : length (q ++ x.sent) ≡ length q + length x.sent = length-append q x.sent in
    let v : length (queue x) ≡ length x.held + length x.sent = length-append x.held x.sent in
    let z : length x.held ≡ suc (length q) = ap length d in
    omega arith

pub released_headers : (out : Bool) (x : LinkState) → HasHome out x → headers_of (released out x) + 1 ≡ headers_of x
released_headers true x h = less_sent_headers x.ready x.sent x refl refl h
released_headers false x h = less_held_headers x.held x refl h

less_sent_keeps : (k : ℕ) (q : List Filled) (x : LinkState) → ((less_sent k q x).held ≡ x.held) × ((less_sent k q x).spent ≡ x.spent)
less_sent_keeps zero [] x = (refl, refl)
less_sent_keeps zero (a ∷ q) x = (refl, refl)
less_sent_keeps (suc k) q x = (refl, refl)

less_held_keeps : (q : List Filled) (x : LinkState) → ((less_held q x).ready ≡ x.ready) × ((less_held q x).sent ≡ x.sent)
less_held_keeps [] x = (refl, refl)
less_held_keeps (a ∷ q) x = (refl, refl)

released_settled : (out : Bool) (x : LinkState) → IsSettled out x → IsSettled out (released out x)
released_settled true x S = let k = less_sent_keeps x.ready x.sent x in (k.0 ∙ S.0, k.1 ∙ S.1)
released_settled false x S = let k = less_held_keeps x.held x in (k.0 ∙ S.0, k.1 ∙ S.1)

release_down : (w : Layout) (p : Play) (l : ℕ) → IsReached w p → l < (w.network).links → IsLeaving p (supplier w l) → HasHome (w.by_output l) ((p.flow).link l) → IsReached w (acted w (Act.Release l) p)
release_down w p l R below leaves home =
    let e : p.phase ≡ 4 = leaves.0 in
    let here : p.stage (supplier w l) ≡ 2 = leaves.1 in
    let out : Bool = w.by_output l in
    let s : Flow = p.flow in
    let less : headers_of (released out (s.link l)) + 1 ≡ headers_of (s.link l) = released_headers out (s.link l) home in
    record {
      layout = R.layout;
      phase = R.phase;
      stage = R.stage;
      told = R.told;
      few = λ k b. at_case (λ j x. headers_of x ≤ (w.network).count j) l (released out) s k (λ _. let f = R.few l below in omega arith) (λ _. R.few k b);
      first = R.first;
      up = λ q. absurd (omega arith);
      full = λ a b. absurd (omega arith);
      opening = λ q. absurd (omega arith);
      sound = λ q. absurd (omega arith);
      ended = R.ended;
      settled = λ q. absurd (omega arith);
      home = λ q k b. at_case (λ j x. IsSettled (w.by_output j) x) l (released out) s k (λ _. released_settled out (s.link l) (R.home q l below)) (λ _. R.home q k b);
      unmade = λ q c b h k I. at_case (λ j x. headers_of x ≡ 0) l (released out) s k
          (λ d. absurd (let f = R.unmade q c b h l (subst (λ (j : ℕ). IsLinkOf w.network c j) d I) in omega arith))
          (λ _. R.unmade q c b h k I);
      leaving = λ q k b. at_case (λ j x. headers_of x < (w.network).count j → 2 ≤ p.stage (supplier w j)) l (released out) s k (λ _ _. omega arith) (λ _. R.leaving q k b);
      changes = λ k b. later_changing w p (record p { flow = with_link l (released out) s }) k (p.change k) (R.changes k b) (omega arith) (omega arith);
    }

-- where nothing is on its way in a link, the header that is unmade is a clear one
pub nil_parts : (a b : List Filled) → a ++ b ≡ [] → (a ≡ []) × (b ≡ [])
nil_parts [] b e = (refl, e)
nil_parts (h ∷ a) b e = absurd (let z : suc (length (a ++ b)) ≡ 0 = ap length e in omega arith)

less_sent_same : (k : ℕ) (q : List Filled) (x : LinkState) → q ≡ [] → Same x (less_sent k q x)
less_sent_same zero [] x e = record { taken = refl; closed = refl; filled = refl }
less_sent_same zero (h ∷ q) x e = absurd (let z : suc (length q) ≡ 0 = ap length e in omega arith)
less_sent_same (suc k) q x e = record { taken = refl; closed = refl; filled = refl }

less_held_same : (q : List Filled) (x : LinkState) → q ≡ [] → Same x (less_held q x)
less_held_same [] x e = record { taken = refl; closed = refl; filled = refl }
less_held_same (h ∷ q) x e = absurd (let z : suc (length q) ≡ 0 = ap length e in omega arith)

pub released_same : (out : Bool) (x : LinkState) → queue x ≡ [] → Same x (released out x)
released_same true x e = less_sent_same x.ready x.sent x (nil_parts x.held x.sent e).1
released_same false x e = less_held_same x.held x (nil_parts x.held x.sent e).0

-- in a link that is being changed nothing is on its way
pub disabling_quiet : (w : Layout) (p : Play) (out : Bool) (l : ℕ) → IsReached w p → l < (w.network).links → IsDisabling (port_at out (p.change l)) →
    (p.phase ≡ 2) × (w.is_late l ≡ true) × (queue ((p.flow).link l) ≡ [])
disabling_quiet w p out l R b e =
    let K : IsChanging w p l (p.change l) = R.changes l b in
    let s = disabling_step out (p.change l) K.order e in
    let low = s.0 in
    let high = s.1 in
    let late : w.is_late l ≡ true = either (w.is_late l) (λ t. t) (λ f. absurd (let z = K.fixed f in omega arith)) in
    let wait = (K.order).output_waits (omega arith) in
    ((K.half (low, inl (omega arith))).0, late, (K.quiet late (omega arith)).0)

pub release_change_same : (w : Layout) (p : Play) (l : ℕ) → IsReached w p → l < (w.network).links → IsDisabling (supplier_port w p l) → (k : ℕ) →
    Same ((p.flow).link k) ((with_link l (released (w.by_output l)) p.flow).link k)
release_change_same w p l R below e k = same_at l (released (w.by_output l)) p.flow (released_same (w.by_output l) ((p.flow).link l) (disabling_quiet w p (w.by_output l) l R below e).2) k

release_change : (w : Layout) (p : Play) (l : ℕ) → IsReached w p → l < (w.network).links → IsDisabling (supplier_port w p l) → HasHome (w.by_output l) ((p.flow).link l) → IsReached w (acted w (Act.Release l) p)
release_change w p l R below e home =
    let D = disabling_quiet w p (w.by_output l) l R below e in
    let two : p.phase ≡ 2 = D.0 in
    let out : Bool = w.by_output l in
    let s : Flow = p.flow in
    let t : Flow = with_link l (released out) s in
    let less : headers_of (released out (s.link l)) + 1 ≡ headers_of (s.link l) = released_headers out (s.link l) home in
    let same : (k : ℕ) → Same (s.link k) (t.link k) = release_change_same w p l R below e in
    record {
      layout = R.layout;
      phase = R.phase;
      stage = R.stage;
      told = R.told;
      few = λ k b. at_case (λ j x. headers_of x ≤ (w.network).count j) l (released out) s k (λ _. let f = R.few l below in omega arith) (λ _. R.few k b);
      first = R.first;
      up = λ q. absurd (omega arith);
      full = λ x y k b W. at_case (λ j z. headers_of z ≡ (w.network).count j) l (released out) s k
          (λ d. absurd (disabling_part out (p.change l) (R.changes l below).order e (subst (λ (j : ℕ). HasAllHeaders (p.change j)) d W)))
          (λ _. R.full x y k b W);
      opening = λ q. absurd (omega arith);
      sound = λ q. same_keeps w.network s t.link same (R.sound q);
      ended = λ q. absurd (omega arith);
      settled = λ q. absurd (omega arith);
      home = λ q. absurd (omega arith);
      unmade = λ q. absurd (omega arith);
      leaving = λ q. absurd (omega arith);
      changes = λ k b. flow_changing w p t k (p.change k)
          (λ h. at_case (λ j x. headers_of x ≡ 0) l (released out) s k
          (λ d. absurd (let z = (R.changes l below).emptied (subst (λ (j : ℕ). IsEmptied (p.change j)) d h) in omega arith))
          (λ _. (R.changes k b).emptied h))
          (λ y h. let Q = (R.changes k b).quiet y h in ((same k).filled ∙ Q.0, Q.1))
          (R.changes k b);
    }

pub release_keeps : (w : Layout) (p : Play) (l : ℕ) → IsReached w p → CanAct w p (Act.Release l) → IsReached w (acted w (Act.Release l) p)
release_keeps w p l R C = elim C.1 [
  | inl leaves ↦ release_down w p l R C.0 leaves C.2
  | inr e ↦ release_change w p l R C.0 e C.2
]

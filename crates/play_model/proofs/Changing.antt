-- Acts on the change of a late source's link lead from a reached play to a reached one.
use Rattle.std.proofs.Common.{◌≡◌, ◌≢◌, inl, inr, ℕ, ◌<◌, ◌≤◌, Bool, true, false, nat_eq, nat_le, sym, ◌∙◌, eqb-true, arith}
use Rattle.std.proofs.lemmas.Bool.{eqb-false, leb-true, leb-false}
use Rattle.play_model.proofs.Queues.{either}
use Rattle.play_model.specs.Changes.{Change, port_at, IsHalfChanged, HasCommand, HasCompletion, told_on, conducted, port_on, IsInOrder, HasAllHeaders, IsEmptied}
use Rattle.play_model.specs.Play.{Layout, Play, made}
use Rattle.play_model.specs.Acts.{Act, CanAct, CanConduct, with_change, acted}
use Rattle.play_model.specs.Reached.{IsChanging, IsReached}
use Rattle.play_model.proofs.Changes.{change_case, told_order, conducted_is, conducted_in_order, conducted_whole, conducted_emptied, conducted_later, begun_half, IsPortGoing, port_half, port_order, port_later, port_emptied, port_whole}

-- a change goes on while all are Executing
change_keeps : (w : Layout) (p : Play) (l : ℕ) (f : Change → Change) → IsReached w p → l < (w.network).links → p.phase ≡ 2 → w.is_late l ≡ true → IsInOrder (f (p.change l)) →
    (IsHalfChanged (f (p.change l)) → (c : ℕ) → c < (w.network).components → p.stage c ≡ 4) →
    (IsEmptied (f (p.change l)) → made p l ≡ 0) → (HasAllHeaders (f (p.change l)) → made p l ≡ (w.network).count l) → (p.change l).output ≤ (f (p.change l)).output →
    IsReached w (with_change l f p)
change_keeps w p l f R below two late order half emptied whole up = record {
  layout = R.layout;
  phase = R.phase;
  stage = R.stage;
  told = R.told;
  few = R.few;
  first = R.first;
  up = R.up;
  full = λ x y k b. change_case (λ j c. HasAllHeaders c → made p j ≡ (w.network).count j) l f p k (λ _. whole) (λ _. R.full x y k b);
  opening = R.opening;
  sound = R.sound;
  ended = R.ended;
  settled = R.settled;
  home = R.home;
  unmade = R.unmade;
  leaving = R.leaving;
  changes = λ k b. change_case (λ j c. IsChanging w (with_change l f p) j c) l f p k (λ _. here) (λ _. as_before k b);
}
  where
    here : IsChanging w (with_change l f p) l (f (p.change l))
    here =
        let K : IsChanging w p l (p.change l) = R.changes l below in
        record {
          order = order;
          fixed = λ n. absurd (let e : true ≡ false = sym late ∙ n in cc);
          early = λ h. absurd (omega arith);
          over = λ h. absurd (omega arith);
          half = λ h. (two, half h);
          emptied = emptied;
          quiet = λ y h. K.quiet y (omega arith);
        }

    as_before : (k : ℕ) → k < (w.network).links → IsChanging w (with_change l f p) k (p.change k)
    as_before k b =
        let K : IsChanging w p k (p.change k) = R.changes k b in
        record { order = K.order; fixed = K.fixed; early = K.early; over = K.over; half = K.half; emptied = K.emptied; quiet = K.quiet }

-- ---- settings

pub changing_phase : (w : Layout) (p : Play) (l : ℕ) (k : Change) → IsChanging w p l k → w.is_late l ≡ true → 1 ≤ k.step → k.step < 10 → p.phase ≡ 2
changing_phase w p l k K late low high = either (nat_le p.phase 1)
    (λ t. absurd (let z = K.early (leb-true _ _ t) in omega arith))
    (λ f. let a = leb-false _ _ f in either (nat_le p.phase 2)
    (λ t. let b = leb-true _ _ t in omega arith)
    (λ g. absurd (let b = leb-false _ _ g in let c = K.over (omega arith) late in let e = c.0 in omega arith)))

told_keeps : (w : Layout) (p : Play) (l : ℕ) → IsReached w p → l < (w.network).links → w.is_late l ≡ true → p.phase ≡ 2 → (p.change l).step ≤ 1 → IsReached w (with_change l told_on p)
told_keeps w p l R below late two low =
    let K : IsChanging w p l (p.change l) = R.changes l below in
    change_keeps w p l told_on R below two late (told_order (p.change l) K.order low)
    (λ h. absurd (let a = h.0 in omega arith)) K.emptied (R.full (omega arith) (omega arith) l below) (omega arith)

pub announce_phase : (w : Layout) (p : Play) (l : ℕ) → IsReached w p → CanAct w p (Act.Announce l) → p.phase ≡ 2
announce_phase w p l R C = elim C.2 [
  | inl a ↦ a.0
  | inr a ↦ absurd (let three = a.0 in let c = (R.changes l C.0).over (omega arith) C.1 in let e = c.0 in let z = C.3 in omega arith)
]

pub announce_keeps : (w : Layout) (p : Play) (l : ℕ) → IsReached w p → CanAct w p (Act.Announce l) → IsReached w (acted w (Act.Announce l) p)
announce_keeps w p l R C = told_keeps w p l R C.0 C.1 (announce_phase w p l R C) (let e = C.3 in omega arith)

pub tell_settings_keeps : (w : Layout) (p : Play) (l : ℕ) → IsReached w p → CanAct w p (Act.TellSettings l) → IsReached w (acted w (Act.TellSettings l) p)
tell_settings_keeps w p l R C =
    let e = C.3 in
    told_keeps w p l R C.0 C.1 (changing_phase w p l (p.change l) (R.changes l C.0) C.1 (omega arith) (omega arith)) (omega arith)

-- ---- the conductor's acts

conduct_stages : (w : Layout) (p : Play) (l : ℕ) → IsReached w p → CanConduct w p l → (c : ℕ) → c < (w.network).components → p.stage c ≡ 4
conduct_stages w p l R C = either (nat_eq (p.change l).step 2)
    (λ t. (C.next (eqb-true _ _ t)).all)
    (λ f.
    let n = eqb-false _ _ f in
    let low = C.told in
    let K : IsChanging w p l (p.change l) = R.changes l C.below in
    (K.half (begun_half (p.change l) K.order (omega arith) C.more)).1)

pub conduct_keeps : (w : Layout) (p : Play) (l : ℕ) → IsReached w p → CanConduct w p l → IsReached w (acted w (Act.Conduct l) p)
conduct_keeps w p l R C =
    let k : Change = p.change l in
    let K : IsChanging w p l k = R.changes l C.below in
    let low = C.told in
    let two : p.phase ≡ 2 = changing_phase w p l k K C.late (omega arith) C.more in
    change_keeps w p l conducted R C.below two C.late
    (conducted_in_order k (conducted k) K.order (conducted_is k) low C.more C.disabled)
    (λ _. conduct_stages w p l R C)
    (λ h. K.emptied (conducted_emptied k (conducted k) K.order (conducted_is k) h))
    (λ h. R.full (omega arith) (omega arith) l C.below (conducted_whole k (conducted k) K.order (conducted_is k) low C.disabled h))
    (conducted_later k (conducted k) (conducted_is k))

-- ---- a port goes on

port_keeps : (w : Layout) (p : Play) (l : ℕ) (out : Bool) → IsReached w p → l < (w.network).links → w.is_late l ≡ true → IsPortGoing (port_at out (p.change l)) →
    (IsEmptied (port_on out (p.change l)) → made p l ≡ 0) → (HasAllHeaders (port_on out (p.change l)) → made p l ≡ (w.network).count l) → IsReached w (with_change l (port_on out) p)
port_keeps w p l out R below late going emptied whole =
    let k : Change = p.change l in
    let K : IsChanging w p l k = R.changes l below in
    let half = K.half (port_half out k K.order going) in
    change_keeps w p l (port_on out) R below half.0 late (port_order out k K.order going) (λ _. half.1) emptied whole (port_later out k)

same_emptied : (w : Layout) (p : Play) (l : ℕ) (out : Bool) → IsReached w p → l < (w.network).links → port_at out (p.change l) ≢ 2 → port_at out (p.change l) ≢ 4 → IsEmptied (port_on out (p.change l)) → made p l ≡ 0
same_emptied w p l out R b x y h = (R.changes l b).emptied (port_emptied out (p.change l) x y h)

same_whole : (w : Layout) (p : Play) (l : ℕ) (out : Bool) → IsReached w p → l < (w.network).links → IsPortGoing (port_at out (p.change l)) → port_at out (p.change l) ≢ 6 → HasAllHeaders (port_on out (p.change l)) →
    made p l ≡ (w.network).count l
same_whole w p l out R b g y h =
    let half = ((R.changes l b).half (port_half out (p.change l) (R.changes l b).order g)).0 in
    R.full (omega arith) (omega arith) l b (port_whole out (p.change l) (λ e. grind (arith, g, e)) y h)

pub run_port_keeps : (w : Layout) (p : Play) (l : ℕ) (out : Bool) → IsReached w p → CanAct w p (Act.RunPort l out) → IsReached w (acted w (Act.RunPort l out) p)
run_port_keeps w p l out R C =
    let n : ℕ = port_at out (p.change l) in
    let c : HasCommand n = C.2 in
    let going : IsPortGoing n = grind (arith, c) in
    port_keeps w p l out R C.0 C.1 going
    (same_emptied w p l out R C.0 (λ e. grind (arith, c, e)) (λ e. grind (arith, c, e)))
    (same_whole w p l out R C.0 going (λ e. grind (arith, c, e)))

pub tell_port_keeps : (w : Layout) (p : Play) (l : ℕ) (out : Bool) → IsReached w p → CanAct w p (Act.TellPort l out) → IsReached w (acted w (Act.TellPort l out) p)
tell_port_keeps w p l out R C =
    let n : ℕ = port_at out (p.change l) in
    let c : HasCompletion n = C.2 in
    let going : IsPortGoing n = grind (arith, c) in
    port_keeps w p l out R C.0 C.1 going
    (same_emptied w p l out R C.0 (λ e. grind (arith, c, e)) (λ e. grind (arith, c, e)))
    (same_whole w p l out R C.0 going (λ e. grind (arith, c, e)))

pub happen_port_keeps : (w : Layout) (p : Play) (l : ℕ) (out : Bool) → IsReached w p → CanAct w p (Act.HappenPort l out) → IsReached w (acted w (Act.HappenPort l out) p)
happen_port_keeps w p l out R C = elim C.2 [
  | inl down ↦
      let e = down.0 in
      let going : IsPortGoing (port_at out (p.change l)) = inl (omega arith, omega arith) in
      port_keeps w p l out R C.0 C.1 going (λ _. down.1) (same_whole w p l out R C.0 going (λ s. omega arith))
  | inr up ↦
      let e = up.0 in
      port_keeps w p l out R C.0 C.1 (inr (omega arith, omega arith)) (same_emptied w p l out R C.0 (λ s. omega arith) (λ s. omega arith)) (λ _. up.1)
]

-- Closed worlds, and that the close-out leads to one world.
use Rattle.std.proofs.Common.{◌≡◌, ℕ, zero, suc, false, slice_get, Option, Some, None, is_some, refl, sym, ◌∙◌, ap, subst}
use Rattle.il_machine.specs.World.{World}
use Rattle.il_machine.specs.Headers.{seen}
use Rattle.il_machine.specs.Places.{first_place}
use Rattle.il_machine.proofs.Places.{is_first_place, none_at}
use Rattle.il_machine.specs.Due.{Thing, due_in, has_due, Happens, HappenTimes, ClosesTo, IsClosed}
use Rattle.machine_laws.specs.Laws.{NothingDue}

none_of : (o : Option Thing) → is_some o ≡ false → o ≡ None
none_of None h = refl
none_of (Some x) h = absurd cc

pub closed_rests : (w : World) → IsClosed w → NothingDue w
closed_rests w h = λ i c at.
    let n : first_place (has_due (seen w.headers)) w.components ≡ None = sym (is_first_place (has_due (seen w.headers)) w.components) ∙ h in
    none_of (due_in (seen w.headers) c) (none_at (has_due (seen w.headers)) w.components i c n at)

some_is : {A : Type 0} (x y : A) → Some x ≡ Some y → x ≡ y
some_is x y e = cc

-- one thing happens in one way
pub happens_once : (w u v : World) → Happens w u → Happens w v → u ≡ v
happens_once w u v a b =
    let p : a.place ≡ b.place = some_is a.place b.place (sym a.first ∙ b.first) in
    let c : a.component ≡ b.component = some_is a.component b.component (sym a.there ∙ (ap (slice_get w.components) p ∙ b.there)) in
    let t : a.thing ≡ b.thing = some_is a.thing b.thing (sym a.due ∙ (ap (due_in (seen w.headers)) c ∙ b.due)) in
    a.after ∙ (rw (p, c, t) refl ∙ sym b.after)

none_happens : (w v : World) → IsClosed w → Happens w v → ⊥
none_happens w v c h = let e : Some h.place ≡ None = sym h.first ∙ c in cc

-- so many steps from a closed world are none
closed_stays : (n : ℕ) (w v : World) → IsClosed w → HappenTimes n w v → (n ≡ 0) × (v ≡ w)
closed_stays zero w v c h = (refl, h)
closed_stays (suc n) w v c (mid, before, last) =
    let s = closed_stays n w mid c before in
    absurd (none_happens w v c (subst (λ (x : World). Happens x v) s.1 last))

-- the first of many steps
split_first : (n : ℕ) (w v : World) → HappenTimes (suc n) w v → (mid : World) × Happens w mid × HappenTimes n mid v
split_first zero w v (mid, before, last) = (v, subst (λ (x : World). Happens x v) before last, refl)
split_first (suc n) w v (mid, before, last) = let s = split_first n w mid before in (s.0, s.1, (mid, s.2, last))

steps_agree : (n m : ℕ) (w u v : World) → HappenTimes n w u → IsClosed u → HappenTimes m w v → IsClosed v → u ≡ v
steps_agree zero m w u v a c b d = let s = closed_stays m w v (subst IsClosed a c) b in a ∙ sym s.1
steps_agree (suc n) zero w u v a c b d = let s = closed_stays (suc n) w u (subst IsClosed b d) a in s.1 ∙ sym b
steps_agree (suc n) (suc m) w u v a c b d =
    let x = split_first n w u a in
    let y = split_first m w v b in
    let e = happens_once w x.0 y.0 x.1 y.1 in
    steps_agree n m y.0 u v (subst (λ (z : World). HappenTimes n z u) e x.2) c y.2 d

-- The close-out leads from a world to one world alone.
pub closes_once : (w u v : World) → ClosesTo w u → ClosesTo w v → u ≡ v
closes_once w u v a b = steps_agree a.steps b.steps w u v a.by_steps a.closed b.by_steps b.closed

pub closed_closes : (w v : World) → IsClosed w → ClosesTo w v → v ≡ w
closed_closes w v c a = (closed_stays a.steps w v c a.by_steps).1

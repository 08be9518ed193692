-- What a sound world asks of units, of waiting and of streams; how it stays as one component changes, comes or goes.
use Rattle.std.proofs.Common.{◌≡◌, ◌⊎◌, inl, inr, ℕ, zero, suc, ◌+◌, ◌<◌, ◌≤◌, Bool, true, false, not, cond, List, [], ◌∷◌, ◌++◌, map, set, remove, get_or, slice_get, filter, sum_by, Contains, Some, None, refl, sym, ◌∙◌, ap, eq-eqb, ne_eqb, arith, All}
use Rattle.std.proofs.lemmas.Option.{get_or_from_slice_get, slice_get_within}
use Rattle.std.proofs.lemmas.List.Elements.{All-contains}
use Rattle.std.proofs.lemmas.List.Sums.{sum_by-cons, sum_by-set, sum_by-remove, sum_by_push}
use Rattle.il_machine.specs.declared.port.PortState.{PortState}
use Rattle.il_machine.specs.Kinds.{is_late}
use Rattle.il_machine.specs.World.{Component, Stream, Work, World, number_of, is_stream_of}
use Rattle.il_machine.specs.Units.{need_of, is_holder, units_held, is_waiter}
use Rattle.il_machine.specs.Sound.{Sound, IsUnitSound, WaitApart, AreRising, may_work, needs_units}
use Rattle.machine_laws.proofs.Every.{at_place, from_places, at_set, at_push, at_remove}
use Rattle.machine_laws.proofs.Finding.{either}
use Rattle.machine_laws.proofs.Lookups.{rises_at, same_place, rising_remove}
use Rattle.machine_laws.proofs.Works.{KeepsWork, keeps_twice}

-- ---- the resources of a world

pub record Resources (cs : List Component) (ss : List Stream) (waits units : ℕ) : Type 0 where
  pub each : (i : ℕ) (c : Component) → slice_get cs i ≡ Some c → IsUnitSound waits c
  pub enough : units_held cs ≤ units
  pub apart : WaitApart cs
  pub streams : map (λ s. s.component) ss ≡ map number_of cs

pub resources_of : (w : World) → Sound w → Resources w.components w.streams w.waits w.units
resources_of w S = record { each = λ i c e. at_place (IsUnitSound w.waits) w.components i c S.units e; enough = S.enough; apart = S.apart; streams = S.streams }

-- ---- held ports

-- where one of the ports is held, the test is true
abbrev pub AreHeldIf : Bool → List PortState → Type 0
AreHeldIf test ps = All (λ p. p.held ≡ true → test ≡ true) ps

contains_at : (ps : List PortState) (i : ℕ) (p : PortState) → slice_get ps i ≡ Some p → Contains ps p
contains_at ps i p e = (i, slice_get_within ps i p e, get_or_from_slice_get ps i p p e)

pub held_if : (waits : ℕ) (c : Component) → IsUnitSound waits c → AreHeldIf (is_late c.settings.kind) c.ports
held_if waits c U = from_places (λ p. p.held ≡ true → is_late c.settings.kind ≡ true) c.ports (λ i p e. U.held p (contains_at c.ports i p e))

pub if_held : (test : Bool) (ps : List PortState) → AreHeldIf test ps → (p : PortState) → Contains ps p → p.held ≡ true → test ≡ true
if_held test ps A p m = All-contains (λ q. q.held ≡ true → test ≡ true) ps p A m

pub held_set : (test : Bool) (ps : List PortState) (k : ℕ) (new old : PortState) → slice_get ps k ≡ Some old → (new.held ≡ true → old.held ≡ true) → AreHeldIf test ps → AreHeldIf test (set ps k new)
held_set test ps k new old e h A = from_places (λ p. p.held ≡ true → test ≡ true) (set ps k new) (λ i p f. elim (at_set ps k i new p f) [
  | inl s ↦ λ t. at_place (λ q. q.held ≡ true → test ≡ true) ps k old A e (h (ap (λ (q : PortState). q.held) (sym s.1) ∙ t))
  | inr s ↦ at_place (λ q. q.held ≡ true → test ≡ true) ps i p A s.1
])

-- ---- one component changes

-- Neither its state nor what it holds and waits for changes, nor its part and its work.
pub record IsAside (c d : Component) : Type 0 where
  pub keeps : KeepsWork c d
  pub state : d.state ≡ c.state
  pub pending : d.pending ≡ c.pending
  pub holds : d.holds ≡ c.holds
  pub waiting : d.waiting ≡ c.waiting
  pub part : d.part ≡ c.part
  pub held : (test : Bool) → AreHeldIf test c.ports → AreHeldIf test d.ports

pub aside_none : (c : Component) → IsAside c c
aside_none c = record { keeps = record { kind = refl; weights = refl; count = refl; work = refl }; state = refl; pending = refl; holds = refl; waiting = refl; part = refl; held = λ test h. h }

pub aside_twice : (c d e : Component) → IsAside c d → IsAside d e → IsAside c e
aside_twice c d e C D = record {
  keeps = keeps_twice c d e C.keeps D.keeps;
  state = D.state ∙ C.state;
  pending = D.pending ∙ C.pending;
  holds = D.holds ∙ C.holds;
  waiting = D.waiting ∙ C.waiting;
  part = D.part ∙ C.part;
  held = λ test h. D.held test (C.held test h);
}

pub units_aside : (waits : ℕ) (c d : Component) → IsAside c d → IsUnitSound waits c → IsUnitSound waits d
units_aside waits c d A U = record {
  holds = λ h. let g : needs_units c ≡ true = rw (A.state, A.pending) at h in rw A.holds (U.holds g);
  gives = λ h. rw (A.state, A.pending) (U.gives (sym A.holds ∙ h));
  waiting = λ h. let g : is_waiter c ≡ true = rw (A.state, A.pending) at h in rw A.waiting (U.waiting g);
  numbered = λ n e. rw A.state (U.numbered n (sym A.waiting ∙ e));
  way = λ p e. rw (A.state, A.waiting) (U.way p (sym A.pending ∙ e));
  held = rw (A.keeps).kind (if_held (is_late c.settings.kind) d.ports (A.held (is_late c.settings.kind) (held_if waits c U)));
  inputs = rw (A.part, (A.keeps).kind) U.inputs;
}

-- the units that it holds
abbrev pub held_by : Component → ℕ
held_by c = cond c.holds (need_of c) 0

pub held_fewer : (c d : Component) → d.settings.kind ≡ c.settings.kind → (d.holds ≡ true → c.holds ≡ true) → held_by d ≤ held_by c + 0
held_fewer c d k h = either d.holds (λ t. rw (t, h t, k) (omega arith)) (λ f. rw f (omega arith))

-- The change keeps what a sound world asks. The component takes no more units than are spare, and a waiting number that it gets is the next.
pub record IsFair (spare waits after : ℕ) (c d : Component) : Type 0 where
  pub keeps : KeepsWork c d
  pub stays : (work : Work) → c.work ≡ Some work → may_work d ≡ true
  pub taken : held_by d ≤ held_by c + spare
  pub waiting : (n : ℕ) → d.waiting ≡ Some n → (c.waiting ≡ Some n) ⊎ (n ≡ waits)
  pub units : IsUnitSound after d

pub fair_aside : (waits : ℕ) (c d : Component) → IsAside c d → IsUnitSound waits c → ((work : Work) → c.work ≡ Some work → may_work c ≡ true) → IsFair 0 waits waits c d
fair_aside waits c d A U m = record {
  keeps = A.keeps;
  stays = λ work e. rw A.state (m work e);
  taken = held_fewer c d (A.keeps).kind (λ h. sym A.holds ∙ h);
  waiting = λ n e. inl (sym A.waiting ∙ e);
  units = units_aside waits c d A U;
}

-- where more is spare
pub fair_more : (spare waits after : ℕ) (c d : Component) → IsFair 0 waits after c d → IsFair spare waits after c d
fair_more spare waits after c d F = record { keeps = F.keeps; stays = F.stays; taken = omega (arith, F.taken); waiting = F.waiting; units = F.units }

pub units_later : (waits after : ℕ) (c : Component) → waits ≤ after → IsUnitSound waits c → IsUnitSound after c
units_later waits after c l U = record {
  holds = U.holds;
  gives = U.gives;
  waiting = U.waiting;
  numbered = λ n e. let b = U.numbered n e in (omega (arith, b.0), b.1);
  way = U.way;
  held = U.held;
  inputs = U.inputs;
}

-- ---- the units that are held

pub of_filtered : (f : Component → ℕ) (c : Component) (b : Bool) (xs : List Component) (n : ℕ) → sum_by f xs ≡ n → sum_by f (cond b (c ∷ xs) xs) ≡ cond b (f c) 0 + n
of_filtered f c true xs n e = let s = sum_by-cons f c xs in omega arith
of_filtered f c false xs n e = let z : 0 + n ≡ n = omega arith in e ∙ sym z

pub held_is : (cs : List Component) → units_held cs ≡ sum_by held_by cs
held_is [] = refl
held_is (c ∷ cs) = of_filtered need_of c c.holds (filter is_holder cs) (sum_by held_by cs) (held_is cs) ∙ sym (sum_by-cons held_by c cs)

enough_set : (spare i units : ℕ) (cs : List Component) (c d : Component) → slice_get cs i ≡ Some c → held_by d ≤ held_by c + spare → units_held cs + spare ≤ units → units_held (set cs i d) ≤ units
enough_set spare i units cs c d t f l =
    let a = held_is cs in
    let b = held_is (set cs i d) in
    let s = sum_by-set held_by cs i d c (slice_get_within cs i c t) in
    let o : held_by (get_or cs i c) ≡ held_by c = ap held_by (get_or_from_slice_get cs i c c t) in
    omega arith

-- ---- all of them, after one component changed

apart_set : (waits i : ℕ) (cs : List Component) (c d : Component) → slice_get cs i ≡ Some c → ((j : ℕ) (x : Component) → slice_get cs j ≡ Some x → IsUnitSound waits x)
    → ((n : ℕ) → d.waiting ≡ Some n → (c.waiting ≡ Some n) ⊎ (n ≡ waits)) → WaitApart cs → WaitApart (set cs i d)
apart_set waits i cs c d t each h A = λ j k n x y e f p q. elim (at_set cs i j d x e) [
  | inl a ↦ elim (at_set cs i k d y f) [
    | inl b ↦ a.0 ∙ sym b.0
    | inr b ↦ absurd (b.0 (sym (clash k n y b.1 q (ap (λ (z : Component). z.waiting) (sym a.1) ∙ p))))
  ]
  | inr a ↦ elim (at_set cs i k d y f) [
    | inl b ↦ absurd (a.0 (sym (clash j n x a.1 p (ap (λ (z : Component). z.waiting) (sym b.1) ∙ q))))
    | inr b ↦ A j k n x y a.1 b.1 p q
  ]
]
  where
    -- another component doesn't wait with the number of the new one
    clash : (k n : ℕ) (y : Component) → slice_get cs k ≡ Some y → y.waiting ≡ Some n → d.waiting ≡ Some n → i ≡ k
    clash k n y f q p = elim (h n p) [ inl s ↦ A i k n c y t f s q | inr s ↦ let b = ((each k y f).numbered n q).0 in absurd (omega arith) ]

numbers_set : (i : ℕ) (cs : List Component) (c d : Component) → slice_get cs i ≡ Some c → number_of d ≡ number_of c → map number_of (set cs i d) ≡ map number_of cs
numbers_set i [] c d t n = absurd cc
numbers_set zero (x ∷ cs) c d t n = let s : x ≡ c = cc in let m : number_of d ≡ number_of x = n ∙ sym (ap number_of s) in cc
numbers_set (suc i) (x ∷ cs) c d t n = let r = numbers_set i cs c d t n in cc

pub resources_set : (spare waits after units i : ℕ) (cs : List Component) (ss : List Stream) (c d : Component) → waits ≤ after → slice_get cs i ≡ Some c → number_of d ≡ number_of c → units_held cs + spare ≤ units → IsFair spare waits after c d
    → Resources cs ss waits units → Resources (set cs i d) ss after units
resources_set spare waits after units i cs ss c d l t n u F R = record {
  each = λ j x e. elim (at_set cs i j d x e) [ inl s ↦ rw s.1 F.units | inr s ↦ units_later waits after x l (R.each j x s.1) ];
  enough = enough_set spare i units cs c d t F.taken u;
  apart = apart_set waits i cs c d t R.each F.waiting R.apart;
  streams = R.streams ∙ sym (numbers_set i cs c d t n);
}

-- the component holds no other units, and waits as before
pub resources_as : (waits units i : ℕ) (cs : List Component) (ss : List Stream) (c d : Component) → slice_get cs i ≡ Some c → number_of d ≡ number_of c → held_by d ≡ held_by c → d.waiting ≡ c.waiting → IsUnitSound waits d
    → Resources cs ss waits units → Resources (set cs i d) ss waits units
resources_as waits units i cs ss c d t n h w U R = record {
  each = λ j x e. elim (at_set cs i j d x e) [ inl s ↦ rw s.1 U | inr s ↦ R.each j x s.1 ];
  enough = enough_set 0 i units cs c d t (omega arith) (omega (arith, R.enough));
  apart = apart_set waits i cs c d t R.each (λ m e. inl (sym w ∙ e)) R.apart;
  streams = R.streams ∙ sym (numbers_set i cs c d t n);
}

-- ---- one component more

map_push : {X : Type 0} (f : X → ℕ) (xs : List X) (x : X) → map f (xs ++ x ∷ []) ≡ map f xs ++ f x ∷ []
map_push f [] x = refl
map_push f (y ∷ xs) x = ap (λ (l : List ℕ). f y ∷ l) (map_push f xs x)

pub resources_push : (waits units : ℕ) (cs : List Component) (ss : List Stream) (c : Component) (s : Stream) → s.component ≡ number_of c → IsUnitSound waits c → c.holds ≡ false → c.waiting ≡ None
    → Resources cs ss waits units → Resources (cs ++ c ∷ []) (ss ++ s ∷ []) waits units
resources_push waits units cs ss c s n U h z R = record {
  each = λ j x e. elim (at_push cs j c x e) [ inl a ↦ R.each j x a | inr a ↦ rw a U ];
  enough =
      let a = held_is cs in
      let b = held_is (cs ++ c ∷ []) in
      let p = sum_by_push held_by cs c in
      let f : held_by c ≡ 0 = rw h refl in
      omega (arith, R.enough);
  apart = λ j k n x y e f p q. elim (at_push cs j c x e) [
    | inl a ↦ elim (at_push cs k c y f) [
      | inl b ↦ R.apart j k n x y a b p q
      | inr b ↦ let w : y.waiting ≡ None = ap (λ (v : Component). v.waiting) b ∙ z in absurd cc
    ]
    | inr a ↦ let w : x.waiting ≡ None = ap (λ (v : Component). v.waiting) a ∙ z in absurd cc
  ];
  streams = map_push (λ x. x.component) ss s ∙ (rw (R.streams, n) (sym (map_push number_of cs c)));
}

-- ---- one component less

streams_stay : (k from next : ℕ) (cs : List Component) (ss : List Stream) → k < from → AreRising from cs next → map (λ s. s.component) ss ≡ map number_of cs
    → map (λ s. s.component) (filter (λ s. not (is_stream_of k s)) ss) ≡ map number_of cs
streams_stay k from next [] [] l R e = refl
streams_stay k from next [] (s ∷ ss) l R e = absurd cc
streams_stay k from next (x ∷ cs) [] l R e = absurd cc
streams_stay k from next (x ∷ cs) (s ∷ ss) l R e =
    let h : s.component ≡ number_of x = cc in
    let t : map (λ s. s.component) ss ≡ map number_of cs = cc in
    let f : is_stream_of k s ≡ false = ne_eqb s.component k (λ n. omega (arith, R.0)) in
    let i = streams_stay k (suc (number_of x)) next cs ss (omega (arith, R.0)) R.1 t in
    rw f cc

stream_leaves : (from next i : ℕ) (cs : List Component) (ss : List Stream) (c : Component) → AreRising from cs next → slice_get cs i ≡ Some c → map (λ s. s.component) ss ≡ map number_of cs
    → map (λ s. s.component) (filter (λ s. not (is_stream_of (number_of c) s)) ss) ≡ map number_of (remove cs i)
stream_leaves from next i [] ss c R t e = absurd cc
stream_leaves from next i (x ∷ cs) [] c R t e = absurd cc
stream_leaves from next zero (x ∷ cs) (s ∷ ss) c R t e =
    let o : x ≡ c = cc in
    let h : s.component ≡ number_of c = cc in
    let r : map (λ s. s.component) ss ≡ map number_of cs = cc in
    let f : is_stream_of (number_of c) s ≡ true = eq-eqb s.component (number_of c) h in
    let n : number_of x ≡ number_of c = ap number_of o in
    rw f (streams_stay (number_of c) (suc (number_of x)) next cs ss (omega arith) R.1 r)
stream_leaves from next (suc i) (x ∷ cs) (s ∷ ss) c R t e =
    let h : s.component ≡ number_of x = cc in
    let r : map (λ s. s.component) ss ≡ map number_of cs = cc in
    let b = rises_at (suc (number_of x)) next i cs c R.1 t in
    let f : is_stream_of (number_of c) s ≡ false = ne_eqb s.component (number_of c) (λ n. omega (arith, b.0)) in
    let i = stream_leaves (suc (number_of x)) next i cs ss c R.1 t r in
    rw f cc

enough_remove : (i units : ℕ) (cs : List Component) (c : Component) → slice_get cs i ≡ Some c → units_held cs ≤ units → units_held (remove cs i) ≤ units
enough_remove i units cs c t l =
    let a = held_is cs in
    let b = held_is (remove cs i) in
    let s = sum_by-remove held_by cs i c (slice_get_within cs i c t) in
    omega arith

pub resources_remove : (waits units numbered i : ℕ) (cs : List Component) (ss : List Stream) (c : Component) → AreRising 0 cs numbered → slice_get cs i ≡ Some c → Resources cs ss waits units
    → Resources (remove cs i) (filter (λ s. not (is_stream_of (number_of c) s)) ss) waits units
resources_remove waits units numbered i cs ss c L t R = record {
  each = λ j x e. let a = at_remove cs i j x e in R.each a.0 x a.2;
  enough = enough_remove i units cs c t R.enough;
  apart = λ j k n x y e f p q.
      let a = at_remove cs i j x e in
      let b = at_remove cs i k y f in
      let s = R.apart a.0 b.0 n x y a.2 b.2 p q in
      let same : Some x ≡ Some y = sym a.2 ∙ (ap (slice_get cs) s ∙ b.2) in
      let o : x ≡ y = cc in
      same_place 0 numbered j k (remove cs i) x y (rising_remove 0 numbered i cs L) e f (ap number_of o);
  streams = stream_leaves 0 numbered i cs ss c L t R.streams;
}

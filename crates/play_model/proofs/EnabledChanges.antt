-- A change that was begun goes on; one that wasn't waits for its late source, a note or the conductor.
use Rattle.std.proofs.Common.{◌≡◌, ◌≢◌, ◌⊎◌, inl, inr, ℕ, ◌<◌, ◌≤◌, Bool, true, false, not, ◌&&◌, nat_eq, nat_le, refl, ap, eqb-true, arith}
use Rattle.std.proofs.lemmas.Bool.{eqb-false, leb-true, leb-false}
use Rattle.play_model.specs.Network.{LinkState}
use Rattle.play_model.specs.Progress.{IsLinkOf}
use Rattle.play_model.proofs.Queues.{either, both}
use Rattle.play_model.proofs.Stuck.{sought, and_true, not_true}
use Rattle.play_model.specs.Changes.{Change, port_at, IsChanged, IsHalfChanged, IsSteadyPort, HasCommand, HasCompletion, IsInOrder, HasAllHeaders}
use Rattle.play_model.specs.Play.{Layout, Play, made, supplier, other_component, IsRunning, IsUnbroken}
use Rattle.play_model.specs.Acts.{Act, CanAct, ArePorts}
use Rattle.play_model.specs.Reached.{IsChanging, IsReached, IsAwaitedAt}
use Rattle.play_model.proofs.LinkEnds.{supplier_links, other_links, end_inside}
use Rattle.play_model.proofs.Settled.{is_settled, settled_of, unsettled, home_of}
use Rattle.play_model.proofs.ChangesKept.{unsent, steady_unsent, steady_told}

abbrev pub SomeAct : Layout → Play → Type 0
SomeAct w p = (a : Act) × CanAct w p a

-- ---- where a link is half changed

both_ports : (out : Bool) (k : Change) (n : ℕ) → k.output ≡ n → k.input ≡ n → port_at out k ≡ n
both_ports true k n a b = a
both_ports false k n a b = b

-- both ports are Disabling and a header is made: it is unmade where it is at home, or else comes back
disabling_goes : (w : Layout) (p : Play) (l : ℕ) → IsReached w p → p.phase ≡ 2 → ((c : ℕ) → c < (w.network).components → p.stage c ≡ 4) → l < (w.network).links →
    (p.change l).output ≡ 2 → (p.change l).input ≡ 2 → 0 < made p l → SomeAct w p
disabling_goes w p l R two all below o i some =
    let out : Bool = w.by_output l in
    let x : LinkState = (p.flow).link l in
    either (is_settled out x)
    (λ t. (Act.Release l, (below, inr (both_ports out (p.change l) 2 o i), home_of out x (settled_of out x t) some)))
    (λ f. elim (unsettled out x f) [
      | inl done ↦
          let d : ℕ = other_component w l in
          let inside : d < (w.network).components = end_inside w R.layout d l (other_links w l below) in
          (Act.HandBack l, (below, inl (two, let s = all d inside in omega arith), done))
      | inr unused ↦ (Act.HandUnused l, (below, inr (both_ports (not out) (p.change l) 2 o i), unused))
    ])

-- a port at which a command is queued, or a completion
port_acts : (w : Layout) (p : Play) (l : ℕ) (out : Bool) → l < (w.network).links → w.is_late l ≡ true → HasCommand (port_at out (p.change l)) ⊎ HasCompletion (port_at out (p.change l)) → SomeAct w p
port_acts w p l out b t (inl c) = (Act.RunPort l out, (b, t, c))
port_acts w p l out b t (inr c) = (Act.TellPort l out, (b, t, c))

-- a port at which neither is queued waits for headers or for the conductor
going_or_waits : (n : ℕ) → 1 ≤ n → n ≤ 8 → (HasCommand n ⊎ HasCompletion n) ⊎ ((n ≡ 2) ⊎ (n ≡ 4) ⊎ (n ≡ 6) ⊎ (n ≡ 8))
going_or_waits n low high =
    either (nat_eq n 1) (λ t. inl (inl (inl (eqb-true _ _ t)))) (λ f1.
    either (nat_eq n 3) (λ t. inl (inr (inl (eqb-true _ _ t)))) (λ f3.
    either (nat_eq n 5) (λ t. inl (inl (inr (eqb-true _ _ t)))) (λ f5.
    either (nat_eq n 7) (λ t. inl (inr (inr (eqb-true _ _ t)))) (λ f7.
    either (nat_eq n 2) (λ t. inr (inl (eqb-true _ _ t))) (λ f2.
    either (nat_eq n 4) (λ t. inr (inr (inl (eqb-true _ _ t)))) (λ f4.
    either (nat_eq n 6) (λ t. inr (inr (inr (inl (eqb-true _ _ t))))) (λ f6.
    let d1 = eqb-false _ _ f1 in let d3 = eqb-false _ _ f3 in let d5 = eqb-false _ _ f5 in let d7 = eqb-false _ _ f7 in
    let d2 = eqb-false _ _ f2 in let d4 = eqb-false _ _ f4 in let d6 = eqb-false _ _ f6 in
    inr (inr (inr (inr (omega arith)))))))))))

disable_goes : (w : Layout) (p : Play) (l : ℕ) → IsReached w p → p.phase ≡ 2 → ((c : ℕ) → c < (w.network).components → p.stage c ≡ 4) → l < (w.network).links → w.is_late l ≡ true →
    (p.change l).step ≡ 4 → ((p.change l).output ≡ 2) ⊎ ((p.change l).output ≡ 4) → ((p.change l).input ≡ 2) ⊎ ((p.change l).input ≡ 4) → SomeAct w p
disable_goes w p l R two all b t e (inr o) (inr i) = (
  Act.Conduct l,
  record {
    below = b;
    late = t;
    told = omega arith;
    more = omega arith;
    next = λ q. absurd (omega arith);
    disabled = λ _. (o, i);
  },
)
disable_goes w p l R two all b t e (inl o) (inr i) = (Act.HappenPort l true, (b, t, inl (o, (R.changes l b).emptied (inr (omega arith, omega arith)))))
disable_goes w p l R two all b t e (inr o) (inl i) = (Act.HappenPort l false, (b, t, inl (i, (R.changes l b).emptied (inl (omega arith, omega arith)))))
disable_goes w p l R two all b t e (inl o) (inl i) = either (nat_eq (made p l) 0)
    (λ z. (Act.HappenPort l true, (b, t, inl (o, eqb-true _ _ z))))
    (λ f. let d = eqb-false _ _ f in disabling_goes w p l R two all b o i (omega arith))

enable_goes : (w : Layout) (p : Play) (l : ℕ) → IsReached w p → p.phase ≡ 2 → ((c : ℕ) → c < (w.network).components → p.stage c ≡ 4) → l < (w.network).links → w.is_late l ≡ true →
    IsHalfChanged (p.change l) → ((p.change l).output ≡ 6) ⊎ ((p.change l).output ≡ 8) → ((p.change l).input ≡ 6) ⊎ ((p.change l).input ≡ 8) → SomeAct w p
enable_goes w p l R two all b t h (inr o) (inr i) = absurd (elim h.1 [ inl x ↦ omega arith | inr x ↦ omega arith ])
enable_goes w p l R two all b t h (inl o) (inr i) = (Act.HappenPort l true, (b, t, inr (o, R.full (omega arith) (omega arith) l b (inr (inr (omega arith))))))
enable_goes w p l R two all b t h (inr o) (inl i) = (Act.HappenPort l false, (b, t, inr (i, R.full (omega arith) (omega arith) l b (inr (inl (omega arith))))))
enable_goes w p l R two all b t h (inl o) (inl i) = either (nat_eq (made p l) ((w.network).count l))
    (λ z. (Act.HappenPort l true, (b, t, inr (o, eqb-true _ _ z))))
    (λ f.
    let d = eqb-false _ _ f in
    let few = R.few l b in
    let up : (c : ℕ) → IsLinkOf w.network c l → p.stage c ≢ 2 = λ c I q. (let a = all c (end_inside w R.layout c l I) in omega arith) in
    (Act.Supply l, (b, inr (inl (two, up (supplier w l) (supplier_links w l b))), inr (inl (two, up (other_component w l) (other_links w l b))), omega arith, (inr (omega arith), inr (omega arith)))))

pub change_goes : (w : Layout) (p : Play) (l : ℕ) → IsReached w p → l < (w.network).links → w.is_late l ≡ true → IsHalfChanged (p.change l) → SomeAct w p
change_goes w p l R b t h =
    let k : Change = p.change l in
    let K : IsChanging w p l k = R.changes l b in
    let O : IsInOrder k = K.order in
    let two : p.phase ≡ 2 = (K.half h).0 in
    let all = (K.half h).1 in
    let low = h.0 in
    let most = O.steps in
    let out_most = O.outputs in
    let in_most = O.inputs in
    let out_least : 1 ≤ k.output = O.output_disabled low in
    either (nat_eq k.step 4)
    (λ y.
    let e : k.step ≡ 4 = eqb-true _ _ y in
    let in_least = O.input_disabled (omega arith) in
    let out_few = O.output_waits (omega arith) in
    let in_few = O.input_waits (omega arith) in
    elim (going_or_waits k.output out_least out_most) [
      | inl g ↦ port_acts w p l true b t g
      | inr o ↦ elim (going_or_waits k.input in_least in_most) [
        | inl g ↦ port_acts w p l false b t g
        | inr i ↦ disable_goes w p l R two all b t e (first_two k.output o out_few) (first_two k.input i in_few)
      ]
    ])
    (λ n. let n4 = eqb-false _ _ n in
    either (nat_eq k.step 10)
    (λ y.
    let e : k.step ≡ 10 = eqb-true _ _ y in
    let out_five = O.output_enabled (omega arith) in
    let in_five = O.input_enabled (omega arith) in
    elim (going_or_waits k.output out_least out_most) [
      | inl g ↦ port_acts w p l true b t g
      | inr o ↦ elim (going_or_waits k.input (omega arith) in_most) [
        | inl g ↦ port_acts w p l false b t g
        | inr i ↦ enable_goes w p l R two all b t h (last_two k.output o out_five) (last_two k.input i in_five)
      ]
    ])
    (λ m. let n10 = eqb-false _ _ m in (
      Act.Conduct l,
      record {
        below = b;
        late = t;
        told = omega arith;
        more = omega arith;
        next = λ q. absurd (omega arith);
        disabled = λ q. absurd (n4 q);
      },
    )))
  where
    first_two : (n : ℕ) → (n ≡ 2) ⊎ (n ≡ 4) ⊎ (n ≡ 6) ⊎ (n ≡ 8) → n ≤ 4 → (n ≡ 2) ⊎ (n ≡ 4)
    first_two n (inl e) few = inl e
    first_two n (inr (inl e)) few = inr e
    first_two n (inr (inr (inl e))) few = absurd (omega arith)
    first_two n (inr (inr (inr e))) few = absurd (omega arith)

    last_two : (n : ℕ) → (n ≡ 2) ⊎ (n ≡ 4) ⊎ (n ≡ 6) ⊎ (n ≡ 8) → 5 ≤ n → (n ≡ 6) ⊎ (n ≡ 8)
    last_two n (inl e) many = absurd (omega arith)
    last_two n (inr (inl e)) many = absurd (omega arith)
    last_two n (inr (inr (inl e))) many = inl e
    last_two n (inr (inr (inr e))) many = inr e

-- ---- no link is half changed, or one is

abbrev is_half : Layout → Play → ℕ → Bool
is_half w p l = w.is_late l && (nat_le 3 (p.change l).step && not (nat_eq (p.change l).output 8 && nat_eq (p.change l).input 8))

half_of : (k : Change) → (nat_le 3 k.step && not (nat_eq k.output 8 && nat_eq k.input 8)) ≡ true → IsInOrder k → IsHalfChanged k
half_of k e O =
    let a = and_true (nat_le 3 k.step) (not (nat_eq k.output 8 && nat_eq k.input 8)) e in
    let n : (nat_eq k.output 8 && nat_eq k.input 8) ≡ false = not_true _ a.1 in
    let o = O.outputs in
    let i = O.inputs in (
      leb-true _ _ a.0,
      either (nat_eq k.output 8)
          (λ t. let m : nat_eq k.input 8 ≡ false = rw t at n in let d = eqb-false _ _ m in inr (omega arith))
          (λ f. let d = eqb-false _ _ f in inl (omega arith)),
    )

unbroken_of : (k : Change) → (nat_le 3 k.step && not (nat_eq k.output 8 && nat_eq k.input 8)) ≡ false → IsInOrder k → (k.step ≤ 2) ⊎ IsChanged k
unbroken_of k e O = either (nat_le 3 k.step)
    (λ t.
    let n : not (nat_eq k.output 8 && nat_eq k.input 8) ≡ false = rw t at e in
    let a = and_true (nat_eq k.output 8) (nat_eq k.input 8) (either (nat_eq k.output 8 && nat_eq k.input 8) (λ y. y) (λ z. both (not (nat_eq k.output 8 && nat_eq k.input 8)) (ap not z) n)) in
    let i : k.input ≡ 8 = eqb-true _ _ a.1 in
    let most = O.steps in
    let last : 10 ≤ k.step = either (nat_le k.step 9) (λ y. absurd (let l = O.input_waits (leb-true _ _ y) in omega arith)) (λ z. let l = leb-false _ _ z in omega arith) in
    inr (omega arith, eqb-true _ _ a.0, i))
    (λ f. let l = leb-false _ _ f in inl (omega arith))

pub half_or_unbroken : (w : Layout) (p : Play) → IsReached w p → SomeAct w p ⊎ IsUnbroken w p
half_or_unbroken w p R = elim (sought (is_half w p) (w.network).links) [
  | inl f ↦
      let l : ℕ = f.at in
      let a = and_true (w.is_late l) (nat_le 3 (p.change l).step && not (nat_eq (p.change l).output 8 && nat_eq (p.change l).input 8)) f.is in
      inl (change_goes w p l R f.below a.0 (half_of (p.change l) a.1 (R.changes l f.below).order))
  | inr none ↦ inr (λ l b t. unbroken_of (p.change l) (let n : is_half w p l ≡ false = none l b in rw t at n) (R.changes l b).order)
]

-- ---- a link that isn't changed

-- the conductor can begin its change
next_goes : (w : Layout) (p : Play) (l : ℕ) → p.phase ≡ 2 → ((c : ℕ) → c < (w.network).components → p.stage c ≡ 4) → IsUnbroken w p → l < (w.network).links → w.is_late l ≡ true → (p.change l).step ≡ 2 →
    (a : Act) × IsAwaitedAt l a × CanAct w p a
next_goes w p l two all unbroken b t e = (
  Act.Conduct l,
  tt,
  record {
    below = b;
    late = t;
    told = omega arith;
    more = omega arith;
    next = λ _. record { phase = two; all = all; unbroken = unbroken };
    disabled = λ q. absurd (omega arith);
  },
)

running_two : (w : Layout) (p : Play) (l : ℕ) → IsReached w p → ((k : ℕ) → k < (w.network).components → IsRunning p k) → l < (w.network).links → w.is_late l ≡ true → (p.change l).step ≤ 2 → p.phase ≡ 2
running_two w p l R A b t low = elim (A ((w.network).giver l) (end_inside w R.layout ((w.network).giver l) l (inr (record { below = b; given_by = refl })))) [
  | inl a ↦ a.0
  | inr a ↦ absurd (let three = a.0 in let c = (R.changes l b).over (omega arith) t in let e = c.0 in omega arith)
]

-- the late source of a link that isn't changed can announce, or a note can be told, or a change can be begun
pub awaits : (w : Layout) (p : Play) (l : ℕ) → IsReached w p → ((k : ℕ) → k < (w.network).components → IsRunning p k) → IsUnbroken w p → l < (w.network).links → w.is_late l ≡ true → (p.change l).step ≤ 2 →
    (a : Act) × IsAwaitedAt l a × CanAct w p a
awaits w p l R A unbroken b t low =
    let g : ℕ = (w.network).giver l in
    let inside : g < (w.network).components = end_inside w R.layout g l (inr (record { below = b; given_by = refl })) in
    let two : p.phase ≡ 2 = running_two w p l R A b t low in
    either (nat_eq (p.change l).step 0)
    (λ y. (Act.Announce l, refl, (b, t, A g inside, eqb-true _ _ y)))
    (λ n0. let d0 = eqb-false _ _ n0 in
    either (nat_eq (p.change l).step 1)
    (λ y. either (nat_eq (p.stage g) 3)
    (λ z. (Act.Tell g, tt, (inside, eqb-true _ _ z)))
    (λ z. (Act.TellSettings l, tt, (b, t, eqb-false _ _ z, eqb-true _ _ y))))
    (λ n1. let d1 = eqb-false _ _ n1 in
    elim (sought (λ c. nat_eq (p.stage c) 3) (w.network).components) [
      | inl f ↦ (Act.Tell f.at, tt, (f.below, eqb-true _ _ f.is))
      | inr none ↦ next_goes w p l two (λ c d.
          let n = eqb-false _ _ (none c d) in
          let most = R.stage c d in
          elim (A c d) [ inl a ↦ (let s = a.1 in omega arith) | inr a ↦ absurd (let three = a.0 in omega arith) ]) unbroken b t (omega arith)
    ]))

-- ---- a link that is changed, or isn't a late source's

abbrev pub IsFree : Layout → Play → ℕ → Type 0
IsFree w p l = (w.is_late l ≡ false) ⊎ IsChanged (p.change l)

pub free_whole : (w : Layout) (p : Play) (l : ℕ) → IsChanging w p l (p.change l) → IsFree w p l → HasAllHeaders (p.change l)
free_whole w p l K (inl f) = let z = K.fixed f in let u = unsent w p l (p.change l) K (omega arith) in let a = u.0 in let b = u.1 in inl (omega arith, omega arith)
free_whole w p l K (inr c) = inr (inl (let e = c.1 in omega arith))

pub free_steady : (w : Layout) (p : Play) (l : ℕ) → IsChanging w p l (p.change l) → IsFree w p l → ArePorts IsSteadyPort (p.change l)
free_steady w p l K (inl f) = let z = K.fixed f in let u = unsent w p l (p.change l) K (omega arith) in (steady_unsent _ u.0, steady_unsent _ u.1)
free_steady w p l K (inr c) = (steady_told _ c.1, steady_told _ c.2)

pub free_ports : (w : Layout) (p : Play) (l : ℕ) → IsFree w p l → w.is_late l ≡ true → (7 ≤ (p.change l).output) × (7 ≤ (p.change l).input)
free_ports w p l (inl f) t = both (w.is_late l) t f
free_ports w p l (inr c) t = let a = c.1 in let b = c.2 in (omega arith, omega arith)

pub unbroken_free : (w : Layout) (p : Play) (l : ℕ) → IsUnbroken w p → l < (w.network).links → (w.is_late l && nat_le (p.change l).step 2) ≡ false → IsFree w p l
unbroken_free w p l unbroken b e = either (w.is_late l)
    (λ t. elim (unbroken l b t) [
      | inl low ↦ let n : nat_le (p.change l).step 2 ≡ false = rw t at e in absurd (let h = leb-false _ _ n in omega arith)
      | inr c ↦ inr c
    ])
    (λ f. inl f)

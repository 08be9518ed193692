-- In a sound flow the first of the components with the fewest frames done can go on, or a header of one of its links can.
use Rattle.std.proofs.Common.{◌≡◌, ◌⊎◌, inl, inr, ℕ, zero, suc, ◌+◌, ◌<◌, ◌≤◌, Bool, true, false, not, ◌&&◌, nat_eq, nat_le, List, [], ◌∷◌, length, refl, sym, ◌∙◌, ap, eqb-true, eq-eqb, arith}
use Rattle.std.proofs.lemmas.Bool.{leb-true, leb-false, eqb-false}
use Rattle.play_model.specs.Network.{Network, IsNetwork, IsInput, IsOutput, Filled, Flow, queue, frames_in, headers_of}
use Rattle.play_model.specs.Moves.{IsFront, IsOpen, CanForward, CanBack}
use Rattle.play_model.specs.Account.{EndsWith, AreFilled, HasAccount, IsSound, HasFullOutputs}
use Rattle.play_model.specs.Progress.{IsFirst, IsEnabled, AllEnded}
use Rattle.play_model.proofs.Queues.{either, both, front_frames}

-- ---- a search below a number

pub record Found (P : ℕ → Bool) (k : ℕ) : Type 0 where
  pub at : ℕ
  pub below : at < k
  pub is : P at ≡ true

pub sought : (P : ℕ → Bool) (k : ℕ) → Found P k ⊎ ((l : ℕ) → l < k → P l ≡ false)
sought P zero = inr (λ l b. absurd (omega (arith, b)))
sought P (suc k) = elim (sought P k) [
  | inl w ↦ inl (record { at = w.at; below = let b = w.below in omega arith; is = w.is })
  | inr none ↦ either (P k)
      (λ t. inl (record { at = k; below = omega arith; is = t }))
      (λ f. inr (λ l b. either (nat_eq l k)
      (λ e. ap P (eqb-true _ _ e) ∙ f)
      (λ a. none l (let d = eqb-false _ _ a in omega arith))))
]

abbrev nothing_held : List Filled → Bool
nothing_held [] = true
nothing_held (h ∷ hs) = false

abbrev lacks_data : Network → Flow → ℕ → ℕ → Bool
lacks_data net s c l = nat_eq (net.taker l) c && (not (s.link l).closed && nothing_held (s.link l).held)

abbrev lacks_room : Network → Flow → ℕ → ℕ → Bool
lacks_room net s c l = nat_eq (net.giver l) c && nat_eq (s.link l).ready 0

pub and_true : (a b : Bool) → (a && b) ≡ true → (a ≡ true) × (b ≡ true)
and_true true b e = (refl, e)
and_true false b e = both false e refl

pub not_true : (a : Bool) → not a ≡ true → a ≡ false
not_true true e = sym e
not_true false e = refl

held_none : (hs : List Filled) → nothing_held hs ≡ true → hs ≡ []
held_none [] e = refl
held_none (h ∷ hs) e = both true refl (sym e)

held_some : (hs : List Filled) → nothing_held hs ≡ false → IsFront (λ h. Unit {0}) hs
held_some [] e = both true refl e
held_some (h ∷ hs) e = tt

-- ---- an input without a header

no_data : (net : Network) (s : Flow) (c : ℕ) → IsNetwork net → IsSound net s → IsFirst net s c → (l : ℕ) → IsOpen net s c l → (s.link l).held ≡ [] → CanForward net s l
no_data net s c W S F l O e =
    let A : HasAccount net s l = S.links l O.input.below in
    let order = W.order l O.input.below in
    let inside = W.inside l O.input.below in
    (O.input.below, forward (s.link l).sent refl A order inside)
  where
    forward : (q : List Filled) → (s.link l).sent ≡ q → HasAccount net s l → net.giver l < net.taker l → net.taker l < net.components → IsFront (λ h. Unit {0}) q
    forward (h ∷ q) d A order inside = tt
    forward [] d A order inside =
        let none : queue (s.link l) ≡ [] = rw (e, d) refl in
        let over : s.ended (net.giver l) ≡ false = rw none at (A.ends O.open_) in
        let balance : s.done (net.giver l) ≡ (s.link l).taken + 0 = rw none at A.balance in
        let level : (s.link l).taken ≡ s.done c = A.level O.open_ ∙ ap s.done O.input.taken_by in
        let t : net.taker l ≡ c = O.input.taken_by in
        elim (F.fewest (net.giver l) (omega arith) over) [
          | inl less ↦ absurd (omega arith)
          | inr same ↦ let le = same.1 in absurd (omega arith)
        ]

-- ---- an output without a clear header

some_frames : (q : List Filled) → EndsWith false q → AreFilled q → 0 < length q → 0 < frames_in q
some_frames [] e a p = absurd (omega (arith, p))
some_frames (h ∷ q) e a p = let f = front_frames h q e a.0 in omega arith

no_room : (net : Network) (s : Flow) (c : ℕ) → IsNetwork net → IsSound net s → HasFullOutputs net s c → IsFirst net s c → (l : ℕ) → IsOutput net c l → (s.link l).ready ≡ 0 → CanBack net s l
no_room net s c W S Full F l O e =
    let b = O.below in
    let A : HasAccount net s l = S.links l b in
    let going : s.ended (net.giver l) ≡ false = ap s.ended O.given_by ∙ F.going in
    let open_ : (s.link l).closed ≡ false = either (s.link l).closed (λ t. both (s.ended (net.giver l)) ((A.after t).1) going) (λ f. f) in
    let ends : EndsWith false (queue (s.link l)) = rw going at (A.ends open_) in
    let full : headers_of (s.link l) ≡ net.count l = Full l O in
    let many : 0 < net.count l = W.count l b in
    let inside : net.taker l < net.components = W.inside l b in (
      b,
      either (nat_eq (s.link l).spent 0)
          (λ t.
          let none : (s.link l).spent ≡ 0 = eqb-true _ _ t in
          let some : 0 < frames_in (queue (s.link l)) = some_frames (queue (s.link l)) ends A.carries (omega arith) in
          let balance : s.done c ≡ (s.link l).taken + frames_in (queue (s.link l)) = ap s.done (sym O.given_by) ∙ A.balance in
          let level : (s.link l).taken ≡ s.done (net.taker l) = A.level open_ in
          let over : s.ended (net.taker l) ≡ false = either (s.ended (net.taker l))
          (λ t. both (s.link l).closed ((S.components (net.taker l) inside).over (W.unfed l b) t l (record { below = b; taken_by = refl })) open_)
          (λ f. f) in
          elim (F.fewest (net.taker l) inside over) [
            | inl less ↦ absurd (omega arith)
            | inr same ↦ let q = same.0 in absurd (omega arith)
          ])
          (λ f. let d = eqb-false _ _ f in omega arith),
    )

-- ---- never stuck

pub never_stuck : (net : Network) (s : Flow) (c : ℕ) → IsNetwork net → IsSound net s → HasFullOutputs net s c → IsFirst net s c → IsEnabled net s c
never_stuck net s c W S Full F = elim (sought (lacks_data net s c) net.links) [
  | inl w ↦
      let l : ℕ = w.at in
      let a = and_true (nat_eq (net.taker l) c) (not (s.link l).closed && nothing_held (s.link l).held) w.is in
      let d = and_true (not (s.link l).closed) (nothing_held (s.link l).held) a.1 in
      let I : IsInput net c l = record { below = w.below; taken_by = eqb-true _ _ a.0 } in
      let O : IsOpen net s c l = record { input = I; open_ = not_true (s.link l).closed d.0 } in
      inr (l, inl I, inl (no_data net s c W S F l O (held_none (s.link l).held d.1)))
  | inr fed ↦ elim (sought (lacks_room net s c) net.links) [
    | inl w ↦
        let l : ℕ = w.at in
        let a = and_true (nat_eq (net.giver l) c) (nat_eq (s.link l).ready 0) w.is in
        let O : IsOutput net c l = record { below = w.below; given_by = eqb-true _ _ a.0 } in
        inr (l, inr O, inr (no_room net s c W S Full F l O (eqb-true _ _ a.1)))
    | inr roomy ↦ inl (record {
      inside = F.inside;
      going = F.going;
      inputs = λ l O. held_some (s.link l).held (
          let n : lacks_data net s c l ≡ false = fed l O.input.below in
          let t : nat_eq (net.taker l) c ≡ true = eq-eqb (net.taker l) c O.input.taken_by in
          let o : (s.link l).closed ≡ false = O.open_ in
          rw (t, o) at n);
      outputs = λ l O.
          let n : lacks_room net s c l ≡ false = roomy l O.below in
          let t : nat_eq (net.giver l) c ≡ true = eq-eqb (net.giver l) c O.given_by in
          let z : nat_eq (s.link l).ready 0 ≡ false = rw t at n in
          let d = eqb-false _ _ z in omega arith;
    })
  ]
]

-- ---- there is a first one, as long as some component hasn't ended

abbrev IsFirstBelow : Flow → ℕ → ℕ → Type 0
IsFirstBelow s m c = (c < m) × (s.ended c ≡ false) × ((k : ℕ) → k < m → s.ended k ≡ false → (s.done c < s.done k) ⊎ ((s.done c ≡ s.done k) × (c ≤ k)))

first_below : (s : Flow) (m : ℕ) → ((c : ℕ) × IsFirstBelow s m c) ⊎ ((k : ℕ) → k < m → s.ended k ≡ true)
first_below s zero = inr (λ k b. absurd (omega (arith, b)))
first_below s (suc m) = either (s.ended m)
    (λ t. elim (first_below s m) [
      | inl w ↦ let b = w.1.0 in inl (w.0, (omega arith, w.1.1, λ k b f. w.1.2 k (either (nat_eq k m) (λ e. both (s.ended m) t (sym (ap s.ended (eqb-true _ _ e)) ∙ f)) (λ a. let d = eqb-false _ _ a in omega arith)) f))
      | inr all ↦ inr (λ k b. either (nat_eq k m) (λ e. ap s.ended (eqb-true _ _ e) ∙ t) (λ a. all k (let d = eqb-false _ _ a in omega arith)))
    ])
    (λ g. elim (first_below s m) [
      | inl w ↦
          let c : ℕ = w.0 in
          let cm : c < m = w.1.0 in
          let least = w.1.2 in
          either (nat_le (s.done c) (s.done m))
          (λ t. let le : s.done c ≤ s.done m = leb-true _ _ t in
          inl (
            c,
            (
              omega arith,
              w.1.1,
              λ k b f. either (nat_eq k m)
                  (λ e. let q : k ≡ m = eqb-true _ _ e in let d : s.done k ≡ s.done m = ap s.done q in either (nat_eq (s.done c) (s.done k)) (λ y. inr (eqb-true _ _ y, omega arith)) (λ z. let v = eqb-false _ _ z in inl (omega arith)))
                  (λ a. least k (let d = eqb-false _ _ a in omega arith) f),
            ),
          ))
          (λ h. let lt : s.done m < s.done c = leb-false _ _ h in
          inl (
            m,
            (
              omega arith,
              g,
              λ k b f. either (nat_eq k m)
                  (λ e. let q : k ≡ m = eqb-true _ _ e in inr (ap s.done (sym q), omega arith))
                  (λ a. elim (least k (let d = eqb-false _ _ a in omega arith) f) [ inl x ↦ inl (omega arith) | inr x ↦ let y = x.0 in inl (omega arith) ]),
            ),
          ))
      | inr all ↦ inl (
        m,
        (
          omega arith,
          g,
          λ k b f. either (nat_eq k m)
              (λ e. let q : k ≡ m = eqb-true _ _ e in inr (ap s.done (sym q), omega arith))
              (λ a. both (s.ended k) (all k (let d = eqb-false _ _ a in omega arith)) f),
        ),
      )
    ])

pub first_or_ended : (net : Network) (s : Flow) → ((c : ℕ) × IsFirst net s c) ⊎ AllEnded net s
first_or_ended net s = elim (first_below s net.components) [
  | inl w ↦ inl (w.0, record { inside = w.1.0; going = w.1.1; fewest = w.1.2 })
  | inr all ↦ inr all
]

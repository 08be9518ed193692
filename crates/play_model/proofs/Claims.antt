-- A component that may claim has a step: some number of frames, which is the last one or not.
use Rattle.std.proofs.Common.{◌≡◌, ◌⊎◌, inl, inr, ℕ, ◌+◌, ◌≤◌, Bool, true, false, not, ◌&&◌, nat_eq, List, [], ◌∷◌, ◌++◌, refl, sym, ◌∙◌, ap, eqb-true, eq-eqb, arith}
use Rattle.std.proofs.lemmas.Bool.{eqb-false}
use Rattle.play_model.specs.Network.{Network, IsNetwork, Filled, Flow}
use Rattle.play_model.specs.Moves.{took, IsEnding, IsFront, IsOpen, CanClaim, HasNumber, IsLastStep, Can, Move}
use Rattle.play_model.specs.Account.{IsFilled, AreFilled, IsSound, IsFull}
use Rattle.play_model.specs.Progress.{AllEnded}
use Rattle.play_model.specs.Exact.{is_ending}
use Rattle.play_model.proofs.Queues.{either, both}
use Rattle.play_model.proofs.Stuck.{sought, and_true, not_true, never_stuck, first_or_ended}

abbrev front_going : List Filled → Bool
front_going [] = false
front_going (h ∷ hs) = not (is_ending h)

pub ending_of : (h : Filled) → is_ending h ≡ true → IsEnding h
ending_of h e = let a = and_true (nat_eq h.frames 0) h.last e in (eqb-true _ _ a.0, a.1)

pub going_of : (h : Filled) → is_ending h ≡ false → IsFilled h → 1 ≤ h.frames
going_of h e (inl f) = f
going_of h e (inr l) = either (nat_eq h.frames 0)
    (λ t. both (is_ending h) (rw (t, l) refl) e)
    (λ f. let d = eqb-false _ _ f in omega arith)

front_either : (hs sent : List Filled) → IsFront (λ h. Unit {0}) hs → AreFilled (hs ++ sent) → IsFront (λ h. (1 ≤ h.frames) ⊎ IsEnding h) hs
front_either [] sent F A = F
front_either (h ∷ hs) sent F A = either (is_ending h) (λ t. inr (ending_of h t)) (λ f. inl (going_of h f A.0))

front_one : (hs sent : List Filled) → AreFilled (hs ++ sent) → front_going hs ≡ true → IsFront (λ h. 1 ≤ h.frames) hs
front_one [] sent A g = both false g refl
front_one (h ∷ hs) sent A g = going_of h (not_true (is_ending h) g) A.0

front_ends : (hs : List Filled) → IsFront (λ h. Unit {0}) hs → front_going hs ≡ false → IsFront IsEnding hs
front_ends [] F g = F
front_ends (h ∷ hs) F g = either (is_ending h) (λ t. ending_of h t) (λ f. both (not (is_ending h)) (ap not f) g)

weaker : (hs : List Filled) → IsFront IsEnding hs → IsFront (λ h. (0 ≤ h.frames) ⊎ IsEnding h) hs
weaker [] F = F
weaker (h ∷ hs) F = inr F

-- whether a step is the last one
last_of : (net : Network) (s : Flow) (c n : ℕ) → (last : Bool) × IsLastStep net s c n last
last_of net s c n = either (net.is_source c)
    (λ t. (
      nat_eq (s.done c + n) (net.frames c),
      record {
        source = λ _. refl;
        all = λ f. both (net.is_source c) t f;
        some = λ f. both (net.is_source c) t f;
      },
    ))
    (λ f. elim (sought (λ l. nat_eq (net.taker l) c && not (took n (s.link l)).closed) net.links) [
      | inl w ↦
          let a = and_true (nat_eq (net.taker w.at) c) (not (took n (s.link w.at)).closed) w.is in (
            false,
            record {
              source = λ t. both (net.is_source c) t f;
              all = λ _ e. both false e refl;
              some = λ _ _. (w.at, record { below = w.below; taken_by = eqb-true _ _ a.0 }, not_true (took n (s.link w.at)).closed a.1);
            },
          )
      | inr none ↦ (
        true,
        record {
          source = λ t. both (net.is_source c) t f;
          all = λ _ _ l I.
              let t : nat_eq (net.taker l) c ≡ true = eq-eqb (net.taker l) c I.taken_by in
              let g : (nat_eq (net.taker l) c && not (took n (s.link l)).closed) ≡ false = none l I.below in
              let h : not (took n (s.link l)).closed ≡ false = rw t at g in
              either (took n (s.link l)).closed (λ y. y) (λ z. both (not (took n (s.link l)).closed) (ap not z) h);
          some = λ _ e. both true refl e;
        },
      )
    ])

number_of : (net : Network) (s : Flow) (c : ℕ) → IsNetwork net → IsSound net s → CanClaim net s c → (n : ℕ) × HasNumber net s c n
number_of net s c W S C = either (net.is_source c)
    (λ t.
    let K = (S.components c C.inside).source t in
    let le : s.done c ≤ net.frames c = K.0 in
    let unfed : (l : ℕ) → IsOpen net s c l → ⊥ = λ l O. both (net.is_source c) t (ap net.is_source (sym O.input.taken_by) ∙ W.unfed l O.input.below) in
    either (nat_eq (s.done c) (net.frames c))
    (λ e. let d : s.done c ≡ net.frames c = eqb-true _ _ e in (
      0,
      record {
        inputs = λ l O. absurd (unfed l O);
        outputs = λ l O. omega arith;
        source = λ _. (omega arith, inr d);
        other = λ f. both (net.is_source c) t f;
      },
    ))
    (λ a. let d = eqb-false _ _ a in (
      1,
      record {
        inputs = λ l O. absurd (unfed l O);
        outputs = λ l O. omega (arith, W.fits l O.below);
        source = λ _. (omega arith, inl (omega arith));
        other = λ f. both (net.is_source c) t f;
      },
    )))
    (λ f. elim (sought (λ l. nat_eq (net.taker l) c && (not (s.link l).closed && front_going (s.link l).held)) net.links) [
      | inl w ↦
          let l : ℕ = w.at in
          let a = and_true (nat_eq (net.taker l) c) (not (s.link l).closed && front_going (s.link l).held) w.is in
          let d = and_true (not (s.link l).closed) (front_going (s.link l).held) a.1 in (
            1,
            record {
              inputs = λ k O. front_either (s.link k).held (s.link k).sent (C.inputs k O) ((S.links k O.input.below).carries);
              outputs = λ k O. omega (arith, W.fits k O.below);
              source = λ t. both (net.is_source c) t f;
              other = λ _. inl (
                omega arith,
                (
                  l,
                  record { input = record { below = w.below; taken_by = eqb-true _ _ a.0 }; open_ = not_true (s.link l).closed d.0 },
                  front_one (s.link l).held (s.link l).sent ((S.links l w.below).carries) d.1,
                ),
              );
            },
          )
      | inr none ↦
          let ends : (l : ℕ) → IsOpen net s c l → IsFront IsEnding (s.link l).held = λ l O.
          let g : (nat_eq (net.taker l) c && (not (s.link l).closed && front_going (s.link l).held)) ≡ false = none l O.input.below in
          let t : nat_eq (net.taker l) c ≡ true = eq-eqb (net.taker l) c O.input.taken_by in
          let o : (s.link l).closed ≡ false = O.open_ in
          front_ends (s.link l).held (C.inputs l O) (rw (t, o) at g) in (
            0,
            record {
              inputs = λ l O. weaker (s.link l).held (ends l O);
              outputs = λ l O. omega arith;
              source = λ t. both (net.is_source c) t f;
              other = λ _. inr (refl, ends);
            },
          )
    ])

pub claim_steps : (net : Network) (s : Flow) (c : ℕ) → IsNetwork net → IsSound net s → CanClaim net s c → (n : ℕ) × (last : Bool) × Can net s (Move.Step c n last)
claim_steps net s c W S C =
    let N = number_of net s c W S C in
    let L = last_of net s c N.0 in
    (N.0, L.0, (C, N.1, L.1))

-- as long as some component hasn't ended there is a move
pub some_move : (net : Network) (s : Flow) → IsNetwork net → IsSound net s → IsFull net s → ((m : Move) × Can net s m) ⊎ AllEnded net s
some_move net s W S F = elim (first_or_ended net s) [
  | inl w ↦ inl (elim (never_stuck net s w.0 W S (λ l O. F l O.below) w.1) [
    | inl C ↦ let v = claim_steps net s w.0 W S C in (Move.Step w.0 v.0 v.1, v.2)
    | inr v ↦ elim v.2 [ inl on ↦ (Move.Forward v.0, on) | inr back ↦ (Move.Back v.0, back) ]
  ])
  | inr all ↦ inr all
]

-- In each play that is reached some act can be made, or it is over.
use Rattle.std.proofs.Common.{◌≡◌, ◌≢◌, ◌⊎◌, inl, inr, ℕ, suc, ◌<◌, ◌≤◌, Bool, true, false, not, ◌&&◌, nat_eq, nat_le, refl, sym, ◌∙◌, ap, eqb-true, arith}
use Rattle.std.proofs.lemmas.Bool.{eqb-false, leb-true}
use Rattle.play_model.specs.Network.{LinkState}
use Rattle.play_model.specs.Moves.{CanForward, CanBack}
use Rattle.play_model.specs.Account.{IsSound, HasFullOutputs}
use Rattle.play_model.specs.Progress.{IsFirst, IsLinkOf, AllEnded}
use Rattle.play_model.proofs.Queues.{either, both}
use Rattle.play_model.proofs.Stuck.{Found, sought, and_true, not_true, never_stuck, first_or_ended}
use Rattle.play_model.proofs.Claims.{claim_steps}
use Rattle.play_model.specs.Changes.{IsChanged, IsEnabledPort, IsSteadyPort}
use Rattle.play_model.specs.Play.{Layout, IsLayout, Play, made, supplier, other_component, IsExecuting, IsRunning, HasPorts, HasNoPortNote, IsUnbroken}
use Rattle.play_model.specs.Acts.{Act, CanAct, ArePorts}
use Rattle.play_model.specs.Reached.{IsReached, IsOver, IsFlowActOf, IsAwaitedAt, IsUnset}
use Rattle.play_model.proofs.LinkEnds.{supplier_links, other_links, end_inside, link_below, is_end, ends_of, is_end_of}
use Rattle.play_model.proofs.Settled.{is_settled, settled_of, is_settled_of, unsettled, home_of}
use Rattle.play_model.proofs.ChangesKept.{unsent}
use Rattle.play_model.proofs.EnabledChanges.{half_or_unbroken, awaits, IsFree, free_whole, free_steady, free_ports, unbroken_free}

abbrev pub Some : Layout → Play → Type 0
Some w p = ((a : Act) × CanAct w p a) ⊎ IsOver w p

abbrev All : Layout → Play → ℕ → Type 0
All w p k = (c : ℕ) → c < (w.network).components → k ≤ p.stage c

-- all stages are above k, unless a component has k
above : (w : Layout) (p : Play) (k : ℕ) → All w p k → Found (λ c. nat_eq (p.stage c) k) (w.network).components ⊎ All w p (suc k)
above w p k A = elim (sought (λ c. nat_eq (p.stage c) k) (w.network).components) [
  | inl f ↦ inl f
  | inr none ↦ inr (λ c b. let d = eqb-false _ _ (none c b) in let a = A c b in omega arith)
]

-- ---- a state of all that was told

begins : (w : Layout) (p : Play) → IsReached w p → p.phase < 4 → All w p 4 → (p.phase ≡ 2 → (c : ℕ) → c < (w.network).components → w.is_sink c ≡ true → p.told c ≡ true) →
    (p.phase ≡ 2 → (l : ℕ) → l < (w.network).links → w.is_late l ≡ true → ((p.change l).step ≤ 1) ⊎ IsChanged (p.change l)) → Some w p
begins w p R m A E K = inl (Act.Begin, record { more = m; all = λ c b. let a = A c b in let t = R.stage c b in omega arith; ends = E; changes = K })

-- where no command is queued and no transition is pending
told_or_begins : (w : Layout) (p : Play) → IsReached w p → p.phase < 4 → p.phase ≢ 2 → All w p 3 → Some w p
told_or_begins w p R m e A = elim (above w p 3 A) [
  | inl f ↦ inl (Act.Tell f.at, (f.below, eqb-true _ _ f.is))
  | inr B ↦ begins w p R m B (λ q. absurd (e q)) (λ q. absurd (e q))
]

-- ---- up to Idle

phase_one : (w : Layout) (p : Play) → IsReached w p → p.phase ≡ 1 → All w p 2 → Some w p
phase_one w p R e A =
    let fresh : (l : ℕ) → l < (w.network).links → ArePorts IsEnabledPort (p.change l) = λ l b.
    let K = R.changes l b in
    let z = K.early (omega arith) in
    let u = unsent w p l (p.change l) K (omega arith) in
    let o = u.0 in
    let i = u.1 in
    (inl (omega arith), inl (omega arith)) in
    elim (sought (λ l. not (nat_eq (made p l) ((w.network).count l))) (w.network).links) [
      | inl f ↦
          let l : ℕ = f.at in
          let d = eqb-false _ _ (not_true _ f.is) in
          let few = R.few l f.below in
          let a : (c : ℕ) → IsLinkOf w.network c l → 2 ≤ p.stage c = λ c I. A c (end_inside w R.layout c l I) in
          inl (Act.Supply l, (f.below, inl (e, a (supplier w l) (supplier_links w l f.below)), inl (e, a (other_component w l) (other_links w l f.below)), omega arith, fresh l f.below))
      | inr none ↦
          let full : (l : ℕ) → l < (w.network).links → made p l ≡ (w.network).count l = λ l b. either (nat_eq (made p l) ((w.network).count l)) (λ t. eqb-true _ _ t) (λ g. both (not (nat_eq (made p l) ((w.network).count l))) (ap not g) (none l b)) in
          elim (above w p 2 A) [
            | inl f ↦ inl (
              Act.Happen f.at,
              (
                f.below,
                eqb-true _ _ f.is,
                record {
                  up = λ _ l I. full l (link_below w f.at l I);
                  down = λ q. absurd (omega arith);
                  unmade = λ q. absurd (omega arith);
                },
              ),
            )
            | inr B ↦ told_or_begins w p R (omega arith) (λ q. omega arith) B
          ]
    ]

-- ---- Executing

free_notes : (w : Layout) (p : Play) (c : ℕ) → ((l : ℕ) → l < (w.network).links → IsFree w p l) → HasNoPortNote w p c
free_notes w p c free = record {
  outputs = λ l O y h. elim (free l O.below) [ inl f ↦ both (w.is_late l) y f | inr e ↦ (let a = e.1 in elim h [ inl x ↦ omega arith | inr x ↦ omega arith ]) ];
  inputs = λ l I y h. elim (free l I.below) [ inl f ↦ both (w.is_late l) y f | inr e ↦ (let a = e.2 in elim h [ inl x ↦ omega arith | inr x ↦ omega arith ]) ];
}

phase_two_end : (w : Layout) (p : Play) → IsReached w p → p.phase ≡ 2 → All w p 4 → AllEnded w.network p.flow → ((l : ℕ) → l < (w.network).links → IsFree w p l) → Some w p
phase_two_end w p R e A E free = elim (sought (λ c. w.is_sink c && not (p.told c)) (w.network).components) [
  | inl f ↦
      let a = and_true (w.is_sink f.at) (not (p.told f.at)) f.is in
      inl (Act.TellEnd f.at, (f.below, (λ q. let k = A f.at f.below in omega arith), a.0, not_true (p.told f.at) a.1, E f.at f.below, free_notes w p f.at free))
  | inr none ↦ begins w p R (omega arith) A (λ _ c b s.
      let n : (w.is_sink c && not (p.told c)) ≡ false = none c b in
      let m : not (p.told c) ≡ false = rw s at n in
      either (p.told c) (λ t. t) (λ g. both (not (p.told c)) (ap not g) m))
      (λ _ l b y. elim (free l b) [ inl f ↦ both (w.is_late l) y f | inr c ↦ inr c ])
]

phase_two_link : (w : Layout) (p : Play) → p.phase ≡ 2 → ((c : ℕ) → c < (w.network).components → 3 ≤ p.stage c) → IsLayout w → (c l : ℕ) → IsLinkOf w.network c l →
    ArePorts IsSteadyPort (p.change l) → CanForward w.network p.flow l ⊎ CanBack w.network p.flow l → (a : Act) × IsFlowActOf w c a × CanAct w p a
phase_two_link w p e A W c l L P (inl F) =
    let run : (k : ℕ) → IsLinkOf w.network k l → IsRunning p k = λ k I. inl (e, A k (end_inside w W k l I)) in
    let up : (k : ℕ) → IsLinkOf w.network k l → IsExecuting p k = λ k I. inl (e, A k (end_inside w W k l I)) in
    either (w.by_output l)
    (λ t. (Act.HandOver l, L, (F.0, run (supplier w l) (supplier_links w l F.0), run (other_component w l) (other_links w l F.0), rw t F.1, P)))
    (λ f. (Act.HandBack l, L, (F.0, up (other_component w l) (other_links w l F.0), rw f F.1)))
phase_two_link w p e A W c l L P (inr B) =
    let run : (k : ℕ) → IsLinkOf w.network k l → IsRunning p k = λ k I. inl (e, A k (end_inside w W k l I)) in
    let up : (k : ℕ) → IsLinkOf w.network k l → IsExecuting p k = λ k I. inl (e, A k (end_inside w W k l I)) in
    either (w.by_output l)
    (λ t. (Act.HandBack l, L, (B.0, up (other_component w l) (other_links w l B.0), rw t B.1)))
    (λ f. (Act.HandOver l, L, (B.0, run (supplier w l) (supplier_links w l B.0), run (other_component w l) (other_links w l B.0), rw f B.1, P)))

-- where the ports of a component's links are Steady, with all their headers
phase_two_first : (w : Layout) (p : Play) → IsReached w p → p.phase ≡ 2 → ((c : ℕ) → c < (w.network).components → 3 ≤ p.stage c) → (c : ℕ) → ((l : ℕ) → IsLinkOf w.network c l → IsFree w p l) → IsFirst w.network p.flow c →
    (a : Act) × IsFlowActOf w c a × CanAct w p a
phase_two_first w p R e A c free F =
    let S : IsSound w.network p.flow = R.sound (omega arith) in
    let full : HasFullOutputs w.network p.flow c = λ l O. R.full (omega arith) (omega arith) l O.below (free_whole w p l (R.changes l O.below) (free l (inr O))) in
    elim (never_stuck w.network p.flow c (R.layout).network S full F) [
      | inl C ↦
          let v = claim_steps w.network p.flow c (R.layout).network S C in
          let ports : HasPorts w p c = record {
            outputs = λ l O y. (free_ports w p l (free l (inr O)) y).0;
            inputs = λ l I y. (free_ports w p l (free l (inl I)) y).1;
          } in
          (Act.Step c v.0 v.1, refl, (inl (e, A c F.inside), v.2, ports))
      | inr v ↦
          let b : v.0 < (w.network).links = link_below w c v.0 v.1 in
          phase_two_link w p e A R.layout c v.0 v.1 (free_steady w p v.0 (R.changes v.0 b) (free v.0 v.1)) v.2
    ]

-- Never stuck while all are Executing with nothing pending and no link is half changed: of the components that haven't
-- ended the first of those with the fewest frames done.
pub fewest_first : (w : Layout) (p : Play) (c : ℕ) → IsReached w p → ((k : ℕ) → k < (w.network).components → IsRunning p k) → IsUnbroken w p → IsFirst w.network p.flow c →
    ((a : Act) × IsFlowActOf w c a × CanAct w p a) ⊎ ((l : ℕ) × IsUnset w p c l × ((a : Act) × IsAwaitedAt l a × CanAct w p a))
fewest_first w p c R A unbroken F = elim (sought (λ l. is_end w c l && (w.is_late l && nat_le (p.change l).step 2)) (w.network).links) [
  | inl f ↦
      let l : ℕ = f.at in
      let a = and_true (is_end w c l) (w.is_late l && nat_le (p.change l).step 2) f.is in
      let d = and_true (w.is_late l) (nat_le (p.change l).step 2) a.1 in
      let low = leb-true _ _ d.1 in
      inr (l, record { link = ends_of w c l f.below a.0; late = d.0; unset = low }, awaits w p l R A unbroken f.below d.0 low)
  | inr none ↦ inl (elim (A c F.inside) [
    | inl here ↦
        let two : p.phase ≡ 2 = here.0 in
        let up : (k : ℕ) → k < (w.network).components → 3 ≤ p.stage k = λ k b. elim (A k b) [ inl x ↦ x.1 | inr x ↦ absurd (let three = x.0 in omega arith) ] in
        phase_two_first w p R two up c (λ l I.
        let b : l < (w.network).links = link_below w c l I in
        let n : (is_end w c l && (w.is_late l && nat_le (p.change l).step 2)) ≡ false = none l b in
        unbroken_free w p l unbroken b (ap (λ (y : Bool). y && (w.is_late l && nat_le (p.change l).step 2)) (sym (is_end_of w c l I)) ∙ n)) F
    | inr late ↦ both ((p.flow).ended c) (R.ended (let three = late.0 in omega arith) c F.inside) F.going
  ])
]

phase_two_unbroken : (w : Layout) (p : Play) → IsReached w p → p.phase ≡ 2 → All w p 4 → IsUnbroken w p → Some w p
phase_two_unbroken w p R e D unbroken = elim (sought (λ l. w.is_late l && nat_le (p.change l).step 2) (w.network).links) [
  | inl f ↦
      let l : ℕ = f.at in
      let a = and_true (w.is_late l) (nat_le (p.change l).step 2) f.is in
      let v = awaits w p l R (λ k b. inl (e, let x = D k b in omega arith)) unbroken f.below a.0 (leb-true _ _ a.1) in
      inl (v.0, v.2)
  | inr none ↦
      let free : (l : ℕ) → l < (w.network).links → IsFree w p l = λ l b. unbroken_free w p l unbroken b (none l b) in
      elim (first_or_ended w.network p.flow) [
        | inl c ↦ inl ((let v = phase_two_first w p R e (λ k b. let x = D k b in omega arith) c.0 (λ l I. free l (link_below w c.0 l I)) c.1 in (v.0, v.2)))
        | inr E ↦ phase_two_end w p R e D E free
      ]
]

phase_two : (w : Layout) (p : Play) → IsReached w p → p.phase ≡ 2 → All w p 2 → Some w p
phase_two w p R e A = elim (above w p 2 A) [
  | inl f ↦ inl (
    Act.Happen f.at,
    (
      f.below,
      eqb-true _ _ f.is,
      record {
        up = λ q. absurd (omega arith);
        down = λ q. absurd (omega arith);
        unmade = λ q. absurd (omega arith);
      },
    ),
  )
  | inr B ↦ elim (above w p 3 B) [
    | inl f ↦ inl (Act.Tell f.at, (f.below, eqb-true _ _ f.is))
    | inr D ↦ elim (half_or_unbroken w p R) [
      | inl v ↦ inl v
      | inr unbroken ↦ phase_two_unbroken w p R e D unbroken
    ]
  ]
]

-- ---- back to Idle

phase_three : (w : Layout) (p : Play) → IsReached w p → p.phase ≡ 3 → All w p 2 → Some w p
phase_three w p R e A = elim (above w p 2 A) [
  | inl f ↦
      let c : ℕ = f.at in
      elim (sought (λ l. is_end w c l && not (is_settled (w.by_output l) ((p.flow).link l))) (w.network).links) [
        | inl g ↦
            let l : ℕ = g.at in
            let x : LinkState = (p.flow).link l in
            let a = and_true (is_end w c l) (not (is_settled (w.by_output l) x)) g.is in
            let away : is_settled (w.by_output l) x ≡ false = not_true _ a.1 in
            let d : ℕ = other_component w l in
            let D : IsLinkOf w.network d l = other_links w l g.below in
            let inside : d < (w.network).components = end_inside w R.layout d l D in
            let up : 2 ≤ p.stage d = A d inside in
            let here : p.stage d ≡ 2 = either (nat_eq (p.stage d) 2) (λ t. eqb-true _ _ t) (λ n.
            let q = eqb-false _ _ n in
            both (is_settled (w.by_output l) x) (is_settled_of (w.by_output l) x (R.settled e d inside (omega arith) l D)) away) in
            elim (unsettled (w.by_output l) x away) [
              | inl done ↦ inl (Act.HandBack l, (g.below, inr (e, omega arith), done))
              | inr unused ↦ inl (Act.HandUnused l, (g.below, inl (e, here), unused))
            ]
        | inr none ↦ inl (
          Act.Happen c,
          (
            f.below,
            eqb-true _ _ f.is,
            record {
              up = λ q. absurd (omega arith);
              down = λ _ l I.
                  let n : (is_end w c l && not (is_settled (w.by_output l) ((p.flow).link l))) ≡ false = none l (link_below w c l I) in
                  let t : is_end w c l ≡ true = is_end_of w c l I in
                  let m : not (is_settled (w.by_output l) ((p.flow).link l)) ≡ false = ap (λ (b : Bool). b && not (is_settled (w.by_output l) ((p.flow).link l))) (sym t) ∙ n in
                  settled_of (w.by_output l) ((p.flow).link l) (either (is_settled (w.by_output l) ((p.flow).link l)) (λ y. y) (λ z. both (not (is_settled (w.by_output l) ((p.flow).link l))) (ap not z) m));
              unmade = λ q. absurd (omega arith);
            },
          ),
        )
      ]
  | inr B ↦ told_or_begins w p R (omega arith) (λ q. omega arith) B
]

-- ---- back to Loaded

phase_four : (w : Layout) (p : Play) → IsReached w p → p.phase ≡ 4 → All w p 2 → Some w p
phase_four w p R e A = elim (sought (λ l. not (nat_eq (made p l) 0)) (w.network).links) [
  | inl f ↦
      let l : ℕ = f.at in
      let d = eqb-false _ _ (not_true _ f.is) in
      let c : ℕ = supplier w l in
      let I : IsLinkOf w.network c l = supplier_links w l f.below in
      let inside : c < (w.network).components = end_inside w R.layout c l I in
      let up : 2 ≤ p.stage c = A c inside in
      let here : p.stage c ≡ 2 = either (nat_eq (p.stage c) 2) (λ t. eqb-true _ _ t) (λ n. let q = eqb-false _ _ n in absurd (d (R.unmade e c inside (omega arith) l I))) in
      inl (Act.Release l, (f.below, inl (e, here), home_of (w.by_output l) ((p.flow).link l) (R.home e l f.below) (omega arith)))
  | inr none ↦
      let unmade : (l : ℕ) → l < (w.network).links → made p l ≡ 0 = λ l b. either (nat_eq (made p l) 0) (λ t. eqb-true _ _ t) (λ g. both (not (nat_eq (made p l) 0)) (ap not g) (none l b)) in
      elim (above w p 2 A) [
        | inl f ↦ inl (
          Act.Happen f.at,
          (
            f.below,
            eqb-true _ _ f.is,
            record {
              up = λ q. absurd (omega arith);
              down = λ q. absurd (omega arith);
              unmade = λ _ l I. unmade l (link_below w f.at l I);
            },
          ),
        )
        | inr B ↦ elim (above w p 3 B) [
          | inl f ↦ inl (Act.Tell f.at, (f.below, eqb-true _ _ f.is))
          | inr D ↦ inr (record { phase = e; all = λ c b. let k = D c b in let t = R.stage c b in omega arith })
        ]
      ]
]

-- ---- every phase

pub enabled : (w : Layout) (p : Play) → IsReached w p → Some w p
enabled w p R = elim (above w p 0 (λ c b. omega arith)) [
  | inl f ↦ inl (Act.Send f.at, (f.below, eqb-true _ _ f.is))
  | inr Z ↦ elim (above w p 1 Z) [
    | inl f ↦ inl (Act.Run f.at, (f.below, eqb-true _ _ f.is))
    | inr A ↦
        either (nat_eq p.phase 0) (λ t. let e : p.phase ≡ 0 = eqb-true _ _ t in begins w p R (omega arith) (λ c b. let k = R.first e c b in omega arith) (λ q. absurd (omega arith)) (λ q. absurd (omega arith))) (λ f0.
        either (nat_eq p.phase 1) (λ t. phase_one w p R (eqb-true _ _ t) A) (λ f1.
        either (nat_eq p.phase 2) (λ t. phase_two w p R (eqb-true _ _ t) A) (λ f2.
        either (nat_eq p.phase 3) (λ t. phase_three w p R (eqb-true _ _ t) A) (λ f3.
        let d0 = eqb-false _ _ f0 in let d1 = eqb-false _ _ f1 in let d2 = eqb-false _ _ f2 in let d3 = eqb-false _ _ f3 in let le = R.phase in
        phase_four w p R (omega arith) A))))
  ]
]

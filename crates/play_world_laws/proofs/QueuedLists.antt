-- What the late links of a component queue at it, over two plays.
use Rattle.std.proofs.Common.{◌≡◌, ◌≢◌, ◌⊎◌, inl, inr, ℕ, zero, suc, ◌<◌, Bool, true, false, not, if◌then◌else◌, nat_eq, List, [], ◌∷◌, ◌++◌, refl, sym, ◌∙◌, ap, eqb-true, eq-eqb, ne_eqb, arith}
use Rattle.std.proofs.lemmas.Bool.{cases_eq}
use Rattle.play_model.specs.Play.{Layout, component_at}
use Rattle.play_world_laws.specs.Changing.{at_ends, at_links}

append_nil : {A : Type 0} (xs : List A) → xs ++ [] ≡ xs
append_nil [] = refl
append_nil {A} (x ∷ xs) = ap (λ (ys : List A). x ∷ ys) (append_nil xs)

when_same : {A : Type 0} (b : Bool) (xs ys : List A) → (b ≡ true → xs ≡ ys) → (if b then xs else []) ≡ (if b then ys else [])
when_same true xs ys h = h refl
when_same false xs ys h = refl

when_none : {A : Type 0} (b : Bool) (xs : List A) → (b ≡ true → xs ≡ []) → (if b then xs else []) ≡ []
when_none true xs h = h refl
when_none false xs h = refl

-- ---- the same of both

ends_same : {A : Type 0} (w : Layout) (P Q : Bool → ℕ → List A) (c l : ℕ) → ((output : Bool) → w.is_late l ≡ true → component_at w output l ≡ c → P output l ≡ Q output l) → at_ends w P c l ≡ at_ends w Q c l
ends_same w P Q c l h = when_same (w.is_late l) _ _ (λ t.
    let a = when_same (nat_eq ((w.network).giver l) c) (P true l) (Q true l) (λ e. h true t (eqb-true _ _ e)) in
    let b = when_same (nat_eq ((w.network).taker l) c) (P false l) (Q false l) (λ e. h false t (eqb-true _ _ e)) in
    λ i. a i ++ b i)

pub links_same : {A : Type 0} (w : Layout) (P Q : Bool → ℕ → List A) (c n : ℕ) → ((output : Bool) (l : ℕ) → l < n → w.is_late l ≡ true → component_at w output l ≡ c → P output l ≡ Q output l) → at_links w P c n ≡ at_links w Q c n
links_same w P Q c zero h = refl
links_same w P Q c (suc n) h =
    let below = links_same w P Q c n (λ output l b. h output l (omega arith)) in
    let here = ends_same w P Q c n (λ output. h output n (omega arith)) in
    λ i. below i ++ here i

-- ---- of one end alone

ends_none : {A : Type 0} (w : Layout) (P : Bool → ℕ → List A) (c l : ℕ) → ((output : Bool) → w.is_late l ≡ true → component_at w output l ≡ c → P output l ≡ []) → at_ends w P c l ≡ []
ends_none w P c l h = when_none (w.is_late l) _ (λ t.
    let a = when_none (nat_eq ((w.network).giver l) c) (P true l) (λ e. h true t (eqb-true _ _ e)) in
    let b = when_none (nat_eq ((w.network).taker l) c) (P false l) (λ e. h false t (eqb-true _ _ e)) in
    λ i. a i ++ b i)

pub links_none : {A : Type 0} (w : Layout) (P : Bool → ℕ → List A) (c n : ℕ) → ((output : Bool) (l : ℕ) → l < n → w.is_late l ≡ true → component_at w output l ≡ c → P output l ≡ []) → at_links w P c n ≡ []
links_none w P c zero h = refl
links_none w P c (suc n) h =
    let below = links_none w P c n (λ output l b. h output l (omega arith)) in
    let here = ends_none w P c n (λ output. h output n (omega arith)) in
    λ i. below i ++ here i

ends_one : {A : Type 0} (w : Layout) (P : Bool → ℕ → List A) (c l : ℕ) (output : Bool) → w.is_late l ≡ true → component_at w output l ≡ c → component_at w (not output) l ≢ c → at_ends w P c l ≡ P output l
ends_one w P c l true t e n = rw (t, eq-eqb ((w.network).giver l) c e, ne_eqb ((w.network).taker l) c n) (append_nil (P true l))
ends_one w P c l false t e n = rw (t, eq-eqb ((w.network).taker l) c e, ne_eqb ((w.network).giver l) c n) refl

pub links_one : {A : Type 0} (w : Layout) (P : Bool → ℕ → List A) (c n l : ℕ) (output : Bool) → l < n → w.is_late l ≡ true → component_at w output l ≡ c → component_at w (not output) l ≢ c
    → ((s : Bool) (k : ℕ) → k < n → k ≢ l → w.is_late k ≡ true → component_at w s k ≡ c → P s k ≡ []) → at_links w P c n ≡ P output l
links_one w P c zero l output b t e n h = absurd (omega arith)
links_one w P c (suc m) l output b t e n h = elim (cases_eq l m) [
  | inl q ↦
      let below = links_none w P c m (λ s k d. h s k (omega arith) (λ z. omega arith)) in
      let here = ap (at_ends w P c) (sym q) ∙ ends_one w P c l output t e n in
      λ i. below i ++ here i
  | inr d ↦
      let below = links_one w P c m l output (let z = d in omega arith) t e n (λ s k g. h s k (omega arith)) in
      let here = ends_none w P c m (λ s. h s m (omega arith) (λ z. d (sym z))) in
      (λ i. below i ++ here i) ∙ append_nil (P output l)
]

-- ---- what is queued is of some end

when_some : {A : Type 0} (b : Bool) (xs : List A) (d : A) (ds : List A) → (if b then xs else []) ≡ d ∷ ds → (b ≡ true) × (xs ≡ d ∷ ds)
when_some true xs d ds h = (refl, h)
when_some false xs d ds h = absurd cc

append_some : {A : Type 0} (xs ys : List A) (d : A) (ds : List A) → xs ++ ys ≡ d ∷ ds → ((m : A) × (ms : List A) × (xs ≡ m ∷ ms)) ⊎ ((m : A) × (ms : List A) × (ys ≡ m ∷ ms))
append_some [] ys d ds h = inr (d, ds, h)
append_some (x ∷ xs) ys d ds h = inl (x, xs, refl)

-- an end of a late link of the component that queues something
pub record HasQueued {A : Type 0} (w : Layout) (P : Bool → ℕ → List A) (c n : ℕ) : Type 0 where
  pub link : ℕ
  pub side : Bool
  pub below : link < n
  pub late : w.is_late link ≡ true
  pub of_link : component_at w side link ≡ c
  pub one : A
  pub more : List A
  pub queued : P side link ≡ one ∷ more

ends_some : {A : Type 0} (w : Layout) (P : Bool → ℕ → List A) (c l : ℕ) (d : A) (ds : List A) → at_ends w P c l ≡ d ∷ ds → HasQueued w P c (suc l)
ends_some w P c l d ds h =
    let a = when_some (w.is_late l) _ d ds h in
    elim (append_some (if nat_eq ((w.network).giver l) c then P true l else []) (if nat_eq ((w.network).taker l) c then P false l else []) d ds a.1) [
      | inl r ↦ let g = when_some (nat_eq ((w.network).giver l) c) (P true l) r.0 r.1 r.2 in record { link = l; side = true; below = omega arith; late = a.0; of_link = eqb-true _ _ g.0; one = r.0; more = r.1; queued = g.1 }
      | inr r ↦ let g = when_some (nat_eq ((w.network).taker l) c) (P false l) r.0 r.1 r.2 in record { link = l; side = false; below = omega arith; late = a.0; of_link = eqb-true _ _ g.0; one = r.0; more = r.1; queued = g.1 }
    ]

pub links_some : {A : Type 0} (w : Layout) (P : Bool → ℕ → List A) (c n : ℕ) (d : A) (ds : List A) → at_links w P c n ≡ d ∷ ds → HasQueued w P c n
links_some w P c zero d ds h = absurd cc
links_some w P c (suc n) d ds h = elim (append_some (at_links w P c n) (at_ends w P c n) d ds h) [
  | inl r ↦ let H = links_some w P c n r.0 r.1 r.2 in record { link = H.link; side = H.side; below = (let b = H.below in omega arith); late = H.late; of_link = H.of_link; one = H.one; more = H.more; queued = H.queued }
  | inr r ↦ ends_some w P c n r.0 r.1 r.2
]

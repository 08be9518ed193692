-- Changes of the headers, one after another, each of which leaves those behind it as ready as they were.
use Rattle.std.proofs.Common.{◌≡◌, ◌≢◌, ℕ, zero, suc, ◌<◌, List, [], ◌∷◌, slice_get, Some, refl, sym, ◌∙◌, ap, subst, arith}
use Rattle.il_machine.specs.World.{HeaderRecord}

abbrev pub all_made : {Z : Type 0} → (Z → List HeaderRecord → List HeaderRecord) → List Z → List HeaderRecord → List HeaderRecord
all_made op [] hs = hs
all_made op (z ∷ zs) hs = all_made op zs (op z hs)

-- one of the changes, and each of those behind it
abbrev pub IsApartFrom : {Z : Type 0} → (Z → Z → Type 0) → Z → List Z → Type 0
IsApartFrom two z [] = Unit {0}
IsApartFrom two z (u ∷ zs) = two z u × IsApartFrom two z zs

abbrev pub AreReady : {Z : Type 0} → (Z → List HeaderRecord → Type 0) → (Z → Z → Type 0) → List Z → List HeaderRecord → Type 0
AreReady ready two [] hs = Unit {0}
AreReady ready two (z ∷ zs) hs = ready z hs × IsApartFrom two z zs × AreReady ready two zs hs

module _ {Z : Type 0} (op : Z → List HeaderRecord → List HeaderRecord) (ready : Z → List HeaderRecord → Type 0) (two : Z → Z → Type 0) where
  apart_from : (z : Z) (zs : List Z) → ((j : ℕ) (u : Z) → slice_get zs j ≡ Some u → two z u) → IsApartFrom two z zs
  apart_from z [] h = tt
  apart_from z (u ∷ zs) h = (h 0 u refl, apart_from z zs (λ j y e. h (suc j) y e))

  pub ready_from : (zs : List Z) (hs : List HeaderRecord) → ((j : ℕ) (z : Z) → slice_get zs j ≡ Some z → ready z hs)
      → ((i j : ℕ) (u z : Z) → i < j → slice_get zs i ≡ Some u → slice_get zs j ≡ Some z → two u z) → AreReady ready two zs hs
  ready_from [] hs r t = tt
  ready_from (z ∷ zs) hs r t = (
    r 0 z refl,
    apart_from z zs (λ j u e. t 0 (suc j) z u (omega arith) refl e),
    ready_from zs hs (λ j u e. r (suc j) u e) (λ i j u y l e f. t (suc i) (suc j) u y (omega arith) e f),
  )

  module _ (stays : (z u : Z) (hs : List HeaderRecord) → two z u → ready z hs → ready u hs → ready u (op z hs)) where
    ready_after : (z : Z) (zs : List Z) (hs : List HeaderRecord) → ready z hs → IsApartFrom two z zs → AreReady ready two zs hs → AreReady ready two zs (op z hs)
    ready_after z [] hs r a A = tt
    ready_after z (u ∷ zs) hs r a A = (stays z u hs a.0 r A.0, A.1, ready_after z zs hs r a.1 A.2)

    -- none of them changes the value
    pub fold_beside : {T : Type 0} (V : List HeaderRecord → T) (zs : List Z) (hs : List HeaderRecord)
        → ((j : ℕ) (z : Z) → slice_get zs j ≡ Some z → (ks : List HeaderRecord) → ready z ks → V (op z ks) ≡ V ks) → AreReady ready two zs hs → V (all_made op zs hs) ≡ V hs
    fold_beside V [] hs h A = refl
    fold_beside V (z ∷ zs) hs h A = fold_beside V zs (op z hs) (λ j u e. h (suc j) u e) (ready_after z zs hs A.0 A.1 A.2) ∙ h 0 z refl hs A.0

    -- one of them turns the one value into the other, and the rest change neither
    pub fold_here : {T : Type 0} (V U : List HeaderRecord → T) (change : T → T) (zs : List Z) (j : ℕ) (z : Z) (hs : List HeaderRecord) → slice_get zs j ≡ Some z
        → ((i : ℕ) (u : Z) → i ≢ j → slice_get zs i ≡ Some u → (ks : List HeaderRecord) → ready u ks → (V (op u ks) ≡ V ks) × (U (op u ks) ≡ U ks))
        → ((ks : List HeaderRecord) → ready z ks → U (op z ks) ≡ change (V ks)) → AreReady ready two zs hs → U (all_made op zs hs) ≡ change (V hs)
    fold_here V U change [] j z hs e b h A = absurd cc
    fold_here V U change (u ∷ zs) zero z hs e b h A =
        let s : u ≡ z = cc in
        let here : U (op u hs) ≡ change (V hs) = subst (λ (y : Z). ready y hs → U (op y hs) ≡ change (V hs)) (sym s) (h hs) A.0 in
        fold_beside U zs (op u hs) (λ i y f ks r. (b (suc i) y (λ n. omega arith) f ks r).1) (ready_after u zs hs A.0 A.1 A.2) ∙ here
    fold_here V U change (u ∷ zs) (suc j) z hs e b h A =
        fold_here V U change zs j z (op u hs) e (λ i y n f. b (suc i) y (λ m. n (omega arith)) f) h (ready_after u zs hs A.0 A.1 A.2) ∙ ap change (b 0 u (λ n. omega arith) refl hs A.0).0

    -- what each of them keeps
    pub fold_stays : (P : List HeaderRecord → Type 0) (zs : List Z) (hs : List HeaderRecord)
        → ((j : ℕ) (z : Z) → slice_get zs j ≡ Some z → (ks : List HeaderRecord) → ready z ks → P ks → P (op z ks)) → AreReady ready two zs hs → P hs → P (all_made op zs hs)
    fold_stays P [] hs h A q = q
    fold_stays P (z ∷ zs) hs h A q = fold_stays P zs (op z hs) (λ j u e. h (suc j) u e) (ready_after z zs hs A.0 A.1 A.2) (h 0 z refl hs A.0 q)

-- Lists of slots: the first one of a test, rising numbers, and what is in hand.
use Rattle.std.proofs.Common.{◌≡◌, ◌≢◌, inl, inr, ℕ, zero, suc, ◌<◌, ◌≤◌, Bool, List, [], ◌∷◌, ◌++◌, map, set, position, slice_get, Option, Some, None, option_map, refl, sym, ◌∙◌, ap, arith}
use Rattle.std.specs.Prelude.{find, IfSome}
use Rattle.il_machine.specs.Buffers.{Held}
use Rattle.il_machine.specs.Look.{Look}
use Rattle.il_machine.specs.Places.{first_place}
use Rattle.il_machine.proofs.Places.{is_first_place}
use Rattle.machine_laws.proofs.Every.{at_set, at_push}
use Rattle.machine_laws.proofs.Finding.{either}
use Rattle.header_core.specs.BufferHeader.{BufferHeader}
use Rattle.graph_core.specs.Changes.{IsHandedIn}
use Rattle.trace_run.specs.declared.slots.Slot.{Slot}
use Rattle.trace_run.specs.Naming.{NamedHeader, now_held}
use Rattle.trace_run.specs.Standing.{as_header, held_as, holding, AreRising, IsHand, Hands}

-- ---- the first slot of a test

mapped : (o : Option ℕ) (k : ℕ) → option_map suc o ≡ Some k → (j : ℕ) × (o ≡ Some j) × (k ≡ suc j)
mapped None k e = absurd cc
mapped (Some j) k e = let s : suc j ≡ k = cc in (j, refl, sym s)

unmapped : (o : Option ℕ) → option_map suc o ≡ None → o ≡ None
unmapped None e = refl
unmapped (Some j) e = absurd cc

module _ (test : NamedHeader → Bool) where
  abbrev passes : Slot → Bool
  passes slot = test (as_header slot)

  abbrev headers : List Slot → List NamedHeader
  headers slots = map as_header slots

  none_first : (slots : List Slot) → first_place passes slots ≡ None → find test (headers slots) ≡ None
  none_first [] p = refl
  none_first (s ∷ ss) p = either (passes s)
      (λ t. let e : Some 0 ≡ None = rw t at p in absurd cc)
      (λ f. rw f (none_first ss (unmapped (first_place passes ss) (rw f at p))))

  first_found : (slots : List Slot) (place : ℕ) (slot : Slot) → first_place passes slots ≡ Some place → slice_get slots place ≡ Some slot → find test (headers slots) ≡ Some (as_header slot)
  first_found [] place slot p at = absurd cc
  first_found (s ∷ ss) place slot p at = either (passes s)
      (λ t.
      let e : Some 0 ≡ Some place = rw t at p in
      let z : 0 ≡ place = cc in
      let here : slice_get (s ∷ ss) 0 ≡ Some slot = rw (← z) at at in
      let is : s ≡ slot = cc in
      rw (t, is) refl)
      (λ f.
      let m = mapped (first_place passes ss) place (rw f at p) in
      let later : slice_get (s ∷ ss) (suc m.0) ≡ Some slot = rw m.2 at at in
      rw f (first_found ss m.0 slot m.1 later))

  first_held : (hand : Option Held) (slots : List Slot) (place : ℕ) (slot now : Slot) → first_place passes slots ≡ Some place → slice_get slots place ≡ Some slot → as_header now ≡ record (as_header slot) { hand = hand }
      → headers (set slots place now) ≡ now_held test hand (headers slots)
  first_held hand [] place slot now p at e = absurd cc
  first_held hand (s ∷ ss) place slot now p at e = either (passes s)
      (λ t.
      let q : Some 0 ≡ Some place = rw t at p in
      let z : 0 ≡ place = cc in
      let here : slice_get (s ∷ ss) 0 ≡ Some slot = rw (← z) at at in
      let is : s ≡ slot = cc in
      rw (← z, t) (ap (λ (h : NamedHeader). h ∷ headers ss) (rw is e)))
      (λ f.
      let m = mapped (first_place passes ss) place (rw f at p) in
      let later : slice_get (s ∷ ss) (suc m.0) ≡ Some slot = rw m.2 at at in
      rw (m.2, f) (ap (λ (l : List NamedHeader). as_header s ∷ l) (first_held hand ss m.0 slot now m.1 later e)))

  pub none_passes : (slots : List Slot) → position passes slots ≡ None → find test (headers slots) ≡ None
  none_passes slots p = none_first slots (sym (is_first_place passes slots) ∙ p)

  pub first_passes : (slots : List Slot) (place : ℕ) (slot : Slot) → position passes slots ≡ Some place → slice_get slots place ≡ Some slot → find test (headers slots) ≡ Some (as_header slot)
  first_passes slots place slot p at = first_found slots place slot (sym (is_first_place passes slots) ∙ p) at

  -- what the client has of that slot changes
  pub first_changes : (hand : Option BufferHeader) (slots : List Slot) (place : ℕ) (slot : Slot) → position passes slots ≡ Some place → slice_get slots place ≡ Some slot
      → headers (set slots place (holding hand slot)) ≡ now_held test (option_map held_as hand) (headers slots)
  first_changes hand slots place slot p at = first_held (option_map held_as hand) slots place slot (holding hand slot) (sym (is_first_place passes slots) ∙ p) at refl

-- ---- rising numbers

pub rising_more : (from next more : ℕ) (slots : List Slot) → AreRising from slots next → next ≤ more → AreRising from slots more
rising_more from next more [] R l = omega (arith, R)
rising_more from next more (s ∷ ss) R l = (R.0, rising_more (suc s.number) next more ss R.1 l)

pub rising_push : (from next more : ℕ) (slots : List Slot) (s : Slot) → AreRising from slots next → next ≤ s.number → s.number < more → AreRising from (slots ++ s ∷ []) more
rising_push from next more [] s R l m = (omega (arith, R), omega (arith, m))
rising_push from next more (x ∷ xs) s R l m = (R.0, rising_push (suc x.number) next more xs s R.1 l m)

pub rising_set : (from next i : ℕ) (slots : List Slot) (s t : Slot) → AreRising from slots next → slice_get slots i ≡ Some s → t.number ≡ s.number → AreRising from (set slots i t) next
rising_set from next i [] s t R at e = R
rising_set from next zero (x ∷ xs) s t R at e =
    let is : x ≡ s = cc in
    let n : t.number ≡ x.number = rw is e in
    rw n R
rising_set from next (suc i) (x ∷ xs) s t R at e = (R.0, rising_set (suc x.number) next i xs s t R.1 at e)

rising_at : (from next i : ℕ) (slots : List Slot) (s : Slot) → AreRising from slots next → slice_get slots i ≡ Some s → from ≤ s.number
rising_at from next i [] s R at = absurd cc
rising_at from next zero (x ∷ xs) s R at = let is : x ≡ s = cc in rw (← is) R.0
rising_at from next (suc i) (x ∷ xs) s R at = let l = rising_at (suc x.number) next i xs s R.1 at in let m = R.0 in omega (arith, l, m)

rising_least : (from next : ℕ) (slots : List Slot) → AreRising from slots next → from ≤ next
rising_least from next [] R = R
rising_least from next (s ∷ ss) R = let l = rising_least (suc s.number) next ss R.1 in let m = R.0 in omega (arith, l, m)

pub rising_below : (from next i : ℕ) (slots : List Slot) (s : Slot) → AreRising from slots next → slice_get slots i ≡ Some s → s.number < next
rising_below from next i [] s R at = absurd cc
rising_below from next zero (x ∷ xs) s R at =
    let is : x ≡ s = cc in
    let k : x.number ≡ s.number = ap (λ (y : Slot). y.number) is in
    let l = rising_least (suc x.number) next xs R.1 in
    omega (arith, k, l)
rising_below from next (suc i) (x ∷ xs) s R at = rising_below (suc x.number) next i xs s R.1 at

pub rising_front : (from next : ℕ) (slots : List Slot) (s : Slot) → AreRising from (slots ++ s ∷ []) next → AreRising from slots s.number
rising_front from next [] s R = R.0
rising_front from next (x ∷ xs) s R = (R.0, rising_front (suc x.number) next xs s R.1)

pub rising_apart : (from next i j : ℕ) (slots : List Slot) (s t : Slot) → AreRising from slots next → slice_get slots i ≡ Some s → slice_get slots j ≡ Some t → j ≢ i → t.number ≢ s.number
rising_apart from next i j [] s t R a b n e = absurd cc
rising_apart from next zero zero (x ∷ xs) s t R a b n e = n refl
rising_apart from next zero (suc j) (x ∷ xs) s t R a b n e =
    let is : x ≡ s = cc in
    let l = rising_at (suc x.number) next j xs t R.1 b in
    let k : x.number ≡ s.number = ap (λ (y : Slot). y.number) is in
    omega (arith, l, k, e)
rising_apart from next (suc i) zero (x ∷ xs) s t R a b n e =
    let is : x ≡ t = cc in
    let l = rising_at (suc x.number) next i xs s R.1 a in
    let k : x.number ≡ t.number = ap (λ (y : Slot). y.number) is in
    omega (arith, l, k, e)
rising_apart from next (suc i) (suc j) (x ∷ xs) s t R a b n e = rising_apart (suc x.number) next i j xs s t R.1 a b (λ k. n (ap suc k)) e

-- ---- what is in hand

abbrev pub Keeps : Look → Look → Type 0
Keeps l m = (header : BufferHeader) → IsHandedIn header l → IsHandedIn header m

abbrev pub KeepsOthers : BufferHeader → Look → Look → Type 0
KeepsOthers given l m = (header : BufferHeader) → header.held.number ≢ given.held.number → IsHandedIn header l → IsHandedIn header m

hand_kept : (l m : Look) (n : ℕ) (o : Option BufferHeader) → Keeps l m → IfSome o (λ header. (header.held.number ≡ n) × IsHandedIn header l) → IfSome o (λ header. (header.held.number ≡ n) × IsHandedIn header m)
hand_kept l m n None K h = tt
hand_kept l m n (Some header) K h = (h.0, K header h.1)

pub hands_kept : (slots : List Slot) (l m : Look) → Keeps l m → l.made ≤ m.made → Hands slots l → Hands slots m
hands_kept slots l m K g H = record {
  rising = rising_more 0 l.made m.made slots H.rising g;
  each = λ i s at. hand_kept l m s.number s.hand K (H.each i s at);
}

other_kept : (given : BufferHeader) (l m : Look) (n : ℕ) (o : Option BufferHeader) → n ≢ given.held.number → KeepsOthers given l m → IfSome o (λ header. (header.held.number ≡ n) × IsHandedIn header l)
    → IfSome o (λ header. (header.held.number ≡ n) × IsHandedIn header m)
other_kept given l m n None a K h = tt
other_kept given l m n (Some header) a K h = (h.0, K header (λ e. a (sym h.0 ∙ e)) h.1)

-- the header of the slot at the place was handed in
pub hands_without : (slots : List Slot) (l m : Look) (i : ℕ) (s : Slot) (given : BufferHeader) → slice_get slots i ≡ Some s → given.held.number ≡ s.number → KeepsOthers given l m → l.made ≤ m.made → Hands slots l
    → Hands (set slots i (holding None s)) m
hands_without slots l m i s given at n K g H = record {
  rising = rising_more 0 l.made m.made _ (rising_set 0 l.made i slots s (holding None s) H.rising at refl) g;
  each = λ j t b. elim (at_set slots i j (holding None s) t b) [
    | inl x ↦ rw x.1 tt
    | inr x ↦
        let a = rising_apart 0 l.made i j slots s t H.rising at x.1 x.0 in
        other_kept given l m t.number t.hand (λ e. a (e ∙ n)) K (H.each j t x.1)
  ];
}

-- a header is in the hand of the slot at the place
pub hands_with : (slots : List Slot) (l : Look) (i : ℕ) (s : Slot) (header : BufferHeader) → slice_get slots i ≡ Some s → header.held.number ≡ s.number → IsHandedIn header l → Hands slots l
    → Hands (set slots i (holding (Some header) s)) l
hands_with slots l i s header at n h H = record {
  rising = rising_set 0 l.made i slots s (holding (Some header) s) H.rising at refl;
  each = λ j t b. elim (at_set slots i j (holding (Some header) s) t b) [
    | inl x ↦ rw x.1 (n, h)
    | inr x ↦ H.each j t x.1
  ];
}

-- one slot more
pub hands_push : (slots : List Slot) (l m : Look) (s : Slot) → Keeps l m → l.made ≤ s.number → s.number < m.made → IsHand m s → Hands slots l → Hands (slots ++ s ∷ []) m
hands_push slots l m s K g b h H = record {
  rising = rising_push 0 l.made m.made slots s H.rising g b;
  each = λ j t at. elim (at_push slots j s t at) [
    | inl x ↦ hand_kept l m t.number t.hand K (H.each j t x)
    | inr x ↦ rw x h
  ];
}

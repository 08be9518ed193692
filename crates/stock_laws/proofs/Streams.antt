-- The parts that are kept, and the streams of the world, as a component joins or leaves.
use Rattle.std.proofs.Common.{◌≡◌, ◌≢◌, inl, inr, ℕ, zero, suc, ◌+◌, ◌<◌, Bool, true, false, not, nat_lt, List, [], ◌∷◌, ◌++◌, length, map, find, filter, remove, Option, Some, None, All, get_or, slice_get, refl, sym, ◌∙◌, ap, subst, arith, if◌then◌else◌}
use Rattle.std.proofs.lemmas.Bool.Decides.{nat_tests}
use Rattle.part_api.specs.Terms.{Terms}
use Rattle.il_machine.specs.Kinds.{is_source}
use Rattle.il_machine.specs.World.{Component, Stream, World, number_of, is_stream_of, fresh_stream}
use Rattle.il_machine.specs.Parts.{terms_of}
use Rattle.il_machine.specs.Components.{without_component}
use Rattle.il_machine.specs.Whole.{PartSeen, HasDone, HasParts}
use Rattle.stock_laws.proofs.Lists.{get_last, get_before_last, get_at_last, get_removed}
use Rattle.stock_laws.proofs.Noting.{IsOnly}

below_at : {X : Type 0} (P : X → Type 0) (xs : List X) (i : ℕ) (x : X) → slice_get xs i ≡ Some x → All P xs → P x
below_at P [] i x e h = absurd cc
below_at P (y ∷ xs) zero x e h = let q : y ≡ x = cc in subst P q (h 0 y (omega arith))
below_at P (y ∷ xs) (suc i) x e h = below_at P xs i x e (λ j d b. h (suc j) d (omega arith))

-- ---- a component joins

find_before : (n m : ℕ) (xs : List Stream) → n ≢ m → find (is_stream_of n) (xs ++ fresh_stream m ∷ []) ≡ find (is_stream_of n) xs
find_before n m [] d = grind (arith, nat_tests)
find_before n m (x ∷ xs) d = let i = find_before n m xs d in grind (arith, nat_tests)

find_last : (n : ℕ) (xs : List Stream) → All (λ s. s.component < n) xs → find (is_stream_of n) (xs ++ fresh_stream n ∷ []) ≡ Some (fresh_stream n)
find_last n [] h = grind (arith, nat_tests)
find_last n (x ∷ xs) h =
    let a = h 0 x (omega arith) in
    let i = find_last n xs (λ k d b. h (suc k) d (omega arith)) in
    grind (arith, nat_tests)

streams_below : (n : ℕ) (xs : List Stream) (cs : List Component) → map (λ s. s.component) xs ≡ map number_of cs → All (λ c. number_of c < n) cs → All (λ s. s.component < n) xs
streams_below n [] cs e h = λ k d b. absurd (omega arith)
streams_below n (x ∷ xs) [] e h = absurd cc
streams_below n (x ∷ xs) (c ∷ cs) e h = λ k. elim k as (λ k. (d : Stream) → k < length (x ∷ xs) → (get_or (x ∷ xs) k d).component < n) [
  | zero ↦ λ d b.
      let f : x.component ≡ number_of c = cc in
      let g = h 0 c (omega arith) in
      omega arith
  | suc k ↦ λ d b.
      let f : map (λ (s : Stream). s.component) xs ≡ map number_of cs = cc in
      streams_below n xs cs f (λ j y q. h (suc j) y (omega arith)) k d (omega arith)
]

-- the part of a component that was just made
pub fresh_done : (t : Terms) (f : Bool) (n : ℕ) (p : PartSeen) → t.file ≡ None → (is_source t.kind ≡ true → p.left ≡ Some 0) → (is_source t.kind ≡ true → p.rest ≡ Some []) → HasDone t f (fresh_stream n) p
fresh_done t f n p e l r = record {
  left = λ h. l h ∙ rw e refl;
  rest = λ h b. r h ∙ rw e refl;
  kept = λ k h. absurd cc;
  writing = λ k h b. absurd cc;
}

abbrev pub with_made : Component → World → World
with_made c w = record w { components = w.components ++ c ∷ []; streams = w.streams ++ fresh_stream w.numbered ∷ []; numbered = w.numbered + 1 }

pub parts_made : (parts : List (Option PartSeen)) (w : World) (c : Component) (p : PartSeen) → number_of c ≡ w.numbered → HasDone (terms_of c) c.part.failed (fresh_stream w.numbered) p → length parts ≡ length w.components
    → All (λ d. number_of d < w.numbered) w.components → map (λ s. s.component) w.streams ≡ map number_of w.components → HasParts parts w
    → HasParts (parts ++ Some p ∷ []) (with_made c w)
parts_made parts w c p n D l B e P = λ j d s h out st. elim (get_last w.components j c d h) [
  | inl q ↦
      let b = below_at (λ x. number_of x < w.numbered) w.components j d q B in
      let u : number_of d ≢ w.numbered = λ z. absurd (omega arith) in
      let y = P j d s q out (sym (find_before (number_of d) w.numbered w.streams u) ∙ st) in
      (y.0, get_before_last parts j (Some p) (Some y.0) y.1, y.2)
  | inr q ↦
      let u : number_of d ≡ w.numbered = ap number_of q.1 ∙ n in
      let z : Some (fresh_stream w.numbered) ≡ Some s = sym (find_last w.numbered w.streams (streams_below w.numbered w.streams w.components e B)) ∙ (ap (λ (m : ℕ). find (is_stream_of m) (w.streams ++ fresh_stream w.numbered ∷ [])) (sym u) ∙ st) in
      let v : fresh_stream w.numbered ≡ s = cc in (
        p,
        rw (q.0, ← l) (get_at_last parts (Some p)),
        subst (λ (x : Stream). HasDone (terms_of d) d.part.failed x p) v (subst (λ (x : Component). HasDone (terms_of x) x.part.failed (fresh_stream w.numbered) p) (sym q.1) D),
      )
]

streams_added : (xs : List Stream) (cs : List Component) (s : Stream) (c : Component) → map (λ s. s.component) xs ≡ map number_of cs → s.component ≡ number_of c → map (λ s. s.component) (xs ++ s ∷ []) ≡ map number_of (cs ++ c ∷ [])
streams_added [] [] s c e f = cc
streams_added [] (d ∷ cs) s c e f = absurd cc
streams_added (x ∷ xs) [] s c e f = absurd cc
streams_added (x ∷ xs) (d ∷ cs) s c e f =
    let a : x.component ≡ number_of d = cc in
    let b : map (λ (s : Stream). s.component) xs ≡ map number_of cs = cc in
    let i = streams_added xs cs s c b f in
    cc

pub streams_made : (w : World) (c : Component) → number_of c ≡ w.numbered → map (λ s. s.component) w.streams ≡ map number_of w.components → map (λ s. s.component) (with_made c w).streams ≡ map number_of (with_made c w).components
streams_made w c n e = streams_added w.streams w.components (fresh_stream w.numbered) c e (sym n)

-- ---- a component leaves

find_others : (n m : ℕ) (xs : List Stream) → n ≢ m → find (is_stream_of n) (filter (λ s. not (is_stream_of m s)) xs) ≡ find (is_stream_of n) xs
find_others n m [] d = refl
find_others n m (x ∷ xs) d = let i = find_others n m xs d in grind (arith, nat_tests)

pub moved_other : (i j : ℕ) → (if nat_lt j i then j else suc j) ≢ i
moved_other i j = elim (nat_lt j i) as (λ b. nat_lt j i ≡ b → (if b then j else suc j) ≢ i) [ true ↦ λ e f. let g : j < i = grind (arith, nat_tests) in absurd (omega arith) | false ↦ λ e f. grind (arith, nat_tests) ] refl

pub parts_removed : (parts : List (Option PartSeen)) (w : World) (i : ℕ) (c : Component) → IsOnly i c w.components → HasParts parts w → HasParts (remove parts i) (without_component i c w)
parts_removed parts w i c only P = λ j d s h out st.
    let m = if nat_lt j i then j else suc j in
    let here : slice_get w.components m ≡ Some d = sym (get_removed w.components i j) ∙ h in
    let n = only m d here (moved_other i j) in
    let y = P m d s here out (sym (find_others (number_of d) (number_of c) w.streams n) ∙ st) in
    (y.0, get_removed parts i j ∙ y.1, y.2)

-- no component has the number
AreOther : ℕ → List Component → Type 0
AreOther n cs = (j : ℕ) (d : Component) → slice_get cs j ≡ Some d → number_of d ≢ n

all_stay : (n : ℕ) (xs : List Stream) (cs : List Component) → map (λ s. s.component) xs ≡ map number_of cs → AreOther n cs → filter (λ s. not (is_stream_of n s)) xs ≡ xs
unfolding AreOther
all_stay n [] cs e o = refl
all_stay n (x ∷ xs) [] e o = absurd cc
all_stay n (x ∷ xs) (c ∷ cs) e o =
    let f : x.component ≡ number_of c = cc in
    let g : map (λ (s : Stream). s.component) xs ≡ map number_of cs = cc in
    let d = o 0 c refl in
    let i = all_stay n xs cs g (λ j y h. o (suc j) y h) in
    grind (arith, nat_tests)

others_stay : (i : ℕ) (c : Component) (xs : List Stream) (cs : List Component) → slice_get cs i ≡ Some c → IsOnly i c cs → map (λ s. s.component) xs ≡ map number_of cs
    → map (λ s. s.component) (filter (λ s. not (is_stream_of (number_of c) s)) xs) ≡ map number_of (remove cs i)
unfolding AreOther
others_stay i c xs [] at only e = absurd cc
others_stay i c [] (a ∷ cs) at only e = absurd cc
others_stay zero c (x ∷ xs) (a ∷ cs) at only e =
    let q : a ≡ c = cc in
    let f : x.component ≡ number_of c = cc in
    let g : map (λ (s : Stream). s.component) xs ≡ map number_of cs = cc in
    let s = all_stay (number_of c) xs cs g (λ j d h. only (suc j) d h (λ z. absurd (omega arith))) in
    grind (arith, nat_tests)
others_stay (suc i) c (x ∷ xs) (a ∷ cs) at only e =
    let f : x.component ≡ number_of a = cc in
    let g : map (λ (s : Stream). s.component) xs ≡ map number_of cs = cc in
    let n = only 0 a refl (λ z. absurd (omega arith)) in
    let r = others_stay i c xs cs at (λ j d h m. only (suc j) d h (λ z. m (omega arith))) g in
    grind (arith, nat_tests)

pub streams_removed : (w : World) (i : ℕ) (c : Component) → slice_get w.components i ≡ Some c → IsOnly i c w.components → map (λ s. s.component) w.streams ≡ map number_of w.components
    → map (λ s. s.component) (without_component i c w).streams ≡ map number_of (without_component i c w).components
streams_removed w i c at only e = others_stay i c w.streams w.components at only e

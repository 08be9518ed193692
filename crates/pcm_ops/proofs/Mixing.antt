-- A mix in place: the first i sums are mixed, and the others as they were.
use Rattle.std.proofs.Common.{◌≡◌, ℕ, ◌+◌, ◌-◌, ◌^◌, ◌<◌, ◌≤◌, List, [], ◌∷◌, map, length, get_or, set, refl, sym, ap, subst, ◌∙◌, inl, inr, arith, ℤ, pos, ◌+ℤ◌, to_z, of_z, FitsSigned, w16, w32, length-set}
use Rattle.std.proofs.lemmas.Int.{ints, to_z-of_z, fits_signed_from_abs}
use Rattle.pcm_ops.proofs.Maps.{cons_same}
use Rattle.pcm_ops.proofs.Scaling.{scaled_size}
use Rattle.std.proofs.lemmas.Bool.{cases_lt}
use Rattle.std.proofs.lemmas.List.{ext_get_or, get_or-set_same, get_or-set_other}
use Rattle.std.proofs.lemmas.Simd.{length-chunk, length-put_chunk, length-zip2, get_or-chunk, get_or-zip2, get_or-put_chunk_below, get_or-put_chunk_at, get_or-put_chunk_above}
use Rattle.std.specs.Prelude.{unsigned_abs}
use lib.Lanes.{chunk, put_chunk, zip2, Each1, Each2}
use Rattle.pcm_ops.specs.Samples.{scaled, mixed}

pub record IsMixedTo (weight i : ℕ) (old from now : List ℤ) : Type 0 where
  pub same_length : (length from ≡ length old) × (length now ≡ length old)
  pub front : (k : ℕ) → k < i → get_or now k (pos 0) ≡ mixed weight (get_or old k (pos 0)) (get_or from k (pos 0))
  pub back : (k : ℕ) → i ≤ k → get_or now k (pos 0) ≡ get_or old k (pos 0)

pub none_mixed : (weight : ℕ) (old from : List ℤ) → length from ≡ length old → IsMixedTo weight 0 old from old
none_mixed weight old from e = record { same_length = (e, refl); front = (λ k l. absurd (omega arith)); back = (λ k l. refl) }

-- the vector's part of the sums is as it was
pub rest_of : (weight i n : ℕ) (old from now : List ℤ) → i + n ≤ length old → IsMixedTo weight i old from now → chunk i n now ≡ chunk i n old
rest_of weight i n old from now le m =
    ext_get_or (pos 0) _ _ (length-chunk i n now (omega (arith, m.same_length.1)) ∙ sym (length-chunk i n old le)) (λ k l.
    let within : k < n = omega (arith, length-chunk i n now (omega (arith, m.same_length.1))) in
    get_or-chunk i n now k (pos 0) within ∙ m.back (i + k) (omega arith) ∙ sym (get_or-chunk i n old k (pos 0) within))

pub more_mixed : (weight i n : ℕ) (old from now ys : List ℤ) → i + n ≤ length from → IsMixedTo weight i old from now → ys ≡ zip2 (mixed weight) (chunk i n old) (chunk i n from)
    → IsMixedTo weight (i + n) old from (put_chunk i now ys)
more_mixed weight i n old from now ys le m e =
    let left : length (chunk i n old) ≡ n = length-chunk i n old (omega (arith, m.same_length.0)) in
    let right : length (chunk i n from) ≡ n = length-chunk i n from le in
    let long : length ys ≡ n = ap length e ∙ length-zip2 (mixed weight) (chunk i n old) (chunk i n from) (left ∙ sym right) ∙ left in
    record {
      same_length = (m.same_length.0, length-put_chunk i now ys ∙ m.same_length.1);
      front = (λ k l. elim (cases_lt k i) [
        | inl before ↦ get_or-put_chunk_below i now ys k (pos 0) before ∙ m.front k before
        | inr after ↦
            let j = k - i in
            let here : i + j ≡ k = omega arith in
            let item : get_or ys j (pos 0) ≡ mixed weight (get_or old (i + j) (pos 0)) (get_or from (i + j) (pos 0)) =
            ap (λ l. get_or l j (pos 0)) e
            ∙ get_or-zip2 (mixed weight) (chunk i n old) (chunk i n from) j (pos 0) (pos 0) (pos 0) (omega arith) (omega arith)
            ∙ ap (λ z. mixed weight z (get_or (chunk i n from) j (pos 0))) (get_or-chunk i n old j (pos 0) (omega arith))
            ∙ ap (mixed weight (get_or old (i + j) (pos 0))) (get_or-chunk i n from j (pos 0) (omega arith)) in
            subst (λ h. get_or (put_chunk i now ys) h (pos 0) ≡ mixed weight (get_or old h (pos 0)) (get_or from h (pos 0))) here
            (get_or-put_chunk_at i now ys j (pos 0) (omega arith) (omega (arith, m.same_length.0, m.same_length.1)) ∙ item)
      ]);
      back = (λ k l. get_or-put_chunk_above i now ys k (pos 0) (omega arith) ∙ m.back k (omega arith));
    }

pub one_mixed : (weight i : ℕ) (old from now : List ℤ) (y : ℤ) → i < length from → IsMixedTo weight i old from now → y ≡ mixed weight (get_or old i (pos 0)) (get_or from i (pos 0))
    → IsMixedTo weight (i + 1) old from (set now i y)
one_mixed weight i old from now y le m e =
    record {
      same_length = (m.same_length.0, length-set now i y ∙ m.same_length.1);
      front = (λ k l. elim (cases_lt k i) [
        | inl before ↦ get_or-set_other now i k y (pos 0) (λ q. absurd (omega arith)) ∙ m.front k before
        | inr after ↦
            let here : i ≡ k = omega arith in
            subst (λ h. get_or (set now i y) h (pos 0) ≡ mixed weight (get_or old h (pos 0)) (get_or from h (pos 0))) here
            (get_or-set_same now i y (pos 0) (omega (arith, m.same_length.0, m.same_length.1)) ∙ e)
      ]);
      back = (λ k l. get_or-set_other now i k y (pos 0) (λ q. absurd (omega arith)) ∙ m.back k (omega arith));
    }

pub whole_mix : (weight i : ℕ) (old from now : List ℤ) → length from ≤ i → IsMixedTo weight i old from now → now ≡ zip2 (mixed weight) old from
whole_mix weight i old from now le m =
    let long : length (zip2 (mixed weight) old from) ≡ length old = length-zip2 (mixed weight) old from (sym m.same_length.0) in
    ext_get_or (pos 0) _ _ (m.same_length.1 ∙ sym long) (λ k l.
    m.front k (omega (arith, m.same_length.0, m.same_length.1))
    ∙ sym (get_or-zip2 (mixed weight) old from k (pos 0) (pos 0) (pos 0) (omega (arith, m.same_length.1)) (omega (arith, m.same_length.0, m.same_length.1))))

-- ---- sums by bits

abbrev pub sum_bits : ℕ → ℕ → ℕ
sum_bits a b = of_z w32 (to_z w32 a +ℤ to_z w32 b)

pub sum_size : (a b : ℤ) (m n : ℕ) → unsigned_abs a ≤ m → unsigned_abs b ≤ n → unsigned_abs (a +ℤ b) ≤ m + n
sum_size a b m n p q = omega (arith, ints)

pub sum_fits : (a b : ℤ) → unsigned_abs a ≤ 2 ^ 30 → unsigned_abs b ≤ 524280 → FitsSigned w32 (a +ℤ b)
sum_fits a b p q = fits_signed_from_abs w32 (a +ℤ b) (omega (arith, sum_size a b (2 ^ 30) 524280 p q))

fits_of : (a : ℤ) → unsigned_abs a ≤ 2 ^ 30 → FitsSigned w32 a
fits_of a p = fits_signed_from_abs w32 a (omega arith)

sum_read : (a b : ℤ) → unsigned_abs a ≤ 2 ^ 30 → unsigned_abs b ≤ 524280 → to_z w32 (of_z w32 a) +ℤ to_z w32 (of_z w32 b) ≡ a +ℤ b
sum_read a b p q = ap (λ z. z +ℤ to_z w32 (of_z w32 b)) (to_z-of_z w32 a (fits_of a p)) ∙ ap (λ z. a +ℤ z) (to_z-of_z w32 b (fits_of b (omega arith)))

pub sum_asks : (a b : ℤ) → unsigned_abs a ≤ 2 ^ 30 → unsigned_abs b ≤ 524280 → FitsSigned w32 (to_z w32 (of_z w32 a) +ℤ to_z w32 (of_z w32 b))
sum_asks a b p q = subst (FitsSigned w32) (sym (sum_read a b p q)) (sum_fits a b p q)

pub sum_is : (a b : ℤ) → unsigned_abs a ≤ 2 ^ 30 → unsigned_abs b ≤ 524280 → to_z w32 (sum_bits (of_z w32 a) (of_z w32 b)) ≡ a +ℤ b
sum_is a b p q = ap (λ z. to_z w32 (of_z w32 z)) (sum_read a b p q) ∙ to_z-of_z w32 (a +ℤ b) (sum_fits a b p q)

pub sums_ask : (s r : List ℤ) → Each1 (λ z. unsigned_abs z ≤ 2 ^ 30) s → Each1 (λ z. unsigned_abs z ≤ 524280) r
    → Each2 (λ a b. FitsSigned w32 (to_z w32 a +ℤ to_z w32 b)) (map (of_z w32) s) (map (of_z w32) r)
sums_ask [] r h k = tt
sums_ask (a ∷ s) [] h k = tt
sums_ask (a ∷ s) (b ∷ r) h k = (sum_asks a b h.0 k.0, sums_ask s r h.1 k.1)

sums_are : (s r : List ℤ) → Each1 (λ z. unsigned_abs z ≤ 2 ^ 30) s → Each1 (λ z. unsigned_abs z ≤ 524280) r
    → map (to_z w32) (zip2 sum_bits (map (of_z w32) s) (map (of_z w32) r)) ≡ zip2 (λ a b. a +ℤ b) s r
sums_are [] r h k = refl
sums_are (a ∷ s) [] h k = refl
sums_are (a ∷ s) (b ∷ r) h k = cons_same _ _ _ _ (sum_is a b h.0 k.0) (sums_are s r h.1 k.1)

mixed_zip : (weight : ℕ) (s x : List ℤ) → zip2 (λ a b. a +ℤ b) s (map (scaled weight) x) ≡ zip2 (mixed weight) s x
unfolding mixed
mixed_zip weight [] x = refl
mixed_zip weight (a ∷ s) [] = refl
mixed_zip weight (a ∷ s) (b ∷ x) = ap (λ l. (a +ℤ scaled weight b) ∷ l) (mixed_zip weight s x)

pub mixed_lanes : (weight : ℕ) (s x r : List ℤ) → Each1 (λ z. unsigned_abs z ≤ 2 ^ 30) s → Each1 (λ z. unsigned_abs z ≤ 524280) r → r ≡ map (scaled weight) x
    → map (to_z w32) (zip2 sum_bits (map (of_z w32) s) (map (of_z w32) r)) ≡ zip2 (mixed weight) s x
mixed_lanes weight s x r h k e = sums_are s r h k ∙ ap (zip2 (λ a b. a +ℤ b) s) e ∙ mixed_zip weight s x

pub mixed_item : (weight : ℕ) (s x r : ℤ) → unsigned_abs s ≤ 2 ^ 30 → unsigned_abs r ≤ 524280 → r ≡ scaled weight x → to_z w32 (sum_bits (of_z w32 s) (of_z w32 r)) ≡ mixed weight s x
unfolding mixed
mixed_item weight s x r p q e = sum_is s r p q ∙ ap (λ z. s +ℤ z) e

pub mixed_size : (weight : ℕ) (s x : ℤ) (b : ℕ) → weight < 65536 → FitsSigned w16 x → unsigned_abs s ≤ b → unsigned_abs (mixed weight s x) ≤ b + 524280
unfolding mixed
mixed_size weight s x b l f p = sum_size s (scaled weight x) b 524280 p (scaled_size weight x l f)

-- The sums of a mixer.
use Rattle.std.proofs.Common.{◌≡◌, ◌≢◌, ℕ, zero, suc, ◌+◌, ◌-◌, ◌*◌, ◌/◌, ◌<◌, ◌≤◌, List, [], ◌∷◌, ◌++◌, length, map, get_or, set, replicate, refl, ap, sym, ◌∙◌, arith, ℤ, pos, ◌+ℤ◌, Bool, true, false, cond}
use Rattle.std.proofs.lemmas.List.{map-append, length-map, length-replicate, append-nil, length-append, replicate-append-replicate}
use Rattle.std.proofs.lemmas.List.Sums.{sum_by-set}
use Rattle.std.proofs.lemmas.Simd.{length-zip2}
use Rattle.std.proofs.lemmas.Int.{ints}
use Rattle.std.specs.List.{count_by}
use Rattle.std.specs.Int.{int_div_euclid}
use Rattle.std.specs.Simd.Lanes.{zip2}
use Rattle.pcm_ops.specs.Samples.{samples, bytes, mixed, scaled, clamped}
use Rattle.part_forms.specs.Mixing.{longest, padded, sums, mixed_bytes, Reach, with_zeros}
use Rattle.audio_parts.proofs.Joins.{bytes-append, samples-append}

-- ---- samples

samples_long : (count : ℕ) (xs : List ℕ) → length xs ≡ count * 2 → length (samples xs) ≡ count
unfolding samples
samples_long zero [] e = refl
samples_long (suc count) [] e = absurd (omega (arith, e))
samples_long zero (x ∷ xs) e = absurd (omega (arith, e))
samples_long (suc count) (x ∷ []) e = absurd (omega (arith, e))
samples_long (suc count) (x ∷ y ∷ xs) e = ap suc (samples_long count xs (omega (arith, e)))

samples_zeros : (count : ℕ) → samples (replicate (count * 2) 0) ≡ replicate count (pos 0)
unfolding samples
samples_zeros zero = refl
samples_zeros (suc count) =
    let two : suc count * 2 ≡ suc (suc (count * 2)) = omega arith in
    ap (λ n. samples (replicate n 0)) two ∙ ap (λ l. pos 0 ∷ l) (samples_zeros count)

padded_whole : (size : ℕ) (piece : List ℕ) → length piece ≡ size → padded size piece ≡ piece
padded_whole size piece e =
    let none : size - length piece ≡ 0 = omega (arith, e) in
    ap (λ n. piece ++ replicate n 0) none ∙ append-nil piece

padded_samples : (count : ℕ) (piece : List ℕ) → length piece ≡ count * 2 → length (samples (padded (count * 2) piece)) ≡ count
padded_samples count piece e = ap (λ p. length (samples p)) (padded_whole (count * 2) piece e) ∙ samples_long count piece e

padded_zeros : (count : ℕ) (piece : List ℕ) → piece ≡ replicate (count * 2) 0 → samples (padded (count * 2) piece) ≡ replicate count (pos 0)
padded_zeros count piece e =
    ap samples (padded_whole (count * 2) piece (ap length e ∙ length-replicate (count * 2) 0) ∙ e) ∙ samples_zeros count

-- ---- one weight

scaled_zero : (weight : ℕ) → scaled weight (pos 0) ≡ pos 0
unfolding scaled
scaled_zero weight = let none : 0 * weight ≡ 0 = omega arith in ap (λ n. int_div_euclid (pos n) (pos 4096)) none

plus_zero : (s : ℤ) → s +ℤ pos 0 ≡ s
plus_zero s = omega (arith, ints)

mixed_zero : (weight : ℕ) (s : ℤ) → mixed weight s (pos 0) ≡ s
unfolding mixed
mixed_zero weight s = ap (λ z. s +ℤ z) (scaled_zero weight) ∙ plus_zero s

nothing_mixed : (weight : ℕ) (s : List ℤ) (count : ℕ) → length s ≡ count → zip2 (mixed weight) s (replicate count (pos 0)) ≡ s
nothing_mixed weight [] count e = refl
nothing_mixed weight (a ∷ s) zero e = absurd (omega (arith, e))
nothing_mixed weight (a ∷ s) (suc count) e =
    ap (λ z. z ∷ zip2 (mixed weight) s (replicate count (pos 0))) (mixed_zero weight a)
    ∙ ap (λ l. a ∷ l) (nothing_mixed weight s count (omega (arith, e)))

plus_swapped : (a p q : ℤ) → (a +ℤ p) +ℤ q ≡ (a +ℤ q) +ℤ p
plus_swapped a p q = omega (arith, ints)

mixed_swapped : (v w : ℕ) (a x y : ℤ) → mixed v (mixed w a x) y ≡ mixed w (mixed v a y) x
unfolding mixed
mixed_swapped v w a x y = plus_swapped a (scaled w x) (scaled v y)

-- two inputs may come in either order
swapped : (v w : ℕ) (s x y : List ℤ) → zip2 (mixed v) (zip2 (mixed w) s x) y ≡ zip2 (mixed w) (zip2 (mixed v) s y) x
swapped v w [] x y = refl
swapped v w (a ∷ s) [] [] = refl
swapped v w (a ∷ s) [] (c ∷ y) = refl
swapped v w (a ∷ s) (b ∷ x) [] = refl
swapped v w (a ∷ s) (b ∷ x) (c ∷ y) =
    ap (λ z. z ∷ zip2 (mixed v) (zip2 (mixed w) s x) y) (mixed_swapped v w a b c) ∙ ap (λ l. mixed w (mixed v a c) b ∷ l) (swapped v w s x y)

zip2-append : {X Y Z : Type 0} (f : X → Y → Z) (xs : List X) (ys : List Y) (more : List X) (others : List Y) → length xs ≡ length ys
    → zip2 f (xs ++ more) (ys ++ others) ≡ zip2 f xs ys ++ zip2 f more others
zip2-append f [] [] more others e = refl
zip2-append f [] (y ∷ ys) more others e = absurd (omega (arith, e))
zip2-append f (x ∷ xs) [] more others e = absurd (omega (arith, e))
zip2-append f (x ∷ xs) (y ∷ ys) more others e = ap (λ l. f x y ∷ l) (zip2-append f xs ys more others (omega (arith, e)))

-- ---- all weights

abbrev pub AreWhole : List ℕ → ℕ → (ℕ → List ℕ) → Type 0
AreWhole weights size input = (k : ℕ) → k < length weights → length (input k) ≡ size

sums_same : (weights : List ℕ) (size : ℕ) (f g : ℕ → List ℕ) → ((k : ℕ) → f k ≡ g k) → sums weights size f ≡ sums weights size g
unfolding sums
sums_same [] size f g h = refl
sums_same (weight ∷ weights) size f g h =
    ap (λ l. zip2 (mixed weight) l (samples (padded size (f 0)))) (sums_same weights size (λ k. f (suc k)) (λ k. g (suc k)) (λ k. h (suc k)))
    ∙ ap (λ piece. zip2 (mixed weight) (sums weights size (λ k. g (suc k))) (samples (padded size piece))) (h 0)

pub sums_long : (weights : List ℕ) (count : ℕ) (f : ℕ → List ℕ) → AreWhole weights (count * 2) f → length (sums weights (count * 2) f) ≡ count
unfolding sums
sums_long [] count f h = length-replicate (count * 2 / 2) (pos 0) ∙ omega arith
sums_long (weight ∷ weights) count f h =
    let rest = sums_long weights count (λ k. f (suc k)) (λ k l. h (suc k) (omega arith)) in
    let here = padded_samples count (f 0) (h 0 (omega arith)) in
    length-zip2 (mixed weight) (sums weights (count * 2) (λ k. f (suc k))) (samples (padded (count * 2) (f 0))) (rest ∙ sym here) ∙ rest

pub sums_silent : (weights : List ℕ) (count : ℕ) (f : ℕ → List ℕ) → ((k : ℕ) → k < length weights → f k ≡ replicate (count * 2) 0)
    → sums weights (count * 2) f ≡ replicate count (pos 0)
unfolding sums
sums_silent [] count f h = let half : count * 2 / 2 ≡ count = omega arith in ap (λ n. replicate n (pos 0)) half
sums_silent (weight ∷ weights) count f h =
    ap (λ l. zip2 (mixed weight) l (samples (padded (count * 2) (f 0)))) (sums_silent weights count (λ k. f (suc k)) (λ k l. h (suc k) (omega arith)))
    ∙ ap (zip2 (mixed weight) (replicate count (pos 0))) (padded_zeros count (f 0) (h 0 (omega arith)))
    ∙ nothing_mixed weight (replicate count (pos 0)) count (length-replicate count (pos 0))

-- an input that was silent gave a piece
pub sums_with : (weights : List ℕ) (count : ℕ) (f g : ℕ → List ℕ) (i : ℕ) (piece : List ℕ) → i < length weights → AreWhole weights (count * 2) f
    → f i ≡ replicate (count * 2) 0 → g i ≡ piece → length piece ≡ count * 2 → ((k : ℕ) → k ≢ i → g k ≡ f k)
    → sums weights (count * 2) g ≡ zip2 (mixed (get_or weights i 0)) (sums weights (count * 2) f) (samples piece)
unfolding sums
sums_with [] count f g i piece l h silent gave whole same = absurd (omega arith)
sums_with (weight ∷ weights) count f g zero piece l h silent gave whole same =
    let rest = sums weights (count * 2) (λ k. f (suc k)) in
    let long = sums_long weights count (λ k. f (suc k)) (λ k m. h (suc k) (omega arith)) in
    ap (λ s. zip2 (mixed weight) s (samples (padded (count * 2) (g 0))))
    (sums_same weights (count * 2) (λ k. g (suc k)) (λ k. f (suc k)) (λ k. same (suc k) (λ e. absurd (omega (arith, e)))))
    ∙ ap (λ p. zip2 (mixed weight) rest (samples p)) (ap (padded (count * 2)) gave ∙ padded_whole (count * 2) piece whole)
    ∙ ap (λ s. zip2 (mixed weight) s (samples piece))
    (sym (ap (zip2 (mixed weight) rest) (padded_zeros count (f 0) silent) ∙ nothing_mixed weight rest count long))
sums_with (weight ∷ weights) count f g (suc i) piece l h silent gave whole same =
    let rest = sums weights (count * 2) (λ k. f (suc k)) in
    ap (λ p. zip2 (mixed weight) (sums weights (count * 2) (λ k. g (suc k))) (samples (padded (count * 2) p))) (same 0 (λ e. absurd (omega (arith, e))))
    ∙ ap (λ s. zip2 (mixed weight) s (samples (padded (count * 2) (f 0))))
    (sums_with weights count (λ k. f (suc k)) (λ k. g (suc k)) i piece (omega arith) (λ k m. h (suc k) (omega arith)) silent gave whole
    (λ k n. same (suc k) (λ e. n (omega (arith, e)))))
    ∙ swapped weight (get_or weights i 0) rest (samples piece) (samples (padded (count * 2) (f 0)))

longest_within : (weights : List ℕ) (size : ℕ) (f : ℕ → List ℕ) → ((k : ℕ) → k < length weights → length (f k) ≤ size) → longest weights f ≤ size
unfolding longest
longest_within [] size f h = omega arith
longest_within (weight ∷ weights) size f h =
    omega (arith, h 0 (omega arith), longest_within weights size (λ k. f (suc k)) (λ k l. h (suc k) (omega arith)))

-- one input has that size
longest_is : (weights : List ℕ) (size : ℕ) (f : ℕ → List ℕ) → ((k : ℕ) → k < length weights → length (f k) ≤ size)
    → (k : ℕ) → k < length weights → length (f k) ≡ size → longest weights f ≡ size
unfolding longest
longest_is [] size f h k l e = absurd (omega arith)
longest_is (weight ∷ weights) size f h zero l e =
    omega (arith, e, longest_within weights size (λ k. f (suc k)) (λ k l. h (suc k) (omega arith)))
longest_is (weight ∷ weights) size f h (suc k) l e =
    omega (arith, h 0 (omega arith), longest_is weights size (λ k. f (suc k)) (λ k l. h (suc k) (omega arith)) k (omega arith) e)

-- what the sums of whole inputs come to
pub mixed_of : (weights : List ℕ) (count : ℕ) (f : ℕ → List ℕ) → 1 ≤ length weights → AreWhole weights (count * 2) f
    → mixed_bytes weights f ≡ bytes (map clamped (sums weights (count * 2) f))
unfolding mixed_bytes
mixed_of weights count f some h = ap (λ n. bytes (map clamped (sums weights n f))) (longest_is weights (count * 2) f (λ k l. omega (arith, h k l)) 0 some (h 0 some))

sums_joined : (weights : List ℕ) (count more : ℕ) (f g : ℕ → List ℕ) → AreWhole weights (count * 2) f → AreWhole weights (more * 2) g
    → sums weights ((count + more) * 2) (λ k. f k ++ g k) ≡ sums weights (count * 2) f ++ sums weights (more * 2) g
unfolding sums
sums_joined [] count more f g h j =
    let both : (count + more) * 2 / 2 ≡ count * 2 / 2 + more * 2 / 2 = omega arith in
    ap (λ n. replicate n (pos 0)) both ∙ sym (replicate-append-replicate (count * 2 / 2) (more * 2 / 2) (pos 0))
sums_joined (weight ∷ weights) count more f g h j =
    let left = h 0 (omega arith) in
    let right = j 0 (omega arith) in
    let first = sums weights (count * 2) (λ k. f (suc k)) in
    let second = sums weights (more * 2) (λ k. g (suc k)) in
    let rest = sums_joined weights count more (λ k. f (suc k)) (λ k. g (suc k)) (λ k l. h (suc k) (omega arith)) (λ k l. j (suc k) (omega arith)) in
    let long = sums_long weights count (λ k. f (suc k)) (λ k l. h (suc k) (omega arith)) in
    let whole : length (f 0 ++ g 0) ≡ (count + more) * 2 = omega (arith, length-append (f 0) (g 0), left, right) in
    ap (λ s. zip2 (mixed weight) s (samples (padded ((count + more) * 2) (f 0 ++ g 0)))) rest
    ∙ ap (λ p. zip2 (mixed weight) (first ++ second) (samples p)) (padded_whole ((count + more) * 2) (f 0 ++ g 0) whole)
    ∙ ap (zip2 (mixed weight) (first ++ second)) (samples-append count (f 0) (g 0) (omega (arith, left)))
    ∙ zip2-append (mixed weight) first (samples (f 0)) second (samples (g 0)) (long ∙ sym (samples_long count (f 0) left))
    ∙ ap (λ p. zip2 (mixed weight) first (samples p) ++ zip2 (mixed weight) second (samples (g 0))) (sym (padded_whole (count * 2) (f 0) left))
    ∙ ap (λ p. zip2 (mixed weight) first (samples (padded (count * 2) (f 0))) ++ zip2 (mixed weight) second (samples p)) (sym (padded_whole (more * 2) (g 0) right))

pub mixed_joined : (weights : List ℕ) (count more : ℕ) (f g : ℕ → List ℕ) → 1 ≤ length weights → AreWhole weights (count * 2) f → AreWhole weights (more * 2) g
    → mixed_bytes weights (λ k. f k ++ g k) ≡ mixed_bytes weights f ++ mixed_bytes weights g
mixed_joined weights count more f g some h j =
    let a = sums weights (count * 2) f in
    let b = sums weights (more * 2) g in
    mixed_of weights (count + more) (λ k. f k ++ g k) some (λ k l. omega (arith, length-append (f k) (g k), h k l, j k l))
    ∙ ap (λ s. bytes (map clamped s)) (sums_joined weights count more f g h j)
    ∙ ap bytes (map-append clamped a b) ∙ bytes-append (map clamped a) (map clamped b)
    ∙ ap (λ s. s ++ bytes (map clamped b)) (sym (mixed_of weights count f some h))
    ∙ ap (λ s. mixed_bytes weights f ++ s) (sym (mixed_of weights more g some j))

-- ---- inputs with zeros behind them

padded_same : (size zeros : ℕ) (piece : List ℕ) → length piece + zeros ≡ size → padded size (piece ++ replicate zeros 0) ≡ padded size piece
padded_same size zeros piece e =
    let behind : zeros ≡ size - length piece = omega (arith, e) in
    padded_whole size (piece ++ replicate zeros 0) (length-append piece (replicate zeros 0) ∙ ap (λ n. length piece + n) (length-replicate zeros 0) ∙ e)
    ∙ ap (λ n. piece ++ replicate n 0) behind

sums_padded : (weights : List ℕ) (size : ℕ) (zeros : ℕ → ℕ) (f : ℕ → List ℕ) → ((k : ℕ) → k < length weights → length (f k) + zeros k ≡ size)
    → sums weights size (with_zeros zeros f) ≡ sums weights size f
unfolding sums
sums_padded [] size zeros f h = refl
sums_padded (weight ∷ weights) size zeros f h =
    ap (λ s. zip2 (mixed weight) s (samples (padded size (f 0 ++ replicate (zeros 0) 0))))
    (sums_padded weights size (λ k. zeros (suc k)) (λ k. f (suc k)) (λ k l. h (suc k) (omega arith)))
    ∙ ap (λ p. zip2 (mixed weight) (sums weights size (λ k. f (suc k))) (samples p)) (padded_same size (zeros 0) (f 0) (h 0 (omega arith)))

reached : (weights : List ℕ) (size : ℕ) (zeros : ℕ → ℕ) (f : ℕ → List ℕ) → Reach weights size zeros f → AreWhole weights size (with_zeros zeros f)
reached weights size zeros f h = λ k l.
    length-append (f k) (replicate (zeros k) 0) ∙ ap (λ n. length (f k) + n) (length-replicate (zeros k) 0) ∙ h.each k l

pub mixed_padded : (weights : List ℕ) (size : ℕ) (zeros : ℕ → ℕ) (f : ℕ → List ℕ) → Reach weights size zeros f
    → mixed_bytes weights (with_zeros zeros f) ≡ mixed_bytes weights f
unfolding mixed_bytes
mixed_padded weights size zeros f h =
    let one = h.one.0 in
    let there : one < length weights = h.one.1 in
    let whole = reached weights size zeros f h in
    let full : length (f one) ≡ size = omega (arith, h.each one there, h.one.2) in
    ap (λ n. bytes (map clamped (sums weights n (with_zeros zeros f))))
    (longest_is weights size (with_zeros zeros f) (λ k l. omega (arith, whole k l)) one there (whole one there))
    ∙ ap (λ s. bytes (map clamped s)) (sums_padded weights size zeros f h.each)
    ∙ ap (λ n. bytes (map clamped (sums weights n f))) (sym (longest_is weights size f (λ k l. omega (arith, h.each k l)) one there full))

bytes_long : (s : List ℤ) → length (bytes s) ≡ length s * 2
unfolding bytes
bytes_long [] = refl
bytes_long (x ∷ s) = omega (arith, bytes_long s)

pub mixed_long : (weights : List ℕ) (count : ℕ) (zeros : ℕ → ℕ) (f : ℕ → List ℕ) → Reach weights (count * 2) zeros f
    → length (mixed_bytes weights f) ≡ count * 2
mixed_long weights count zeros f h =
    let there : h.one.0 < length weights = h.one.1 in
    let whole = reached weights (count * 2) zeros f h in
    let s = sums weights (count * 2) (with_zeros zeros f) in
    ap length (sym (mixed_padded weights (count * 2) zeros f h))
    ∙ ap length (mixed_of weights count (with_zeros zeros f) (omega (arith, there)) whole)
    ∙ bytes_long (map clamped s)
    ∙ ap (λ n. n * 2) (length-map s clamped ∙ sums_long weights count (with_zeros zeros f) whole)

-- ---- flags

pub one_more_taken : (taken : List Bool) (i : ℕ) → i < length taken → get_or taken i true ≡ false
    → count_by (λ b. b) (set taken i true) ≡ count_by (λ b. b) taken + 1
one_more_taken taken i l e = omega (arith, sum_by-set (λ b. cond b 1 0) taken i true true l, ap {B = ℕ} (λ b. cond b 1 0) e)

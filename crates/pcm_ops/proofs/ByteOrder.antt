-- Samples and their bytes: places, fronts, and what is written over.
use Rattle.std.proofs.Common.{◌≡◌, ℕ, zero, suc, ◌+◌, ◌*◌, ◌/◌, ◌%◌, ◌<◌, ◌≤◌, List, [], ◌∷◌, ◌++◌, length, get_or, take, drop, set, refl, sym, ap, subst, ◌∙◌, arith, ℤ, pos, to_z, of_z, Fits, FitsSigned, w8, w16}
use Rattle.std.proofs.lemmas.Int.{to_z-of_z}
use Rattle.std.proofs.lemmas.List.{take_all}
use Rattle.std.proofs.lemmas.Simd.{take_more_put_chunk, length-chunk}
use Rattle.std.proofs.Math.Seq.{take-add}
use Rattle.std.proofs.Math.Facts.{sfits_to_z}
use lib.IntN.{negsuc}
use lib.Lanes.{Each1, chunk, put_chunk}
use Rattle.pcm_ops.specs.Samples.{samples, bytes}

abbrev pub twice : ℕ → ℕ
twice zero = zero
twice (suc n) = suc (suc (twice n))

twice_is : (n : ℕ) → twice n ≡ 2 * n
twice_is zero = refl
twice_is (suc n) = omega (arith, twice_is n)

-- ---- samples of bytes

samples-take : (n : ℕ) (bs : List ℕ) → samples (take (twice n) bs) ≡ take n (samples bs)
unfolding samples
samples-take zero bs = refl
samples-take (suc n) [] = refl
samples-take (suc n) (a ∷ []) = refl
samples-take (suc n) (a ∷ b ∷ bs) = ap (λ l. to_z w16 (a + 256 * b) ∷ l) (samples-take n bs)

samples-drop : (n : ℕ) (bs : List ℕ) → samples (drop (twice n) bs) ≡ drop n (samples bs)
unfolding samples
samples-drop zero bs = refl
samples-drop (suc n) [] = refl
samples-drop (suc n) (a ∷ []) = refl
samples-drop (suc n) (a ∷ b ∷ bs) = samples-drop n bs

-- so many from a place on
pub samples_in : (i n : ℕ) (bs : List ℕ) → samples (chunk (2 * i) (2 * n) bs) ≡ chunk i n (samples bs)
samples_in i n bs =
    ap (λ a. samples (take (2 * n) (drop a bs))) (sym (twice_is i))
    ∙ ap (λ b. samples (take b (drop (twice i) bs))) (sym (twice_is n))
    ∙ samples-take n (drop (twice i) bs) ∙ ap (take n) (samples-drop i bs)

many : (n : ℕ) (bs : List ℕ) → length bs ≡ twice n → length (samples bs) ≡ n
unfolding samples
many zero [] e = refl
many zero (b ∷ bs) e = absurd (omega arith)
many (suc n) [] e = absurd (omega arith)
many (suc n) (a ∷ []) e = absurd (omega arith)
many (suc n) (a ∷ b ∷ bs) e = ap suc (many n bs (omega arith))

pub length-samples : (n : ℕ) (bs : List ℕ) → length bs ≡ 2 * n → length (samples bs) ≡ n
length-samples n bs e = many n bs (e ∙ sym (twice_is n))

at_twice : (bs : List ℕ) (i : ℕ) → twice i + 2 ≤ length bs → get_or (samples bs) i (pos 0) ≡ to_z w16 (get_or bs (twice i) 0 + 256 * get_or bs (suc (twice i)) 0)
unfolding samples
at_twice [] i l = absurd (omega arith)
at_twice (a ∷ []) i l = absurd (omega arith)
at_twice (a ∷ b ∷ bs) zero l = refl
at_twice (a ∷ b ∷ bs) (suc i) l = at_twice bs i (omega arith)

pub get_or-samples : (bs : List ℕ) (i : ℕ) → 2 * i + 2 ≤ length bs → get_or (samples bs) i (pos 0) ≡ to_z w16 (get_or bs (2 * i) 0 + 256 * get_or bs (2 * i + 1) 0)
get_or-samples bs i l =
    let e = twice_is i in
    let high : suc (twice i) ≡ 2 * i + 1 = omega arith in
    at_twice bs i (omega arith)
    ∙ ap (λ n. to_z w16 (get_or bs n 0 + 256 * get_or bs (suc (twice i)) 0)) e
    ∙ ap (λ n. to_z w16 (get_or bs (2 * i) 0 + 256 * get_or bs n 0)) high

pub samples_fit : (bs : List ℕ) (i : ℕ) → 2 * i + 2 ≤ length bs → ((k : ℕ) → Fits w8 (get_or bs k 0)) → FitsSigned w16 (get_or (samples bs) i (pos 0))
samples_fit bs i l h =
    let low = h (2 * i) in
    let high = h (2 * i + 1) in
    let whole : Fits w16 (get_or bs (2 * i) 0 + 256 * get_or bs (2 * i + 1) 0) = record { fits = omega (arith, low.fits, high.fits) } in
    subst (FitsSigned w16) (sym (get_or-samples bs i l)) (sfits_to_z whole)

-- ---- bytes of samples

pub bytes-append : (xs ys : List ℤ) → bytes (xs ++ ys) ≡ bytes xs ++ bytes ys
unfolding bytes
bytes-append [] ys = refl
bytes-append (x ∷ xs) ys = ap (λ k. of_z w16 x % 256 ∷ of_z w16 x / 256 ∷ k) (bytes-append xs ys)

pub length-bytes : (xs : List ℤ) → length (bytes xs) ≡ 2 * length xs
unfolding bytes
length-bytes [] = refl
length-bytes (x ∷ xs) = omega (arith, length-bytes xs)

pub samples_back : (xs : List ℤ) → Each1 (FitsSigned w16) xs → samples (bytes xs) ≡ xs
unfolding samples bytes
samples_back [] h = refl
samples_back (x ∷ xs) h =
    let whole : of_z w16 x % 256 + 256 * (of_z w16 x / 256) ≡ of_z w16 x = omega arith in
    ap (λ n. to_z w16 n ∷ samples (bytes xs)) whole ∙ ap (λ z. z ∷ samples (bytes xs)) (to_z-of_z w16 x h.0) ∙ ap (λ l. x ∷ l) (samples_back xs h.1)

pub high_byte : (x : ℤ) → FitsSigned w16 x → of_z w16 x / 256 % 256 ≡ of_z w16 x / 256
high_byte (pos n) f = let l : n < 32768 = f.sfits in omega arith
high_byte (negsuc n) f = omega arith

-- ---- bytes that are written over

pub put_pair : (j : ℕ) (to : List ℕ) (low high : ℕ) → set (set to j low) (suc j) high ≡ put_chunk j to (low ∷ high ∷ [])
put_pair zero [] low high = refl
put_pair zero (a ∷ []) low high = refl
put_pair zero (a ∷ b ∷ []) low high = refl
put_pair zero (a ∷ b ∷ c ∷ to) low high = refl
put_pair (suc j) [] low high = refl
put_pair (suc j) (a ∷ to) low high = ap (λ l. a ∷ l) (put_pair j to low high)

put_there : {X : Type 0} (j : ℕ) (xs ys : List X) → j + length ys ≤ length xs → chunk j (length ys) (put_chunk j xs ys) ≡ ys
put_there zero [] [] l = refl
put_there zero [] (y ∷ ys) l = absurd (omega arith)
put_there zero (x ∷ xs) [] l = refl
put_there zero (x ∷ xs) (y ∷ ys) l = ap (λ k. y ∷ k) (put_there zero xs ys (omega arith))
put_there (suc j) [] ys l = absurd (omega arith)
put_there (suc j) (x ∷ xs) ys l = put_there j xs ys (omega arith)

-- the samples that were written are those that stand there
pub put_back : (i n : ℕ) (to : List ℕ) (xs : List ℤ) → length xs ≡ n → 2 * i + 2 * n ≤ length to → Each1 (FitsSigned w16) xs
    → chunk i n (samples (put_chunk (2 * i) to (bytes xs))) ≡ xs
put_back i n to xs e l h =
    let long : length (bytes xs) ≡ 2 * n = length-bytes xs ∙ ap (λ k. 2 * k) e in
    sym (samples_in i n (put_chunk (2 * i) to (bytes xs)))
    ∙ ap (λ k. samples (chunk (2 * i) k (put_chunk (2 * i) to (bytes xs)))) (sym long)
    ∙ ap samples (put_there (2 * i) to (bytes xs) (omega arith)) ∙ samples_back xs h

-- so many samples more
pub more_bytes : (xs ys : List ℤ) (to : List ℕ) (i n : ℕ) → i + n ≤ length xs → length to ≡ 2 * length xs → take (2 * i) to ≡ bytes (take i xs)
    → ys ≡ chunk i n xs → take (2 * (i + n)) (put_chunk (2 * i) to (bytes ys)) ≡ bytes (take (i + n) xs)
more_bytes xs ys to i n le two before e =
    let long : length (bytes ys) ≡ 2 * n = length-bytes ys ∙ ap (λ l. 2 * length l) e ∙ ap (λ k. 2 * k) (length-chunk i n xs le) in
    take_more_put_chunk (2 * i) to (bytes ys) (2 * (i + n)) (omega arith) (omega arith)
    ∙ ap (λ l. l ++ bytes ys) before ∙ ap (λ l. bytes (take i xs) ++ bytes l) e
    ∙ sym (ap bytes (take-add i n xs) ∙ bytes-append (take i xs) (chunk i n xs))

pub all_bytes : (xs : List ℤ) (to : List ℕ) (i : ℕ) → length xs ≤ i → length to ≡ 2 * length xs → take (2 * i) to ≡ bytes (take i xs) → to ≡ bytes xs
all_bytes xs to i le two e = sym (take_all (2 * i) to (omega arith)) ∙ e ∙ ap bytes (take_all i xs le)

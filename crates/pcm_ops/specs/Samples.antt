-- Samples of 16 bits as signed numbers, and what is done with each. A factor is counted in 4096ths.
use Rattle.std.specs.Prelude.{ℕ, ◌+◌, ◌*◌, ◌/◌, ◌%◌, ◌^◌, ◌≤◌, List, [], ◌∷◌, ℤ, pos, negsuc, ◌+ℤ◌, ◌*ℤ◌, unsigned_abs}
use Rattle.std.specs.Int.{int_div_euclid, int_min, int_max, cast_signed, cast_unsigned, w16}

-- The samples that bytes are, of which each has the lower byte first.
unfoldable pub samples : List ℕ → List ℤ
samples [] = []
samples (low ∷ []) = []
samples (low ∷ high ∷ rest) = cast_signed w16 (low + 256 * high) ∷ samples rest

-- The bytes of samples.
unfoldable pub bytes : List ℤ → List ℕ
bytes [] = []
bytes (x ∷ xs) = cast_unsigned w16 x % 256 ∷ cast_unsigned w16 x / 256 ∷ bytes xs

-- x times a factor, rounded toward minus infinity: the division's remainder isn't negative
unfoldable pub scaled : ℕ → ℤ → ℤ
scaled factor x = int_div_euclid (x *ℤ pos factor) (pos 4096)

-- the nearest sample: -32768 is `negsuc 32767`
unfoldable pub clamped : ℤ → ℤ
clamped x = int_min (int_max x (negsuc 32767)) (pos 32767)

-- a sample after a gain
unfoldable pub gained : ℕ → ℤ → ℤ
gained gain x = clamped (scaled gain x)

-- a sum to which a weighted sample is added
unfoldable pub mixed : ℕ → ℤ → ℤ → ℤ
mixed weight sum x = sum +ℤ scaled weight x

-- the condition on sums, by which none overflows
abbrev pub IsSum : ℤ → Type 0
IsSum s = unsigned_abs s ≤ 2 ^ 30

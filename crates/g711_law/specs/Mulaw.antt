-- The mu-law of ITU-T G.711, on this project's scale of 16 bits.
use Rattle.std.specs.Prelude.{ℕ, ◌+◌, ◌-◌, ◌*◌, ◌/◌, ◌%◌, ◌^◌, min, List, map, ℤ, ◌==◌, if◌then◌else◌, unsigned_abs}
use Rattle.std.specs.List.{range_with_len}
use Rattle.std.specs.Int.{is_negative}
use Rattle.g711_law.specs.Steps.{step_number, signed}

-- The least magnitude of step n, which is the step j = n % 16 of segment s = n / 16.
unfoldable pub mulaw_threshold : ℕ → ℕ
mulaw_threshold n =
    let s = n / 16 in
    let j = n % 16 in
    (128 + 8 * j) * 2 ^ s - 132

-- those of the steps from 1 to 127
unfoldable pub mulaw_thresholds : List ℕ
mulaw_thresholds = map mulaw_threshold (range_with_len 1 127)

-- the magnitude, cut at 32635
abbrev pub mulaw_magnitude : ℤ → ℕ
mulaw_magnitude x = min (unsigned_abs x) 32635

-- the number of a sample's step
unfoldable pub mulaw_step : ℤ → ℕ
mulaw_step x = step_number mulaw_thresholds (mulaw_magnitude x)

-- The step's number, plus 128 where the sample is negative, with every bit inverted.
unfoldable pub mulaw_code : ℤ → ℕ
mulaw_code x = 255 - (mulaw_step x + (if is_negative x then 128 else 0))

-- The magnitude in the middle of a step, and 0 for the first, by the step's number or by a number whose lower seven bits that is.
unfoldable pub mulaw_middle : ℕ → ℕ
mulaw_middle u =
    let s = u / 16 % 8 in
    let j = u % 16 in
    (j * 8 + 132) * 2 ^ s - 132

-- What a code stands for: the middle of its step, negative where bit 0x80 is set.
unfoldable pub mulaw_value : ℕ → ℤ
mulaw_value code = let u = 255 - code in signed (u / 128 % 2 == 0) (mulaw_middle u)

-- half the width of the steps of segment s
abbrev pub mulaw_half_step : ℕ → ℕ
mulaw_half_step s = 4 * 2 ^ s

-- The A-law of ITU-T G.711, on this project's scale of 16 bits.
use Rattle.std.specs.Prelude.{ℕ, ◌+◌, ◌-◌, ◌*◌, ◌/◌, ◌%◌, ◌^◌, List, map, ℤ, pos, negsuc, ◌==◌, if◌then◌else◌, bit_xor}
use Rattle.std.specs.List.{range_with_len}
use Rattle.std.specs.Int.{is_negative}
use Rattle.g711_law.specs.Steps.{step_number, signed}

-- The least magnitude of step n, which is the step j = n % 16 of segment s = n / 16.
unfoldable pub alaw_threshold : ℕ → ℕ
alaw_threshold n =
    let s = n / 16 in
    let j = n % 16 in
    if s == 0 then 16 * j else (256 + 16 * j) * 2 ^ (s - 1)

-- those of the steps from 1 to 127
unfoldable pub alaw_thresholds : List ℕ
alaw_thresholds = map alaw_threshold (range_with_len 1 127)

-- x itself where it isn't negative, else -x - 1: `negsuc n` is -n - 1
abbrev pub alaw_magnitude : ℤ → ℕ
alaw_magnitude (pos n) = n
alaw_magnitude (negsuc n) = n

-- the number of a sample's step
unfoldable pub alaw_step : ℤ → ℕ
alaw_step x = step_number alaw_thresholds (alaw_magnitude x)

-- The step's number, plus 128 where the sample isn't negative, with every second bit inverted.
unfoldable pub alaw_code : ℤ → ℕ
alaw_code x = bit_xor (alaw_step x + (if is_negative x then 0 else 128)) 0x55

-- The magnitude in the middle of a step, by the step's number or by a number whose lower seven bits that is.
unfoldable pub alaw_middle : ℕ → ℕ
alaw_middle a =
    let s = a / 16 % 8 in
    let t = a % 16 * 16 in
    if s == 0 then t + 8 else (t + 264) * 2 ^ (s - 1)

-- What a code stands for: the middle of its step, positive where bit 0x80 is set.
unfoldable pub alaw_value : ℕ → ℤ
alaw_value code = let a = bit_xor code 0x55 in signed (a / 128 % 2 == 1) (alaw_middle a)

-- half the width of the steps of segment s
abbrev pub alaw_half_step : ℕ → ℕ
alaw_half_step s = if s == 0 then 8 else 8 * 2 ^ (s - 1)

-- Two curves of straight lines, which the private functions compute. The definitions of the laws don't speak of them.
use Rattle.std.specs.Prelude.{ℕ, zero, suc, ◌+◌, ◌-◌, ◌*◌, ◌/◌, min, max}

-- q itself up to 32, and from there on half as steep from each doubling to the next, n times
unfoldable pub compressed : ℕ → ℕ → ℕ
compressed zero q = q
compressed (suc n) q = min q (16 + compressed n (q / 2))

-- w itself up to 64, and from there on twice as steep after each further 32, n times
unfoldable pub expanded : ℕ → ℕ → ℕ
expanded zero w = w
expanded (suc n) w = max w (2 * expanded n (w - 32))

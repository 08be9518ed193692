-- A media time that goes on.
use Rattle.std.specs.Prelude.{ℕ, ◌+◌, ◌-◌, ◌*◌, ◌/◌, ◌^◌, ◌<◌, ◌≤◌, nat_le, if◌then◌else◌, Option, Some, None}
use Rattle.std.specs.Int.{div_ceil}
use Rattle.clock_core.specs.declared.pace.Pace.{Pace}

-- the media time at a moment: the scale is in 65,536ths
abbrev pub media_at : Pace → ℕ → ℕ
media_at pace wall = pace.media + (wall - pace.since) * pace.scale / 65536

-- what is reached in 2 ^ 53 moments fits in 64 bits
pub record IsSlow (pace : Pace) : Type 0 where
  pub scale : pace.scale ≤ 2 ^ 20
  pub since : pace.since ≤ 2 ^ 53
  pub media : pace.media ≤ 2 ^ 53 + 16 * pace.since

-- the first moment at which that media time is reached
pub record IsFirst (pace : Pace) (media moment : ℕ) : Type 0 where
  pub from : pace.since ≤ moment
  pub reached : media ≤ media_at pace moment
  pub before : (wall : ℕ) → wall < moment → pace.since ≤ wall → media_at pace wall < media

-- that moment, by division
abbrev pub first_at : Pace → ℕ → ℕ
first_at pace media =
    if nat_le media pace.media then pace.since else pace.since + div_ceil ((media - pace.media) * 65536) pace.scale

-- that moment, if it isn't behind 2 ^ 53
abbrev pub first_within : Pace → ℕ → Option ℕ
first_within pace media = if nat_le media (media_at pace (2 ^ 53)) then Some (first_at pace media) else None

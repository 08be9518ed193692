-- How far a source was asked for bytes.
use Rattle.std.specs.Prelude.{◌≡◌, ℕ, ◌≤◌, max, Option, Some, option_map}
use Rattle.outside_io.specs.Moves.{WhereTold}

-- the greatest offset, after one more read up to this one
abbrev pub asked_up_to : Option ℕ → ℕ → Option ℕ
asked_up_to asked end = option_map (λ (most : ℕ). max most end) asked

-- nothing behind this offset was asked for that wasn't before
abbrev pub AsksWithin : Option ℕ → Option ℕ → ℕ → Type 0
AsksWithin old new end = WhereTold old (λ most. (now : ℕ) × (new ≡ Some now) × (now ≤ max most end))

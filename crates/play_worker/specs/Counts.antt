-- How many works of each component were claimed, and what a gate tells of them.
use Rattle.std.specs.Prelude.{◌≡◌, ◌≢◌, ℕ, nat_eq, ◌+◌, ◌-◌, ◌<◌, ◌^◌, Bool, false, ◌&&◌, if◌then◌else◌, List, [], ◌∷◌, Option, Some, None, is_some}
use Rattle.turnstile.specs.declared.entry.Entry.{Entry}
use Rattle.graph_acts.specs.declared.act.Act.{Act}
use Rattle.graph_acts.specs.declared.act.Act.TheVariants as asks
use Rattle.graph_acts.specs.declared.act.Reply.{Reply}
use Rattle.graph_acts.specs.Working.{work_given}

-- the count of the component is one higher, unless it is at its last value, and no other changed
abbrev pub Raised : Option (ℕ → ℕ) → ℕ → Option (ℕ → ℕ) → Type 0
Raised None component new = new ≡ None
Raised (Some f) component new = (g : ℕ → ℕ) × (new ≡ Some g) × ((x : ℕ) → x ≢ component → g x ≡ f x) × (f component < 2 ^ 64 - 1 → g component ≡ f component + 1)

-- it told no claim yet, where it tells its counts
abbrev pub TellsZeros : Option (ℕ → ℕ) → Type 0
TellsZeros None = Unit {0}
TellsZeros (Some f) = (x : ℕ) → f x ≡ 0

module _ {S K C : Type 0} where
  -- a work of the component of that number was claimed
  abbrev pub is_claim : ℕ → Act S K C → Reply S K C → Bool
  is_claim number (asks.Claim h) reply = is_some (work_given reply) && nat_eq number h.generation
  is_claim number _ reply = false

  -- how many were
  abbrev pub claims : ℕ → List (Entry (Act S K C) (Reply S K C)) → ℕ
  claims number [] = 0
  claims number (e ∷ es) = (if is_claim number e.act e.reply then 1 else 0) + claims number es

  -- where a gate tells its counts, they are those of the calls
  abbrev pub Counts : Option (ℕ → ℕ) → List (Entry (Act S K C) (Reply S K C)) → Type 0
  Counts None calls = Unit {0}
  Counts (Some f) calls = (number : ℕ) → f number ≡ claims number calls

-- Which pass makes which acts of a play.
use Rattle.std.specs.Prelude.{◌≡◌, ℕ, zero, suc, ◌≤◌, Bool, true, false, List, filter}
use Rattle.il_machine.specs.Acts.{Act, Reply}
use Rattle.play_log.specs.Entries.{Entry, step_of, steps_of}
use Rattle.play_result_laws.specs.Asked.{is_asked}

-- With no workers one thread plays, which is the pass 0. With some the pass 0 conducts: its are exactly the acts that are asked, and each other
-- act is a worker's, whose pass is 1 to their number.
abbrev pub IsPassOf : ℕ → Entry → Type 0
IsPassOf zero entry = entry.pass ≡ 0
IsPassOf (suc more) entry =
    (is_asked (step_of entry) ≡ true → entry.pass ≡ 0) × (is_asked (step_of entry) ≡ false → (1 ≤ entry.pass) × (entry.pass ≤ suc more))

-- what some passes did
abbrev pub own_steps : (ℕ → Bool) → List Entry → List (Act × Reply)
own_steps own entries = steps_of (filter (λ entry. own entry.pass) entries)

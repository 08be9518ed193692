-- What a play with late sources keeps beside its worlds.
use Rattle.std.specs.Prelude.{◌≡◌, ℕ, ◌<◌, ◌≤◌, true}
use Rattle.play_model.specs.Numbers.{to_executing, transition_pending, not_announced}
use Rattle.play_model.specs.Play.{Layout, Play}

-- A late source that doesn't run yet has announced nothing.
abbrev pub IsWaiting : Layout → Play → Type 0
IsWaiting w p = (l : ℕ) → l < (w.network).links → w.is_late l ≡ true → p.phase ≡ to_executing → p.stage ((w.network).giver l) ≤ transition_pending → (p.change l).step ≡ not_announced

-- The histories of a play: runs of the machine, each act of which nobody need ask for, or is one that the conductor may ask for then. Who makes
-- an act, and whether a call was refused or idle, doesn't matter. A note counts as told once it is taken: each world is read with its client
-- objects in.
use Rattle.std.specs.Prelude.{◌≡◌, ◌⊎◌, List, [], ◌∷◌, None}
use Rattle.il_machine.specs.Acts.{Act, Reply}
use Rattle.il_machine.specs.Acts as acts
use Rattle.il_machine.specs.Run.{Meets, Step}
use Rattle.il_machine.specs.World.{World}
use Rattle.play_world_laws.specs.PlayWorlds.{PlayCast}
use Rattle.read_world_laws.specs.Inside.{inside}
use Rattle.play_history_laws.specs.Order.{Cursor, IsAsked}

-- A worker's step without a fault, a delivery, or a look.
abbrev pub IsUnasked : Act → Type 0
IsUnasked (acts.RunCommand handle) = Unit {0}
IsUnasked (acts.Claim handle) = Unit {0}
IsUnasked (acts.Finish done) = done.fault ≡ None
IsUnasked (acts.Supply handle port) = Unit {0}
IsUnasked (acts.Release handle port) = Unit {0}
IsUnasked (acts.HandOver handle port) = Unit {0}
IsUnasked (acts.HandBack handle port) = Unit {0}
IsUnasked (acts.TakeNote handle) = Unit {0}
IsUnasked (acts.EndNote handle progress) = Unit {0}
IsUnasked (acts.Progress handle) = Unit {0}
IsUnasked _ = ⊥

abbrev pub IsAllowed : PlayCast → Cursor → World → Act → Cursor → Type 0
IsAllowed cast cursor world act next = (IsUnasked act × (next ≡ cursor)) ⊎ IsAsked cast cursor world act next

-- From the world in which so much was asked these acts, answered so, lead to the world in which so much is.
abbrev pub IsPlayHistory : PlayCast → Cursor → World → List (Act × Reply) → Cursor → World → Type 0
IsPlayHistory cast cursor world [] next after = (next ≡ cursor) × (after ≡ world)
IsPlayHistory cast cursor world (step ∷ steps) next after =
    (between : Cursor) × (middle : World) × Meets world step.0 × Step world step.0 step.1 middle × IsAllowed cast cursor (inside world) step.0 between
    × IsPlayHistory cast between middle steps next after

-- What is known of each run from the world without components to a world that a graph stands for.
use Rattle.std.specs.Prelude.{◌≡◌, ℕ, true, List, IsSome, Contains}
use Rattle.omx_types.specs.declared.command.Completion.{Completion}
use Rattle.il_machine.specs.declared.port.Port.{Port}
use Rattle.il_machine.specs.World.{World, component_numbered, no_world}
use Rattle.il_machine.specs.Headers.{seen}
use Rattle.il_machine.specs.Ports.{settled}
use Rattle.il_machine.specs.Acts.{Act, Reply}
use Rattle.il_machine.specs.Queued.{completions_in, queued_for}
use Rattle.il_machine.specs.Run.{Run}
use Rattle.il_machine.specs.Trails.{HaveTrails, Move, RunMoves}
use Rattle.history_laws.specs.Runs.{WasDueIn}
use Rattle.history_laws.specs.Settled.{IsReturned}

-- each header's trail is legal, and has at most one return of each hand-over
abbrev pub HasLegalTrails : World → Type 0
HasLegalTrails v = (key units : ℕ) (xs : List (Act × Reply)) (ms : List Move) → RunMoves (no_world key units) xs ms v → HaveTrails v ms

-- each completion that was queued for a component was due in the step that queued it
abbrev pub WereAllDue : World → Type 0
WereAllDue v = (key units : ℕ) (xs : List (Act × Reply)) (number : ℕ) (x : Completion)
    → Run (no_world key units) xs v → IsSome (component_numbered number v) → Contains (completions_in (queued_for number v)) x → WasDueIn (no_world key units) xs v number x

-- at a port that is settled each hand-over has its return
abbrev pub AreReturnedWhereSettled : World → Type 0
AreReturnedWhereSettled v = (key units : ℕ) (xs : List (Act × Reply)) (ms : List Move) (p : Port)
    → RunMoves (no_world key units) xs ms v → settled (seen v.headers) p ≡ true → IsReturned v ms p

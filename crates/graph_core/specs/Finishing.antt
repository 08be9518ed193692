-- A component's work comes back to a graph.
use Rattle.std.specs.Prelude.{◌≡◌, false, List, ℕ, Option, Some, MatchOption}
use Rattle.il_machine.specs.Buffers.{AtState}
use Rattle.il_machine.specs.Look.{Look}
use Rattle.il_machine.specs.Stepping.{IsDoneOf}
use Rattle.il_machine.specs.World.{Component, Stream, World, number_of, stream_of}
use Rattle.header_core.specs.BufferHeader.{BufferHeader}
use Rattle.port_stock.specs.Conditions.{IsHeaderOf}
use Rattle.work_landing.specs.declared.step.Step.{Step}
use Rattle.work_landing.specs.Landed.{IsLeft, done_by}
use Rattle.work_landing.specs.Places.{EachFrom}

-- The component's work, which is no announcement, comes back with these headers as one step of its part makes it; so many frames a source's
-- file then still gives.
abbrev pub ComesBack : World → Component → List (Option BufferHeader) → Step → List ℕ → Type 0
ComesBack w c places step took = MatchOption c.work ⊥ (λ work. (work.announces ≡ false) × IsDoneOf w c work (done_by (number_of c) places step took)
    × ((s : Stream) → stream_of (number_of c) w ≡ Some s → IsLeft c s (done_by (number_of c) places step took) step))

-- Each header has the graph's key, and its own size and memory: the condition of each call that is given headers of a work.
abbrev pub AreHandedBack : List (Option BufferHeader) → Look → Type 0
AreHandedBack places l = EachFrom (λ port h. (h.key ≡ l.key) × AtState h.held.number l (λ s. IsHeaderOf s h)) 0 places

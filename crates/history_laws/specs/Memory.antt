-- The memory of a header as its record has it, which header an act hands in, and what a work that comes back put into it.
use Rattle.std.specs.Prelude.{◌≡◌, ℕ, Bool, false, not, ◌&&◌, nat_eq, List, [], ◌∷◌, Option, Some, None, is_some, option_map, Ok, if◌then◌else◌}
use Rattle.std.specs.List.{list_any}
use Rattle.il_machine.specs.Lists.{overwritten}
use Rattle.il_machine.specs.World.{Component, HeaderRecord, World, component_numbered}
use Rattle.il_machine.specs.Headers.{find_header}
use Rattle.il_machine.specs.Buffers.{Held}
use Rattle.il_machine.specs.Acts.{Act, Reply}
use Rattle.il_machine.specs.Acts as acts
use Rattle.il_machine.specs.Claims.{CarriedHeader}
use Rattle.il_machine.specs.Stepping.{WorkDone}
use Rattle.il_machine.specs.Finishing.{is_an_input}
use Rattle.il_machine.specs.Run.{Step}

abbrev pub memory_of : HeaderRecord → Option (List ℕ)
memory_of r = r.load.memory

-- the memory of the header of the number, where that is made
abbrev pub memory_at : ℕ → List HeaderRecord → Option (Option (List ℕ))
memory_at number headers = option_map memory_of (find_header number headers)

-- The header of the number is made, and has this memory: every byte of the client's own, or None where it has a block of the graph.
abbrev pub HasMemory : World → ℕ → Option (List ℕ) → Type 0
HasMemory w number memory = memory_at number w.headers ≡ Some memory

-- the header that EmptyThisBuffer or FillThisBuffer handed in; one that was refused handed none in
abbrev pub handed_in : Act → Reply → Option Held
handed_in (acts.EmptyThisBuffer h port header) (acts.Plain (Ok done)) = Some header
handed_in (acts.FillThisBuffer h port header) (acts.Plain (Ok done)) = Some header
handed_in _ _ = None

abbrev pub number_in : Act → Reply → Option ℕ
number_in a r = option_map (λ header. header.number) (handed_in a r)

-- ---- a work that comes back

-- the content of an output's header of the number
abbrev pub content_of : Component → List CarriedHeader → ℕ → Option (List ℕ)
content_of c [] number = None
content_of c (x ∷ xs) number = if nat_eq x.header.number number && not (is_an_input c x) then Some x.header.content else content_of c xs number

abbrev pub filled_by : Option Component → WorkDone → ℕ → Option (List ℕ)
filled_by None done number = None
filled_by (Some c) done number = if is_some done.fault then None else content_of c done.headers number

-- what the step of a work that came back put at the front of the memory of the header of the number: that is an output's, and the step
-- didn't fail
abbrev pub filled_in : World → Act → ℕ → Option (List ℕ)
filled_in w (acts.Finish done) number = filled_by (component_numbered done.component w) done number
filled_in w _ number = None

-- the memory with this content at its front
abbrev pub with_front : Option (List ℕ) → Option (List ℕ) → Option (List ℕ)
with_front None memory = memory
with_front (Some content) memory = option_map (overwritten content) memory

-- Over the run the header's memory is filled by each step that fills it, and is else as before.
abbrev pub RunFills : World → List (Act × Reply) → World → ℕ → Option (List ℕ) → Option (List ℕ) → Type 0
RunFills w [] v number before after = (v ≡ w) × (after ≡ before)
RunFills w (x ∷ xs) v number before after = (mid : World) × Step w x.0 x.1 mid × RunFills mid xs v number (with_front (filled_in w x.0 number) before) after

-- the act brings the header of the number back from a work
abbrev pub brings : ℕ → Act → Bool
brings number (acts.Finish done) = list_any (λ x. nat_eq x.header.number number) done.headers
brings number _ = false

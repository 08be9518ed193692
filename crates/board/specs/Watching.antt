-- The states of each component of the board's making, along a history.
use Rattle.std.specs.Prelude.{◌≡◌, ℕ, nat_eq, List, [], ◌∷◌, ◌++◌, length, map, take, slice_get, Option, Some, None, Result, Ok, Err, if◌then◌else◌}
use Rattle.omx_types.specs.declared.handle.Handle.{Handle}
use Rattle.omx_types.specs.declared.state.State.TheVariants.{Invalid}
use Rattle.omx_types.specs.declared.state.State.{State}
use Rattle.omx_types.specs.declared.error.OmxError.{OmxError}
use Rattle.omx_types.specs.Numbers.{state_number}
use Rattle.il_machine.specs.World.{Component, World}
use Rattle.il_machine.specs.Look.{look}
use Rattle.il_machine.specs.Components.{state_answer}
use Rattle.il_machine.specs.Acts.{Act, Reply}
use Rattle.il_machine.specs.Run.{Step, Meets}
use Rattle.state_words.specs.Shown.{States, states_of, last_or}

-- a component's handle, and its state
abbrev pub seat_of : Component → Handle × State
seat_of c = (c.handle, c.state)

-- the lists with the seat at their ends, if there is one
abbrev pub HasMore : Option (Handle × State) → List Handle → States → List Handle → States → Type 0
HasMore None handles states handles' states' = (handles' ≡ handles) × (states' ≡ states)
HasMore (Some s) handles states handles' states' = (handles' ≡ handles ++ s.0 ∷ []) × (states' ≡ states ++ s.1 ∷ [])

-- these are the handles and the states of the components of the world, in the order of their numbers
pub record AreSeats (seated : List Handle) (stated : States) (w : World) : Type 0 where
  pub handles : seated ≡ map (λ c. c.handle) w.components
  pub states : stated ≡ map (λ c. c.state) w.components

-- of the first so many of them
pub record AreFirstSeats (many : ℕ) (seated : List Handle) (stated : States) (w : World) : Type 0 where
  pub handles : seated ≡ map (λ c. c.handle) (take many w.components)
  pub states : stated ≡ map (λ c. c.state) (take many w.components)

-- a state that is the last one already isn't taken again, and a component that was freed keeps its last one
abbrev pub one_more : Result State OmxError → States → States
one_more (Err e) states = states
one_more (Ok s) states = if nat_eq (state_number s) (state_number (last_or Invalid states)) then states else states ++ s ∷ []

-- of each component one more state was seen in the world
pub record SeenIn (handles : List Handle) (w : World) (old new : List States) : Type 0 where
  pub count : length new ≡ length old
  pub each : (i : ℕ) (h : Handle) → slice_get handles i ≡ Some h → states_of new i ≡ one_more (state_answer h (look w)) (states_of old i)

-- The acts and replies are a run from w to a world, and these are the states of each of the components on the way, from those at first.
pub data Shown (handles : List Handle) (w : World) (at_first : List States) : List (Act × Reply) → World → List States → Type 0 where
  start : Shown handles w at_first [] w at_first
  next : (xs : List (Act × Reply)) (mid : World) (old : List States) (a : Act) (r : Reply) (v : World) (new : List States) → Shown handles w at_first xs mid old → Meets mid a → Step mid a r v
      → SeenIn handles v old new → Shown handles w at_first (xs ++ (a, r) ∷ []) v new

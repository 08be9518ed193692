-- A play: the conductor sends StateSet of Idle, Executing, Idle and Loaded to all components, each time once all have
-- told the last one, and each component carries them out. A note that is out stands as if it were still queued, so only
-- its end is an act.
use Rattle.std.specs.Prelude.{◌≡◌, ◌≢◌, ℕ, ◌+◌, ◌<◌, ◌≤◌, ◌⊎◌, Bool, true, false, if◌then◌else◌, [], length}
use Rattle.play_model.specs.Network.{Network, IsNetwork, IsInput, IsOutput, LinkState, Flow, headers_of}
use Rattle.play_model.specs.Moves.{IsFront}
use Rattle.play_model.specs.Progress.{IsLinkOf}
use Rattle.play_model.specs.Numbers.{to_idle, to_executing, back_to_idle, to_loaded, command_queued, transition_pending, state_reached, state_told, settings_told, enable_done}
use Rattle.play_model.specs.Changes.{Change, IsChanged, HasCompletion}

-- what a play is of: the network, who supplies each link's headers, and which components write a file
pub record Layout : Type 0 where
  pub network : Network
  -- the output supplies the link, else the input
  pub by_output : ℕ → Bool
  pub is_sink : ℕ → Bool
  -- the component that gives into the link is a late source
  pub is_late : ℕ → Bool
  -- a component's place in the order of the script
  pub place : ℕ → ℕ

pub record IsLayout (w : Layout) : Type 0 where
  pub network : IsNetwork w.network
  -- a component that is no sink has an output
  pub outputs : (c : ℕ) → c < (w.network).components → w.is_sink c ≡ false → (l : ℕ) × IsOutput w.network c l

-- Since the conductor begins to send the next command only when each component has told the last one, one number for all
-- and a small one for each say where they are.
pub record Play : Type 0 where
  -- how many of the four StateSets the conductor has begun to send, from unbegun to to_loaded
  pub phase : ℕ
  -- of the last of them, at each component, from not_sent to state_told
  pub stage : ℕ → ℕ
  -- the end of the stream was told
  pub told : ℕ → Bool
  -- (once a component has reached Idle again, its part in the machine begins anew; here it has ended, and stays so)
  pub flow : Flow
  -- of a late source's link, how far its change has gone
  pub change : ℕ → Change

-- the headers that are made for a link
abbrev pub made : Play → ℕ → ℕ
made p l = headers_of ((p.flow).link l)

-- the component that supplies the link's headers, and the one at its other end
abbrev pub supplier : Layout → ℕ → ℕ
supplier w l = if w.by_output l then (w.network).giver l else (w.network).taker l

abbrev pub other_component : Layout → ℕ → ℕ
other_component w l = if w.by_output l then (w.network).taker l else (w.network).giver l

-- the component at the output of the link, else at its input
abbrev pub component_at : Layout → Bool → ℕ → ℕ
component_at w true l = (w.network).giver l
component_at w false l = (w.network).taker l

-- ---- the machine's terms, at this component: the states reached are Loaded, Idle, Executing, Idle, Loaded

-- Executing, whatever is pending
abbrev pub IsExecuting : Play → ℕ → Type 0
IsExecuting p c = ((p.phase ≡ to_executing) × (state_reached ≤ p.stage c)) ⊎ ((p.phase ≡ back_to_idle) × (p.stage c ≤ transition_pending))

-- Executing with nothing pending
abbrev pub IsRunning : Play → ℕ → Type 0
IsRunning p c = ((p.phase ≡ to_executing) × (state_reached ≤ p.stage c)) ⊎ ((p.phase ≡ back_to_idle) × (p.stage c ≤ command_queued))

-- Executing with Idle pending
abbrev pub IsReturning : Play → ℕ → Type 0
IsReturning p c = (p.phase ≡ back_to_idle) × (p.stage c ≡ transition_pending)

-- Loaded with Idle pending; or Idle or Executing with nothing pending
abbrev pub IsAccepting : Play → ℕ → Type 0
IsAccepting p c =
    ((p.phase ≡ to_idle) × (transition_pending ≤ p.stage c)) ⊎ ((p.phase ≡ to_executing) × (p.stage c ≢ transition_pending)) ⊎ ((p.phase ≡ back_to_idle) × (p.stage c ≢ transition_pending))
    ⊎ ((p.phase ≡ to_loaded) × (p.stage c ≤ command_queued))

-- Loaded is pending
abbrev pub IsLeaving : Play → ℕ → Type 0
IsLeaving p c = (p.phase ≡ to_loaded) × (p.stage c ≡ transition_pending)

-- ---- a link by the end that supplies it: first where that is the output

-- every header is at home
abbrev pub IsSettled : Bool → LinkState → Type 0
IsSettled true x = (x.held ≡ []) × (x.spent ≡ 0)
IsSettled false x = (x.ready ≡ 0) × (x.sent ≡ [])

-- the list done of the supplier, and of the other end, isn't empty
abbrev pub HasDone : Bool → LinkState → Type 0
HasDone true x = IsFront (λ h. Unit {0}) x.sent
HasDone false x = 0 < x.spent

-- the list done of the other end is empty, and its list todo isn't
abbrev pub HasUnused : Bool → LinkState → Type 0
HasUnused true x = (x.spent ≡ 0) × IsFront (λ h. Unit {0}) x.held
HasUnused false x = (x.sent ≡ []) × (0 < x.ready)

-- some header is at home
abbrev pub HasHome : Bool → LinkState → Type 0
HasHome true x = 0 < x.ready + length x.sent
HasHome false x = 0 < x.spent + length x.held

-- What is pending is due: Idle from Loaded once all headers of its links are made, Executing at once, Idle from Executing
-- once all of them are at home, Loaded once none is made.
pub record IsDue (w : Layout) (p : Play) (c : ℕ) : Type 0 where
  pub up : p.phase ≡ to_idle → (l : ℕ) → IsLinkOf w.network c l → made p l ≡ (w.network).count l
  pub down : p.phase ≡ back_to_idle → (l : ℕ) → IsLinkOf w.network c l → IsSettled (w.by_output l) ((p.flow).link l)
  pub unmade : p.phase ≡ to_loaded → (l : ℕ) → IsLinkOf w.network c l → made p l ≡ 0

-- ---- ports, and the links of late sources

-- Each port of the component is Steady, and none is held or has its format open: a claim asks for that.
pub record HasPorts (w : Layout) (p : Play) (c : ℕ) : Type 0 where
  pub outputs : (l : ℕ) → IsOutput w.network c l → w.is_late l ≡ true → enable_done ≤ (p.change l).output
  pub inputs : (l : ℕ) → IsInput w.network c l → w.is_late l ≡ true → enable_done ≤ (p.change l).input

-- no completion of a disable or enable is queued at the component, before the end of the stream
pub record HasNoPortNote (w : Layout) (p : Play) (c : ℕ) : Type 0 where
  pub outputs : (l : ℕ) → IsOutput w.network c l → w.is_late l ≡ true → HasCompletion (p.change l).output → ⊥
  pub inputs : (l : ℕ) → IsInput w.network c l → w.is_late l ≡ true → HasCompletion (p.change l).input → ⊥

-- no link is half changed
abbrev pub IsUnbroken : Layout → Play → Type 0
IsUnbroken w p = (l : ℕ) → l < (w.network).links → w.is_late l ≡ true → ((p.change l).step ≤ settings_told) ⊎ IsChanged (p.change l)

-- A change can be begun: every component has told Executing, and no link is half changed.
pub record CanBeginChange (w : Layout) (p : Play) : Type 0 where
  pub phase : p.phase ≡ to_executing
  pub all : (c : ℕ) → c < (w.network).components → p.stage c ≡ state_told
  pub unbroken : IsUnbroken w p

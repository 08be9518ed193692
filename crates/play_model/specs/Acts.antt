-- What changes a play. An act of the machine is one act here and then as many happenings as are due: its close-out.
use Rattle.std.specs.Prelude.{◌≡◌, ◌≢◌, ℕ, zero, suc, ◌+◌, ◌-◌, ◌<◌, ◌≤◌, ◌⊎◌, Bool, true, false, not, nat_eq, if◌then◌else◌, List, [], ◌∷◌, length}
use Rattle.play_model.specs.Network.{Filled, LinkState, Flow}
use Rattle.play_model.specs.Moves.{Move, Can, moved, with_link}
use Rattle.play_model.specs.Numbers.{to_executing, back_to_idle, to_loaded, not_sent, command_queued, transition_pending, state_reached, state_told, not_announced, settings_announced, settings_told, both_disables_sent, both_enables_sent, disable_told}
use Rattle.play_model.specs.Changes.{Change, port_at, IsChanged, IsEnabledPort, IsSteadyPort, IsDisabling, HasCommand, IsPortDue, HasCompletion, told_on, conducted, port_on}
use Rattle.play_model.specs.Play.{Layout, Play, made, supplier, other_component, IsExecuting, IsRunning, IsReturning, IsAccepting, IsLeaving, HasDone, HasUnused, HasHome, IsDue, HasPorts, HasNoPortNote, CanBeginChange}

pub data Act : Type 0 where
  -- the conductor begins to send the next StateSet; a component gets it
  Begin : Act
  Send : (c : ℕ) → Act
  -- the command is run, and its transition is pending; what is due happens
  Run : (c : ℕ) → Act
  Happen : (c : ℕ) → Act
  -- a note is told and the client object given back: the completion, or the end of the stream
  Tell : (c : ℕ) → Act
  TellEnd : (c : ℕ) → Act
  -- a header is made, and unmade, by the supplier
  Supply : (l : ℕ) → Act
  Release : (l : ℕ) → Act
  -- a header of done is handed over by the supplier, or handed back by the other end; one that was not used is handed back
  HandOver : (l : ℕ) → Act
  HandBack : (l : ℕ) → Act
  HandUnused : (l : ℕ) → Act
  -- a late source announces its settings by a claim and its finish, of no header, and holds its port; the note is told
  Announce : (l : ℕ) → Act
  TellSettings : (l : ℕ) → Act
  -- the conductor's next act on a link that is being changed
  Conduct : (l : ℕ) → Act
  -- at the output's port, else at the input's: its disable or enable is run, what is due happens, its completion is told
  RunPort : (l : ℕ) → (output : Bool) → Act
  HappenPort : (l : ℕ) → (output : Bool) → Act
  TellPort : (l : ℕ) → (output : Bool) → Act
  -- a claim, its step and the finish, with the frames done
  Step : (c n : ℕ) → (last : Bool) → Act

-- The next StateSet is begun where every component has told the last one; the second Idle where besides every sink has
-- told the end, no link is half changed, and no late source whose link isn't changed has told its settings.
pub record CanBegin (w : Layout) (p : Play) : Type 0 where
  pub more : p.phase < to_loaded
  pub all : (c : ℕ) → c < (w.network).components → p.stage c ≡ state_told
  pub ends : p.phase ≡ to_executing → (c : ℕ) → c < (w.network).components → w.is_sink c ≡ true → p.told c ≡ true
  pub changes : p.phase ≡ to_executing → (l : ℕ) → l < (w.network).links → w.is_late l ≡ true →
      ((p.change l).step ≤ settings_announced) ⊎ IsChanged (p.change l)

-- an act on a link that is being changed: the first one where a change can be begun, the tunnel is dropped where both ends
-- have told their disable
pub record CanConduct (w : Layout) (p : Play) (l : ℕ) : Type 0 where
  pub below : l < (w.network).links
  pub late : w.is_late l ≡ true
  pub told : settings_told ≤ (p.change l).step
  pub more : (p.change l).step < both_enables_sent
  pub next : (p.change l).step ≡ settings_told → CanBeginChange w p
  pub disabled : (p.change l).step ≡ both_disables_sent → ((p.change l).output ≡ disable_told) × ((p.change l).input ≡ disable_told)

-- both ports of a link
abbrev pub ArePorts : (ℕ → Type 0) → Change → Type 0
ArePorts P k = P k.output × P k.input

-- the port of the supplier, and of the other end
abbrev pub supplier_port : Layout → Play → ℕ → ℕ
supplier_port w p l = port_at (w.by_output l) (p.change l)

abbrev pub other_port : Layout → Play → ℕ → ℕ
other_port w p l = port_at (not (w.by_output l)) (p.change l)

abbrev pub CanAct : Layout → Play → Act → Type 0
CanAct w p Begin = CanBegin w p
CanAct w p (Send c) = (c < (w.network).components) × (p.stage c ≡ not_sent)
CanAct w p (Run c) = (c < (w.network).components) × (p.stage c ≡ command_queued)
CanAct w p (Happen c) = (c < (w.network).components) × (p.stage c ≡ transition_pending) × IsDue w p c
CanAct w p (Tell c) = (c < (w.network).components) × (p.stage c ≡ state_reached)
CanAct w p (TellEnd c) =
    (c < (w.network).components) × (p.stage c ≢ state_reached) × (w.is_sink c ≡ true) × (p.told c ≡ false) × ((p.flow).ended c ≡ true)
    × HasNoPortNote w p c
CanAct w p (Supply l) =
    (l < (w.network).links) × IsAccepting p (supplier w l) × IsAccepting p (other_component w l)
    × (made p l < (w.network).count l) × ArePorts IsEnabledPort (p.change l)
CanAct w p (Release l) =
    (l < (w.network).links) × (IsLeaving p (supplier w l) ⊎ IsDisabling (supplier_port w p l))
    × HasHome (w.by_output l) ((p.flow).link l)
CanAct w p (HandOver l) =
    (l < (w.network).links) × IsRunning p (supplier w l) × IsRunning p (other_component w l)
    × HasDone (w.by_output l) ((p.flow).link l) × ArePorts IsSteadyPort (p.change l)
CanAct w p (HandBack l) = (l < (w.network).links) × IsExecuting p (other_component w l) × HasDone (not (w.by_output l)) ((p.flow).link l)
CanAct w p (HandUnused l) =
    (l < (w.network).links) × (IsReturning p (other_component w l) ⊎ IsDisabling (other_port w p l))
    × HasUnused (w.by_output l) ((p.flow).link l)
CanAct w p (Announce l) = (l < (w.network).links) × (w.is_late l ≡ true) × IsRunning p ((w.network).giver l) × ((p.change l).step ≡ not_announced)
CanAct w p (TellSettings l) =
    (l < (w.network).links) × (w.is_late l ≡ true) × (p.stage ((w.network).giver l) ≢ state_reached) × ((p.change l).step ≡ settings_announced)
CanAct w p (Conduct l) = CanConduct w p l
CanAct w p (RunPort l output) = (l < (w.network).links) × (w.is_late l ≡ true) × HasCommand (port_at output (p.change l))
CanAct w p (HappenPort l output) =
    (l < (w.network).links) × (w.is_late l ≡ true) × IsPortDue (made p l) ((w.network).count l) (port_at output (p.change l))
CanAct w p (TellPort l output) = (l < (w.network).links) × (w.is_late l ≡ true) × HasCompletion (port_at output (p.change l))
CanAct w p (Step c n last) = IsRunning p c × Can w.network p.flow (Move.Step c n last) × HasPorts w p c

abbrev pub with_stage : ℕ → ℕ → Play → Play
with_stage c k p = record p { stage = λ j. if nat_eq j c then k else p.stage j }

abbrev pub with_change : ℕ → (Change → Change) → Play → Play
with_change l f p = record p { change = λ k. if nat_eq k l then f (p.change k) else p.change k }

-- at the end of a transition to Idle the headers at home are reset: those of done of an output go to its todo, those of
-- todo of an input to its done, all cleared
abbrev pub reset_link : Bool → LinkState → LinkState
reset_link true x = record x { ready = x.ready + length x.sent; sent = [] }
reset_link false x = record x { spent = x.spent + length x.held; held = [] }

abbrev pub reset_all : Layout → ℕ → Flow → Flow
reset_all w c s = record s { link = λ l. if nat_eq (supplier w l) c then reset_link (w.by_output l) (s.link l) else s.link l }

-- a header is made: in todo of an output, in done of an input
abbrev pub supplied : Bool → LinkState → LinkState
supplied true x = record x { ready = x.ready + 1 }
supplied false x = record x { spent = x.spent + 1 }

-- a header is unmade: the front of todo, else of done
abbrev pub less_sent : ℕ → List Filled → LinkState → LinkState
less_sent zero [] x = x
less_sent zero (h ∷ rest) x = record x { sent = rest }
less_sent (suc k) q x = record x { ready = k }

abbrev pub less_held : List Filled → LinkState → LinkState
less_held [] x = record x { spent = x.spent - 1 }
less_held (h ∷ rest) x = record x { held = rest }

abbrev pub released : Bool → LinkState → LinkState
released true x = less_sent x.ready x.sent x
released false x = less_held x.held x

-- an unused header, cleared, goes where the supplier keeps those that it made
abbrev pub back_held : List Filled → LinkState → LinkState
back_held [] x = x
back_held (h ∷ rest) x = record x { held = rest; ready = x.ready + 1 }

abbrev pub given_unused : Bool → LinkState → LinkState
given_unused true x = back_held x.held x
given_unused false x = record x { ready = x.ready - 1; spent = x.spent + 1 }

-- the front of done of the output, or of the input
abbrev pub hand : Bool → ℕ → Move
hand true l = Move.Forward l
hand false l = Move.Back l

abbrev pub acted : Layout → Act → Play → Play
acted w Begin p = record p { phase = p.phase + 1; stage = λ c. not_sent }
acted w (Send c) p = with_stage c command_queued p
acted w (Run c) p = with_stage c transition_pending p
acted w (Happen c) p = record (with_stage c state_reached p) { flow = if nat_eq p.phase back_to_idle then reset_all w c p.flow else p.flow }
acted w (Tell c) p = with_stage c state_told p
acted w (TellEnd c) p = record p { told = λ j. if nat_eq j c then true else p.told j }
acted w (Supply l) p = record p { flow = with_link l (supplied (w.by_output l)) p.flow }
acted w (Release l) p = record p { flow = with_link l (released (w.by_output l)) p.flow }
acted w (HandOver l) p = record p { flow = moved w.network (hand (w.by_output l) l) p.flow }
acted w (HandBack l) p = record p { flow = moved w.network (hand (not (w.by_output l)) l) p.flow }
acted w (HandUnused l) p = record p { flow = with_link l (given_unused (w.by_output l)) p.flow }
acted w (Announce l) p = with_change l told_on p
acted w (TellSettings l) p = with_change l told_on p
acted w (Conduct l) p = with_change l conducted p
acted w (RunPort l output) p = with_change l (port_on output) p
acted w (HappenPort l output) p = with_change l (port_on output) p
acted w (TellPort l output) p = with_change l (port_on output) p
acted w (Step c n last) p = record p { flow = moved w.network (Move.Step c n last) p.flow }

abbrev pub CanActs : Layout → Play → List Act → Type 0
CanActs w p [] = Unit {0}
CanActs w p (a ∷ acts) = CanAct w p a × CanActs w (acted w a p) acts

abbrev pub all_acted : Layout → List Act → Play → Play
all_acted w [] p = p
all_acted w (a ∷ acts) p = all_acted w acts (acted w a p)

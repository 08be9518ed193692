-- What is true of every world that the machine reaches, and is kept by each step.
use Rattle.std.specs.Prelude.{◌≡◌, ◌≢◌, ℕ, suc, ◌<◌, ◌≤◌, Bool, true, false, not, nat_eq, map, is_some, is_none, Contains, ◌&&◌, ◌||◌, List, [], ◌∷◌, length, All, Option, Some, None, option_map, slice_get, MatchOption}
use Rattle.omx_types.specs.declared.state.State.TheVariants as states
use Rattle.omx_types.specs.declared.kind.Kind.{Kind}
use Rattle.omx_types.specs.declared.format.Format.{Format}
use Rattle.omx_types.specs.declared.param.Supplier.TheVariants as suppliers
use Rattle.part_api.specs.declared.attached.Attached.{Attached}
use Rattle.part_api.specs.declared.attached.Attached.TheVariants.{From, To}
use Rattle.il_machine.specs.declared.answer.Pending.{Pending}
use Rattle.il_machine.specs.declared.port.PortKey.{PortKey}
use Rattle.il_machine.specs.declared.port.Link.{Link}
use Rattle.il_machine.specs.declared.port.Port.{Port}
use Rattle.il_machine.specs.declared.port.PortSetting.{PortSetting}
use Rattle.il_machine.specs.declared.port.PortState.{PortState}
use Rattle.il_machine.specs.declared.header.Home.{Home}
use Rattle.il_machine.specs.declared.header.Home.TheVariants as homes
use Rattle.il_machine.specs.declared.header.Owner.{Owner}
use Rattle.il_machine.specs.declared.header.Owner.TheVariants as owners
use Rattle.il_machine.specs.declared.header.Queue.TheVariants.{Out}
use Rattle.il_machine.specs.declared.header.HeaderState.{HeaderState}
use Rattle.il_machine.specs.States.{same_state, is_lawful, is_loaded, is_invalid, is_running, is_up}
use Rattle.il_machine.specs.Lists.{holds_at}
use Rattle.il_machine.specs.Settings.{Settings, IsWhole, is_definition_of, same_format, fits}
use Rattle.il_machine.specs.Kinds.{inputs_of, ports_in, is_input, is_port_format, is_source, is_late, is_sink}
use Rattle.il_machine.specs.World.{Component, Picked, Work, World, number_of, ports_of}
use Rattle.il_machine.specs.Headers.{Seen, is_for, is_notice_of, is_work_of, Once, weight}
use Rattle.il_machine.specs.Look.{look}
use Rattle.il_machine.specs.Ports.{is_input_port, is_supplier, is_going_to, is_at_rest}
use Rattle.il_machine.specs.Room.{is_by_client, used}
use Rattle.il_machine.specs.Parameters.{is_too_large}
use Rattle.il_machine.specs.Files.{is_wrong_format, file_port_format}
use Rattle.il_machine.specs.Units.{is_waiter, units_held}
use Rattle.il_machine.specs.Flow.{end_of}
use Rattle.il_machine.specs.Census.{note_numbers, work_numbers, times}

-- the port of the key
abbrev pub port_at : PortKey → List Component → Option Port
port_at key components = option_map (λ e. e.port) (end_of components key)

-- ---- a component by itself

-- each port's definition is one that may be set for it
abbrev pub IsLawfulSetting : Settings → ℕ → PortSetting → Type 0
IsLawfulSetting s port setting =
    (is_definition_of (is_input s.kind port) setting.definition ≡ true) × (is_port_format s.kind (is_input s.kind port) setting.definition.format ≡ true)

-- a transition by loss is one to Idle from Executing or Pause, or one to Loaded
abbrev pub is_lawful_cause : Component → Pending → Bool
is_lawful_cause c p = is_by_client p.cause || (same_state p.target states.Idle && is_running c.state) || same_state p.target states.Loaded

-- the formats of its ports fit, unless it is Loaded or Invalid with nothing pending
abbrev pub is_fit : Component → Bool
is_fit c = ((is_loaded c.state || is_invalid c.state) && is_at_rest c) || fits c.settings

-- A file that a component may have. One that is read is a source's, in its port's format, or a late source's, in any that is known; one that
-- is written is a sink's. Neither has too many bytes.
abbrev pub may_have : Kind → Format → Attached → Bool
may_have kind port (From format frames) = is_source kind && not (is_wrong_format kind port format) && not (is_too_large frames format)
may_have kind port (To planned) = is_sink kind && not (is_too_large planned port)

pub record IsSound (c : Component) : Type 0 where
  pub whole : IsWhole c.settings
  pub ports : length c.ports ≡ ports_in c.settings.kind
  pub settings : (port : ℕ) (setting : PortSetting) → slice_get c.settings.ports port ≡ Some setting → IsLawfulSetting c.settings port setting
  pub fit : is_fit c ≡ true
  -- the file suits the component and its port
  pub file : (file : Attached) → c.file ≡ Some file → may_have c.settings.kind (file_port_format c) file ≡ true
  pub cause : (p : Pending) → c.pending ≡ Some p → is_lawful_cause c p ≡ true
  -- the loss mark stands only on the way from Executing or Pause to Idle
  pub mark : c.loss_mark ≡ true → (is_running c.state && is_going_to states.Idle c) ≡ true
  pub commands : length c.commands ≤ 32
  -- no more places for events are taken or reserved than there are
  pub room : used c ≤ 256

-- numbers rise from component to component, and all are below the next one
abbrev pub AreRising : ℕ → List Component → ℕ → Type 0
AreRising from [] next = from ≤ next
AreRising from (c ∷ components) next = (from ≤ number_of c) × AreRising (suc (number_of c)) components next

-- ---- headers

-- a client's header is at home with the client, a tunnel's at its supplier's port
abbrev pub home_for : PortKey → Option PortKey → Home
home_for port None = homes.Client
home_for port (Some peer) = homes.Port port

-- it was made for a port that is there: a client port, or one that supplies a tunnel to the peer
abbrev pub IsMadeFor : Option PortKey → Port → Type 0
IsMadeFor None p = p.state.link ≡ None
IsMadeFor (Some peer) p = (is_supplier p ≡ true) × MatchOption p.state.link ⊥ (λ link. link.peer ≡ peer)

abbrev pub is_key_of : ℕ → Option PortKey → Bool
is_key_of component None = false
is_key_of component (Some key) = nat_eq key.component component

-- the header was made for a port of the component of the number
abbrev pub is_for_component : ℕ → HeaderState → Bool
is_for_component component s = nat_eq s.port.component component || is_key_of component s.peer

-- It is in a list exactly where its owner is a port, one that it was made for. Only a client's header is with the client or in a note; one in
-- a work was made for a port of the work's component.
abbrev pub IsOwnedSo : HeaderState → Owner → Type 0
IsOwnedSo s owners.Client = (s.queue ≡ Out) × (s.peer ≡ None)
IsOwnedSo s (owners.Port key) = (is_for key s ≡ true) × (s.queue ≢ Out)
IsOwnedSo s (owners.Notice component) = (s.queue ≡ Out) × (s.peer ≡ None) × (s.port.component ≡ component)
IsOwnedSo s (owners.Work component) = (s.queue ≡ Out) × (is_for_component component s ≡ true)

pub record IsPlaced (components : List Component) (s : HeaderState) : Type 0 where
  pub home : s.home ≡ home_for s.port s.peer
  pub port : MatchOption (port_at s.port components) ⊥ (IsMadeFor s.peer)
  pub owner : IsOwnedSo s s.owner

abbrev pub is_in_notes_of : ℕ → HeaderState → Bool
is_in_notes_of component s = is_notice_of component s.owner

-- the component's notes have each header of theirs once, and no other
abbrev pub AreNoted : Seen → Component → Type 0
AreNoted headers c = (number : ℕ) → times number (note_numbers c.notes) ≡ weight (holds_at (headers.header number) (is_in_notes_of (number_of c)))

abbrev pub is_in_work_of : ℕ → HeaderState → Bool
is_in_work_of component s = is_work_of component s.owner

-- the component's work has each header of its own once, and no other
abbrev pub AreClaimed : Seen → Component → Type 0
AreClaimed headers c = (number : ℕ) → times number (work_numbers c.work) ≡ weight (holds_at (headers.header number) (is_in_work_of (number_of c)))

-- ---- works

-- a header of a work was made for the port that it is counted to
abbrev pub IsPickedFor : Seen → ℕ → Picked → Type 0
IsPickedFor headers component x = MatchOption (headers.header x.number) ⊥ (λ s. is_for (record { component = component; port = x.port }) s ≡ true)

-- ports rise
abbrev pub ArePicked : ℕ → List Picked → ℕ → Type 0
ArePicked from [] ports = Unit {0}
ArePicked from (x ∷ xs) ports = (from ≤ x.port) × (x.port < ports) × ArePicked (suc x.port) xs ports

-- the states in which a work may be out
abbrev pub may_work : Component → Bool
may_work c = is_running c.state || is_invalid c.state

-- Ports rise, each header was made for its port, and an announcement has none.
pub record IsSoundWork (headers : Seen) (c : Component) (work : Work) : Type 0 where
  pub state : may_work c ≡ true
  pub rising : ArePicked 0 work.headers (length c.ports)
  pub made : All (IsPickedFor headers (number_of c)) work.headers
  pub announced : work.announces ≡ true → (is_late c.settings.kind ≡ true) × (work.headers ≡ [])
  pub weights : length work.weights ≡ length c.settings.weights

-- ---- units and waits

-- its state is up, or its transition to Idle is pending
abbrev pub needs_units : Component → Bool
needs_units c = is_up c.state || is_going_to states.Idle c

-- A transition that is pending is lawful; or it is one from Loaded to Loaded by loss, or one from WaitForResources to Idle of a component
-- that waits no more.
abbrev pub is_lawful_way : Component → Pending → Bool
is_lawful_way c p =
    is_lawful c.state p.target
    || (same_state c.state states.Loaded && same_state p.target states.Loaded && not (is_by_client p.cause))
    || (same_state c.state states.WaitForResources && same_state p.target states.Idle && is_none c.waiting)

-- what holds of a component's units, of its waiting, of the transition that is pending, of its held ports and of its part
pub record IsUnitSound (waits : ℕ) (c : Component) : Type 0 where
  pub holds : needs_units c ≡ true → c.holds ≡ true
  -- one that holds units and needs none is on its way to Loaded
  pub gives : c.holds ≡ true → (needs_units c || is_going_to states.Loaded c) ≡ true
  pub waiting : is_waiter c ≡ true → is_some c.waiting ≡ true
  pub numbered : (n : ℕ) → c.waiting ≡ Some n → (n < waits) × (c.state ≡ states.WaitForResources)
  pub way : (p : Pending) → c.pending ≡ Some p → is_lawful_way c p ≡ true
  pub held : (p : PortState) → Contains c.ports p → p.held ≡ true → is_late c.settings.kind ≡ true
  pub inputs : length c.part.ended_inputs ≡ inputs_of c.settings.kind

-- two that wait have different numbers
abbrev pub WaitApart : List Component → Type 0
WaitApart components = (i j n : ℕ) (c d : Component) → slice_get components i ≡ Some c → slice_get components j ≡ Some d
    → c.waiting ≡ Some n → d.waiting ≡ Some n → i ≡ j

-- ---- tunnels

-- the other end is there, is joined to this one with the same supplier, and has the other direction and the same definition else
pub record AreJoined (p : Port) (link : Link) (q : Port) : Type 0 where
  pub back : q.state.link ≡ Some (record { peer = p.key; supplier = link.supplier })
  pub direction : is_input_port q ≡ not (is_input_port p)
  pub supplier : link.supplier ≢ suppliers.Unspecified
  pub count : q.setting.definition.count ≡ p.setting.definition.count
  pub size : q.setting.definition.size ≡ p.setting.definition.size
  pub format : same_format q.setting.definition.format p.setting.definition.format ≡ true
  pub apart : q.key.component ≢ p.key.component

abbrev pub IsJoinedWell : List Component → Port → Option Link → Type 0
IsJoinedWell components p None = Unit {0}
IsJoinedWell components p (Some link) = MatchOption (port_at link.peer components) ⊥ (AreJoined p link)

-- no more headers are made for a port than its count
abbrev pub HasFew : Seen → Port → Type 0
HasFew headers p = headers.count (is_for p.key) ≤ p.setting.definition.count

pub record IsConnected (w : World) (c : Component) : Type 0 where
  pub joined : All (λ p. IsJoinedWell w.components p p.state.link) (ports_of c)
  pub few : All (HasFew (look w).headers) (ports_of c)
  pub noted : AreNoted (look w).headers c
  pub claimed : AreClaimed (look w).headers c
  pub work : (work : Work) → c.work ≡ Some work → IsSoundWork (look w).headers c work

-- ---- the world

pub record Sound (w : World) : Type 0 where
  pub rising : AreRising 0 w.components w.numbered
  pub components : All IsSound w.components
  pub connected : All (IsConnected w) w.components
  pub once : Once w.headers
  pub numbered : All (λ r. r.state.number < w.made) w.headers
  pub placed : All (λ r. IsPlaced w.components r.state) w.headers
  pub units : All (IsUnitSound w.waits) w.components
  pub enough : units_held w.components ≤ w.units
  pub apart : WaitApart w.components
  -- one for each component, in the same order
  pub streams : map (λ s. s.component) w.streams ≡ map number_of w.components

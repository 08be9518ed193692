-- How a graph is brought to rest at any time: the notes of each component are taken, each is made Invalid, and then the headers of each link
-- go home and are unmade. A component's number is its place. Links are by their outputs (false) and inputs (true).
use Rattle.std.specs.Prelude.{◌≡◌, ℕ, ◌+◌, ◌<◌, ◌≤◌, Bool, true, false, All, length, slice_get, slice_set, Some, None, option_map, unwrap_or, Result, Ok, Err}
use Rattle.omx_types.specs.declared.command.Event.TheVariants.{Error}
use Rattle.omx_types.specs.declared.error.OmxError.{OmxError}
use Rattle.omx_types.specs.declared.error.OmxError.TheVariants.{InvalidState}
use Rattle.omx_types.specs.declared.param.Supplier.TheVariants.{Input}
use Rattle.il_machine.specs.declared.answer.Acted.{Acted}
use Rattle.il_machine.specs.declared.answer.Acted.TheVariants.{Did, Idle}
use Rattle.il_machine.specs.declared.answer.Pending.{Pending}
use Rattle.il_machine.specs.declared.port.PortKey.{PortKey}
use Rattle.il_machine.specs.declared.port.PortState.{PortState}
use Rattle.il_machine.specs.Commands.{invalidated}
use Rattle.il_machine.specs.Look.{Look, look}
use Rattle.il_machine.specs.Notes.{Took, TookBusy, TookNone, TookNote}
use Rattle.il_machine.specs.Ports.{IsCalm}
use Rattle.il_machine.specs.Room.{is_event}
use Rattle.il_machine.specs.Sound.{Sound}
use Rattle.il_machine.specs.States.{is_invalid}
use Rattle.il_machine.specs.World.{Component, World, number_of, told}
use Rattle.play_build_laws.specs.Dismantling.{HasEnd, IsSomeEnd}

-- the component has this end of the link, whose headers the input makes
pub record HasTunnelEnd (end : Bool → ℕ → PortKey) (side : Bool) (l : ℕ) (a : Component) : Type 0 where
  pub joint : HasEnd end side l a
  pub supplier : joint.link.supplier ≡ Input

-- The components are joined as the links say: each port is an end of one.
pub record HasLinks (end : Bool → ℕ → PortKey) (links : ℕ) (w : World) : Type 0 where
  pub numbered : (i : ℕ) (a : Component) → slice_get w.components i ≡ Some a → number_of a ≡ i
  pub inside : (side : Bool) (l : ℕ) → l < links → (end side l).component < length w.components
  pub joined : (side : Bool) (l : ℕ) (a : Component) → l < links → slice_get w.components (end side l).component ≡ Some a → HasTunnelEnd end side l a
  pub ends : (i port : ℕ) (a : Component) (s : PortState) → slice_get w.components i ≡ Some a → slice_get a.ports port ≡ Some s → IsSomeEnd end 0 links (record { component = i; port = port })

-- So they are, and no work and no client object is out.
pub record IsLinked (end : Bool → ℕ → PortKey) (links : ℕ) (w : World) : Type 0 where
  pub sound : Sound w
  pub has : HasLinks end links w
  pub works : All (λ a. a.work ≡ None) w.components
  pub clients : All (λ a. a.client_out ≡ false) w.components

-- each component has the file that it had
pub record KeepsFiles (w v : World) : Type 0 where
  pub many : length v.components ≡ length w.components
  pub each : (i : ℕ) (b : Component) → slice_get v.components i ≡ Some b → (a : Component) × (slice_get w.components i ≡ Some a) × (b.file ≡ a.file)

-- ---- notes

-- how many notes are queued for the component at the place
abbrev pub notes_at : ℕ → Look → ℕ
notes_at place l = unwrap_or (option_map (λ a. length a.notes) (slice_get l.components place)) 0

-- The client object of the component at the place is in, and the notes are events.
pub record HasEvents (place : ℕ) (w : World) : Type 0 where
  pub sound : Sound w
  pub component : Component
  pub there : slice_get w.components place ≡ Some component
  pub client : component.client_out ≡ false
  pub events : All (λ n. is_event n ≡ true) component.notes

-- the oldest note came, or none is queued
abbrev pub IsHeard : Result Took OmxError → Type 0
IsHeard (Ok (TookNote taken)) = Unit {0}
IsHeard (Ok TookNone) = Unit {0}
IsHeard (Ok TookBusy) = ⊥
IsHeard (Err error) = ⊥

-- only the notes of its components differ
pub record IsSameButNotes (w v : World) : Type 0 where
  pub many : length v.components ≡ length w.components
  pub each : (i : ℕ) (b : Component) → slice_get v.components i ≡ Some b → (a : Component) × (slice_get w.components i ≡ Some a) × (b ≡ record a { notes = b.notes })

-- ---- components

-- the component is Invalid with nothing pending
pub record IsStopped (a : Component) : Type 0 where
  pub invalid : is_invalid a.state ≡ true
  pub calm : IsCalm a

-- those before the place are stopped, and the others aren't Invalid
pub record AreStoppedTo (place : ℕ) (w : World) : Type 0 where
  pub stopped : (i : ℕ) (a : Component) → i < place → slice_get w.components i ≡ Some a → IsStopped a
  pub valid : (i : ℕ) (a : Component) → place ≤ i → slice_get w.components i ≡ Some a → is_invalid a.state ≡ false

-- The component at the place isn't Invalid, has no work out and no note.
pub record CanStop (place : ℕ) (w : World) : Type 0 where
  pub sound : Sound w
  pub component : Component
  pub there : slice_get w.components place ≡ Some component
  pub valid : is_invalid component.state ≡ false
  pub work : component.work ≡ None
  pub notes : length component.notes ≡ 0

-- It was made Invalid, which one event tells, and all else stayed.
pub record IsStoppedIn (place : ℕ) (w v : World) : Type 0 where
  pub sound : Sound v
  pub component : Component
  pub there : slice_get w.components place ≡ Some component
  pub after : v.components ≡ slice_set w.components place (told (Error InvalidState) (invalidated component))

-- ---- headers

-- how many headers are in the lists of the port
abbrev pub headers_at : PortKey → Look → ℕ
headers_at key l = length (l.headers.todo key) + length (l.headers.done key)

-- All components are stopped, and so many links have no header.
pub record IsCleared (end : Bool → ℕ → PortKey) (links cleared : ℕ) (w : World) : Type 0 where
  pub linked : IsLinked end links w
  pub stopped : All IsStopped w.components
  pub none : (side : Bool) (l : ℕ) → l < cleared → headers_at (end side l) (look w) ≡ 0

-- so it is, and the headers of the next link are at its input
pub record IsBrought (end : Bool → ℕ → PortKey) (links link : ℕ) (w : World) : Type 0 where
  pub cleared : IsCleared end links link w
  pub none : headers_at (end false link) (look w) ≡ 0

-- The act took a header from the port; or, where it answered Idle, none was there.
abbrev pub IsAnswered : PortKey → World → World → Result Acted OmxError → Type 0
IsAnswered key w v (Ok Did) = headers_at key (look v) < headers_at key (look w)
IsAnswered key w v (Ok (Idle why)) = headers_at key (look v) ≡ 0
IsAnswered key w v (Err error) = ⊥

-- ---- a work that comes back

-- the component isn't Invalid, and isn't on its way to be
pub record IsValid (a : Component) : Type 0 where
  pub state : is_invalid a.state ≡ false
  pub pending : (p : Pending) → a.pending ≡ Some p → is_invalid p.target ≡ false

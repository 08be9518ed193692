-- The histories of a play in which steps may fail: each world is read without its faults, and with its client objects in. What went through
-- the file of a component whose step failed counts as far as it was before that step.
use Rattle.std.specs.Prelude.{◌≡◌, ◌≤◌, ◌⊎◌, ℕ, true, false, if◌then◌else◌, List, [], ◌∷◌, count_by, slice_get, Some, Ok}
use Rattle.omx_types.specs.declared.fault.PartFault.{PartFault}
use Rattle.omx_types.specs.declared.param.Supplier.{Supplier}
use Rattle.il_machine.specs.Acts.{Act, Reply}
use Rattle.il_machine.specs.Acts as acts
use Rattle.il_machine.specs.Claims.{WorkSeen}
use Rattle.il_machine.specs.Due.{IsClosed}
use Rattle.il_machine.specs.Run.{Meets, Step}
use Rattle.il_machine.specs.Sound.{Sound}
use Rattle.il_machine.specs.Stepping.{IsFrontOf}
use Rattle.il_machine.specs.World.{Component, Stream, World, number_of, stream_of}
use Rattle.history_laws.specs.Works.{IsHeldOut, has_work_out}
use Rattle.play_model.specs.Content.{ArePlain}
use Rattle.play_model.specs.Play.{Play}
use Rattle.play_world_laws.specs.Cast.{Cast}
use Rattle.play_stream_laws.specs.Contents.{PlayContents, network_of}
use Rattle.play_stream_laws.specs.Fronts.{whole_text}
use Rattle.play_stream_laws.specs.Streams.{EachSink}
use Rattle.play_world_laws.specs.PlayWorlds.{PlayCast}
use Rattle.play_stream_laws.specs.PlayStreams.{HasPlayStreams}
use Rattle.read_world_laws.specs.Inside.{inside}
use Rattle.read_world_laws.specs.Mended.{is_fault, mend}
use Rattle.play_history_laws.specs.Following.{GoesTo, IsTaken}
use Rattle.play_history_laws.specs.Histories.{IsUnasked}
use Rattle.play_history_laws.specs.Order.{Cursor, IsAsked}

-- a work that comes back with a fault
abbrev pub IsFailedStep : Act → Type 0
IsFailedStep (acts.Finish done) = (fault : PartFault) × (done.fault ≡ Some fault)
IsFailedStep _ = ⊥

abbrev pub IsAnyAllowed : PlayCast → Cursor → World → Act → Cursor → Type 0
IsAnyAllowed cast cursor world act next = ((IsUnasked act ⊎ IsFailedStep act) × (next ≡ cursor)) ⊎ IsAsked cast cursor world act next

-- a call that was done; a tunnel that was set up has its supplier
abbrev pub IsAccepted : Reply → Type 0
IsAccepted (acts.Plain result) = result ≡ Ok tt
IsAccepted (acts.Joined result) = (supplier : Supplier) × (result ≡ Ok supplier)
IsAccepted _ = ⊥

-- as a play's history, with any number of steps that fail
abbrev pub IsFaultHistory : PlayCast → Cursor → World → List (Act × Reply) → Cursor → World → Type 0
IsFaultHistory cast cursor world [] next after = (next ≡ cursor) × (after ≡ world)
IsFaultHistory cast cursor world (step ∷ steps) next after =
    (between : Cursor) × (middle : World) × Meets world step.0 × Step world step.0 step.1 middle
    × IsAnyAllowed cast cursor (inside (mend world.streams world)) step.0 between × IsFaultHistory cast between middle steps next after

-- ---- the worlds on the way

-- each work that is out is as its holder took it
abbrev pub AreHeld : World → Type 0
AreHeld world = (number : ℕ) → has_work_out number world ≡ true → (work : WorkSeen) × (stream : Stream) × (work.component ≡ number) × IsHeldOut world work stream

-- at most the one fault of a component is queued as a note
abbrev pub AreNoted : World → Type 0
AreNoted world = (place : ℕ) (component : Component) → slice_get world.components place ≡ Some component
    → count_by is_fault component.notes ≤ (if component.part.failed then 1 else 0)

pub record IsFaulty (cast : PlayCast) (cursor : Cursor) (recent : ℕ) (play : Play) (streams : List Stream) (world : World) : Type 0 where
  pub taken : IsTaken cast cursor recent play (mend streams world)
  pub closed : IsClosed world
  pub sound : Sound world
  pub held : AreHeld world
  pub noted : AreNoted world
  pub same : (place : ℕ) (component : Component) → slice_get world.components place ≡ Some component → component.part.failed ≡ false
      → stream_of (number_of component) (mend streams world) ≡ stream_of (number_of component) world

abbrev pub NoneFailed : World → Type 0
NoneFailed world = (place : ℕ) (component : Component) → slice_get world.components place ≡ Some component → component.part.failed ≡ false

-- nothing failed, was told or is out
pub record IsFresh (world : World) : Type 0 where
  pub whole : NoneFailed world
  pub told : (place : ℕ) (component : Component) → slice_get world.components place ≡ Some component → component.notes ≡ []
  pub given : world.given ≡ []
  pub free : (number : ℕ) → has_work_out number world ≡ false

-- ---- the bytes on their way

-- each sink whose step failed took a front of its whole text
abbrev pub AreFailedFronts : Cast → PlayContents → World → (ℕ → List ℕ) → Type 0
AreFailedFronts cast contents world stream =
    EachSink cast world (λ link component taken. component.part.failed ≡ true → IsFrontOf (whole_text cast contents link (stream link)) taken.written)

pub record HasFaultStreams (cast : PlayCast) (contents : PlayContents) (stream : ℕ → List ℕ) (play : Play) (streams : List Stream) (world : World) : Type 0 where
  pub flows : HasPlayStreams cast contents play (inside (mend streams world))
  pub fronts : AreFailedFronts cast.cast contents world stream

-- so it is in a world to which a history leads
pub record HasFaulted (cast : PlayCast) (cursor : Cursor) (was : ℕ) (before : Play) (next : Cursor) (streams : List Stream) (world after : World) : Type 0 where
  pub recent : ℕ
  pub now : Play
  pub later : List Stream
  pub faulty : IsFaulty cast next recent now later after
  pub goes : GoesTo (cast.cast).layout cursor was before next recent now
  pub leads : (contents : PlayContents) (stream : ℕ → List ℕ) → ArePlain (network_of cast.cast) contents.model stream
      → HasFaultStreams cast contents stream before streams world → HasFaultStreams cast contents stream now later after

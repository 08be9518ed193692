-- The works that a caller holds: each is out as it was claimed, and no other is out.
use Rattle.std.specs.Prelude.{◌≡◌, ℕ, Bool, false, true, All, List, [], ◌∷◌, slice_get, Option, Some, is_some, IsSomeAnd}
use Rattle.omx_types.specs.declared.fault.PartFault.{PartFault}
use Rattle.omx_types.specs.declared.handle.Handle.{Handle}
use Rattle.part_api.specs.Terms.{Terms}
use Rattle.il_machine.specs.World.{Stream, World}
use Rattle.il_machine.specs.Look.{look}
use Rattle.il_machine.specs.Answers.{component_named}
use Rattle.il_machine.specs.Claims.{WorkSeen}
use Rattle.il_machine.specs.Stepping.{WorkDone, IsAnnounced}
use Rattle.il_machine.specs.Finishing.{Finish}
use Rattle.il_machine.specs.Acts as acts
use Rattle.il_machine.specs.Run.{Meets}
use Rattle.il_machine.specs.Sound.{Sound}
use Rattle.il_machine.specs.Whole.{HasDone, Kept, PartSeen, Stands, StepsWhere}
use Rattle.history_laws.specs.Works.{IsHeldOut, has_work_out}
use Rattle.header_core.specs.BufferHeader.{BufferHeader}
use Rattle.il_flow.specs.Places.{AreHeadersOf, AreSame, carried_from}
use Rattle.il_flow.specs.Works.{ComesBack, DoneOf, seen_done}

-- a work that was claimed, what its part shows, and its headers by the numbers of their ports
pub record HeldWork : Type 0 where
  pub handle : Handle
  pub terms : Terms
  pub failed : Bool
  pub part : PartSeen
  pub headers : List (Option BufferHeader)
  pub announces : Bool

-- as the machine sees it, by what was set of its part at the claim
abbrev pub seen_of : Terms → HeldWork → WorkSeen
seen_of t x = record { component = x.handle.generation; terms = t; headers = carried_from 0 x.headers; announces = x.announces }

-- each header is the world's: it has the key of its headers, and the size and the memory that are known of its number
abbrev pub AreOfWorld : World → List (Option BufferHeader) → Type 0
AreOfWorld w headers = AreHeadersOf w.key (look w).headers.header 0 headers

-- The work is out as it was claimed. Of an announcement's part the terms needn't be set yet, but its kind and its file are the
-- component's. The part didn't fail.
pub record IsHeld (w : World) (x : HeldWork) : Type 0 where
  pub terms : Terms
  pub stream : Stream
  pub out : IsHeldOut w (seen_of terms x) stream
  pub set_so : x.announces ≡ false → x.terms ≡ terms
  pub kind : (x.terms).kind ≡ terms.kind
  pub file : (x.terms).file ≡ terms.file
  pub unfailed : x.failed ≡ false
  pub gone : HasDone terms false stream x.part
  pub headers : AreOfWorld w x.headers

-- ---- all of them

-- one of the works is that of the component of the number
abbrev pub IsAmong : ℕ → List HeldWork → Type 0
IsAmong number works = (place : ℕ) × IsSomeAnd (slice_get works place) (λ x. x.handle.generation ≡ number)

-- no two are of one component
abbrev pub AreOfOwnComponents : List HeldWork → Type 0
AreOfOwnComponents [] = Unit {0}
AreOfOwnComponents (x ∷ works) = (IsAmong x.handle.generation works → ⊥) × AreOfOwnComponents works

-- each is out, no two are of one component, and each that is out is among them
pub record AreHeld (works : List HeldWork) (w : World) : Type 0 where
  pub each : All (IsHeld w) works
  pub apart : AreOfOwnComponents works
  pub whole : (number : ℕ) → has_work_out number w ≡ true → IsAmong number works

-- ---- one that comes back

-- some world that is stood for has the work out, and its handle names the component
pub record IsOutSomewhere (graph : Kept) (x : HeldWork) : Type 0 where
  pub world : World
  pub stands : Stands graph world
  pub sound : Sound world
  pub held : IsHeld world x
  pub named : component_named x.handle world.components ≡ Some (held.out).component

-- So the work was run: it has its component, its headers and what is set of its part still, and the part failed where the step did. Then
-- so much has gone through the part.
module _ {P : Type 0} where
  pub record IsRun (x : HeldWork) (done : DoneOf P) (t : Terms) (failed : Bool) (p : PartSeen) : Type 0 where
    pub component : done.component ≡ x.handle
    pub announces : done.announces ≡ x.announces
    pub headers : AreSame x.headers done.headers
    pub terms : t ≡ x.terms
    pub so_failed : x.failed ≡ false → failed ≡ is_some done.fault
    pub stepped : x.announces ≡ false → ComesBack x.terms (carried_from 0 x.headers) x.part (done.component).generation done.frames done.fault (carried_from 0 done.headers) p
    pub told : x.announces ≡ true → IsAnnounced (seen_done [] done)
    pub still : x.announces ≡ true → p ≡ x.part

-- the work comes back from one step of its part, which did so many frames, and failed so if it did
pub record BackSo (x : HeldWork) (frames : ℕ) (fault : Option PartFault) (w v : World) : Type 0 where
  pub done : WorkDone
  pub component : done.component ≡ x.handle.generation
  pub frames_are : done.frames ≡ frames
  pub fault_is : done.fault ≡ fault
  pub meets : Meets w (acts.Finish done)
  pub step : Finish w done v

abbrev pub IsBroughtBack : Kept → Kept → HeldWork → ℕ → Option PartFault → Type 0
IsBroughtBack old new x frames fault = StepsWhere old new (λ w. IsHeld w x) (BackSo x frames fault)

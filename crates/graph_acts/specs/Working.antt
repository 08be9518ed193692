-- Works that went out, as their holders see them.
use Rattle.std.specs.Prelude.{◌≡◌, ℕ, Bool, true, false, List, [], Option, Some, None, IfSome, IsSomeAnd, Result, Ok, Err, is_some}
use Rattle.omx_types.specs.declared.handle.Handle.{Handle}
use Rattle.part_api.specs.Terms.{Terms}
use Rattle.il_machine.specs.Answers.{component_named}
use Rattle.il_machine.specs.Claims.{WorkSeen}
use Rattle.il_machine.specs.Look.{look}
use Rattle.il_machine.specs.Stepping.{IsAnnounced}
use Rattle.il_machine.specs.Whole.{HasDone}
use Rattle.il_machine.specs.World.{Stream, World, number_of}
use Rattle.history_laws.specs.Works.{IsHeldOut, has_work_out}
use Rattle.header_core.specs.BufferHeader.{BufferHeader}
use Rattle.outside_io.specs.declared.sink.Sink.{Ghosts as SinkGhosts}
use Rattle.outside_io.specs.declared.source.Source.{Ghosts as SourceGhosts}
use Rattle.omx_types.specs.declared.fault.PartFault.{PartFault}
use Rattle.audio_parts.specs.Objects.{Held, ObjectShows, ObjectStays}
use Rattle.audio_parts.specs.Shown.{ShownPart, held_in}
use Rattle.graph_core.specs.Finishing.{AreHandedBack}
use Rattle.il_flow.specs.Places.{AreSame, carried_from}
use Rattle.il_flow.specs.Works.{ComesBack, DoneOf, WorkOf, seen_done}
use Rattle.graph_acts.specs.declared.claimed.LentClaim.{LentClaim}
use Rattle.graph_acts.specs.declared.claimed.LentClaim.TheVariants as claimed
use Rattle.il_graph.specs.Shown.{seen_of}
use Rattle.held_things.specs.Held.{Moves}
use Rattle.graph_acts.specs.declared.act.Act.{Act}
use Rattle.graph_acts.specs.declared.act.Act.TheVariants as asks
use Rattle.graph_acts.specs.declared.act.Reply.{Reply}
use Rattle.graph_acts.specs.declared.act.Reply.TheVariants as replies

pub record OutWork (S K : Type 0) : Type 0 where
  pub handle : Handle
  pub announces : Bool
  pub part : ShownPart S K
  pub headers : List (Option BufferHeader)

module _ {S K : Type 0} where
  abbrev pub work_number : OutWork S K → ℕ
  work_number x = x.handle.generation

  -- as the machine sees it, by what was set of its component
  abbrev pub work_by : Terms → OutWork S K → WorkSeen
  work_by t x = record { component = x.handle.generation; terms = t; headers = carried_from 0 x.headers; announces = x.announces }

  -- The work is out in the world as it was claimed: its component is named by the handle, and so much has gone through its part, which has
  -- the component's kind and file and didn't fail.
  pub record IsWorkIn (w : World) (x : OutWork S K) : Type 0 where
    pub terms : Terms
    pub stream : Stream
    pub out : IsHeldOut w (work_by terms x) stream
    pub gone : HasDone terms false stream (seen_of x.part)
    pub set_so : x.announces ≡ false → (x.part).terms ≡ terms
    pub kind : ((x.part).terms).kind ≡ terms.kind
    pub its_file : ((x.part).terms).file ≡ terms.file
    pub whole : (x.part).failed ≡ false
    pub named : IsSomeAnd (component_named x.handle w.components) (λ c. number_of c ≡ x.handle.generation)
    pub headers : AreHandedBack x.headers (look w)

  -- the works that are out, before an act and after it
  abbrev pub MovesWorks : Option ℕ → Option (OutWork S K) → World → World → Type 0
  MovesWorks gone come w v = Moves work_number gone come (IsWorkIn w) (IsWorkIn v) (λ n. has_work_out n w ≡ true) (λ n. has_work_out n v ≡ true)

-- ---- what an act brings back and a reply gives

module _ {S K : Type 0} where
  abbrev pub out_of : WorkOf (ShownPart S K) → OutWork S K
  out_of work = record { handle = work.component; announces = work.announces; part = work.part; headers = work.headers }

  abbrev pub claimed_work : {E : Type 0} → Result (LentClaim S K) E → Option (OutWork S K)
  claimed_work (Ok (claimed.Work work)) = Some (out_of work)
  claimed_work (Ok _) = None
  claimed_work (Err e) = None

module _ {S K C : Type 0} where
  abbrev pub work_given : Reply S K C → Option (OutWork S K)
  work_given (replies.Claim result) = claimed_work result
  work_given _ = None

  -- the number of the component whose work the act brings back
  abbrev pub work_back : Act S K C → Option ℕ
  work_back (asks.Finish done) = Some done.component.generation
  work_back _ = None

module _ {S K : Type 0} (reads : SourceGhosts S) (writes : SinkGhosts K) where
  -- the object of a part's file is the same, read or written further
  abbrev pub IsFurther : Held S K → Held S K → Type 0
  IsFurther before now = ObjectStays reads.name reads.size reads.told reads.ends reads.offset reads.faults writes.name writes.faults before now

  -- it shows since then that a step answered the fault
  abbrev pub IsFaulted : PartFault → Held S K → Held S K → Type 0
  IsFaulted fault before now = ObjectShows reads.size reads.ends reads.offset reads.faults writes.faults fault before now

  -- The work comes back as `LentWork::run` leaves it.
  pub record IsRunOf (got : OutWork S K) (done : DoneOf (ShownPart S K)) : Type 0 where
    pub component : done.component ≡ got.handle
    pub announces : done.announces ≡ got.announces
    pub terms : (done.part).terms ≡ (got.part).terms
    pub same : AreSame got.headers done.headers
    pub step : got.announces ≡ false → ComesBack (got.part).terms (carried_from 0 got.headers) (seen_of got.part) done.component.generation done.frames done.fault (carried_from 0 done.headers) (seen_of (done.part))
    pub failed : got.announces ≡ false → (done.part).failed ≡ is_some done.fault
    pub announced : got.announces ≡ true → IsAnnounced (seen_done [] done)
    pub unstepped : got.announces ≡ true → done.part ≡ got.part
    pub object : IsFurther (held_in got.part) (held_in done.part)
    pub shows : IfSome done.fault (λ fault. IsFaulted fault (held_in got.part) (held_in done.part))

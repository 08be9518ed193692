-- Works, and works whose step was done, as contracts see them.
use Rattle.std.specs.Prelude.{ℕ, Bool, false, List, Option, is_some}
use Rattle.omx_types.specs.declared.handle.Handle.{Handle}
use Rattle.omx_types.specs.declared.fault.PartFault.{PartFault}
use Rattle.part_api.specs.Terms.{Terms}
use Rattle.il_machine.specs.World.{Stream}
use Rattle.il_machine.specs.Claims.{CarriedHeader, WorkSeen}
use Rattle.il_machine.specs.Finishing.{gone_through}
use Rattle.il_machine.specs.Stepping.{WorkDone, IsStep}
use Rattle.il_machine.specs.Whole.{HasDone, PartSeen}
use Rattle.header_core.specs.BufferHeader.{BufferHeader}
use Rattle.il_flow.specs.Places.{carried_from}

pub record WorkOf (P : Type 0) : Type 0 where
  pub component : Handle
  pub part : P
  -- by the numbers of the ports
  pub headers : List (Option BufferHeader)
  pub announces : Bool

pub record DoneOf (P : Type 0) : Type 0 where
  pub component : Handle
  pub part : P
  -- by the numbers of the ports
  pub headers : List (Option BufferHeader)
  pub frames : ℕ
  pub fault : Option PartFault
  pub announces : Bool

module _ {P : Type 0} where
  -- a work as its holder sees it, by the terms of its part
  abbrev pub seen_work : Terms → WorkOf P → WorkSeen
  seen_work t w = record { component = w.component.generation; terms = t; headers = carried_from 0 w.headers; announces = w.announces }

  -- a work that comes back, by the bytes that the part's file took
  abbrev pub seen_done : List ℕ → DoneOf P → WorkDone
  seen_done took d = record { component = d.component.generation; frames = d.frames; fault = d.fault; headers = carried_from 0 d.headers; took = took }

-- From the headers before, the step of a part of these terms comes back as these headers, these frames and this fault, and then so much has
-- gone through the part. Nothing is said of the bytes that its file took but what the machine says.
abbrev pub ComesBack : Terms → List CarriedHeader → PartSeen → ℕ → ℕ → Option PartFault → List CarriedHeader → PartSeen → Type 0
ComesBack t before old component frames fault after new =
    (s : Stream) → HasDone t false s old → (took : List ℕ)
    × IsStep t s before (record { component = component; frames = frames; fault = fault; headers = after; took = took })
    × HasDone t (is_some fault) (gone_through (record { component = component; frames = frames; fault = fault; headers = after; took = took }) s) new

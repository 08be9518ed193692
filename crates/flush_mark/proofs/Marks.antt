-- A mark is put on a header of the flat list.
use Rattle.std.proofs.Common.{◌≡◌, [], ◌∷◌, List, ℕ, Some, refl}
use Rattle.il_machine.specs.declared.port.Mark.{Mark}
use Rattle.il_machine.specs.declared.port.PortKey.{PortKey}
use Rattle.il_machine.specs.Due.{first_marked}
use Rattle.il_machine.specs.Stock.{Stocked}
use Rattle.stock_laws.specs.Changes.{marked_first, front_marked}
use Rattle.stock_laws.proofs.Clearing.{mark_stands}
use Rattle.flush_mark.specs.Leading.{Leads}

-- the key, the ports and the next number stay
record IsMarked (old new : Stocked) : Type 0 where
  key : new.key ≡ old.key
  ports : new.ports ≡ old.ports
  next : new.next ≡ old.next

front_is_marked : (s : Stocked) (key : PortKey) (mark : Mark) (ns : List ℕ) → IsMarked s (front_marked key mark ns s)
front_is_marked s key mark [] = record { key = refl; ports = refl; next = refl }
front_is_marked s key mark (n ∷ ns) = record { key = refl; ports = refl; next = refl }

pub mark_leads : (s : Stocked) (key : PortKey) (mark : Mark) → Leads (first_marked (s.headers.unmarked key) (Some mark)) s (marked_first key mark s)
mark_leads s key mark =
    let M = front_is_marked s key mark (s.headers.unmarked key) in
    record {
      stands = λ hs S. mark_stands s hs key mark S;
      key = M.key;
      ports = M.ports;
      next = M.next;
    }

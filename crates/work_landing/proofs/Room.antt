-- There is a place for all that is told of a work that comes back, and each header can land.
use Rattle.std.proofs.Common.{◌≡◌, ℕ, ◌+◌, ◌≤◌, Bool, true, false, List, [], ◌∷◌, ◌++◌, length, refl, arith, length-append}
use Rattle.std.specs.Prelude.{Option, Some, None}
use Rattle.std.proofs.lemmas.List.Sums.{sum_by-append}
use Rattle.omx_types.specs.declared.command.Note.{Note}
use Rattle.omx_types.specs.declared.handle.Handle.{Handle}
use Rattle.il_machine.specs.declared.port.Mark.{Mark}
use Rattle.il_machine.specs.declared.port.PortKey.{PortKey}
use Rattle.il_machine.specs.Census.{note_numbers}
use Rattle.il_machine.specs.Flow.{done_note}
use Rattle.il_machine.specs.Finishing.{Landing, Again, Onward, Noted}
use Rattle.il_machine.specs.Room.{events_in, room}
use Rattle.il_machine.specs.Stock.{Stocked}
use Rattle.il_machine.specs.World.{Component}
use Rattle.machine_laws.proofs.Landing.{numbers_append}
use Rattle.machine_laws.proofs.Rooms.{costs, costs_same}
use Rattle.header_core.specs.BufferHeader.{BufferHeader}
use Rattle.work_landing.specs.declared.back.Back.{Back}
use Rattle.work_landing.specs.declared.back.Known.{Known}
use Rattle.work_landing.specs.declared.back.Way.{Way}
use Rattle.work_landing.specs.Landed.{AreHomeless, IsHomeless}
use Rattle.work_landing.specs.Places.{HaveOwnHeaders, EachFrom, IsOther, carried_from}
use Rattle.work_landing.specs.Returning.{AllCanLand, HasNotePlaces, all_notes, back_at, landing_by, cleared_by, noted_by, notes_at, notes_by, port_of, put_at, put_by, settled, tells_by, told_by, with_notes}
use Rattle.work_landing.proofs.Backs.{Covers}

pub events_both : (a b : List Note) → events_in (a ++ b) ≡ events_in a + events_in b
events_both a b = sum_by-append _ a b

pub headers_both : (a b : List Note) → length (note_numbers (a ++ b)) ≡ length (note_numbers a) + length (note_numbers b)
headers_both a b = rw (numbers_append a b) (length-append (note_numbers a) (note_numbers b))

-- ---- what is told of one header

told_events : (component : Handle) (b : Back) (mark : Option Mark) (tells : Bool) → tells_by component b mark ≡ tells → events_in (told_by component b mark) ≤ 1
told_events component b mark false e = rw e (omega arith)
told_events component b None true e = rw e (omega arith)
told_events component b (Some mark) true e = rw e (omega arith)

done_events : (input : Bool) (n : ℕ) → events_in (done_note input n ∷ []) ≡ 0
done_events true n = refl
done_events false n = refl

noted_events : (to : Landing) (input : Bool) (h : BufferHeader) → events_in (noted_by to input h) ≡ 0
noted_events Again input h = refl
noted_events Onward input h = refl
noted_events Noted input h = done_events input h.held.number

one_event : (component : Handle) (mark : Option Mark) (b : Back) (h : BufferHeader) → events_in (notes_by component mark b h) ≤ 1
one_event component mark b h =
    let told = told_events component b h.held.mark (tells_by component b h.held.mark) refl in
    let noted = noted_events (landing_by b) b.input (settled component mark b h) in
    let both = events_both (told_by component b h.held.mark) (noted_by (landing_by b) b.input (settled component mark b h)) in
    omega (arith, told, noted, both)

-- ---- how places are taken

pub room_after : (c : Component) (ns : List Note) (some rest : ℕ) → events_in ns ≤ some → rest + some ≤ room c → rest ≤ room (with_notes ns c)
room_after c ns some rest few enough =
    let both = events_both c.notes ns in
    let k : costs (with_notes ns c) ≡ costs c = costs_same c (with_notes ns c) c.commands refl in
    omega (arith, few, enough, both, k)

pub places_after : (c : Component) (ns rest : List Note) → HasNotePlaces c (ns ++ rest) → HasNotePlaces (with_notes ns c) rest
places_after c ns rest enough =
    let a = headers_both c.notes ns in
    let b = headers_both ns rest in
    omega (arith, enough, a, b)

pub places_front : (c : Component) (ns rest : List Note) → HasNotePlaces c (ns ++ rest) → HasNotePlaces c ns
places_front c ns rest enough = let b = headers_both ns rest in omega (arith, enough, b)

-- ---- a header that landed leaves the others where they are

still_one : (component number : ℕ) (to : Landing) (key : PortKey) (h : BufferHeader) (s : Stocked) (port : ℕ) (x : BufferHeader) → h.held.number ≡ number → IsOther number x
    → IsHomeless component s port x → IsHomeless component (put_by to key h s) port x
still_one component number Again key h s port x e other is = rw e (rw other is)
still_one component number Onward key h s port x e other is = rw e (rw other is)
still_one component number Noted key h s port x e other is = rw e (rw other is)

still_all : (component number : ℕ) (to : Landing) (key : PortKey) (h : BufferHeader) (s : Stocked) (port first : ℕ) (places : List (Option BufferHeader)) → h.held.number ≡ number
    → EachFrom (λ port x. IsOther number x) first places → AreHomeless component port places s → AreHomeless component port places (put_by to key h s)
still_all component number to key h s port first [] e others are = tt
still_all component number to key h s port first (None ∷ places) e others are = (tt, still_all component number to key h s (port + 1) (first + 1) places e others.1 are.1)
still_all component number to key h s port first (Some x ∷ places) e others are =
    (still_one component number to key h s port x e others.0 are.0, still_all component number to key h s (port + 1) (first + 1) places e others.1 are.1)

number_by : (component : Handle) (mark : Option Mark) (b : Back) (h : BufferHeader) (clears finishes : Bool) → cleared_by b ≡ clears → b.finished ≡ finishes
    → (settled component mark b h).held.number ≡ h.held.number
number_by component mark b h true finishes e f = rw e refl
number_by component mark b h false true e f = rw (e, f) refl
number_by component mark b h false false e f = rw (e, f) refl

pub number_stays : (component : Handle) (mark : Option Mark) (b : Back) (h : BufferHeader) → (settled component mark b h).held.number ≡ h.held.number
number_stays component mark b h = number_by component mark b h (cleared_by b) b.finished refl refl

-- ---- all of them

pub can_all : (k : Known) (port : ℕ) (ways : List Way) (places : List (Option BufferHeader)) (s : Stocked) (c : Component) → AreHomeless k.component.generation port places s → HaveOwnHeaders places → Covers ways places
    → length (carried_from port places) ≤ room c → HasNotePlaces c (all_notes k ways places) → AllCanLand k port ways places s c
can_all k port [] places s c homeless apart free few notes = free
can_all k port (way ∷ ways) [] s c homeless apart covers few notes = tt
can_all k port (way ∷ ways) (None ∷ places) s c homeless apart covers few notes = (
  tt,
  can_all k (port + 1) ways places s (with_notes [] c) homeless.1 apart.1 covers
      (room_after c [] 0 (length (carried_from (port + 1) places)) (omega arith) (omega (arith, few)))
      (places_after c [] (all_notes k ways places) notes),
)
can_all k port (way ∷ ways) (Some h ∷ places) s c homeless apart covers few notes =
    let b = back_at k way h in
    let ns = notes_at k way (Some h) in (
      (homeless.0.0, homeless.0.1, homeless.0.2, omega (arith, few), places_front c ns (all_notes k ways places) notes),
      can_all k (port + 1) ways places (put_at k port way (Some h) s) (with_notes ns c)
          (still_all k.component.generation h.held.number (landing_by b) (port_of k.component port) (settled k.component k.mark b h) s (port + 1) 0 places
          (number_stays k.component k.mark b h) apart.0 homeless.1) apart.1 covers
          (room_after c ns 1 (length (carried_from (port + 1) places)) (one_event k.component k.mark b h) (omega (arith, few)))
          (places_after c ns (all_notes k ways places) notes),
    )

pub all_events : (k : Known) (port : ℕ) (ways : List Way) (places : List (Option BufferHeader)) → events_in (all_notes k ways places) ≤ length (carried_from port places)
all_events k port [] places = omega arith
all_events k port (way ∷ ways) [] = omega arith
all_events k port (way ∷ ways) (None ∷ places) = all_events k (port + 1) ways places
all_events k port (way ∷ ways) (Some h ∷ places) =
    let one = one_event k.component k.mark (back_at k way h) h in
    let rest = all_events k (port + 1) ways places in
    let both = events_both (notes_at k way (Some h)) (all_notes k ways places) in
    omega (arith, one, rest, both)

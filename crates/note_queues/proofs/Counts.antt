-- How many events, header notes and places queues have, and how the calls change them.
use Rattle.std.proofs.Common.{◌≡◌, ℕ, ◌+◌, ◌*◌, ◌≤◌, ◌<◌, Bool, true, false, cond, ◌⊎◌, inl, inr, List, [], ◌∷◌, ◌++◌, length, map, drop, slice_get, Some, refl, arith, length-append}
use Rattle.std.proofs.lemmas.Grind.{common_steps}
use Rattle.std.proofs.lemmas.List.Sums.{sum_by-cons, sum_by_push}
use Rattle.std.proofs.lemmas.List.{map-append, length-map}
use Rattle.omx_types.specs.declared.command.Event.{Event}
use Rattle.omx_types.specs.declared.command.Note.{Note}
use Rattle.omx_types.specs.declared.command.Note.TheVariants as machine
use Rattle.il_machine.specs.Room.{is_event, events_in}
use Rattle.il_machine.specs.Census.{note_numbers}
use Rattle.note_queues.specs.declared.taken.Taken.{Taken}
use Rattle.note_queues.specs.declared.taken.Taken.TheVariants.{Told, EmptyDone, FillDone}
use Rattle.header_core.specs.BufferHeader.{BufferHeader}
use Rattle.note_queues.specs.Queues.{note_of, notes_of, header_note, header_notes, noted, room, Queues, IsCounted}

pub note_numbers-append : (xs ys : List Note) → note_numbers (xs ++ ys) ≡ note_numbers xs ++ note_numbers ys
note_numbers-append [] ys = refl
note_numbers-append (machine.Told event ∷ xs) ys = note_numbers-append xs ys
note_numbers-append (machine.EmptyDone number ∷ xs) ys = grind (arith, common_steps, note_numbers-append xs ys)
note_numbers-append (machine.FillDone number ∷ xs) ys = grind (arith, common_steps, note_numbers-append xs ys)

-- each note is an event or of a header
pub events-and-headers : (xs : List Note) → events_in xs + length (note_numbers xs) ≡ length xs
events-and-headers [] = refl
events-and-headers (machine.Told event ∷ xs) = grind (arith, sum_by-cons (λ n. cond (is_event n) 1 0) (machine.Told event) xs, events-and-headers xs)
events-and-headers (machine.EmptyDone number ∷ xs) = grind (arith, sum_by-cons (λ n. cond (is_event n) 1 0) (machine.EmptyDone number) xs, events-and-headers xs)
events-and-headers (machine.FillDone number ∷ xs) = grind (arith, sum_by-cons (λ n. cond (is_event n) 1 0) (machine.FillDone number) xs, events-and-headers xs)

-- ---- one more note

abbrev is_counted : Note → ℕ
is_counted n = cond (is_event n) 1 0

pub events-told : (ts : List Taken) (event : Event) → events_in (map note_of (ts ++ Told event ∷ [])) ≡ events_in (map note_of ts) + 1
events-told ts event = rw map-append (sum_by_push is_counted (map note_of ts) (machine.Told event))

pub events-header : (ts : List Taken) (input : Bool) (header : BufferHeader) → events_in (map note_of (ts ++ header_note input header ∷ [])) ≡ events_in (map note_of ts)
events-header ts true header = rw map-append (omega (arith, sum_by_push is_counted (map note_of ts) (machine.EmptyDone header.held.number)))
events-header ts false header = rw map-append (omega (arith, sum_by_push is_counted (map note_of ts) (machine.FillDone header.held.number)))

pub headers-told : (ts : List Taken) (event : Event) → length (note_numbers (map note_of (ts ++ Told event ∷ []))) ≡ length (note_numbers (map note_of ts))
headers-told ts event = rw map-append (rw note_numbers-append (omega (arith, length-append (note_numbers (map note_of ts)) [])))

pub headers-header : (ts : List Taken) (input : Bool) (header : BufferHeader) → length (note_numbers (map note_of (ts ++ header_note input header ∷ []))) ≡ length (note_numbers (map note_of ts)) + 1
headers-header ts true header =
    rw map-append (rw note_numbers-append (omega (arith, length-append (note_numbers (map note_of ts)) (header.held.number ∷ []))))
headers-header ts false header =
    rw map-append (rw note_numbers-append (omega (arith, length-append (note_numbers (map note_of ts)) (header.held.number ∷ []))))

module _ {C : Type 0} (q : Queues C) (cost_sum event_count : ℕ) (counted : IsCounted q cost_sum event_count) where
  pub counted-event : (event : Event) → 0 < room q → IsCounted (noted (Told event) q) cost_sum (event_count + 1)
  counted-event event some = record {
    within = record {
      ports = counted.within.ports;
      commands = counted.within.commands;
      headers = rw headers-told counted.within.headers;
      room = omega (arith, some, events-told q.notes event);
    };
    costs = counted.costs;
    events = omega (arith, counted.events, events-told q.notes event);
  }

  pub counted-header : (input : Bool) (header : BufferHeader) → header_notes q < 32 * q.ports → IsCounted (noted (header_note input header) q) cost_sum event_count
  counted-header input header few = record {
    within = record {
      ports = counted.within.ports;
      commands = counted.within.commands;
      headers = omega (arith, few, headers-header q.notes input header);
      room = omega (arith, counted.within.room, events-header q.notes input header);
    };
    costs = counted.costs;
    events = omega (arith, counted.events, events-header q.notes input header);
  }

  -- ---- a place for one more note

  pub places-event : (places : ℕ) → 256 + 32 * q.ports ≤ places → 0 < room q → length q.notes < places
  places-event places enough some =
      omega (arith, enough, some, counted.within.headers, events-and-headers (notes_of q), length-map q.notes note_of)

  pub places-header : (places : ℕ) → 256 + 32 * q.ports ≤ places → header_notes q < 32 * q.ports → length q.notes < places
  places-header places enough few =
      omega (arith, enough, few, counted.within.room, events-and-headers (notes_of q), length-map q.notes note_of)

-- ---- the first of notes that have no header

pub no_header-rest : (ts : List Taken) → length (note_numbers (map note_of ts)) ≡ 0 → length (note_numbers (map note_of (drop 1 ts))) ≡ 0
no_header-rest [] none = refl
no_header-rest (Told event ∷ ts) none = none
no_header-rest (EmptyDone header ∷ ts) none = absurd (omega arith)
no_header-rest (FillDone header ∷ ts) none = absurd (omega arith)

pub no_header-first : (ts : List Taken) (t : Taken) → length (note_numbers (map note_of ts)) ≡ 0 → Some t ≡ slice_get ts 0 → ((h : BufferHeader) × (t ≡ EmptyDone h)) ⊎ ((h : BufferHeader) × (t ≡ FillDone h)) → ⊥
no_header-first [] t none first is = cc
no_header-first (Told event ∷ ts) t none first (inl p) = let e : Told event ≡ EmptyDone p.0 = cc in cc
no_header-first (Told event ∷ ts) t none first (inr p) = let e : Told event ≡ FillDone p.0 = cc in cc
no_header-first (EmptyDone header ∷ ts) t none first is = omega arith
no_header-first (FillDone header ∷ ts) t none first is = omega arith

-- How a header of a work comes back, by its port's way, is how it does in the machine.
use Rattle.std.proofs.Common.{◌≡◌, ℕ, ◌+◌, ◌-◌, ◌/◌, ◌≤◌, Bool, true, false, not, ◌&&◌, ◌||◌, nat_eq, nat_lt, if◌then◌else◌, List, [], ◌∷◌, ◌++◌, length, refl, ap, sym, ◌∙◌, arith}
use Rattle.std.specs.Prelude.{Option, Some, None, is_none, is_some}
use Rattle.omx_types.specs.Formats.{frame_bytes_of}
use Rattle.il_machine.specs.declared.port.Mark.{Mark}
use Rattle.il_machine.specs.declared.port.PortKey.{PortKey}
use Rattle.il_machine.specs.Lists.{holds_at}
use Rattle.il_machine.specs.World.{Component, Load, Stream}
use Rattle.il_machine.specs.Parts.{terms_of}
use Rattle.il_machine.specs.Claims.{CarriedHeader}
use Rattle.il_machine.specs.Stepping.{WorkDone, format_at}
use Rattle.il_machine.specs.Finishing.{Landing, Again, Onward, Noted, carries_on, ends_by, is_an_input, is_cleared, is_finished, is_own, is_returning, is_tunnelled, landing, landing_note, load_after, mark_after, mark_in, mark_on, notes_of_header, notes_of_headers}
use Rattle.il_machine.specs.Stock.{Stocked}
use Rattle.header_core.specs.BufferHeader.{BufferHeader}
use Rattle.work_landing.specs.declared.back.Back.{Back}
use Rattle.work_landing.specs.declared.back.Known.{Known}
use Rattle.work_landing.specs.declared.back.Way.{Way}
use Rattle.work_landing.specs.Landed.{AreWays, AreWithin, IsWay, all_landed, all_notices, landed_at, landed_by, notices_at, noticed_if, with_load}
use Rattle.work_landing.specs.Places.{AreFree, carried, carried_from}
use Rattle.work_landing.specs.Returning.{all_noticed, all_notes, all_put, back_at, carries_by, landing_by, mark_by, mark_from, noted_by, noticed_at, noticed_by, notes_at, notes_by, port_of, put_at, put_by, settled, told_by}

abbrev pub known_in : Component → Stream → WorkDone → Known
known_in c s done = record {
  component = c.handle;
  failed = is_some done.fault;
  filled = nat_lt 0 done.frames || ends_by c s done;
  mark = mark_on c s done;
}

abbrev back_in : Component → Stream → WorkDone → CarriedHeader → Back
back_in c s done x = record {
  input = is_an_input c x;
  finished = is_finished c s done x;
  returning = is_returning c x;
  joined = is_tunnelled c x;
  failed = is_some done.fault;
}

none_is : {A : Type 0} (o : Option A) → not (is_some o) ≡ is_none o
none_is None = refl
none_is (Some x) = refl

-- an input's header without a frame by its way is one by the formats
drained : (c : Component) (port : ℕ) (way : Way) (h : BufferHeader) (other inside : Bool) → IsWay c port way → nat_lt port (length (terms_of c).inputs) ≡ inside
    → (if way.input then nat_eq (length h.held.content / way.frame - 0) 0 else other)
    ≡ (if nat_lt port (length (terms_of c).inputs) then (nat_lt port (length (terms_of c).inputs) && nat_eq (length h.held.content / frame_bytes_of (format_at (terms_of c) port) - 0) 0) else other)
drained c port way h other true w e = rw (← w.input, ← w.frame, e) refl
drained c port way h other false w e = rw (← w.input, e) refl

finished_is : (c : Component) (s : Stream) (done : WorkDone) (port : ℕ) (way : Way) (h : BufferHeader) → IsWay c port way
    → (not (is_some done.fault) && (if way.input then nat_eq (length h.held.content / way.frame - 0) 0 else (nat_lt 0 done.frames || ends_by c s done)))
    ≡ is_finished c s done (carried port h)
finished_is c s done port way h w =
    ap (λ b. b && (if way.input then nat_eq (length h.held.content / way.frame - 0) 0 else (nat_lt 0 done.frames || ends_by c s done))) (none_is done.fault)
    ∙ ap (λ b. is_none done.fault && b) (drained c port way h (nat_lt 0 done.frames || ends_by c s done) (nat_lt port (length (terms_of c).inputs)) w refl)

abbrev back_with : Bool → Bool → Bool → Bool → Bool → Back
back_with input finished returning joined failed = record { input = input; finished = finished; returning = returning; joined = joined; failed = failed }

back_of : (a b c d e a' b' c' d' : Bool) → a ≡ a' → b ≡ b' → c ≡ c' → d ≡ d' → back_with a b c d e ≡ back_with a' b' c' d' e
back_of a b c d e a' b' c' d' i f r j = rw (i, f, r, j) refl

back_is : (c : Component) (s : Stream) (done : WorkDone) (port : ℕ) (way : Way) (h : BufferHeader) → IsWay c port way → back_at (known_in c s done) way h ≡ back_in c s done (carried port h)
back_is c s done port way h w = back_of _ _ _ _ _ _ _ _ _ (sym w.input) (finished_is c s done port way h w) (sym w.returning) (sym w.joined)

-- ---- what it carries, and where it lands

marks_same : (c : Component) (own mark : Option Mark) → mark_by c.handle own mark ≡ mark_after c own mark
marks_same c None mark = refl
marks_same c (Some own) mark = refl

settled_by : (c : Component) (s : Stream) (done : WorkDone) (port : ℕ) (h : BufferHeader) (clears finishes : Bool) → is_cleared c s done (carried port h) ≡ clears → is_finished c s done (carried port h) ≡ finishes
    → settled c.handle (mark_on c s done) (back_in c s done (carried port h)) h ≡ with_load (load_after c s done (carried port h)) h
settled_by c s done port h true finishes e f = rw e refl
settled_by c s done port h false true e f = rw (e, f) (ap (λ mark. record h { held = record h.held { mark = mark } }) (marks_same c h.held.mark (mark_on c s done)))
settled_by c s done port h false false e f = rw (e, f) refl

settled_is : (c : Component) (s : Stream) (done : WorkDone) (port : ℕ) (h : BufferHeader)
    → settled c.handle (mark_on c s done) (back_in c s done (carried port h)) h ≡ with_load (load_after c s done (carried port h)) h
settled_is c s done port h = settled_by c s done port h (is_cleared c s done (carried port h)) (is_finished c s done (carried port h)) refl refl

put_landed : (to : Landing) (key : PortKey) (load : Load) (h : BufferHeader) (k : Stocked) → put_by to key (with_load load h) k ≡ landed_by to key h.held.number load k
put_landed Again key load h k = refl
put_landed Onward key load h k = refl
put_landed Noted key load h k = refl

put_is : (c : Component) (s : Stream) (done : WorkDone) (port : ℕ) (way : Way) (h : BufferHeader) (k : Stocked) → IsWay c port way
    → put_at (known_in c s done) port way (Some h) k ≡ landed_at c s done (carried port h) k
put_is c s done port way h k w =
    ap (λ b. put_by (landing_by b) (port_of c.handle port) (settled c.handle (mark_on c s done) b h) k) (back_is c s done port way h w)
    ∙ ap (λ x. put_by (landing c s done (carried port h)) (port_of c.handle port) x k) (settled_is c s done port h)
    ∙ put_landed (landing c s done (carried port h)) (port_of c.handle port) (load_after c s done (carried port h)) h k

-- ---- what is told of it

note_landed : (to : Landing) (c : Component) (x : CarriedHeader) (h : BufferHeader) → h.held.number ≡ x.header.number → noted_by to (is_an_input c x) h ≡ landing_note to c x
note_landed Again c x h e = refl
note_landed Onward c x h e = refl
note_landed Noted c x h e = rw e refl

notes_are : (c : Component) (s : Stream) (done : WorkDone) (port : ℕ) (way : Way) (h : BufferHeader) → IsWay c port way
    → notes_at (known_in c s done) way (Some h) ≡ notes_of_header c s done (carried port h)
notes_are c s done port way h w =
    ap (λ b. notes_by c.handle (mark_on c s done) b h) (back_is c s done port way h w)
    ∙ ap (λ x. told_by c.handle (back_in c s done (carried port h)) h.held.mark ++ noted_by (landing c s done (carried port h)) (is_an_input c (carried port h)) x) (settled_is c s done port h)
    ∙ ap (λ ns. told_by c.handle (back_in c s done (carried port h)) h.held.mark ++ ns)
    (note_landed (landing c s done (carried port h)) c (carried port h) (with_load (load_after c s done (carried port h)) h) refl)

noticed_landed : (to : Landing) (h : BufferHeader) → noticed_by to h ≡ noticed_if to h
noticed_landed Again h = refl
noticed_landed Onward h = refl
noticed_landed Noted h = refl

notices_are : (c : Component) (s : Stream) (done : WorkDone) (port : ℕ) (way : Way) (h : BufferHeader) → IsWay c port way
    → noticed_at (known_in c s done) way (Some h) ≡ notices_at c s done port (Some h)
notices_are c s done port way h w =
    ap (λ b. noticed_by (landing_by b) (settled c.handle (mark_on c s done) b h)) (back_is c s done port way h w)
    ∙ ap (noticed_by (landing c s done (carried port h))) (settled_is c s done port h)
    ∙ noticed_landed (landing c s done (carried port h)) (with_load (load_after c s done (carried port h)) h)

-- ---- all of them

-- each header's port has its way
abbrev pub Covers : List Way → List (Option BufferHeader) → Type 0
Covers [] places = AreFree places
Covers (way ∷ ways) [] = Unit {0}
Covers (way ∷ ways) (place ∷ places) = Covers ways places

beyond : (count port : ℕ) (places : List (Option BufferHeader)) → AreWithin count port places → count ≤ port → AreFree places
beyond count port [] h l = tt
beyond count port (None ∷ places) h l = (refl, beyond count (port + 1) places h.1 (omega (arith, l)))
beyond count port (Some x ∷ places) h l = absurd (let e = h.0 in omega (arith, e, l))

pub covered : (count port : ℕ) (ways : List Way) (places : List (Option BufferHeader)) → AreWithin count port places → count ≤ port + length ways → Covers ways places
covered count port [] places h l = beyond count port places h (omega (arith, l))
covered count port (way ∷ ways) [] h l = tt
covered count port (way ∷ ways) (place ∷ places) h l = covered count (port + 1) ways places h.1 (omega (arith, l))

pub none_carried : (port : ℕ) (places : List (Option BufferHeader)) → AreFree places → carried_from port places ≡ []
none_carried port [] h = refl
none_carried port (None ∷ places) h = none_carried (port + 1) places h.1
none_carried port (Some x ∷ places) h = absurd (let e = h.0 in cc)

pub all_put_is : (c : Component) (s : Stream) (done : WorkDone) (port : ℕ) (ways : List Way) (places : List (Option BufferHeader)) (k : Stocked) → AreWays c port ways → Covers ways places
    → all_put (known_in c s done) port ways places k ≡ all_landed c s done (carried_from port places) k
all_put_is c s done port [] places k ws free = ap (λ xs. all_landed c s done xs k) (sym (none_carried port places free))
all_put_is c s done port (way ∷ ways) [] k ws covers = refl
all_put_is c s done port (way ∷ ways) (None ∷ places) k ws covers = all_put_is c s done (port + 1) ways places k ws.1 covers
all_put_is c s done port (way ∷ ways) (Some h ∷ places) k ws covers =
    ap (all_put (known_in c s done) (port + 1) ways places) (put_is c s done port way h k ws.0)
    ∙ all_put_is c s done (port + 1) ways places (landed_at c s done (carried port h) k) ws.1 covers

pub all_notes_are : (c : Component) (s : Stream) (done : WorkDone) (port : ℕ) (ways : List Way) (places : List (Option BufferHeader)) → AreWays c port ways → Covers ways places
    → all_notes (known_in c s done) ways places ≡ notes_of_headers c s done (carried_from port places)
all_notes_are c s done port [] places ws free = ap (notes_of_headers c s done) (sym (none_carried port places free))
all_notes_are c s done port (way ∷ ways) [] ws covers = refl
all_notes_are c s done port (way ∷ ways) (None ∷ places) ws covers = all_notes_are c s done (port + 1) ways places ws.1 covers
all_notes_are c s done port (way ∷ ways) (Some h ∷ places) ws covers =
    ap (λ ns. ns ++ all_notes (known_in c s done) ways places) (notes_are c s done port way h ws.0)
    ∙ ap (λ ns. notes_of_header c s done (carried port h) ++ ns) (all_notes_are c s done (port + 1) ways places ws.1 covers)

none_noticed : (c : Component) (s : Stream) (done : WorkDone) (port : ℕ) (places : List (Option BufferHeader)) → AreFree places → all_notices c s done port places ≡ []
none_noticed c s done port [] h = refl
none_noticed c s done port (None ∷ places) h = none_noticed c s done (port + 1) places h.1
none_noticed c s done port (Some x ∷ places) h = absurd (let e = h.0 in cc)

pub all_notices_are : (c : Component) (s : Stream) (done : WorkDone) (port : ℕ) (ways : List Way) (places : List (Option BufferHeader)) → AreWays c port ways → Covers ways places
    → all_noticed (known_in c s done) ways places ≡ all_notices c s done port places
all_notices_are c s done port [] places ws free = sym (none_noticed c s done port places free)
all_notices_are c s done port (way ∷ ways) [] ws covers = refl
all_notices_are c s done port (way ∷ ways) (None ∷ places) ws covers = all_notices_are c s done (port + 1) ways places ws.1 covers
all_notices_are c s done port (way ∷ ways) (Some h ∷ places) ws covers =
    ap (λ ns. ns ++ all_noticed (known_in c s done) ways places) (notices_are c s done port way h ws.0)
    ∙ ap (λ ns. notices_at c s done port (Some h) ++ ns) (all_notices_are c s done (port + 1) ways places ws.1 covers)

-- ---- the mark that is carried on

carries_in : (c : Component) (s : Stream) (done : WorkDone) (port : ℕ) (way : Way) (h : BufferHeader) (inside : Bool) → IsWay c port way → nat_lt port (length (terms_of c).inputs) ≡ inside
    → carries_by way (is_some done.fault) c.handle h ≡ carries_on c s done (carried port h)
carries_in c s done port way h true w e =
    rw (← w.input, ← w.frame, e) (ap (λ b. (b && nat_eq (length h.held.content / frame_bytes_of (format_at (terms_of c) port) - 0) 0) && holds_at h.held.mark (λ mark. not (is_own c mark))) (none_is done.fault))
carries_in c s done port way h false w e = rw (← w.input, e) refl

pub mark_is : (c : Component) (s : Stream) (done : WorkDone) (port : ℕ) (ways : List Way) (places : List (Option BufferHeader)) → AreWays c port ways → Covers ways places
    → mark_from ways (is_some done.fault) c.handle places ≡ mark_in c s done (carried_from port places)
mark_is c s done port [] places ws free = ap (mark_in c s done) (sym (none_carried port places free))
mark_is c s done port (way ∷ ways) [] ws covers = refl
mark_is c s done port (way ∷ ways) (None ∷ places) ws covers = mark_is c s done (port + 1) ways places ws.1 covers
mark_is c s done port (way ∷ ways) (Some h ∷ places) ws covers =
    ap (λ b. if b then h.held.mark else mark_from ways (is_some done.fault) c.handle places) (carries_in c s done port way h (nat_lt port (length (terms_of c).inputs)) ws.0 refl)
    ∙ ap (λ rest. if carries_on c s done (carried port h) then h.held.mark else rest) (mark_is c s done (port + 1) ways places ws.1 covers)

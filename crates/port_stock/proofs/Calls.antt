-- What each call makes of a stock: what is true of it stays true, and it is read as the value that the call says.
use Rattle.std.proofs.Common.{◌≡◌, ℕ, Bool, true, false, List, [], map, slice_get, Option, Some, None, option_map, IfSome, MatchOption, refl, sym, ◌∙◌, ap, arith, subst}
use Rattle.std.proofs.lemmas.Bool.Decides.{nat_tests}
use Rattle.il_machine.specs.declared.port.PortKey.{PortKey}
use Rattle.il_machine.specs.declared.port.Mark.{Mark}
use Rattle.il_machine.specs.declared.header.Owner.{Owner}
use Rattle.il_machine.specs.declared.header.Queue.TheVariants.{Out}
use Rattle.il_machine.specs.declared.header.Spot.{Spot}
use Rattle.il_machine.specs.declared.header.HeaderState.{HeaderState}
use Rattle.il_machine.specs.World.{HeaderRecord, Load}
use Rattle.il_machine.specs.Lists.{holds_at}
use Rattle.il_machine.specs.Headers.{Seen, changed, count_headers, find_header, given_to, in_todo, in_done, in_unmarked, is_for, is_state, loaded, numbers, put, state_of, without}
use Rattle.il_machine.specs.Buffers.{load_in}
use Rattle.il_machine.specs.Due.{first_marked}
use Rattle.il_machine.specs.Stock.{Stocked, header_given, todo_pulled, pushed, done_pulled, header_unmade}
use Rattle.header_core.specs.BufferHeader.{BufferHeader}
use Rattle.stock_laws.specs.Changes.{cleared_where, done_cleared, marked_first, todo_cleared}
use Rattle.stock_laws.proofs.Flat.{find-changed}
use Rattle.port_stock.specs.Kept.{Flat, kept_load, is_waiting, of_flat}
use Rattle.port_stock.specs.Conditions.{AreMadeForOwners, IsFrom, IsHeaderOf, IsMadeFor, IsOut, IsOutside, is_port, number_of}
use Rattle.port_stock.specs.Entries.{AreLawful, IsTaken, record_out}
use Rattle.port_stock.proofs.Places.{there}
use Rattle.port_stock.proofs.Changing.{todo_waits, done_waits}
use Rattle.port_stock.proofs.Stocking.{kept, reads, of_flat-is, push_read, give_read, unmake_read, pull_read, pull_none, send_read, send_none, clear_todo_read, clear_done_read, mark_read, todo_read, done_read}
use Rattle.port_stock.proofs.Lawful.{put_lawful, without_lawful, out_lawful, give_lawful, mark_lawful, clear_lawful, lawful_owner}

-- The flat list, with the key, the ports and the next number, is lawful, and is read as the value.
pub record Becomes (own : ℕ) (keys : List PortKey) (hs : List HeaderRecord) (last : ℕ) (s : Stocked) : Type 0 where
  pub lawful : AreLawful keys last hs
  pub is : of_flat (kept own keys hs last) ≡ s

-- ---- a header of the stock

module _ {A B : Type 0} where
  map_match : (f : A → B) (o : Option A) (P : B → Type 0) → MatchOption (option_map f o) ⊥ P → MatchOption o ⊥ (λ a. P (f a))
  map_match f None P h = h
  map_match f (Some x) P h = h

  match_map : (f : A → B) (o : Option A) (P : B → Type 0) → MatchOption o ⊥ (λ a. P (f a)) → MatchOption (option_map f o) ⊥ P
  match_map f None P h = h
  match_map f (Some x) P h = h

pub header_read : (k : Flat) (n : ℕ) → option_map state_of (find_header n k.headers) ≡ (of_flat k).headers.header n
header_read k n = ap (λ (v : Seen). v.header n) (reads k).looks

pub count_read : (k : Flat) (test : HeaderState → Bool) → count_headers test k.headers ≡ (of_flat k).headers.count test
count_read k test = ap (λ (v : Seen). v.count test) (reads k).looks

state_flat : (k : Flat) (n : ℕ) (P : HeaderState → Type 0) → MatchOption ((of_flat k).headers.header n) ⊥ P → MatchOption (find_header n k.headers) ⊥ (λ r. P r.state)
state_flat k n P h =
    let Q : Option HeaderState → Type 0 = λ o. MatchOption o ⊥ P in
    map_match state_of (find_header n k.headers) P (subst Q (sym (header_read k n)) h)

pub flat_state : (k : Flat) (n : ℕ) (P : HeaderState → Type 0) → MatchOption (find_header n k.headers) ⊥ (λ r. P r.state) → MatchOption ((of_flat k).headers.header n) ⊥ P
flat_state k n P h =
    let Q : Option HeaderState → Type 0 = λ o. MatchOption o ⊥ P in
    subst Q (header_read k n) (match_map state_of (find_header n k.headers) P h)

abbrev pub IsOutFlat : BufferHeader → HeaderState → Type 0
IsOutFlat header h = (h.queue ≡ Out) × IsHeaderOf h header

pub outside_flat : (k : Flat) (header : BufferHeader) → IsOutside header (of_flat k) → MatchOption (find_header header.held.number k.headers) ⊥ (λ r. (r.state.queue ≡ Out) × IsHeaderOf r.state header)
outside_flat k header h = state_flat k header.held.number (IsOutFlat header) h.1

pub out_flat : (k : Flat) (n : ℕ) → IsOut n (of_flat k) → MatchOption (find_header n k.headers) ⊥ (λ r. r.state.queue ≡ Out)
out_flat k n h = state_flat k n (λ s. s.queue ≡ Out) h

weaken : {A : Type 0} (P Q : A → Type 0) (o : Option A) → ((x : A) → P x → Q x) → MatchOption o ⊥ P → MatchOption o ⊥ Q
weaken P Q None k h = h
weaken P Q (Some x) k h = k x h

pub outside_out : (k : Flat) (header : BufferHeader) → IsOutside header (of_flat k) → MatchOption (find_header header.held.number k.headers) ⊥ (λ r. r.state.queue ≡ Out)
outside_out k header h = weaken (λ r. IsOutFlat header r.state) (λ r. r.state.queue ≡ Out) (find_header header.held.number k.headers) (λ r p. p.0) (outside_flat k header h)

-- ---- the owners of headers

pub owners_read : (k : Flat) → AreLawful k.ports k.next k.headers → AreMadeForOwners (of_flat k)
owners_read k L n h e = lawful_owner k.ports k.next k.headers n h L (header_read k n ∙ e)

-- ---- calls on one header

pub push_becomes : (k : Flat) (hs : List HeaderRecord) (key : PortKey) (spot : Spot) (header : BufferHeader) → AreLawful k.ports k.next k.headers → IsOutside header (of_flat k) → IsMadeFor key header (of_flat k)
    → hs ≡ put key spot header.held.number (loaded (load_in header.held)) k.headers → Becomes k.key k.ports hs k.next (pushed key spot header.held.number (load_in header.held) (of_flat k))
push_becomes k hs key spot header L o f h =
    let n = header.held.number in
    let load = load_in header.held in
    let T = there (λ r. (r.state.queue ≡ Out) × IsHeaderOf r.state header) (find_header n k.headers) (outside_flat k header o) in
    let shown : (of_flat k).headers.header n ≡ Some T.it.state = sym (header_read k n) ∙ ap (option_map state_of) T.is in
    let for : is_for key T.it.state ≡ true = sym (ap (λ (s : Option HeaderState). holds_at s (is_for key)) shown) ∙ f in
    let P : List HeaderRecord → Type 0 = AreLawful k.ports k.next in
    record {
      lawful = subst P (sym h) (put_lawful k.ports k.next k.headers key spot n load T.it T.is for L);
      is = of_flat-is k.key k.ports hs k.next _ (push_read k hs key spot n load T.it L.once T.is T.holds.0 h);
    }

pub unmake_becomes : (k : Flat) (hs : List HeaderRecord) (header : BufferHeader) → AreLawful k.ports k.next k.headers → IsOutside header (of_flat k)
    → hs ≡ without header.held.number k.headers → Becomes k.key k.ports hs k.next (header_unmade header.held.number (of_flat k))
unmake_becomes k hs header L o h =
    let n = header.held.number in
    let T = there (λ r. r.state.queue ≡ Out) (find_header n k.headers) (outside_out k header o) in
    let P : List HeaderRecord → Type 0 = AreLawful k.ports k.next in
    record {
      lawful = subst P (sym h) (without_lawful k.ports k.next k.headers n T.it T.is L);
      is = of_flat-is k.key k.ports hs k.next _ (unmake_read k hs n T.it L.once T.is T.holds h);
    }

pub give_becomes : (k : Flat) (hs : List HeaderRecord) (n : ℕ) (owner : Owner) → AreLawful k.ports k.next k.headers → IsOut n (of_flat k) → is_port owner ≡ false
    → hs ≡ changed n (given_to owner) k.headers → Becomes k.key k.ports hs k.next (header_given n owner (of_flat k))
give_becomes k hs n owner L o free h =
    let T = there (λ r. r.state.queue ≡ Out) (find_header n k.headers) (out_flat k n o) in
    let P : List HeaderRecord → Type 0 = AreLawful k.ports k.next in
    record {
      lawful = subst P (sym h) (give_lawful k.ports k.next k.headers n owner free L);
      is = of_flat-is k.key k.ports hs k.next _ (give_read k hs n owner T.it L.once T.is T.holds h);
    }

-- ---- the front of a list leaves it

-- What a call that takes the front of a list says of the header that it answers.
pub record TakesFront (test : HeaderState → Bool) (list : List ℕ) (old new : Stocked) (o : Option BufferHeader) : Type 0 where
  pub front : option_map number_of o ≡ slice_get list 0
  pub was : IfSome o (λ header. IsFrom test header old)
  pub outside : IfSome o (λ header. IsOutside header new)

abbrev WasFlat : (HeaderState → Bool) → BufferHeader → HeaderRecord → Type 0
WasFlat test header r = (test r.state ≡ true) × (r.load ≡ load_in header.held) × IsHeaderOf r.state header

waits_load : (r : HeaderRecord) (l : Load) → is_waiting r.state.queue ≡ true → r.load ≡ l → kept_load (Some r) ≡ Some l
waits_load r l w e = rw w (ap (λ (z : Load). Some z) e)

taken_from : (test : HeaderState → Bool) (k : Flat) (header : BufferHeader) → ((r : HeaderRecord) → test r.state ≡ true → is_waiting r.state.queue ≡ true)
    → MatchOption (find_header header.held.number k.headers) ⊥ (WasFlat test header) → IsFrom test header (of_flat k)
taken_from test k header w h =
    let n = header.held.number in
    let T = there (WasFlat test header) (find_header n k.headers) h in
    let shown : (of_flat k).headers.header n ≡ Some T.it.state = sym (header_read k n) ∙ ap (option_map state_of) T.is in (
      ap (λ (o : Option HeaderState). holds_at o test) shown ∙ T.holds.0,
      sym ((reads k).loads n) ∙ (ap kept_load T.is ∙ waits_load T.it (load_in header.held) (w T.it T.holds.0) T.holds.1),
    )

taken_outside : (test : HeaderState → Bool) (k : Flat) (hs : List HeaderRecord) (header : BufferHeader) → header.key ≡ k.key → MatchOption (find_header header.held.number k.headers) ⊥ (WasFlat test header)
    → hs ≡ changed header.held.number record_out k.headers → IsOutside header (of_flat (kept k.key k.ports hs k.next))
taken_outside test k hs header own h e =
    let n = header.held.number in
    let T = there (WasFlat test header) (find_header n k.headers) h in
    let now : find_header n hs ≡ Some (record_out T.it) = ap (find_header n) e ∙ (find-changed n n record_out k.headers T.it T.is refl ∙ grind (arith, nat_tests)) in
    let fits : IsHeaderOf (record_out T.it).state header = record { size = T.holds.2.size; memory = T.holds.2.memory } in
    let Q : Option HeaderRecord → Type 0 = λ o. MatchOption o ⊥ (λ r. IsOutFlat header r.state) in
    (own ∙ (reads (kept k.key k.ports hs k.next)).key, flat_state (kept k.key k.ports hs k.next) n (IsOutFlat header) (subst Q (sym now) (refl, fits)))

pub pull_becomes : (k : Flat) (hs : List HeaderRecord) (key : PortKey) (o : Option BufferHeader) → AreLawful k.ports k.next k.headers
    → MatchOption o ((numbers (is_state (in_todo key)) k.headers ≡ []) × (hs ≡ k.headers)) (λ header. IsTaken (is_state (in_todo key)) header k.headers hs)
    → Becomes k.key k.ports hs k.next (todo_pulled key (of_flat k))
pull_becomes k hs key None L h =
    let same : kept k.key k.ports hs k.next ≡ k = λ i. record { key = k.key; ports = k.ports; headers = h.1 i; next = k.next } in
    let P : List HeaderRecord → Type 0 = AreLawful k.ports k.next in
    record { lawful = subst P (sym h.1) L; is = ap of_flat same ∙ pull_none k key h.0 }
pull_becomes k hs key (Some header) L h =
    let P : List HeaderRecord → Type 0 = AreLawful k.ports k.next in
    record {
      lawful = subst P (sym h.after) (out_lawful k.ports k.next k.headers header.held.number L);
      is = of_flat-is k.key k.ports hs k.next _ (pull_read k hs key header.held.number L.once h.front h.after);
    }

pub pull_takes : (k : Flat) (hs : List HeaderRecord) (key : PortKey) (o : Option BufferHeader) → IfSome o (λ header. header.key ≡ k.key)
    → MatchOption o ((numbers (is_state (in_todo key)) k.headers ≡ []) × (hs ≡ k.headers)) (λ header. IsTaken (is_state (in_todo key)) header k.headers hs)
    → TakesFront (in_todo key) ((of_flat k).headers.todo key) (of_flat k) (of_flat (kept k.key k.ports hs k.next)) o
pull_takes k hs key None own h = record { front = sym (ap (λ (ns : List ℕ). slice_get ns 0) (sym (todo_read k key) ∙ h.0)); was = tt; outside = tt }
pull_takes k hs key (Some header) own h = record {
  front = sym h.front ∙ ap (λ (ns : List ℕ). slice_get ns 0) (todo_read k key);
  was = taken_from (in_todo key) k header (todo_waits key) h.was;
  outside = taken_outside (in_todo key) k hs header own h.was h.after;
}

pub send_becomes : (k : Flat) (hs : List HeaderRecord) (key : PortKey) (o : Option BufferHeader) → AreLawful k.ports k.next k.headers
    → MatchOption o ((numbers (is_state (in_done key)) k.headers ≡ []) × (hs ≡ k.headers)) (λ header. IsTaken (is_state (in_done key)) header k.headers hs)
    → Becomes k.key k.ports hs k.next (done_pulled key (of_flat k))
send_becomes k hs key None L h =
    let same : kept k.key k.ports hs k.next ≡ k = λ i. record { key = k.key; ports = k.ports; headers = h.1 i; next = k.next } in
    let P : List HeaderRecord → Type 0 = AreLawful k.ports k.next in
    record { lawful = subst P (sym h.1) L; is = ap of_flat same ∙ send_none k key h.0 }
send_becomes k hs key (Some header) L h =
    let P : List HeaderRecord → Type 0 = AreLawful k.ports k.next in
    record {
      lawful = subst P (sym h.after) (out_lawful k.ports k.next k.headers header.held.number L);
      is = of_flat-is k.key k.ports hs k.next _ (send_read k hs key header.held.number L.once h.front h.after);
    }

pub send_takes : (k : Flat) (hs : List HeaderRecord) (key : PortKey) (o : Option BufferHeader) → IfSome o (λ header. header.key ≡ k.key)
    → MatchOption o ((numbers (is_state (in_done key)) k.headers ≡ []) × (hs ≡ k.headers)) (λ header. IsTaken (is_state (in_done key)) header k.headers hs)
    → TakesFront (in_done key) ((of_flat k).headers.done key) (of_flat k) (of_flat (kept k.key k.ports hs k.next)) o
send_takes k hs key None own h = record { front = sym (ap (λ (ns : List ℕ). slice_get ns 0) (sym (done_read k key) ∙ h.0)); was = tt; outside = tt }
send_takes k hs key (Some header) own h = record {
  front = sym h.front ∙ ap (λ (ns : List ℕ). slice_get ns 0) (done_read k key);
  was = taken_from (in_done key) k header (done_waits key) h.was;
  outside = taken_outside (in_done key) k hs header own h.was h.after;
}

-- ---- headers change where they stand

pub clear_todo_becomes : (k : Flat) (hs : List HeaderRecord) (key : PortKey) → AreLawful k.ports k.next k.headers → hs ≡ map (λ r. cleared_where (in_todo key r.state) r) k.headers
    → Becomes k.key k.ports hs k.next (todo_cleared key (of_flat k))
clear_todo_becomes k hs key L h =
    let P : List HeaderRecord → Type 0 = AreLawful k.ports k.next in
    record {
      lawful = subst P (sym h) (clear_lawful k.ports k.next k.headers (is_state (in_todo key)) L);
      is = of_flat-is k.key k.ports hs k.next _ (clear_todo_read k hs key L.once h);
    }

pub clear_done_becomes : (k : Flat) (hs : List HeaderRecord) (key : PortKey) → AreLawful k.ports k.next k.headers → hs ≡ map (λ r. cleared_where (in_done key r.state) r) k.headers
    → Becomes k.key k.ports hs k.next (done_cleared key (of_flat k))
clear_done_becomes k hs key L h =
    let P : List HeaderRecord → Type 0 = AreLawful k.ports k.next in
    record {
      lawful = subst P (sym h) (clear_lawful k.ports k.next k.headers (is_state (in_done key)) L);
      is = of_flat-is k.key k.ports hs k.next _ (clear_done_read k hs key L.once h);
    }

pub mark_becomes : (k : Flat) (hs : List HeaderRecord) (key : PortKey) (mark : Mark) → AreLawful k.ports k.next k.headers → hs ≡ first_marked (numbers (in_unmarked key) k.headers) (Some mark) k.headers
    → Becomes k.key k.ports hs k.next (marked_first key mark (of_flat k))
mark_becomes k hs key mark L h =
    let P : List HeaderRecord → Type 0 = AreLawful k.ports k.next in
    record {
      lawful = subst P (sym h) (mark_lawful k.ports k.next k.headers (numbers (in_unmarked key) k.headers) mark L);
      is = of_flat-is k.key k.ports hs k.next _ (mark_read k hs key mark L.once h);
    }

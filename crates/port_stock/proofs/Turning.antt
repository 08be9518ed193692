-- What each call makes of a stock: it is lawful again, and is read as the changed value.
use Rattle.std.proofs.Common.{◌≡◌, ℕ, ◌+◌, ◌<◌, ◌≤◌, Bool, true, false, not, List, [], ◌∷◌, length, map, slice_get, Option, Some, None, is_none, is_some, option_map, MatchOption, refl, sym, ◌∙◌, ap, arith, subst}
use Rattle.std.proofs.lemmas.List.{length-map}
use Rattle.il_machine.specs.declared.port.PortKey.{PortKey}
use Rattle.il_machine.specs.declared.port.Mark.{Mark}
use Rattle.il_machine.specs.declared.header.Owner.{Owner}
use Rattle.il_machine.specs.declared.header.Queue.TheVariants.{Out}
use Rattle.il_machine.specs.declared.header.Spot.{Spot}
use Rattle.il_machine.specs.declared.header.HeaderState.{HeaderState}
use Rattle.il_machine.specs.World.{HeaderRecord}
use Rattle.il_machine.specs.Lists.{holds_at, is_empty}
use Rattle.il_machine.specs.Headers.{Once, changed, count_headers, find_header, given_to, in_todo, in_done, in_unmarked, is_for, is_state, loaded, numbers, put, state_at, state_given, state_of, weight, without}
use Rattle.il_machine.specs.Buffers.{is_block, load_in}
use Rattle.il_machine.specs.Due.{first_marked, marked}
use Rattle.il_machine.specs.Stock.{StandsFor, Stocked, header_given, todo_pulled, pushed, done_pulled, header_unmade}
use Rattle.header_core.specs.BufferHeader.{BufferHeader}
use Rattle.stock_laws.specs.Changes.{cleared_where, done_cleared, front_marked, marked_first, todo_cleared}
use Rattle.stock_laws.proofs.Flat.{count-changed, count-without, once-changed, once-without}
use Rattle.stock_laws.proofs.Leaving.{and_both, fronts, front_none, front_some}
use Rattle.port_stock.specs.declared.entry.Entry.{Entry}
use Rattle.port_stock.specs.declared.port.Port.{Port}
use Rattle.port_stock.specs.Kept.{Flat, StockKept, is_waiting, of_flat, stocked, unmarked_of}
use Rattle.port_stock.specs.Conditions.{AreMadeForOwners, IsOfOneList, IsHeaderOf, IsMadeFor, IsOut, IsOutside, IsPort, has_key, is_port}
use Rattle.port_stock.specs.Entries.{AreLawful, AreOf, Each, IsKept, IsTaken, IsTakenAt, headers_of, put_record, record_out}
use Rattle.port_stock.specs.Rings.{Differ, HasCounted, IsKnownBy, IsLawful, Recounts, Replaces, Tells, is_away_from, is_guest, port_at, port_keys, with_number, without_done, without_todo}
use Rattle.port_stock.proofs.Places.{there}
use Rattle.port_stock.proofs.Changing.{todo_waits, done_waits}
use Rattle.port_stock.proofs.Looking.{some_front}
use Rattle.port_stock.proofs.Stocking.{kept, of_flat-stands}
use Rattle.port_stock.proofs.Calls.{Becomes, TakesFront, outside_flat, out_flat, header_read, push_becomes, unmake_becomes, give_becomes, pull_becomes, pull_takes, send_becomes, send_takes, clear_todo_becomes, clear_done_becomes, mark_becomes, owners_read}
use Rattle.port_stock.proofs.Reading.{view, told, shelf_keys, shelf_todo, shelf_done, todo_shown, done_shown, unmarked_shown, unmarked_same, unmarked_flat, keys_shown, key_shown, count_shown}
use Rattle.port_stock.proofs.Telling.{put_tells, give_tells, without_tells, pull_tells, pull_nothing, send_tells, send_nothing, clear_tells, count_where, mark_tells}
use Rattle.port_stock.proofs.Lawful.{once_where}
use Rattle.port_stock.proofs.Knowing.{Known, counted_at, done_room, enough_known, known_before, known_flat, own_port, peer_port, todo_room}

-- The parts are lawful, and are read as the value.
pub record Turns (key : ℕ) (ports : List Port) (entries : List Entry) (blocks next places : ℕ) (s : Stocked) : Type 0 where
  pub lawful : IsLawful key ports entries blocks next places
  pub is : stocked (view key ports (headers_of entries) next) ≡ s

pub length_keys : (ps : List Port) → length (port_keys ps) ≡ length ps
length_keys ps = simp length-map

same_length : (ps qs : List Port) → port_keys qs ≡ port_keys ps → length qs ≡ length ps
same_length ps qs e = sym (length_keys qs) ∙ (ap length e ∙ length_keys ps)

some_same : {A : Type 0} (x y : A) → Some x ≡ Some y → x ≡ y
some_same x y e = cc

module _ (key : ℕ) (ps : List Port) (es : List Entry) (blocks next places : ℕ) (L : IsLawful key ps es blocks next places) where
  abbrev pub old : StockKept
  old = view key ps (headers_of es) next

  abbrev pub flat_old : Flat
  flat_old = kept key (port_keys ps) L.flat next

  pub told_old : stocked old ≡ of_flat flat_old
  told_old = told key ps (headers_of es) L.flat next L.tells L.headers.once

  -- the same parts, with other lists and entries, are lawful and read as the value
  pub turned : (qs : List Port) (vs : List Entry) (flat : List HeaderRecord) (more last room : ℕ) (s t : Stocked) → port_keys qs ≡ port_keys ps → Differ qs → Tells qs (headers_of vs) flat → Once (headers_of vs) → Becomes key (port_keys ps) flat last s
      → more ≡ count_headers is_block flat → Each IsKept vs → AreOf key vs → room ≡ places → s ≡ t → Turns key qs vs more last room t
  turned qs vs flat more last room s t keys D T once B b E K r e =
      let H : AreLawful (port_keys qs) last flat = subst (λ (ks : List PortKey). AreLawful ks last flat) (sym keys) B.lawful in
      record {
        lawful = record {
          flat = flat;
          tells = T;
          headers = H;
          differ = D;
          once = once;
          blocked = b;
          kept = E;
          keys = K;
          room = let l = same_length ps qs keys in let o = L.room in omega arith;
        };
        is = told key qs (headers_of vs) flat last T H.once ∙ (ap (λ (ks : List PortKey). of_flat (kept key ks flat last)) keys ∙ (B.is ∙ e));
      }

  -- ---- what is asked of a header

  pub flat_out : (header : BufferHeader) → IsOutside header (stocked old) → MatchOption (find_header header.held.number L.flat) ⊥ (λ r. (r.state.queue ≡ Out) × IsHeaderOf r.state header)
  flat_out header h = outside_flat flat_old header (subst (λ (s : Stocked). IsOutside header s) told_old h)

  pub table_out : (header : BufferHeader) → IsOutside header (stocked old) → MatchOption (find_header header.held.number (headers_of es)) ⊥ (λ r. (r.state.queue ≡ Out) × IsHeaderOf r.state header)
  table_out header h =
      let P : Option HeaderRecord → Type 0 = λ o. MatchOption o ⊥ (λ r. (r.state.queue ≡ Out) × IsHeaderOf r.state header) in
      subst P (sym (L.tells.found header.held.number)) (flat_out header h)

  pub table_only_out : (header : BufferHeader) → IsOutside header (stocked old) → MatchOption (find_header header.held.number (headers_of es)) ⊥ (λ r. r.state.queue ≡ Out)
  table_only_out header h =
      let T = there (λ (r : HeaderRecord). (r.state.queue ≡ Out) × IsHeaderOf r.state header) (find_header header.held.number (headers_of es)) (table_out header h) in
      rw T.is T.holds.0

  pub number_out : (n : ℕ) → IsOut n (stocked old) → MatchOption (find_header n (headers_of es)) ⊥ (λ r. r.state.queue ≡ Out)
  number_out n h =
      let P : Option HeaderRecord → Type 0 = λ o. MatchOption o ⊥ (λ r. r.state.queue ≡ Out) in
      subst P (sym (L.tells.found n)) (out_flat flat_old n (subst (λ (s : Stocked). IsOut n s) told_old h))

  pub port_there : (port : PortKey) → IsPort port (stocked old) → has_key port (port_keys ps) ≡ true
  port_there port h = ap (has_key port) (sym (shelf_keys ps) ∙ keys_shown old) ∙ h

  pub own_key : (header : BufferHeader) → IsOutside header (stocked old) → header.key ≡ key
  own_key header h = h.0 ∙ sym (key_shown old)

  -- how the header was that was found
  pub before_known : (n : ℕ) (before : HeaderState) → option_map state_of (find_header n (headers_of es)) ≡ Some before → Known n L.flat before
  before_known n before e = known_flat ps (headers_of es) L.flat next L.tells L.headers n before e

  pub before_out : (n : ℕ) (before : HeaderState) → option_map state_of (find_header n (headers_of es)) ≡ Some before → MatchOption (find_header n (headers_of es)) ⊥ (λ r. r.state.queue ≡ Out) → before.queue ≡ Out
  before_out n before e h =
      let T = there (λ (r : HeaderRecord). r.state.queue ≡ Out) (find_header n (headers_of es)) h in
      let s : T.it.state ≡ before = some_same T.it.state before (sym (ap (option_map state_of) T.is) ∙ e) in
      ap (λ (x : HeaderState). x.queue) (sym s) ∙ T.holds

  pub before_for : (header : BufferHeader) (port : PortKey) (before : HeaderState) → option_map state_of (find_header header.held.number (headers_of es)) ≡ Some before → IsMadeFor port header (stocked old) → is_for port before ≡ true
  before_for header port before e h =
      let K = before_known header.held.number before e in
      let shown : (of_flat flat_old).headers.header header.held.number ≡ Some before = sym (header_read flat_old header.held.number) ∙ (ap (option_map state_of) K.is ∙ ap (λ (s : HeaderState). Some s) K.state) in
      let m : IsMadeFor port header (of_flat flat_old) = subst (λ (s : Stocked). IsMadeFor port header s) told_old h in
      sym (ap (λ (o : Option HeaderState). holds_at o (is_for port)) shown) ∙ m

  pub count_port : (n : ℕ) (before : HeaderState) → option_map state_of (find_header n (headers_of es)) ≡ Some before → has_key before.port (port_keys ps) ≡ true
  count_port n before b = own_port ps (headers_of es) L.flat next L.tells L.headers n before (before_known n before b)

  pub count_peer : (n : ℕ) (before : HeaderState) → option_map state_of (find_header n (headers_of es)) ≡ Some before → MatchOption before.peer (Unit {0}) (λ key. has_key key (port_keys ps) ≡ true)
  count_peer n before b = peer_port ps (headers_of es) L.flat next L.tells L.headers n before (before_known n before b)

  pub count_all : (n : ℕ) (before : HeaderState) → option_map state_of (find_header n (headers_of es)) ≡ Some before → (k : PortKey) → HasCounted (Some before) (port_at k ps)
  count_all n before b = counted_at ps (headers_of es) L.flat next L.tells L.headers (Some before) (enough_known ps (headers_of es) L.flat next L.tells L.headers n before (before_known n before b))

  pub count_before : (n : ℕ) (before : HeaderState) → option_map state_of (find_header n (headers_of es)) ≡ Some before → IsKnownBy before.port before.peer (Some before)
  count_before n before b = known_before ps (headers_of es) L.flat next L.tells L.headers n before (before_known n before b)

  pub put_todo_room : (header : BufferHeader) (port : PortKey) (before : HeaderState) → IsOutside header (stocked old) → IsMadeFor port header (stocked old) → option_map state_of (find_header header.held.number (headers_of es)) ≡ Some before
      → length (port_at port ps).todo.items < (port_at port ps).todo.capacity
  put_todo_room header port before o m b =
      todo_room ps (headers_of es) L.flat next L.tells L.headers header.held.number before (before_known header.held.number before b) (before_out header.held.number before b (table_only_out header o)) port (before_for header port before b m)

  pub put_done_room : (header : BufferHeader) (port : PortKey) (before : HeaderState) → IsOutside header (stocked old) → IsMadeFor port header (stocked old) → option_map state_of (find_header header.held.number (headers_of es)) ≡ Some before
      → length (port_at port ps).done.items < (port_at port ps).done.capacity
  put_done_room header port before o m b =
      done_room ps (headers_of es) L.flat next L.tells L.headers header.held.number before (before_known header.held.number before b) (before_out header.held.number before b (table_only_out header o)) port (before_for header port before b m)

  -- ---- kept counts

  pub made_is : (port : PortKey) → (port_at port ps).made ≡ (stocked old).headers.count (is_for port)
  made_is port = (L.tells.port port).made ∙ (sym (L.tells.counted (is_for port)) ∙ count_shown old (is_for port))

  pub outstanding_is : (port : PortKey) → (port_at port ps).outstanding ≡ (stocked old).headers.count (is_away_from port)
  outstanding_is port = (L.tells.port port).outstanding ∙ (sym (L.tells.counted (is_away_from port)) ∙ count_shown old (is_away_from port))

  pub foreign_is : (port : PortKey) → (port_at port ps).foreign ≡ (stocked old).headers.count (is_guest port)
  foreign_is port = (L.tells.port port).foreign ∙ (sym (L.tells.counted (is_guest port)) ∙ count_shown old (is_guest port))

  pub blocks_is : blocks ≡ (stocked old).headers.count is_block
  blocks_is = L.blocked ∙ (sym (L.tells.counted is_block) ∙ count_shown old is_block)

  pub owners_are : AreMadeForOwners (stocked old)
  owners_are = subst AreMadeForOwners (sym told_old) (owners_read flat_old L.headers)

  pub one_list : IsOfOneList (stocked old)
  one_list = (L.flat, subst (λ (s : Stocked). StandsFor s L.flat) (sym told_old) (of_flat-stands flat_old L.headers.once))

  -- ---- calls on one header

  pub push_turns : (qs rs : List Port) (vs : List Entry) (room : ℕ) (port : PortKey) (spot : Spot) (header : BufferHeader) (before after : HeaderState) → IsOutside header (stocked old) → IsMadeFor port header (stocked old)
      → option_map state_of (find_header header.held.number (headers_of es)) ≡ Some before → after ≡ state_at port spot before → headers_of vs ≡ changed header.held.number (put_record port spot (load_in header.held)) (headers_of es)
      → Each IsKept vs → AreOf key vs → Replaces port (with_number spot header.held.number (port_at port ps)) ps qs → Recounts (Some before) (Some after) qs rs → room ≡ places
      → Turns key rs vs blocks next room (pushed port spot header.held.number (load_in header.held) (stocked old))
  push_turns qs rs vs room port spot header before after o m b a h E K R C r =
      let n = header.held.number in
      let load = load_in header.held in
      let F = before_known n before b in
      let flat = put port spot n (loaded load) L.flat in
      let out : F.it.state.queue ≡ Out = ap (λ (x : HeaderState). x.queue) F.state ∙ before_out n before b (table_only_out header o) in
      let C1 : Recounts (Some F.it.state) (Some (state_at port spot F.it.state)) qs rs = subst (λ (x : HeaderState). Recounts (Some x) (Some (state_at port spot x)) qs rs) (sym F.state) (subst (λ (x : HeaderState). Recounts (Some before) (Some x) qs rs) a C) in
      let T : Tells rs (changed n (put_record port spot load) (headers_of es)) flat = put_tells L.flat port n load F.it L.headers.once F.is out spot ps qs rs (headers_of es) L.tells R C1 in
      let B = push_becomes flat_old flat port spot header L.headers (subst (λ (s : Stocked). IsOutside header s) told_old o) (subst (λ (s : Stocked). IsMadeFor port header s) told_old m) refl in
      let P : List HeaderRecord → Type 0 = λ ts. Tells rs ts flat in
      let same : count_headers is_block flat ≡ count_headers is_block L.flat
      = sym (T.counted is_block) ∙ (let x = count-changed is_block n (put_record port spot load) (headers_of es) F.it (L.tells.found n ∙ F.is) in let y = L.tells.counted is_block in omega arith) in
      turned rs vs flat blocks next room _ _ (C.keys ∙ R.keys) C.differ (subst P (sym h) T) (subst Once (sym h) (once-changed n (put_record port spot load) (headers_of es) (λ _. refl) L.once)) B (L.blocked ∙ sym same) E K r
      (ap (pushed port spot n load) (sym told_old))

  pub give_turns : (qs : List Port) (vs : List Entry) (room : ℕ) (n : ℕ) (owner : Owner) (before after : HeaderState) → IsOut n (stocked old) → is_port owner ≡ false
      → option_map state_of (find_header n (headers_of es)) ≡ Some before → after ≡ state_given owner before → headers_of vs ≡ changed n (given_to owner) (headers_of es)
      → Each IsKept vs → AreOf key vs → Recounts (Some before) (Some after) ps qs → room ≡ places → Turns key qs vs blocks next room (header_given n owner (stocked old))
  give_turns qs vs room n owner before after o free b a h E K C r =
      let F = before_known n before b in
      let flat = changed n (given_to owner) L.flat in
      let out : F.it.state.queue ≡ Out = ap (λ (x : HeaderState). x.queue) F.state ∙ before_out n before b (number_out n o) in
      let C1 : Recounts (Some F.it.state) (Some (state_given owner F.it.state)) ps qs = subst (λ (x : HeaderState). Recounts (Some x) (Some (state_given owner x)) ps qs) (sym F.state) (subst (λ (x : HeaderState). Recounts (Some before) (Some x) ps qs) a C) in
      let T : Tells qs (changed n (given_to owner) (headers_of es)) flat = give_tells L.flat n F.it F.is out owner ps qs (headers_of es) L.tells C1 in
      let B = give_becomes flat_old flat n owner L.headers (subst (λ (s : Stocked). IsOut n s) told_old o) free refl in
      let P : List HeaderRecord → Type 0 = λ ts. Tells qs ts flat in
      let same : count_headers is_block flat ≡ count_headers is_block L.flat = let x = count-changed is_block n (given_to owner) L.flat F.it F.is in omega arith in
      turned qs vs flat blocks next room _ _ C.keys C.differ (subst P (sym h) T) (subst Once (sym h) (once-changed n (given_to owner) (headers_of es) (λ _. refl) L.once)) B (L.blocked ∙ sym same) E K r (ap (header_given n owner) (sym told_old))

  pub unmake_turns : (qs : List Port) (vs : List Entry) (fewer room : ℕ) (header : BufferHeader) (before : HeaderState) → IsOutside header (stocked old)
      → option_map state_of (find_header header.held.number (headers_of es)) ≡ Some before → headers_of vs ≡ without header.held.number (headers_of es)
      → Each IsKept vs → AreOf key vs → Recounts (Some before) None ps qs → fewer + weight (is_block before) ≡ blocks → room ≡ places → Turns key qs vs fewer next room (header_unmade header.held.number (stocked old))
  unmake_turns qs vs fewer room header before o b h E K C f r =
      let n = header.held.number in
      let F = before_known n before b in
      let flat = without n L.flat in
      let out : F.it.state.queue ≡ Out = ap (λ (x : HeaderState). x.queue) F.state ∙ before_out n before b (table_only_out header o) in
      let C1 : Recounts (Some F.it.state) None ps qs = subst (λ (x : HeaderState). Recounts (Some x) None ps qs) (sym F.state) C in
      let T : Tells qs (without n (headers_of es)) flat = without_tells L.flat n F.it F.is out ps qs (headers_of es) L.once L.headers.once L.tells C1 in
      let B = unmake_becomes flat_old flat header L.headers (subst (λ (s : Stocked). IsOutside header s) told_old o) refl in
      let P : List HeaderRecord → Type 0 = λ ts. Tells qs ts flat in
      let w : weight (is_block F.it.state) ≡ weight (is_block before) = ap (λ (x : HeaderState). weight (is_block x)) F.state in
      let same : fewer ≡ count_headers is_block flat = let x = count-without is_block n L.flat F.it F.is in let y = L.blocked in omega arith in
      turned qs vs flat fewer next room _ _ C.keys C.differ (subst P (sym h) T) (subst Once (sym h) (once-without n (headers_of es) L.once)) B same E K r (ap (header_unmade n) (sym told_old))

  -- a header that is handed in has the memory that is known of it
  pub before_header : (header : BufferHeader) (before : HeaderState) → IsOutside header (stocked old) → option_map state_of (find_header header.held.number (headers_of es)) ≡ Some before → IsHeaderOf before header
  before_header header before o b =
      let T = there (λ (r : HeaderRecord). (r.state.queue ≡ Out) × IsHeaderOf r.state header) (find_header header.held.number (headers_of es)) (table_out header o) in
      let s : T.it.state ≡ before = some_same T.it.state before (sym (ap (option_map state_of) T.is) ∙ b) in
      subst (λ (x : HeaderState). IsHeaderOf x header) s T.holds.1

  pub block_there : (n : ℕ) (before : HeaderState) → option_map state_of (find_header n (headers_of es)) ≡ Some before → weight (is_block before) ≤ blocks
  block_there n before b =
      let F = before_known n before b in
      let w : weight (is_block F.it.state) ≡ weight (is_block before) = ap (λ (x : HeaderState). weight (is_block x)) F.state in
      let x = count-without is_block n L.flat F.it F.is in
      let y = L.blocked in
      omega arith

  -- ---- the front of a list leaves it

  out_blocks : (n : ℕ) (r : HeaderRecord) → find_header n L.flat ≡ Some r → blocks ≡ count_headers is_block (changed n record_out L.flat)
  out_blocks n r e = let x = count-changed is_block n record_out L.flat r e in let y = L.blocked in omega arith

  front_taken : (test : HeaderState → Bool) (n : ℕ) (ns : List ℕ) (header : BufferHeader) (vs : List HeaderRecord) → numbers (is_state test) L.flat ≡ n ∷ ns → IsTakenAt n header (headers_of es) vs
      → IsTaken (is_state test) header L.flat (changed n record_out L.flat)
  front_taken test n ns header vs e A =
      let F = fronts (is_state test) n ns L.flat L.headers.once e in
      let P : HeaderRecord → Type 0 = λ r. (r.load ≡ load_in header.held) × IsHeaderOf r.state header in
      let W = there P (find_header n (headers_of es)) A.was in
      let same : W.it ≡ F.it = some_same W.it F.it (sym W.is ∙ (L.tells.found n ∙ F.is)) in
      let holds : P F.it = subst P same W.holds in
      let Q : Option HeaderRecord → Type 0 = λ o. MatchOption o ⊥ (λ r. (is_state test r ≡ true) × (r.load ≡ load_in header.held) × IsHeaderOf r.state header) in
      let was : Q (find_header n L.flat) = rw F.is (F.passes, holds.0, holds.1) in
      record {
        front = ap (λ (v : List ℕ). slice_get v 0) e ∙ ap (λ (m : ℕ). Some m) (sym A.numbered);
        was = subst (λ (m : ℕ). Q (find_header m L.flat)) (sym A.numbered) was;
        after = ap (λ (m : ℕ). changed m record_out L.flat) (sym A.numbered);
      }

  waits_at : (test : HeaderState → Bool) (n : ℕ) (ns : List ℕ) → ((r : HeaderRecord) → is_state test r ≡ true → is_waiting r.state.queue ≡ true) → numbers (is_state test) L.flat ≡ n ∷ ns
      → MatchOption (find_header n (headers_of es)) ⊥ (λ r. is_waiting r.state.queue ≡ true)
  waits_at test n ns w e =
      let F = fronts (is_state test) n ns L.flat L.headers.once e in
      let now : find_header n (headers_of es) ≡ Some F.it = L.tells.found n ∙ F.is in
      rw now (w F.it F.passes)

  todo_list : (port : PortKey) (n : ℕ) → Some n ≡ slice_get (port_at port ps).todo.items 0 → (ns : List ℕ) × (numbers (is_state (in_todo port)) L.flat ≡ n ∷ ns)
  todo_list port n f = let F = front_some (port_at port ps).todo.items n (sym f) in (F.0, sym (L.tells.port port).todo ∙ F.1)

  done_list : (port : PortKey) (n : ℕ) → Some n ≡ slice_get (port_at port ps).done.items 0 → (ns : List ℕ) × (numbers (is_state (in_done port)) L.flat ≡ n ∷ ns)
  done_list port n f = let F = front_some (port_at port ps).done.items n (sym f) in (F.0, sym (L.tells.port port).done ∙ F.1)

  pub pull_waits : (port : PortKey) (n : ℕ) → Some n ≡ slice_get (port_at port ps).todo.items 0 → MatchOption (find_header n (headers_of es)) ⊥ (λ r. is_waiting r.state.queue ≡ true)
  pull_waits port n f = let N = todo_list port n f in waits_at (in_todo port) n N.0 (todo_waits port) N.1

  pub send_waits : (port : PortKey) (n : ℕ) → Some n ≡ slice_get (port_at port ps).done.items 0 → MatchOption (find_header n (headers_of es)) ⊥ (λ r. is_waiting r.state.queue ≡ true)
  send_waits port n f = let N = done_list port n f in waits_at (in_done port) n N.0 (done_waits port) N.1

  pub pull_turns : (qs : List Port) (vs : List Entry) (room : ℕ) (port : PortKey) (n : ℕ) (header : BufferHeader) → Some n ≡ slice_get (port_at port ps).todo.items 0 → IsTakenAt n header (headers_of es) (headers_of vs)
      → Each IsKept vs → AreOf key vs → Replaces port (without_todo (port_at port ps)) ps qs → room ≡ places → Turns key qs vs blocks next room (todo_pulled port (stocked old))
  pull_turns qs vs room port n header f A E K R r =
      let N = todo_list port n f in
      let F = fronts (is_state (in_todo port)) n N.0 L.flat L.headers.once N.1 in
      let flat = changed n record_out L.flat in
      let T : Tells qs (changed n record_out (headers_of es)) flat = pull_tells port ps qs (headers_of es) L.flat n L.headers.once (sym f) L.tells R in
      let B = pull_becomes flat_old flat port (Some header) L.headers (front_taken (in_todo port) n N.0 header (headers_of vs) N.1 A) in
      let P : List HeaderRecord → Type 0 = λ ts. Tells qs ts flat in
      turned qs vs flat blocks next room _ _ R.keys R.differ (subst P (sym A.after) T) (subst Once (sym A.after) (once-changed n record_out (headers_of es) (λ _. refl) L.once)) B (out_blocks n F.it F.is) E K r (ap (todo_pulled port) (sym told_old))

  pub send_turns : (qs : List Port) (vs : List Entry) (room : ℕ) (port : PortKey) (n : ℕ) (header : BufferHeader) → Some n ≡ slice_get (port_at port ps).done.items 0 → IsTakenAt n header (headers_of es) (headers_of vs)
      → Each IsKept vs → AreOf key vs → Replaces port (without_done (port_at port ps)) ps qs → room ≡ places → Turns key qs vs blocks next room (done_pulled port (stocked old))
  send_turns qs vs room port n header f A E K R r =
      let N = done_list port n f in
      let F = fronts (is_state (in_done port)) n N.0 L.flat L.headers.once N.1 in
      let flat = changed n record_out L.flat in
      let T : Tells qs (changed n record_out (headers_of es)) flat = send_tells port ps qs (headers_of es) L.flat n L.headers.once (sym f) L.tells R in
      let B = send_becomes flat_old flat port (Some header) L.headers (front_taken (in_done port) n N.0 header (headers_of vs) N.1 A) in
      let P : List HeaderRecord → Type 0 = λ ts. Tells qs ts flat in
      turned qs vs flat blocks next room _ _ R.keys R.differ (subst P (sym A.after) T) (subst Once (sym A.after) (once-changed n record_out (headers_of es) (λ _. refl) L.once)) B (out_blocks n F.it F.is) E K r (ap (done_pulled port) (sym told_old))

  pub pull_none_turns : (qs : List Port) (port : PortKey) → None ≡ slice_get (port_at port ps).todo.items 0 → Replaces port (without_todo (port_at port ps)) ps qs → Turns key qs es blocks next places (todo_pulled port (stocked old))
  pull_none_turns qs port f R =
      let T : Tells qs (headers_of es) L.flat = pull_nothing port ps qs (headers_of es) L.flat (sym f) R L.tells in
      let B = pull_becomes flat_old L.flat port None L.headers (sym (L.tells.port port).todo ∙ front_none (port_at port ps).todo.items (sym f), refl) in
      turned qs es L.flat blocks next places _ _ R.keys R.differ T L.once B L.blocked L.kept L.keys refl (ap (todo_pulled port) (sym told_old))

  pub send_none_turns : (qs : List Port) (port : PortKey) → None ≡ slice_get (port_at port ps).done.items 0 → Replaces port (without_done (port_at port ps)) ps qs → Turns key qs es blocks next places (done_pulled port (stocked old))
  send_none_turns qs port f R =
      let T : Tells qs (headers_of es) L.flat = send_nothing port ps qs (headers_of es) L.flat (sym f) R L.tells in
      let B = send_becomes flat_old L.flat port None L.headers (sym (L.tells.port port).done ∙ front_none (port_at port ps).done.items (sym f), refl) in
      turned qs es L.flat blocks next places _ _ R.keys R.differ T L.once B L.blocked L.kept L.keys refl (ap (done_pulled port) (sym told_old))

  pub pull_gives : (qs : List Port) (vs : List Entry) (room : ℕ) (port : PortKey) (n : ℕ) (header : BufferHeader) → Some n ≡ slice_get (port_at port ps).todo.items 0 → IsTakenAt n header (headers_of es) (headers_of vs) → header.key ≡ key
      → Turns key qs vs blocks next room (todo_pulled port (stocked old)) → TakesFront (in_todo port) ((stocked old).headers.todo port) (stocked old) (stocked (view key qs (headers_of vs) next)) (Some header)
  pull_gives qs vs room port n header f A own N =
      let M = todo_list port n f in
      let flat = changed n record_out L.flat in
      let I = front_taken (in_todo port) n M.0 header (headers_of vs) M.1 A in
      let X = pull_takes flat_old flat port (Some header) own I in
      let B = pull_becomes flat_old flat port (Some header) L.headers I in
      let now : of_flat (kept key (port_keys ps) flat next) ≡ stocked (view key qs (headers_of vs) next) = B.is ∙ (ap (todo_pulled port) (sym told_old) ∙ sym N.is) in
      subst (λ (s : Stocked). TakesFront (in_todo port) (s.headers.todo port) s (stocked (view key qs (headers_of vs) next)) (Some header)) (sym told_old)
      (subst (λ (s : Stocked). TakesFront (in_todo port) ((of_flat flat_old).headers.todo port) (of_flat flat_old) s (Some header)) now X)

  pub send_gives : (qs : List Port) (vs : List Entry) (room : ℕ) (port : PortKey) (n : ℕ) (header : BufferHeader) → Some n ≡ slice_get (port_at port ps).done.items 0 → IsTakenAt n header (headers_of es) (headers_of vs) → header.key ≡ key
      → Turns key qs vs blocks next room (done_pulled port (stocked old)) → TakesFront (in_done port) ((stocked old).headers.done port) (stocked old) (stocked (view key qs (headers_of vs) next)) (Some header)
  send_gives qs vs room port n header f A own N =
      let M = done_list port n f in
      let flat = changed n record_out L.flat in
      let I = front_taken (in_done port) n M.0 header (headers_of vs) M.1 A in
      let X = send_takes flat_old flat port (Some header) own I in
      let B = send_becomes flat_old flat port (Some header) L.headers I in
      let now : of_flat (kept key (port_keys ps) flat next) ≡ stocked (view key qs (headers_of vs) next) = B.is ∙ (ap (done_pulled port) (sym told_old) ∙ sym N.is) in
      subst (λ (s : Stocked). TakesFront (in_done port) (s.headers.done port) s (stocked (view key qs (headers_of vs) next)) (Some header)) (sym told_old)
      (subst (λ (s : Stocked). TakesFront (in_done port) ((of_flat flat_old).headers.done port) (of_flat flat_old) s (Some header)) now X)

  pub todo_is : (port : PortKey) → (port_at port ps).todo.items ≡ (stocked old).headers.todo port
  todo_is port = sym (shelf_todo port ps) ∙ todo_shown old port

  pub done_is : (port : PortKey) → (port_at port ps).done.items ≡ (stocked old).headers.done port
  done_is port = sym (shelf_done port ps) ∙ done_shown old port

  pub unmarked_is : (port : PortKey) → unmarked_of (headers_of es) (port_at port ps).todo.items ≡ (stocked old).headers.unmarked port
  unmarked_is port = ap (unmarked_of (headers_of es)) (sym (shelf_todo port ps)) ∙ unmarked_shown old port

  -- ---- headers are cleared or marked where they stand

  pub clear_todo_turns : (vs : List Entry) (room : ℕ) (port : PortKey) → headers_of vs ≡ map (λ r. cleared_where (in_todo port r.state) r) (headers_of es) → Each IsKept vs → AreOf key vs → room ≡ places
      → Turns key ps vs blocks next room (todo_cleared port (stocked old))
  clear_todo_turns vs room port h E K r =
      let flat = map (λ r. cleared_where (in_todo port r.state) r) L.flat in
      let T = clear_tells (in_todo port) ps (headers_of es) L.flat L.tells in
      let B = clear_todo_becomes flat_old flat port L.headers refl in
      let P : List HeaderRecord → Type 0 = λ ts. Tells ps ts flat in
      turned ps vs flat blocks next room _ _ refl L.differ (subst P (sym h) T) (subst Once (sym h) (once_where (is_state (in_todo port)) (headers_of es) L.once)) B (L.blocked ∙ sym (count_where (in_todo port) is_block L.flat)) E K r
      (ap (todo_cleared port) (sym told_old))

  pub clear_done_turns : (vs : List Entry) (room : ℕ) (port : PortKey) → headers_of vs ≡ map (λ r. cleared_where (in_done port r.state) r) (headers_of es) → Each IsKept vs → AreOf key vs → room ≡ places
      → Turns key ps vs blocks next room (done_cleared port (stocked old))
  clear_done_turns vs room port h E K r =
      let flat = map (λ r. cleared_where (in_done port r.state) r) L.flat in
      let T = clear_tells (in_done port) ps (headers_of es) L.flat L.tells in
      let B = clear_done_becomes flat_old flat port L.headers refl in
      let P : List HeaderRecord → Type 0 = λ ts. Tells ps ts flat in
      turned ps vs flat blocks next room _ _ refl L.differ (subst P (sym h) T) (subst Once (sym h) (once_where (is_state (in_done port)) (headers_of es) L.once)) B (L.blocked ∙ sym (count_where (in_done port) is_block L.flat)) E K r
      (ap (done_cleared port) (sym told_old))

  unmarked_list : (port : PortKey) → numbers (in_unmarked port) L.flat ≡ unmarked_of (headers_of es) (port_at port ps).todo.items
  unmarked_list port =
      unmarked_flat port L.flat L.headers.once
      ∙ (ap (unmarked_of L.flat) (sym (L.tells.port port).todo) ∙ sym (unmarked_same (headers_of es) L.flat (port_at port ps).todo.items L.tells.found))

  pub mark_waits : (port : PortKey) (n : ℕ) → Some n ≡ slice_get (unmarked_of (headers_of es) (port_at port ps).todo.items) 0 → MatchOption (find_header n (headers_of es)) ⊥ (λ r. is_waiting r.state.queue ≡ true)
  mark_waits port n f =
      let N = front_some _ n (sym f) in
      let F = fronts (in_unmarked port) n N.0 L.flat L.headers.once (unmarked_list port ∙ N.1) in
      let now : find_header n (headers_of es) ≡ Some F.it = L.tells.found n ∙ F.is in
      rw now (todo_waits port F.it (and_both (in_todo port F.it.state) (is_none F.it.load.mark) F.passes).0)

  pub mark_turns : (vs : List Entry) (room : ℕ) (port : PortKey) (n : ℕ) (mark : Mark) → Some n ≡ slice_get (unmarked_of (headers_of es) (port_at port ps).todo.items) 0 → headers_of vs ≡ changed n (marked (Some mark)) (headers_of es)
      → Each IsKept vs → AreOf key vs → room ≡ places → Turns key ps vs blocks next room (marked_first port mark (stocked old))
  mark_turns vs room port n mark f h E K r =
      let N = front_some _ n (sym f) in
      let list : numbers (in_unmarked port) L.flat ≡ n ∷ N.0 = unmarked_list port ∙ N.1 in
      let F = fronts (in_unmarked port) n N.0 L.flat L.headers.once list in
      let flat = changed n (marked (Some mark)) L.flat in
      let T = mark_tells ps (headers_of es) L.flat n F.it mark F.is L.tells in
      let B = mark_becomes flat_old flat port mark L.headers (sym (ap (λ (v : List ℕ). first_marked v (Some mark) L.flat) list)) in
      let P : List HeaderRecord → Type 0 = λ ts. Tells ps ts flat in
      let same : count_headers is_block flat ≡ count_headers is_block L.flat = let x = count-changed is_block n (marked (Some mark)) L.flat F.it F.is in omega arith in
      turned ps vs flat blocks next room _ _ refl L.differ (subst P (sym h) T) (subst Once (sym h) (once-changed n (marked (Some mark)) (headers_of es) (λ _. refl) L.once)) B (L.blocked ∙ sym same) E K r (ap (marked_first port mark) (sym told_old))

  -- what the search among the numbers that are kept answered
  pub front_unmarked : (port : PortKey) (todo : List ℕ) (o : Option ℕ) → todo ≡ (port_at port ps).todo.items → o ≡ slice_get (unmarked_of (headers_of es) todo) 0 → o ≡ slice_get (unmarked_of (headers_of es) (port_at port ps).todo.items) 0
  front_unmarked port todo o e h = h ∙ ap (λ (ns : List ℕ). slice_get (unmarked_of (headers_of es) ns) 0) e

  pub some_unmarked : (port : PortKey) (o : Option ℕ) → o ≡ slice_get (unmarked_of (headers_of es) (port_at port ps).todo.items) 0 → is_some o ≡ not (is_empty ((stocked old).headers.unmarked port))
  some_unmarked port o h = ap is_some h ∙ (some_front _ ∙ ap (λ (ns : List ℕ). not (is_empty ns)) (unmarked_is port))

  pub mark_none : (port : PortKey) (mark : Mark) → None ≡ slice_get (unmarked_of (headers_of es) (port_at port ps).todo.items) 0 → stocked old ≡ marked_first port mark (stocked old)
  mark_none port mark f =
      let none : (stocked old).headers.unmarked port ≡ [] = sym (unmarked_is port) ∙ front_none _ (sym f) in
      sym (ap (λ (v : List ℕ). front_marked port mark v (stocked old)) none)

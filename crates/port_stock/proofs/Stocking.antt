-- What contracts read of the headers that are kept, after each change of their flat list.
use Rattle.std.proofs.Common.{◌≡◌, ℕ, Bool, true, false, ◌+◌, ◌&&◌, nat_eq, List, [], ◌∷◌, ◌++◌, map, slice_get, Option, Some, None, is_none, option_map, if◌then◌else◌, refl, sym, ◌∙◌, ap, inl, inr, subst}
use Rattle.std.proofs.lemmas.Bool.Decides.{eqb_tells}
use Rattle.std.proofs.Math.Path.{fun_ext}
use Rattle.il_machine.specs.declared.port.PortKey.{PortKey}
use Rattle.il_machine.specs.declared.port.Mark.{Mark}
use Rattle.il_machine.specs.declared.header.Owner.{Owner}
use Rattle.il_machine.specs.declared.header.Queue.TheVariants.{Out}
use Rattle.il_machine.specs.declared.header.Spot.{Spot}
use Rattle.il_machine.specs.declared.header.Spot.TheVariants.{TodoBack, TodoFront, DoneBack}
use Rattle.il_machine.specs.declared.header.HeaderState.{HeaderState}
use Rattle.il_machine.specs.World.{HeaderRecord, Load}
use Rattle.il_machine.specs.Headers.{Seen, seen, changed, cleared_all, empty_load, find_header, given_to, in_todo, in_done, in_unmarked, is_state, load_of, loaded, numbers, put, put_at, spot_queue, state_of, unloaded, without, Once}
use Rattle.il_machine.specs.Due.{first_marked, marked}
use Rattle.il_machine.specs.Stock.{Stocked, StandsFor, at_number, header_given, header_made, todo_pulled, todo_front_pulled, pushed, done_pulled, done_front_pulled, state_out, header_unmade}
use Rattle.stock_laws.specs.Changes.{cleared_where, done_cleared, emptied, front_marked, load_marked, marked_first, out_of_list, todo_cleared}
use Rattle.stock_laws.proofs.Flat.{changed-changed, find_number, find-append, find-changed, find-without_other, find-without_same}
use Rattle.stock_laws.proofs.Standing.{find_at, find_beside, give_stands, load_free, make_stands, push_stands, unmake_stands}
use Rattle.stock_laws.proofs.Leaving.{fronts, front_some}
use Rattle.stock_laws.proofs.Composed.{Taken, pull_taken, send_taken}
use Rattle.stock_laws.proofs.Clearing.{all_cleared_where, clear_done_stands, clear_todo_stands, emptied-is, find-map, is_in, is_in_none, is_in_passes, mark_stands}
use Rattle.port_stock.specs.Kept.{Flat, is_waiting, kept_load, of_flat}
use Rattle.port_stock.specs.Entries.{record_out}
use Rattle.port_stock.proofs.Changing.{todo_waits, done_waits}

abbrev pub kept : ℕ → List PortKey → List HeaderRecord → ℕ → Flat
kept key ports headers next = record { key = key; ports = ports; headers = headers; next = next }

-- ---- what is read

kept_carries : (o : Option HeaderRecord) (l : Load) → kept_load o ≡ Some l → option_map load_of o ≡ Some l
kept_carries None l h = absurd cc
kept_carries (Some r) l h = elim (is_waiting r.state.queue) as (λ v. (if v then Some r.load else None) ≡ Some l → Some r.load ≡ Some l) [ true ↦ λ e. e | false ↦ λ e. absurd cc ] h

-- the value stands for the very list that is kept
pub of_flat-stands : (k : Flat) → Once k.headers → StandsFor (of_flat k) k.headers
unfolding of_flat
of_flat-stands k o = record { looks = refl; loads = λ n l h. kept_carries (find_header n k.headers) l h; once = o }

-- The flat list, with the key, the ports and the next number, is read as the value.
pub record ReadAs (own : ℕ) (keys : List PortKey) (hs : List HeaderRecord) (last : ℕ) (s : Stocked) : Type 0 where
  pub key : own ≡ s.key
  pub ports : keys ≡ s.ports
  pub looks : seen hs ≡ s.headers
  pub loads : (n : ℕ) → kept_load (find_header n hs) ≡ s.loads n
  pub next : last ≡ s.next

pub of_flat-is : (key : ℕ) (ports : List PortKey) (headers : List HeaderRecord) (next : ℕ) (s : Stocked) → ReadAs key ports headers next s → of_flat (kept key ports headers next) ≡ s
unfolding of_flat
of_flat-is key ports headers next s R =
    let l : (λ n. kept_load (find_header n headers)) ≡ s.loads = fun_ext R.loads in
    λ i. record { key = R.key i; ports = R.ports i; headers = R.looks i; loads = l i; next = R.next i }

-- reading the value back
pub reads : (k : Flat) → ReadAs k.key k.ports k.headers k.next (of_flat k)
unfolding of_flat
reads k = record { key = refl; ports = refl; looks = refl; loads = λ n. refl; next = refl }

shown : (k : Flat) (n : ℕ) (r : HeaderRecord) → find_header n k.headers ≡ Some r → (of_flat k).headers.header n ≡ Some r.state
shown k n r e = sym (ap (λ (v : Seen). v.header n) (reads k).looks) ∙ ap (option_map state_of) e

-- ---- a header that is in no list is put, given, made or unmade

spot_load : (spot : Spot) (load : Load) → (if is_waiting (spot_queue spot) then Some load else None) ≡ Some load
spot_load TodoBack load = refl
spot_load TodoFront load = refl
spot_load DoneBack load = refl

put_loads : (hs : List HeaderRecord) (key : PortKey) (spot : Spot) (n : ℕ) (load : Load) (r : HeaderRecord) → Once hs → find_header n hs ≡ Some r
    → (m : ℕ) → kept_load (find_header m (put key spot n (loaded load) hs)) ≡ at_number n (Some load) (λ k. kept_load (find_header k hs)) m
put_loads hs key spot n load r once e m =
    let y = put_at key spot (loaded load r) in
    let gone = find-without_same n hs once in
    let num : y.state.number ≡ n = find_number n hs r e in
    rw e (elim (eqb_tells m n) [
      | inl x ↦ rw (x.0, x.1) (ap kept_load (find_at spot n y (without n hs) gone num) ∙ spot_load spot load)
      | inr x ↦ rw x.0 (ap kept_load (find_beside spot n m y (without n hs) gone num x.1 ∙ find-without_other m n hs x.1))
    ])

pub push_read : (k : Flat) (hs : List HeaderRecord) (key : PortKey) (spot : Spot) (n : ℕ) (load : Load) (r : HeaderRecord) → Once k.headers → find_header n k.headers ≡ Some r → r.state.queue ≡ Out
    → hs ≡ put key spot n (loaded load) k.headers → ReadAs k.key k.ports hs k.next (pushed key spot n load (of_flat k))
push_read k hs key spot n load r once e o h =
    let R = reads k in
    let T = push_stands (of_flat k) k.headers key spot n load r.state (of_flat-stands k once) (shown k n r e) o in
    let l : (λ m. kept_load (find_header m k.headers)) ≡ (of_flat k).loads = fun_ext R.loads in
    record {
      key = R.key;
      ports = R.ports;
      looks = ap seen h ∙ T.looks;
      loads = λ m. ap (λ (v : List HeaderRecord). kept_load (find_header m v)) h ∙ (put_loads k.headers key spot n load r once e m ∙ ap (λ (f : ℕ → Option Load). at_number n (Some load) f m) l);
      next = R.next;
    }

give_loads : (hs : List HeaderRecord) (n : ℕ) (owner : Owner) (r : HeaderRecord) → find_header n hs ≡ Some r → r.state.queue ≡ Out
    → (m : ℕ) → kept_load (find_header m (changed n (given_to owner) hs)) ≡ kept_load (find_header m hs)
give_loads hs n owner r e o m = ap kept_load (find-changed m n (given_to owner) hs r e refl) ∙ elim (eqb_tells m n) [
  | inl x ↦ rw (x.0, x.1, e, o) refl
  | inr x ↦ rw x.0 refl
]

pub give_read : (k : Flat) (hs : List HeaderRecord) (n : ℕ) (owner : Owner) (r : HeaderRecord) → Once k.headers → find_header n k.headers ≡ Some r → r.state.queue ≡ Out
    → hs ≡ changed n (given_to owner) k.headers → ReadAs k.key k.ports hs k.next (header_given n owner (of_flat k))
give_read k hs n owner r once e o h =
    let R = reads k in
    let T = give_stands (of_flat k) k.headers n owner r.state (of_flat-stands k once) (shown k n r e) o in
    record {
      key = R.key;
      ports = R.ports;
      looks = ap seen h ∙ T.looks;
      loads = λ m. ap (λ (v : List HeaderRecord). kept_load (find_header m v)) h ∙ (give_loads k.headers n owner r e o m ∙ R.loads m);
      next = R.next;
    }

pub unnumbered : (k : Flat) → find_header k.next k.headers ≡ None → (of_flat k).headers.header (of_flat k).next ≡ None
unnumbered k gone =
    let R = reads k in
    sym (ap (λ (v : Seen). v.header (of_flat k).next) R.looks) ∙ (ap (λ n. option_map state_of (find_header n k.headers)) (sym R.next) ∙ ap (option_map state_of) gone)

out_load : (x : HeaderRecord) (b : Bool) (o : Option HeaderRecord) → x.state.queue ≡ Out → o ≡ None → kept_load (if b then Some x else o) ≡ kept_load o
out_load x true o p e = rw (p, e) refl
out_load x false o p e = refl

made_loads : (hs : List HeaderRecord) (x : HeaderRecord) → find_header x.state.number hs ≡ None → x.state.queue ≡ Out → (m : ℕ) → kept_load (find_header m (hs ++ x ∷ [])) ≡ kept_load (find_header m hs)
made_loads hs x gone o m = ap kept_load (find-append m hs x gone) ∙ elim (eqb_tells x.state.number m) [
  | inl t ↦ out_load x (nat_eq x.state.number m) (find_header m hs) o (ap (λ n. find_header n hs) (sym t.1) ∙ gone)
  | inr t ↦ rw t.0 refl
]

pub make_read : (k : Flat) (hs : List HeaderRecord) (state : HeaderState) → Once k.headers → find_header k.next k.headers ≡ None → state.number ≡ k.next → state.queue ≡ Out
    → hs ≡ k.headers ++ record { state = state; load = empty_load None } ∷ [] → ReadAs k.key k.ports hs (k.next + 1) (header_made state (of_flat k))
make_read k hs state once gone num o h =
    let R = reads k in
    let x : HeaderRecord = record { state = state; load = empty_load None } in
    let g : find_header state.number k.headers ≡ None = rw num gone in
    let T = make_stands (of_flat k) k.headers state (empty_load None) (of_flat-stands k once) (unnumbered k gone) (num ∙ R.next) o in
    record {
      key = R.key;
      ports = R.ports;
      looks = ap seen h ∙ T.looks;
      loads = λ m. ap (λ (v : List HeaderRecord). kept_load (find_header m v)) h ∙ (made_loads k.headers x g o m ∙ R.loads m);
      next = ap (λ n. n + 1) R.next;
    }

pub unmake_read : (k : Flat) (hs : List HeaderRecord) (n : ℕ) (r : HeaderRecord) → Once k.headers → find_header n k.headers ≡ Some r → r.state.queue ≡ Out
    → hs ≡ without n k.headers → ReadAs k.key k.ports hs k.next (header_unmade n (of_flat k))
unmake_read k hs n r once e o h =
    let R = reads k in
    let T = unmake_stands (of_flat k) k.headers n r.state (of_flat-stands k once) (shown k n r e) o in
    record {
      key = R.key;
      ports = R.ports;
      looks = ap seen h ∙ T.looks;
      loads = λ m. ap (λ (v : List HeaderRecord). kept_load (find_header m v)) h ∙ elim (eqb_tells m n) [
        | inl x ↦ rw (x.0, x.1) (ap kept_load (find-without_same n k.headers once))
        | inr x ↦ rw x.0 (ap kept_load (find-without_other m n k.headers x.1) ∙ R.loads m)
      ];
      next = R.next;
    }

-- ---- the front of a list leaves it

out_loads : (hs : List HeaderRecord) (n : ℕ) (r : HeaderRecord) → find_header n hs ≡ Some r → (m : ℕ)
    → kept_load (find_header m (changed n record_out hs)) ≡ at_number n None (λ k. kept_load (find_header k hs)) m
out_loads hs n r e m = ap kept_load (find-changed m n record_out hs r e refl) ∙ elim (nat_eq m n) as (λ v. kept_load (if v then Some (record_out r) else find_header m hs) ≡ (if v then None else kept_load (find_header m hs))) [ true ↦ refl | false ↦ refl ]

-- the value whose header of the number is out of its list is read of the list where it carries nothing
out_looks : (t : Stocked) (hs : List HeaderRecord) (n : ℕ) → Taken t n hs → seen (changed n record_out hs) ≡ t.headers
out_looks t hs n T =
    let F = load_free t (changed n out_of_list hs) n (empty_load None) (state_out T.state) T.stands T.shown refl T.unkept in
    let Q : List HeaderRecord → Type 0 = λ v. seen v ≡ t.headers in
    subst Q (changed-changed n out_of_list (loaded (empty_load None)) hs (λ _. refl)) F.looks

pub todo_read : (k : Flat) (key : PortKey) → numbers (is_state (in_todo key)) k.headers ≡ (of_flat k).headers.todo key
todo_read k key = ap (λ (v : Seen). v.todo key) (reads k).looks

pub done_read : (k : Flat) (key : PortKey) → numbers (is_state (in_done key)) k.headers ≡ (of_flat k).headers.done key
done_read k key = ap (λ (v : Seen). v.done key) (reads k).looks

pulled_loads : (key : PortKey) (n : ℕ) (ns : List ℕ) (s : Stocked) → s.headers.todo key ≡ n ∷ ns → (todo_pulled key s).loads ≡ at_number n None s.loads
pulled_loads key n ns s e = ap (λ (v : List ℕ). (todo_front_pulled key v s).loads) e

pulled_ports : (key : PortKey) (n : ℕ) (ns : List ℕ) (s : Stocked) → s.headers.todo key ≡ n ∷ ns → (todo_pulled key s).ports ≡ s.ports
pulled_ports key n ns s e = ap (λ (v : List ℕ). (todo_front_pulled key v s).ports) e

pulled_key : (key : PortKey) (n : ℕ) (ns : List ℕ) (s : Stocked) → s.headers.todo key ≡ n ∷ ns → (todo_pulled key s).key ≡ s.key
pulled_key key n ns s e = ap (λ (v : List ℕ). (todo_front_pulled key v s).key) e

pulled_next : (key : PortKey) (n : ℕ) (ns : List ℕ) (s : Stocked) → s.headers.todo key ≡ n ∷ ns → (todo_pulled key s).next ≡ s.next
pulled_next key n ns s e = ap (λ (v : List ℕ). (todo_front_pulled key v s).next) e

pub pull_read : (k : Flat) (hs : List HeaderRecord) (key : PortKey) (n : ℕ) → Once k.headers → slice_get (numbers (is_state (in_todo key)) k.headers) 0 ≡ Some n
    → hs ≡ changed n record_out k.headers → ReadAs k.key k.ports hs k.next (todo_pulled key (of_flat k))
pull_read k hs key n once f h =
    let R = reads k in
    let list = front_some (numbers (is_state (in_todo key)) k.headers) n f in
    let e : (of_flat k).headers.todo key ≡ n ∷ list.0 = sym (todo_read k key) ∙ list.1 in
    let T = pull_taken (of_flat k) k.headers key n list.0 (of_flat-stands k once) e in
    let l : (λ m. kept_load (find_header m k.headers)) ≡ (of_flat k).loads = fun_ext R.loads in
    record {
      key = R.key ∙ sym (pulled_key key n list.0 (of_flat k) e);
      ports = R.ports ∙ sym (pulled_ports key n list.0 (of_flat k) e);
      looks = ap seen h ∙ out_looks (todo_pulled key (of_flat k)) k.headers n T;
      loads = λ m. ap (λ (v : List HeaderRecord). kept_load (find_header m v)) h
          ∙ (out_loads k.headers n T.found.it T.found.is m
          ∙ (ap (λ (f : ℕ → Option Load). at_number n None f m) l
          ∙ sym (ap (λ (f : ℕ → Option Load). f m) (pulled_loads key n list.0 (of_flat k) e))));
      next = R.next ∙ sym (pulled_next key n list.0 (of_flat k) e);
    }

pub pull_none : (k : Flat) (key : PortKey) → numbers (is_state (in_todo key)) k.headers ≡ [] → of_flat k ≡ todo_pulled key (of_flat k)
pull_none k key e =
    let none : (of_flat k).headers.todo key ≡ [] = sym (todo_read k key) ∙ e in
    sym (ap (λ (v : List ℕ). todo_front_pulled key v (of_flat k)) none)

sent_loads : (key : PortKey) (n : ℕ) (ns : List ℕ) (s : Stocked) → s.headers.done key ≡ n ∷ ns → (done_pulled key s).loads ≡ at_number n None s.loads
sent_loads key n ns s e = ap (λ (v : List ℕ). (done_front_pulled key v s).loads) e

sent_ports : (key : PortKey) (n : ℕ) (ns : List ℕ) (s : Stocked) → s.headers.done key ≡ n ∷ ns → (done_pulled key s).ports ≡ s.ports
sent_ports key n ns s e = ap (λ (v : List ℕ). (done_front_pulled key v s).ports) e

sent_key : (key : PortKey) (n : ℕ) (ns : List ℕ) (s : Stocked) → s.headers.done key ≡ n ∷ ns → (done_pulled key s).key ≡ s.key
sent_key key n ns s e = ap (λ (v : List ℕ). (done_front_pulled key v s).key) e

sent_next : (key : PortKey) (n : ℕ) (ns : List ℕ) (s : Stocked) → s.headers.done key ≡ n ∷ ns → (done_pulled key s).next ≡ s.next
sent_next key n ns s e = ap (λ (v : List ℕ). (done_front_pulled key v s).next) e

pub send_read : (k : Flat) (hs : List HeaderRecord) (key : PortKey) (n : ℕ) → Once k.headers → slice_get (numbers (is_state (in_done key)) k.headers) 0 ≡ Some n
    → hs ≡ changed n record_out k.headers → ReadAs k.key k.ports hs k.next (done_pulled key (of_flat k))
send_read k hs key n once f h =
    let R = reads k in
    let list = front_some (numbers (is_state (in_done key)) k.headers) n f in
    let e : (of_flat k).headers.done key ≡ n ∷ list.0 = sym (done_read k key) ∙ list.1 in
    let T = send_taken (of_flat k) k.headers key n list.0 (of_flat-stands k once) e in
    let l : (λ m. kept_load (find_header m k.headers)) ≡ (of_flat k).loads = fun_ext R.loads in
    record {
      key = R.key ∙ sym (sent_key key n list.0 (of_flat k) e);
      ports = R.ports ∙ sym (sent_ports key n list.0 (of_flat k) e);
      looks = ap seen h ∙ out_looks (done_pulled key (of_flat k)) k.headers n T;
      loads = λ m. ap (λ (v : List HeaderRecord). kept_load (find_header m v)) h
          ∙ (out_loads k.headers n T.found.it T.found.is m
          ∙ (ap (λ (f : ℕ → Option Load). at_number n None f m) l
          ∙ sym (ap (λ (f : ℕ → Option Load). f m) (sent_loads key n list.0 (of_flat k) e))));
      next = R.next ∙ sym (sent_next key n list.0 (of_flat k) e);
    }

pub send_none : (k : Flat) (key : PortKey) → numbers (is_state (in_done key)) k.headers ≡ [] → of_flat k ≡ done_pulled key (of_flat k)
send_none k key e =
    let none : (of_flat k).headers.done key ≡ [] = sym (done_read k key) ∙ e in
    sym (ap (λ (v : List ℕ). done_front_pulled key v (of_flat k)) none)

-- ---- headers are cleared where they stand, and the first without a mark gets one

where_loads : (q : HeaderRecord → Bool) (hs : List HeaderRecord) (m : ℕ) → Once hs → ((r : HeaderRecord) → q r ≡ true → is_waiting r.state.queue ≡ true) → (o : Option HeaderRecord) → find_header m hs ≡ o
    → kept_load (option_map (λ r. cleared_where (q r) r) o) ≡ (if is_in m (numbers q hs) then option_map unloaded (kept_load o) else kept_load o)
where_loads q hs m once w None e = rw (is_in_none q m hs e) refl
where_loads q hs m once w (Some r) e =
    let num = find_number m hs r e in
    let t : is_in m (numbers q hs) ≡ q r = ap (λ (k : ℕ). is_in k (numbers q hs)) (sym num) ∙ is_in_passes q m hs r once e in
    rw t (elim (q r) as (λ v. q r ≡ v → kept_load (Some (cleared_where v r)) ≡ (if v then option_map unloaded (kept_load (Some r)) else kept_load (Some r)))
    [ true ↦ λ h. rw (w r h) refl | false ↦ λ h. refl ] refl)

where_state : (b : Bool) (r : HeaderRecord) → (cleared_where b r).state ≡ r.state
where_state true r = refl
where_state false r = refl

cleared_loads : (q : HeaderRecord → Bool) (hs : List HeaderRecord) (f : ℕ → Option Load) → Once hs → ((r : HeaderRecord) → q r ≡ true → is_waiting r.state.queue ≡ true) → ((m : ℕ) → kept_load (find_header m hs) ≡ f m)
    → (m : ℕ) → kept_load (find_header m (map (λ r. cleared_where (q r) r) hs)) ≡ emptied (numbers q hs) f m
cleared_loads q hs f once w g m =
    ap kept_load (find-map (λ r. cleared_where (q r) r) (λ r. where_state (q r) r) m hs)
    ∙ (where_loads q hs m once w (find_header m hs) refl
    ∙ (ap (λ (o : Option Load). if is_in m (numbers q hs) then option_map unloaded o else o) (g m)
    ∙ sym (emptied-is (numbers q hs) f m)))

pub clear_todo_read : (k : Flat) (hs : List HeaderRecord) (key : PortKey) → Once k.headers → hs ≡ map (λ r. cleared_where (in_todo key r.state) r) k.headers → ReadAs k.key k.ports hs k.next (todo_cleared key (of_flat k))
clear_todo_read k hs key once h =
    let R = reads k in
    let e = todo_read k key in
    let T = clear_todo_stands (of_flat k) k.headers key (of_flat-stands k once) in
    let same : hs ≡ cleared_all ((of_flat k).headers.todo key) k.headers
    = h ∙ (sym (all_cleared_where (is_state (in_todo key)) k.headers once) ∙ ap (λ (ns : List ℕ). cleared_all ns k.headers) e) in
    record {
      key = R.key;
      ports = R.ports;
      looks = ap seen same ∙ T.looks;
      loads = λ m. ap (λ (v : List HeaderRecord). kept_load (find_header m v)) h
          ∙ (cleared_loads (is_state (in_todo key)) k.headers (of_flat k).loads once (todo_waits key) R.loads m
          ∙ ap (λ (ns : List ℕ). emptied ns (of_flat k).loads m) e);
      next = R.next;
    }

pub clear_done_read : (k : Flat) (hs : List HeaderRecord) (key : PortKey) → Once k.headers → hs ≡ map (λ r. cleared_where (in_done key r.state) r) k.headers → ReadAs k.key k.ports hs k.next (done_cleared key (of_flat k))
clear_done_read k hs key once h =
    let R = reads k in
    let e = done_read k key in
    let T = clear_done_stands (of_flat k) k.headers key (of_flat-stands k once) in
    let same : hs ≡ cleared_all ((of_flat k).headers.done key) k.headers
    = h ∙ (sym (all_cleared_where (is_state (in_done key)) k.headers once) ∙ ap (λ (ns : List ℕ). cleared_all ns k.headers) e) in
    record {
      key = R.key;
      ports = R.ports;
      looks = ap seen same ∙ T.looks;
      loads = λ m. ap (λ (v : List HeaderRecord). kept_load (find_header m v)) h
          ∙ (cleared_loads (is_state (in_done key)) k.headers (of_flat k).loads once (done_waits key) R.loads m
          ∙ ap (λ (ns : List ℕ). emptied ns (of_flat k).loads m) e);
      next = R.next;
    }

pub unmarked_read : (k : Flat) (key : PortKey) → numbers (in_unmarked key) k.headers ≡ (of_flat k).headers.unmarked key
unmarked_read k key = ap (λ (v : Seen). v.unmarked key) (reads k).looks

and_left : (a b : Bool) → (a && b) ≡ true → a ≡ true
and_left true b e = refl
and_left false b e = absurd cc

waiting_load : (r : HeaderRecord) → is_waiting r.state.queue ≡ true → kept_load (Some r) ≡ Some r.load
waiting_load r w = rw w refl

mark_loads : (key : PortKey) (mark : Mark) (hs : List HeaderRecord) (n : ℕ) (ns : List ℕ) (f : ℕ → Option Load) → Once hs → numbers (in_unmarked key) hs ≡ n ∷ ns → ((m : ℕ) → kept_load (find_header m hs) ≡ f m)
    → (m : ℕ) → kept_load (find_header m (changed n (marked (Some mark)) hs)) ≡ at_number n (option_map (load_marked mark) (f n)) f m
mark_loads key mark hs n ns f once e g m =
    let F = fronts (in_unmarked key) n ns hs once e in
    let r = F.it in
    let w : is_waiting r.state.queue ≡ true = todo_waits key r (and_left (in_todo key r.state) (is_none r.load.mark) F.passes) in
    let now : f n ≡ Some r.load = sym (g n) ∙ (ap kept_load F.is ∙ waiting_load r w) in
    ap kept_load (find-changed m n (marked (Some mark)) hs r F.is refl) ∙ elim (eqb_tells m n) [
      | inl x ↦ rw (x.0, now) (waiting_load (marked (Some mark) r) w)
      | inr x ↦ rw x.0 (g m)
    ]

front_marked-ports : (key : PortKey) (mark : Mark) (ns : List ℕ) (s : Stocked) → (front_marked key mark ns s).ports ≡ s.ports
front_marked-ports key mark [] s = refl
front_marked-ports key mark (n ∷ ns) s = refl

front_marked-key : (key : PortKey) (mark : Mark) (ns : List ℕ) (s : Stocked) → (front_marked key mark ns s).key ≡ s.key
front_marked-key key mark [] s = refl
front_marked-key key mark (n ∷ ns) s = refl

front_marked-next : (key : PortKey) (mark : Mark) (ns : List ℕ) (s : Stocked) → (front_marked key mark ns s).next ≡ s.next
front_marked-next key mark [] s = refl
front_marked-next key mark (n ∷ ns) s = refl

mark_front_loads : (key : PortKey) (mark : Mark) (hs : List HeaderRecord) (s : Stocked) (ns : List ℕ) → Once hs → numbers (in_unmarked key) hs ≡ ns → ((m : ℕ) → kept_load (find_header m hs) ≡ s.loads m)
    → (m : ℕ) → kept_load (find_header m (first_marked ns (Some mark) hs)) ≡ (front_marked key mark ns s).loads m
mark_front_loads key mark hs s [] once e g m = g m
mark_front_loads key mark hs s (n ∷ ns) once e g m = mark_loads key mark hs n ns s.loads once e g m

pub mark_read : (k : Flat) (hs : List HeaderRecord) (key : PortKey) (mark : Mark) → Once k.headers → hs ≡ first_marked (numbers (in_unmarked key) k.headers) (Some mark) k.headers
    → ReadAs k.key k.ports hs k.next (marked_first key mark (of_flat k))
mark_read k hs key mark once h =
    let R = reads k in
    let e = unmarked_read k key in
    let T = mark_stands (of_flat k) k.headers key mark (of_flat-stands k once) in
    let same : hs ≡ first_marked ((of_flat k).headers.unmarked key) (Some mark) k.headers = h ∙ ap (λ (ns : List ℕ). first_marked ns (Some mark) k.headers) e in
    record {
      key = R.key ∙ sym (front_marked-key key mark ((of_flat k).headers.unmarked key) (of_flat k));
      ports = R.ports ∙ sym (front_marked-ports key mark ((of_flat k).headers.unmarked key) (of_flat k));
      looks = ap seen same ∙ T.looks;
      loads = λ m. ap (λ (v : List HeaderRecord). kept_load (find_header m v)) same ∙ mark_front_loads key mark k.headers (of_flat k) ((of_flat k).headers.unmarked key) once e R.loads m;
      next = R.next ∙ sym (front_marked-next key mark ((of_flat k).headers.unmarked key) (of_flat k));
    }

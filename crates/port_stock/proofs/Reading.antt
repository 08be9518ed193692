-- What the rings, the counts and the table tell is what is read of one flat list.
use Rattle.std.proofs.Common.{◌≡◌, ℕ, Bool, true, false, ◌&&◌, nat_eq, List, [], ◌∷◌, Some, None, option_map, is_none, if◌then◌else◌, refl, sym, ◌∙◌, ap, arith}
use Rattle.std.proofs.lemmas.Bool.Decides.{nat_tests}
use Rattle.std.proofs.Math.Path.{fun_ext}
use Rattle.il_machine.specs.declared.port.PortKey.{PortKey}
use Rattle.il_machine.specs.declared.header.HeaderState.{HeaderState}
use Rattle.il_machine.specs.World.{HeaderRecord}
use Rattle.il_machine.specs.Headers.{Once, count_headers, find_header, in_todo, in_done, in_unmarked, is_state, numbers, state_of}
use Rattle.port_stock.specs.declared.port.Port.{Port}
use Rattle.port_stock.specs.Kept.{StockKept, done_at, has_no_mark, kept_load, keys_of, of_flat, stocked, todo_at, unmarked_of}
use Rattle.port_stock.specs.Rings.{Tells, is_at, port_at, port_keys, shelves_of}
use Rattle.port_stock.proofs.Stocking.{kept}

abbrev pub view : ℕ → List Port → List HeaderRecord → ℕ → StockKept
view key ports table next = record { key = key; ports = shelves_of ports; headers = table; next = next }

-- ---- shelves

pub shelf_keys : (ps : List Port) → keys_of (shelves_of ps) ≡ port_keys ps
shelf_keys [] = refl
shelf_keys (p ∷ ps) = ap (λ (v : List PortKey). p.key ∷ v) (shelf_keys ps)

pub shelf_todo : (key : PortKey) (ps : List Port) → todo_at key (shelves_of ps) ≡ (port_at key ps).todo.items
shelf_todo key [] = refl
shelf_todo key (p ∷ ps) = elim (is_at key p) as (λ v. (if v then p.todo.items else todo_at key (shelves_of ps)) ≡ (if v then p else port_at key ps).todo.items) [ true ↦ refl | false ↦ shelf_todo key ps ]

pub shelf_done : (key : PortKey) (ps : List Port) → done_at key (shelves_of ps) ≡ (port_at key ps).done.items
shelf_done key [] = refl
shelf_done key (p ∷ ps) = elim (is_at key p) as (λ v. (if v then p.done.items else done_at key (shelves_of ps)) ≡ (if v then p else port_at key ps).done.items) [ true ↦ refl | false ↦ shelf_done key ps ]

-- ---- headers without a mark

pub unmarked_same : (hs is : List HeaderRecord) (ns : List ℕ) → ((n : ℕ) → find_header n hs ≡ find_header n is) → unmarked_of hs ns ≡ unmarked_of is ns
unmarked_same hs is [] k = refl
unmarked_same hs is (n ∷ ns) k =
    let e = ap has_no_mark (k n) in
    let i = unmarked_same hs is ns k in
    rw (e, i) refl

apart : (m n : ℕ) → nat_eq m n ≡ false → nat_eq n m ≡ false
apart m n h = grind (arith, nat_tests)

-- another header in front changes nothing
unmarked_behind : (r : HeaderRecord) (hs : List HeaderRecord) (q : HeaderRecord → Bool) (vs : List HeaderRecord) → find_header r.state.number vs ≡ None → unmarked_of (r ∷ hs) (numbers q vs) ≡ unmarked_of hs (numbers q vs)
unmarked_behind r hs q [] h = refl
unmarked_behind r hs q (v ∷ vs) h =
    elim (nat_eq v.state.number r.state.number) as (λ b. nat_eq v.state.number r.state.number ≡ b → (if b then Some v else find_header r.state.number vs) ≡ None → unmarked_of (r ∷ hs) (numbers q (v ∷ vs)) ≡ unmarked_of hs (numbers q (v ∷ vs))) [
      | true ↦ λ t e. absurd cc
      | false ↦ λ t e.
          let i = unmarked_behind r hs q vs e in
          let d = apart v.state.number r.state.number t in
          elim (q v) as (λ b. unmarked_of (r ∷ hs) (if b then v.state.number ∷ numbers q vs else numbers q vs) ≡ unmarked_of hs (if b then v.state.number ∷ numbers q vs else numbers q vs)) [ true ↦ rw (d, i) refl | false ↦ i ]
    ] refl h

pub unmarked_flat : (key : PortKey) (hs : List HeaderRecord) → Once hs → numbers (in_unmarked key) hs ≡ unmarked_of hs (numbers (is_state (in_todo key)) hs)
unmarked_flat key [] o = refl
unmarked_flat key (r ∷ hs) o =
    let ns = numbers (is_state (in_todo key)) hs in
    let i = unmarked_flat key hs o.1 in
    let b = unmarked_behind r hs (is_state (in_todo key)) hs o.0 in
    let own : nat_eq r.state.number r.state.number ≡ true = grind (arith, nat_tests) in
    elim (in_todo key r.state) as (λ v. (if (v && is_none r.load.mark) then r.state.number ∷ numbers (in_unmarked key) hs else numbers (in_unmarked key) hs) ≡ unmarked_of (r ∷ hs) (if v then r.state.number ∷ ns else ns)) [
      | true ↦ rw (own, b, i) refl
      | false ↦ i ∙ sym b
    ]

-- ---- the value

module _ (key : ℕ) (ports : List Port) (table flat : List HeaderRecord) (next : ℕ) (T : Tells ports table flat) where
  pub todo_told : (k : PortKey) → todo_at k (shelves_of ports) ≡ numbers (is_state (in_todo k)) flat
  todo_told k = shelf_todo k ports ∙ (T.port k).todo

  pub done_told : (k : PortKey) → done_at k (shelves_of ports) ≡ numbers (is_state (in_done k)) flat
  done_told k = shelf_done k ports ∙ (T.port k).done

  unmarked_told : Once flat → (k : PortKey) → unmarked_of table (todo_at k (shelves_of ports)) ≡ numbers (in_unmarked k) flat
  unmarked_told once k = unmarked_same table flat (todo_at k (shelves_of ports)) T.found ∙ (ap (unmarked_of flat) (todo_told k) ∙ sym (unmarked_flat k flat once))

  pub told : Once flat → stocked (view key ports table next) ≡ of_flat (kept key (port_keys ports) flat next)
  unfolding stocked of_flat
  told once =
      let ks = shelf_keys ports in
      let t : (λ (k : PortKey). todo_at k (shelves_of ports)) ≡ (λ (k : PortKey). numbers (is_state (in_todo k)) flat) = fun_ext todo_told in
      let d : (λ (k : PortKey). done_at k (shelves_of ports)) ≡ (λ (k : PortKey). numbers (is_state (in_done k)) flat) = fun_ext done_told in
      let u : (λ (k : PortKey). unmarked_of table (todo_at k (shelves_of ports))) ≡ (λ (k : PortKey). numbers (in_unmarked k) flat) = fun_ext (unmarked_told once) in
      let h : (λ (n : ℕ). option_map state_of (find_header n table)) ≡ (λ (n : ℕ). option_map state_of (find_header n flat)) = fun_ext (λ n. ap (option_map state_of) (T.found n)) in
      let c : (λ (test : HeaderState → Bool). count_headers test table) ≡ (λ (test : HeaderState → Bool). count_headers test flat) = fun_ext T.counted in
      let l : (λ (n : ℕ). kept_load (find_header n table)) ≡ (λ (n : ℕ). kept_load (find_header n flat)) = fun_ext (λ n. ap kept_load (T.found n)) in
      λ i. record { key = key; ports = ks i; headers = record { todo = t i; done = d i; unmarked = u i; header = h i; count = c i }; loads = l i; next = next }

-- ---- the value as it is read

pub todo_shown : (k : StockKept) (key : PortKey) → todo_at key k.ports ≡ (stocked k).headers.todo key
unfolding stocked
todo_shown k key = refl

pub done_shown : (k : StockKept) (key : PortKey) → done_at key k.ports ≡ (stocked k).headers.done key
unfolding stocked
done_shown k key = refl

pub unmarked_shown : (k : StockKept) (key : PortKey) → unmarked_of k.headers (todo_at key k.ports) ≡ (stocked k).headers.unmarked key
unfolding stocked
unmarked_shown k key = refl

pub header_shown : (k : StockKept) (n : ℕ) → option_map state_of (find_header n k.headers) ≡ (stocked k).headers.header n
unfolding stocked
header_shown k n = refl

pub count_shown : (k : StockKept) (test : HeaderState → Bool) → count_headers test k.headers ≡ (stocked k).headers.count test
unfolding stocked
count_shown k test = refl

pub key_shown : (k : StockKept) → k.key ≡ (stocked k).key
unfolding stocked
key_shown k = refl

pub keys_shown : (k : StockKept) → keys_of k.ports ≡ (stocked k).ports
unfolding stocked
keys_shown k = refl

pub next_shown : (k : StockKept) → k.next ≡ (stocked k).next
unfolding stocked
next_shown k = refl

-- A header is made: there is a place and a number for it, and the stock is read so.
use Rattle.std.proofs.Common.{◌≡◌, ◌+◌, ◌<◌, true, List, [], ◌∷◌, ◌++◌, Option, Some, None, MatchOption, sym, ◌∙◌, ap, arith, subst}
use Rattle.std.proofs.lemmas.Bool.Decides.{nat_tests}
use Rattle.il_machine.specs.declared.port.PortKey.{PortKey}
use Rattle.il_machine.specs.declared.header.Queue.TheVariants.{Out}
use Rattle.il_machine.specs.declared.header.HeaderState.{HeaderState}
use Rattle.il_machine.specs.World.{HeaderRecord}
use Rattle.il_machine.specs.Headers.{count_headers, empty_load, find_header, is_for}
use Rattle.il_machine.specs.Stock.{home_owner, header_made}
use Rattle.header_core.specs.BufferHeader.{BufferHeader}
use Rattle.stock_laws.proofs.Flat.{find-append}
use Rattle.port_stock.specs.Kept.{Flat, of_flat}
use Rattle.port_stock.specs.Conditions.{HasFewer, IsHeaderOf, IsOutside, IsPort, has_key, is_home_among, made_in}
use Rattle.port_stock.specs.Entries.{AreLawful}
use Rattle.port_stock.proofs.Stocking.{kept, reads, of_flat-is, make_read, unnumbered}
use Rattle.port_stock.proofs.Lawful.{fresh_number, make_lawful}
use Rattle.port_stock.proofs.Calls.{Becomes, IsOutFlat, count_read, flat_state}

port_kept : (k : Flat) (key : PortKey) → IsPort key (of_flat k) → has_key key k.ports ≡ true
port_kept k key h = ap (has_key key) (reads k).ports ∙ h

few_kept : (k : Flat) (key : PortKey) → made_in (of_flat k) key < 32 → count_headers (is_for key) k.headers < 32
few_kept k key h = let e = count_read k (is_for key) in omega arith

few_peer : (k : Flat) (peer : Option PortKey) → HasFewer (made_in (of_flat k)) peer → HasFewer (λ key. count_headers (is_for key) k.headers) peer
few_peer k None h = tt
few_peer k (Some key) h = few_kept k key h

pub make_becomes : (k : Flat) (hs : List HeaderRecord) (state : HeaderState) → AreLawful k.ports k.next k.headers → state.number ≡ k.next → state.queue ≡ Out
    → IsPort state.port (of_flat k) → is_home_among state.port state.peer state.home ≡ true → state.owner ≡ home_owner state.home → made_in (of_flat k) state.port < 32 → HasFewer (made_in (of_flat k)) state.peer
    → hs ≡ k.headers ++ record { state = state; load = empty_load None } ∷ [] → Becomes k.key k.ports hs (k.next + 1) (header_made state (of_flat k))
make_becomes k hs state L num o p home owner m q h =
    let P : List HeaderRecord → Type 0 = AreLawful k.ports (k.next + 1) in
    record {
      lawful = subst P (sym h) (make_lawful k.ports k.next k.headers state num (port_kept k state.port p) home owner (few_kept k state.port m) (few_peer k state.peer q) L);
      is = of_flat-is k.key k.ports hs (k.next + 1) _ (make_read k hs state L.once (fresh_number k.ports k.next k.headers L) num o h);
    }

pub new_number : (k : Flat) → AreLawful k.ports k.next k.headers → (of_flat k).headers.header (of_flat k).next ≡ None
new_number k L = unnumbered k (fresh_number k.ports k.next k.headers L)

pub made_outside : (k : Flat) (hs : List HeaderRecord) (state : HeaderState) (header : BufferHeader) → AreLawful k.ports k.next k.headers → state.number ≡ k.next → state.queue ≡ Out → header.held.number ≡ k.next
    → header.key ≡ k.key → IsHeaderOf state header → hs ≡ k.headers ++ record { state = state; load = empty_load None } ∷ [] → IsOutside header (of_flat (kept k.key k.ports hs (k.next + 1)))
made_outside k hs state header L num o n own f h =
    let x : HeaderRecord = record { state = state; load = empty_load None } in
    let gone : find_header state.number k.headers ≡ None = rw num (fresh_number k.ports k.next k.headers L) in
    let now : find_header header.held.number hs ≡ Some x
    = ap (find_header header.held.number) h ∙ (find-append header.held.number k.headers x gone ∙ let e : state.number ≡ header.held.number = num ∙ sym n in grind (arith, nat_tests)) in
    let Q : Option HeaderRecord → Type 0 = λ o. MatchOption o ⊥ (λ r. IsOutFlat header r.state) in
    (own ∙ (reads (kept k.key k.ports hs (k.next + 1))).key, flat_state (kept k.key k.ports hs (k.next + 1)) header.held.number (IsOutFlat header) (subst Q (sym now) (o, f)))

use Rattle.std.proofs.Common.{vec_capacity, ℕ, Bool, not, List, Option, None, is_some, ◌≡◌, ◌+◌, ◌<◌, refl, sym, ◌∙◌, ap, arith, subst}
use Rattle.il_machine.specs.declared.port.PortKey.{PortKey}
use Rattle.il_machine.specs.declared.header.Home.{Home}
use Rattle.il_machine.specs.declared.header.Owner.{Owner}
use Rattle.il_machine.specs.declared.header.Queue.TheVariants.{Out}
use Rattle.il_machine.specs.declared.header.HeaderState.{HeaderState}
use Rattle.il_machine.specs.Headers.{weight}
use Rattle.il_machine.specs.Stock.{made_header, header_made}
use Rattle.header_core.specs.BufferHeader.{BufferHeader, fresh}
use Rattle.port_stock.specs.Blocks.{blocks_out, key_of}
use Rattle.port_stock.specs.Kept.{stocked}
use Rattle.port_stock.specs.Entries.{headers_of}
use Rattle.port_stock.specs.Conditions.{HasBlockFor, IsHeaderOf, IsOutside}
use Rattle.port_stock.proofs.Blocks.{blocks_kept, same_key, some_free, taken_out, turned_key}
use Rattle.port_stock.proofs.Reading.{key_shown, next_shown, view}
use Rattle.port_stock.proofs.Turning.{Turns, blocks_is, old, port_there}
use Rattle.port_stock.proofs.Adding.{gone_number, nothing_counted, peer_there, make_outside, make_turns, table_room}
use Rattle.port_stock.proofs.stock.Stock.make_header.Goals as goal
use Rattle.port_stock.proofs.stock.Stock.make_header.Goals.{After-new}

abbrev made_state : ℕ → PortKey → Option PortKey → Home → Owner → ℕ → Bool → HeaderState
made_state number port peer home owner size client_memory = record {
  number = number;
  port = port;
  peer = peer;
  home = home;
  owner = owner;
  queue = Out;
  size = size;
  client_memory = client_memory;
}

pub add-requires-clause-room : goal.add-requires-clause-room
add-requires-clause-room c = table_room (key_of c.self.inside.region) c.self.inside.ports.items c.self.inside.entries.items (blocks_out c.self.inside.region) c.self.inside.next _ c.self.invariant.0 (made_state c.self.inside.next c.args.port c.args.peer c.args.home c.owner_at.result c.args.size c.is_clients.result) refl refl _ c.self.inside.entries.ok.0 (rw c.self.view_is c.requires.port) (rw c.self.view_is c.requires.few)

pub recount-requires-clause-port : goal.recount-requires-clause-port
recount-requires-clause-port c = port_there (key_of c.self.inside.region) c.self.inside.ports.items c.self.inside.entries.items (blocks_out c.self.inside.region) c.self.inside.next _ c.self.invariant.0 c.args.port (rw c.self.view_is c.requires.port)

pub recount-requires-clause-peer : goal.recount-requires-clause-peer
recount-requires-clause-peer c = peer_there (key_of c.self.inside.region) c.self.inside.ports.items c.self.inside.entries.items (blocks_out c.self.inside.region) c.self.inside.next _ c.self.invariant.0 c.args.peer (rw c.self.view_is c.requires.peer)

pub overflow_add-self : goal.overflow_add-self
overflow_add-self c =
    let limit : (stocked (old (key_of c.self.inside.region) c.self.inside.ports.items c.self.inside.entries.items (blocks_out c.self.inside.region) c.self.inside.next _ c.self.invariant.0)).next < 18446744073709551615 = rw c.self.view_is c.requires.numbers in
    omega (arith, next_shown (old (key_of c.self.inside.region) c.self.inside.ports.items c.self.inside.entries.items (blocks_out c.self.inside.region) c.self.inside.next _ c.self.invariant.0))

pub recount-requires-clause-counted : goal.recount-requires-clause-counted
recount-requires-clause-counted c = nothing_counted (key_of c.self.inside.region) c.self.inside.ports.items c.self.inside.entries.items (blocks_out c.self.inside.region) c.self.inside.next _ c.self.invariant.0 (made_state c.self.inside.next c.args.port c.args.peer c.args.home c.owner_at.result c.args.size c.is_clients.result) refl refl

pub of-store-requires : goal.of-store-requires
of-store-requires c = λ none.
    let free : HasBlockFor None (stocked (old (key_of c.self.inside.region) c.self.inside.ports.items c.self.inside.entries.items (blocks_out c.self.inside.region) c.self.inside.next _ c.self.invariant.0)) = rw c.self.view_is (subst (λ (m : Option (List ℕ)). HasBlockFor m (stocked c.args.self.now)) none c.requires.block) in
    some_free c.self.inside.region _ (blocks_is (key_of c.self.inside.region) c.self.inside.ports.items c.self.inside.entries.items (blocks_out c.self.inside.region) c.self.inside.next _ c.self.invariant.0) free

clients : (c : After-new) → c.is_clients.result ≡ is_some c.args.memory
clients c = c.is_clients.ensures ∙ c.of-store.ensures.clients

-- the blocks that are out are those before, with that of the header
out : (c : After-new) → c.of-store.new.region.free + weight (not c.is_clients.result) ≡ c.self.inside.region.free
out c = subst (λ (b : Bool). c.of-store.new.region.free + weight (not b) ≡ c.self.inside.region.free) (sym (clients c)) c.of-store.ensures.free

turns : (c : After-new) → Turns (key_of c.self.inside.region) c.recount.new.ports.items c.add.new.entries.items (blocks_out c.of-store.new.region) (c.self.inside.next + 1) (vec_capacity c.add.new.entries) (header_made (made_state c.self.inside.next c.args.port c.args.peer c.args.home c.owner_at.result c.args.size c.is_clients.result) (stocked (old (key_of c.self.inside.region) c.self.inside.ports.items c.self.inside.entries.items (blocks_out c.self.inside.region) c.self.inside.next _ c.self.invariant.0)))
turns c =
    make_turns (key_of c.self.inside.region) c.self.inside.ports.items c.self.inside.entries.items (blocks_out c.self.inside.region) c.self.inside.next _ c.self.invariant.0 (made_state c.self.inside.next c.args.port c.args.peer c.args.home c.owner_at.result c.args.size c.is_clients.result) refl refl c.requires.home c.owner_at.ensures (rw c.self.view_is c.requires.port) (rw c.self.view_is c.requires.few) (rw c.self.view_is c.requires.few_of_peer)
    c.recount.new.ports.items c.add.new.entries.items (blocks_out c.of-store.new.region) _ c.add.ensures.headers c.add.ensures.kept (c.add.ensures.keys (key_of c.self.inside.region) c.self.invariant.0.keys) c.recount.ensures
    (taken_out c.self.inside.region c.of-store.new.region _ c.self.invariant.1.free (out c)) c.add.ensures.capacity

turned : (c : After-new) → Turns (key_of c.of-store.new.region) c.recount.new.ports.items c.add.new.entries.items (blocks_out c.of-store.new.region) (c.self.inside.next + 1) (vec_capacity c.add.new.entries) (header_made (made_state c.self.inside.next c.args.port c.args.peer c.args.home c.owner_at.result c.args.size c.is_clients.result) (stocked (old (key_of c.self.inside.region) c.self.inside.ports.items c.self.inside.entries.items (blocks_out c.self.inside.region) c.self.inside.next _ c.self.invariant.0)))
turned c = turned_key c.self.inside.region c.of-store.new.region c.recount.new.ports.items c.add.new.entries.items (blocks_out c.of-store.new.region) (c.self.inside.next + 1) _ _ c.of-store.ensures.same (turns c)

pub invariant_of-self : goal.invariant_of-self
invariant_of-self c =
    let few = c.self.invariant.1.free in
    let left = out c in
    ((turned c).lawful, blocks_kept c.self.inside.region c.of-store.new.region c.of-store.ensures.same (omega arith) c.self.invariant.1)

-- the state is the one that contracts name
named : (c : After-new) → (made_state c.self.inside.next c.args.port c.args.peer c.args.home c.owner_at.result c.args.size c.is_clients.result) ≡ made_header (stocked (old (key_of c.self.inside.region) c.self.inside.ports.items c.self.inside.entries.items (blocks_out c.self.inside.region) c.self.inside.next _ c.self.invariant.0)).next c.args.port c.args.peer c.args.home c.args.size (is_some c.args.memory)
named c = λ i. record {
  number = next_shown (old (key_of c.self.inside.region) c.self.inside.ports.items c.self.inside.entries.items (blocks_out c.self.inside.region) c.self.inside.next _ c.self.invariant.0) i;
  port = c.args.port;
  peer = c.args.peer;
  home = c.args.home;
  owner = c.owner_at.ensures i;
  queue = Out;
  size = c.args.size;
  client_memory = clients c i;
}

own : (c : After-new) → c.of.result ≡ key_of c.self.inside.region
own c = c.of.ensures ∙ same_key c.self.inside.region c.of-store.new.region c.of-store.ensures.same

-- the header is the one that contracts name
named_fresh : (c : After-new) → fresh c.of.result c.self.inside.next c.of-store.result c.args.size ≡ fresh (stocked (old (key_of c.self.inside.region) c.self.inside.ports.items c.self.inside.entries.items (blocks_out c.self.inside.region) c.self.inside.next _ c.self.invariant.0)).key (stocked (old (key_of c.self.inside.region) c.self.inside.ports.items c.self.inside.entries.items (blocks_out c.self.inside.region) c.self.inside.next _ c.self.invariant.0)).next c.new.result.store c.args.size
named_fresh c =
    let key = own c ∙ key_shown (old (key_of c.self.inside.region) c.self.inside.ports.items c.self.inside.entries.items (blocks_out c.self.inside.region) c.self.inside.next _ c.self.invariant.0) in
    let next = next_shown (old (key_of c.self.inside.region) c.self.inside.ports.items c.self.inside.entries.items (blocks_out c.self.inside.region) c.self.inside.next _ c.self.invariant.0) in
    let store : c.of-store.result ≡ c.new.result.store = sym (ap (λ (h : BufferHeader). h.store) c.new.ensures) in
    λ i. fresh (key i) (next i) (store i) c.args.size

pub returns-clause-header : goal.returns-clause-header
returns-clause-header c = rw (← c.self.view_is) (c.new.ensures ∙ named_fresh c)

pub returns-clause-new_number : goal.returns-clause-new_number
returns-clause-new_number c = rw (← c.self.view_is) (gone_number (key_of c.self.inside.region) c.self.inside.ports.items c.self.inside.entries.items (blocks_out c.self.inside.region) c.self.inside.next _ c.self.invariant.0 (made_state c.self.inside.next c.args.port c.args.peer c.args.home c.owner_at.result c.args.size c.is_clients.result) refl refl)

pub returns-clause-outside : goal.returns-clause-outside
returns-clause-outside c =
    let h : BufferHeader = fresh c.of.result c.self.inside.next c.of-store.result c.args.size in
    let fits : IsHeaderOf (made_state c.self.inside.next c.args.port c.args.peer c.args.home c.owner_at.result c.args.size c.is_clients.result) h = record { size = refl; memory = sym c.is_clients.ensures } in
    let outside = make_outside (key_of c.self.inside.region) c.self.inside.ports.items c.self.inside.entries.items (blocks_out c.self.inside.region) c.self.inside.next _ c.self.invariant.0 (made_state c.self.inside.next c.args.port c.args.peer c.args.home c.owner_at.result c.args.size c.is_clients.result) refl refl c.requires.home c.owner_at.ensures (rw c.self.view_is c.requires.port) (rw c.self.view_is c.requires.few) (rw c.self.view_is c.requires.few_of_peer)
    c.recount.new.ports.items c.add.new.entries.items (blocks_out c.of-store.new.region) _ h (turns c) refl (own c) fits in
    let now = sym (same_key c.self.inside.region c.of-store.new.region c.of-store.ensures.same) in
    rw c.new.ensures (subst (λ (key : ℕ). IsOutside h (stocked (view key c.recount.new.ports.items (headers_of c.add.new.entries.items) (c.self.inside.next + 1)))) now outside)

pub returns-clause-stock : goal.returns-clause-stock
returns-clause-stock c = rw (← c.self.view_is) ((turned c).is ∙ ap (λ (h : HeaderState). header_made h (stocked (old (key_of c.self.inside.region) c.self.inside.ports.items c.self.inside.entries.items (blocks_out c.self.inside.region) c.self.inside.next _ c.self.invariant.0))) (named c))

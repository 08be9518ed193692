-- The headers of a work land, in each flat list that the stock stands for.
use Rattle.std.proofs.Common.{◌≡◌, ℕ, ◌+◌, List, [], ◌∷◌, refl, ◌∙◌}
use Rattle.std.specs.Prelude.{Option, Some, None, MatchOption}
use Rattle.il_machine.specs.declared.port.PortKey.{PortKey}
use Rattle.il_machine.specs.declared.header.HeaderState.{HeaderState}
use Rattle.il_machine.specs.declared.header.Owner.TheVariants as owners
use Rattle.il_machine.specs.declared.header.Queue.TheVariants.{Out}
use Rattle.il_machine.specs.declared.header.Spot.TheVariants.{TodoFront, DoneBack}
use Rattle.il_machine.specs.Finishing.{Landing, Again, Onward, Noted, key_at, landing, load_after, landed_at as machine_landed_at, all_landed as machine_landed}
use Rattle.il_machine.specs.Stepping.{WorkDone}
use Rattle.il_machine.specs.Stock.{StandsFor, Stocked}
use Rattle.il_machine.specs.World.{Component, HeaderRecord, Load, Stream, number_of}
use Rattle.il_machine.specs.Claims.{CarriedHeader}
use Rattle.stock_laws.proofs.Composed.{give_loaded}
use Rattle.stock_laws.proofs.Standing.{push_stands}
use Rattle.header_core.specs.BufferHeader.{BufferHeader}
use Rattle.port_stock.specs.Conditions.{IsHeaderOf}
use Rattle.work_landing.specs.Landed.{AreHomeless, AreUnkept, IsHomeless, all_landed, landed_at, landed_by}
use Rattle.work_landing.specs.Places.{HaveOwnHeaders, EachFrom, IsOther, carried, carried_from}

-- the header of the number is out
pub record IsThere (k : Stocked) (n : ℕ) : Type 0 where
  pub state : HeaderState
  pub is : k.headers.header n ≡ Some state
  pub out : state.queue ≡ Out

there_by : (k : Stocked) (h : BufferHeader) (o : Option HeaderState) → k.headers.header h.held.number ≡ o → MatchOption o ⊥ (λ s. (s.queue ≡ Out) × IsHeaderOf s h) → IsThere k h.held.number
there_by k h None e x = absurd x
there_by k h (Some s) e x = record { state = s; is = e; out = x.0 }

pub there_of : (component port : ℕ) (k : Stocked) (h : BufferHeader) → IsHomeless component k port h → IsThere k h.held.number
there_of component port k h H = there_by k h (k.headers.header h.held.number) refl H.1.1

one_stands : (to : Landing) (c : Component) (x : CarriedHeader) (load : Load) (k : Stocked) (hs : List HeaderRecord) → StandsFor k hs → IsThere k x.header.number → k.loads x.header.number ≡ None
    → StandsFor (landed_by to (key_at c x) x.header.number load k) (machine_landed_at to c x load hs)
one_stands Again c x load k hs S T none = push_stands k hs (key_at c x) TodoFront x.header.number load T.state S T.is T.out
one_stands Onward c x load k hs S T none = push_stands k hs (key_at c x) DoneBack x.header.number load T.state S T.is T.out
one_stands Noted c x load k hs S T none = give_loaded k hs x.header.number (owners.Notice (number_of c)) load T.state S T.is T.out none

-- ---- the others are out as before

still_out : (component number : ℕ) (to : Landing) (key : PortKey) (load : Load) (k : Stocked) (port : ℕ) (x : BufferHeader) → IsOther number x
    → IsHomeless component k port x → IsHomeless component (landed_by to key number load k) port x
still_out component number Again key load k port x other is = rw other is
still_out component number Onward key load k port x other is = rw other is
still_out component number Noted key load k port x other is = rw other is

still_unkept : (number : ℕ) (to : Landing) (key : PortKey) (load : Load) (k : Stocked) (x : BufferHeader) → IsOther number x → k.loads x.held.number ≡ None → (landed_by to key number load k).loads x.held.number ≡ None
still_unkept number Again key load k x other is = rw other is
still_unkept number Onward key load k x other is = rw other is
still_unkept number Noted key load k x other is = is

all_still_out : (component number : ℕ) (to : Landing) (key : PortKey) (load : Load) (k : Stocked) (port first : ℕ) (places : List (Option BufferHeader))
    → EachFrom (λ port x. IsOther number x) first places → AreHomeless component port places k → AreHomeless component port places (landed_by to key number load k)
all_still_out component number to key load k port first [] others are = tt
all_still_out component number to key load k port first (None ∷ places) others are = (tt, all_still_out component number to key load k (port + 1) (first + 1) places others.1 are.1)
all_still_out component number to key load k port first (Some x ∷ places) others are =
    (still_out component number to key load k port x others.0 are.0, all_still_out component number to key load k (port + 1) (first + 1) places others.1 are.1)

abbrev UnkeptFrom : ℕ → List (Option BufferHeader) → Stocked → Type 0
UnkeptFrom port places k = EachFrom (λ port h. k.loads h.held.number ≡ None) port places

all_still_unkept : (number : ℕ) (to : Landing) (key : PortKey) (load : Load) (k : Stocked) (port first : ℕ) (places : List (Option BufferHeader))
    → EachFrom (λ port x. IsOther number x) first places → UnkeptFrom port places k → UnkeptFrom port places (landed_by to key number load k)
all_still_unkept number to key load k port first [] others are = tt
all_still_unkept number to key load k port first (None ∷ places) others are = (tt, all_still_unkept number to key load k (port + 1) (first + 1) places others.1 are.1)
all_still_unkept number to key load k port first (Some x ∷ places) others are =
    (still_unkept number to key load k x others.0 are.0, all_still_unkept number to key load k (port + 1) (first + 1) places others.1 are.1)

-- ---- all of them

stands_from : (c : Component) (s : Stream) (done : WorkDone) (port : ℕ) (places : List (Option BufferHeader)) (k : Stocked) (hs : List HeaderRecord) → StandsFor k hs → AreHomeless (number_of c) port places k → UnkeptFrom port places k → HaveOwnHeaders places
    → StandsFor (all_landed c s done (carried_from port places) k) (machine_landed c s done (carried_from port places) hs)
stands_from c s done port [] k hs S H U A = S
stands_from c s done port (None ∷ places) k hs S H U A = stands_from c s done (port + 1) places k hs S H.1 U.1 A.1
stands_from c s done port (Some h ∷ places) k hs S H U A =
    let x : CarriedHeader = carried port h in
    let n : ℕ = h.held.number in
    let to : Landing = landing c s done x in
    let load : Load = load_after c s done x in
    stands_from c s done (port + 1) places (landed_at c s done x k) (machine_landed_at to c x load hs)
    (one_stands to c x load k hs S (there_of (number_of c) port k h H.0) U.0)
    (all_still_out (number_of c) n to (key_at c x) load k (port + 1) 0 places A.0 H.1)
    (all_still_unkept n to (key_at c x) load k (port + 1) 0 places A.0 U.1) A.1

pub stands_landed : (c : Component) (s : Stream) (done : WorkDone) (places : List (Option BufferHeader)) (k : Stocked) (hs : List HeaderRecord) → StandsFor k hs → AreHomeless (number_of c) 0 places k → AreUnkept places k → HaveOwnHeaders places
    → StandsFor (all_landed c s done (carried_from 0 places) k) (machine_landed c s done (carried_from 0 places) hs)
stands_landed c s done places k hs S H U A = stands_from c s done 0 places k hs S H U A

-- ---- what stays

pub record Stays (k t : Stocked) : Type 0 where
  pub key : t.key ≡ k.key
  pub ports : t.ports ≡ k.ports
  pub next : t.next ≡ k.next

one_stays : (to : Landing) (key : PortKey) (n : ℕ) (load : Load) (k : Stocked) → Stays k (landed_by to key n load k)
one_stays Again key n load k = record { key = refl; ports = refl; next = refl }
one_stays Onward key n load k = record { key = refl; ports = refl; next = refl }
one_stays Noted key n load k = record { key = refl; ports = refl; next = refl }

-- the stock's key, its ports and its next number stay
pub landed_stays : (c : Component) (s : Stream) (done : WorkDone) (xs : List CarriedHeader) (k : Stocked) → Stays k (all_landed c s done xs k)
landed_stays c s done [] k = record { key = refl; ports = refl; next = refl }
landed_stays c s done (x ∷ xs) k =
    let a = one_stays (landing c s done x) (key_at c x) x.header.number (load_after c s done x) k in
    let b = landed_stays c s done xs (landed_at c s done x k) in
    record { key = b.key ∙ a.key; ports = b.ports ∙ a.ports; next = b.next ∙ a.next }

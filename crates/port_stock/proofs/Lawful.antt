-- What is true of the flat list of headers stays true in each change, and why there is room for each header.
use Rattle.std.proofs.Common.{◌≡◌, ℕ, ◌+◌, ◌*◌, ◌<◌, ◌≤◌, Bool, true, false, ◌&&◌, ◌||◌, List, [], ◌∷◌, ◌++◌, length, map, Option, Some, None, option_map, if◌then◌else◌, refl, sym, ◌∙◌, ap, arith, inl, inr, subst}
use Rattle.std.proofs.lemmas.Bool.Decides.{nat_tests}
use Rattle.il_machine.specs.declared.port.PortKey.{PortKey}
use Rattle.il_machine.specs.declared.port.Mark.{Mark}
use Rattle.il_machine.specs.declared.header.Home.{Home}
use Rattle.il_machine.specs.declared.header.Home.TheVariants as homes
use Rattle.il_machine.specs.declared.header.Owner.{Owner}
use Rattle.il_machine.specs.declared.header.Owner.TheVariants as owners
use Rattle.il_machine.specs.declared.header.Spot.{Spot}
use Rattle.il_machine.specs.declared.header.Spot.TheVariants.{TodoBack, TodoFront, DoneBack}
use Rattle.il_machine.specs.declared.header.HeaderState.{HeaderState}
use Rattle.il_machine.specs.World.{HeaderRecord, Load}
use Rattle.il_machine.specs.Headers.{at_spot, changed, count_headers, empty_load, find_header, given_to, has_number, is_for, is_key, is_owned_by, loaded, put, put_at, same_key, state_at, state_of, weight, without, Once}
use Rattle.il_machine.specs.Stock.{home_owner}
use Rattle.il_machine.specs.Due.{first_marked, marked}
use Rattle.stock_laws.specs.Changes.{cleared_where}
use Rattle.stock_laws.proofs.Flat.{count-append, count-without, find_number, find-without_same, once-append, once-changed, once-without}
use Rattle.stock_laws.proofs.Keys.{key_tells, same_key-sym}
use Rattle.stock_laws.proofs.Seeing.{count-at_spot}
use Rattle.stock_laws.proofs.Standing.{once-at_spot}
use Rattle.port_stock.specs.Conditions.{HasFewer, IsMadeForOwner, has_key, is_home_among, is_port}
use Rattle.port_stock.specs.Entries.{AreLawful, Each, record_out}
use Rattle.port_stock.proofs.Places.{Each-append}

-- ---- of each header

module _ (P : HeaderRecord → Type 0) where
  Each-find : (n : ℕ) (hs : List HeaderRecord) (r : HeaderRecord) → find_header n hs ≡ Some r → Each P hs → P r
  Each-find n [] r e E = absurd cc
  Each-find n (x ∷ hs) r e E = elim (has_number n x) as (λ v. (if v then Some x else find_header n hs) ≡ Some r → P r)
      [ true ↦ λ h. let same : x ≡ r = cc in subst P same E.0 | false ↦ λ h. Each-find n hs r h E.1 ] e

  Each-without : (n : ℕ) (hs : List HeaderRecord) → Each P hs → Each P (without n hs)
  Each-without n [] E = tt
  Each-without n (x ∷ hs) E = elim (has_number n x) as (λ v. Each P (if v then hs else x ∷ without n hs)) [ true ↦ E.1 | false ↦ (E.0, Each-without n hs E.1) ]

  Each-changed : (n : ℕ) (f : HeaderRecord → HeaderRecord) (hs : List HeaderRecord) → ((r : HeaderRecord) → P r → P (f r)) → Each P hs → Each P (changed n f hs)
  Each-changed n f [] k E = tt
  Each-changed n f (x ∷ hs) k E = elim (has_number n x) as (λ v. Each P (if v then f x ∷ hs else x ∷ changed n f hs)) [ true ↦ (k x E.0, E.1) | false ↦ (E.0, Each-changed n f hs k E.1) ]

  Each-map : (f : HeaderRecord → HeaderRecord) (hs : List HeaderRecord) → ((r : HeaderRecord) → P r → P (f r)) → Each P hs → Each P (map f hs)
  Each-map f [] k E = tt
  Each-map f (x ∷ hs) k E = (k x E.0, Each-map f hs k E.1)

  Each-at_spot : (spot : Spot) (r : HeaderRecord) (hs : List HeaderRecord) → Each P hs → P r → Each P (at_spot spot r hs)
  Each-at_spot TodoBack r hs E p = Each-append P hs r E p
  Each-at_spot TodoFront r hs E p = (p, E)
  Each-at_spot DoneBack r hs E p = Each-append P hs r E p

abbrev IsNumbered : ℕ → HeaderRecord → Type 0
IsNumbered next r = r.state.number < next

abbrev IsPlaced : List PortKey → HeaderRecord → Type 0
IsPlaced ports r = has_key r.state.port ports ≡ true

abbrev IsOwned : HeaderRecord → Type 0
IsOwned r = IsMadeForOwner r.state

-- ---- a header goes to an owner

-- to a port that it was made for
pub put_owned : (key : PortKey) (spot : Spot) (h : HeaderState) → is_for key h ≡ true → IsMadeForOwner (state_at key spot h)
put_owned key spot h f k o = elim (key_tells key k) [
  | inl x ↦ subst (λ (q : PortKey). is_for q h ≡ true) x.1 f
  | inr x ↦ absurd (let z : false ≡ true = sym x.0 ∙ o in cc)
]

-- to one that is no port
pub no_port_owns : (key : PortKey) (owner : Owner) → is_port owner ≡ false → is_owned_by key owner ≡ true → ⊥
no_port_owns key (owners.Port p) f o = absurd cc
no_port_owns key owners.Client f o = absurd cc
no_port_owns key (owners.Work u) f o = absurd cc
no_port_owns key (owners.Notice c) f o = absurd cc

-- to its home
home_for : (h : HeaderState) (key : PortKey) (home : Home) → is_home_among h.port h.peer home ≡ true → is_owned_by key (home_owner home) ≡ true → is_for key h ≡ true
home_for h key homes.Client m o = absurd cc
home_for h key (homes.Port p) m o = elim (key_tells p key) [
  | inl x ↦ ap (λ (b : Bool). b || is_key key h.peer) (same_key-sym h.port key) ∙ subst (λ (q : PortKey). (same_key q h.port || is_key q h.peer) ≡ true) x.1 m
  | inr x ↦ absurd (let z : false ≡ true = sym x.0 ∙ o in cc)
]

pub home_owned : (h : HeaderState) → is_home_among h.port h.peer h.home ≡ true → h.owner ≡ home_owner h.home → IsMadeForOwner h
home_owned h m e key o = home_for h key h.home m (sym (ap (is_owned_by key) e) ∙ o)

-- ---- a header is put, made and unmade

count_found : (test : HeaderState → Bool) (n : ℕ) (f : HeaderRecord → HeaderRecord) (hs : List HeaderRecord) → test ≡ test → ((r : HeaderRecord) → test (f r).state ≡ test r.state) → count_headers test (changed n f hs) ≡ count_headers test hs
count_found test n f [] t k = refl
count_found test n f (x ∷ hs) t k = elim (has_number n x) as (λ v. count_headers test (if v then f x ∷ hs else x ∷ changed n f hs) ≡ weight (test x.state) + count_headers test hs)
    [ true ↦ rw (k x) refl | false ↦ ap (λ c. weight (test x.state) + c) (count_found test n f hs t k) ]

pub put_lawful : (ports : List PortKey) (next : ℕ) (hs : List HeaderRecord) (key : PortKey) (spot : Spot) (n : ℕ) (load : Load) (r : HeaderRecord) → find_header n hs ≡ Some r
    → is_for key r.state ≡ true → AreLawful ports next hs → AreLawful ports next (put key spot n (loaded load) hs)
put_lawful ports next hs key spot n load r e f L =
    let y = put_at key spot (loaded load r) in
    let num : y.state.number ≡ n = find_number n hs r e in
    let gone : find_header y.state.number (without n hs) ≡ None = rw num (find-without_same n hs L.once) in
    let T : AreLawful ports next (at_spot spot y (without n hs)) = record {
      once = once-at_spot spot y (without n hs) (once-without n hs L.once) gone;
      numbered = Each-at_spot (IsNumbered next) spot y (without n hs) (Each-without (IsNumbered next) n hs L.numbered) (Each-find (IsNumbered next) n hs r e L.numbered);
      placed = Each-at_spot (IsPlaced ports) spot y (without n hs) (Each-without (IsPlaced ports) n hs L.placed) (Each-find (IsPlaced ports) n hs r e L.placed);
      few = λ k.
          let a = count-at_spot spot (is_for k) y (without n hs) in
          let b = count-without (is_for k) n hs r e in
          let c = L.few k in
          omega arith;
      owned = Each-at_spot IsOwned spot y (without n hs) (Each-without IsOwned n hs L.owned) (put_owned key spot r.state f);
    } in
    rw e T

pub without_lawful : (ports : List PortKey) (next : ℕ) (hs : List HeaderRecord) (n : ℕ) (r : HeaderRecord) → find_header n hs ≡ Some r → AreLawful ports next hs → AreLawful ports next (without n hs)
without_lawful ports next hs n r e L = record {
  once = once-without n hs L.once;
  numbered = Each-without (IsNumbered next) n hs L.numbered;
  placed = Each-without (IsPlaced ports) n hs L.placed;
  few = λ k. let b = count-without (is_for k) n hs r e in let c = L.few k in omega arith;
  owned = Each-without IsOwned n hs L.owned;
}

-- the change keeps number and ports, and gives no port a header that wasn't made for it
pub record KeepsPorts (f : HeaderRecord → HeaderRecord) : Type 0 where
  pub number : (r : HeaderRecord) → (f r).state.number ≡ r.state.number
  pub port : (r : HeaderRecord) → (f r).state.port ≡ r.state.port
  pub peer : (r : HeaderRecord) → (f r).state.peer ≡ r.state.peer
  pub owned : (r : HeaderRecord) → IsOwned r → IsOwned (f r)

keeps_for : (f : HeaderRecord → HeaderRecord) (k : PortKey) (r : HeaderRecord) → KeepsPorts f → is_for k (f r).state ≡ is_for k r.state
keeps_for f k r K = rw (K.port r, K.peer r) refl

pub changed_lawful : (ports : List PortKey) (next : ℕ) (hs : List HeaderRecord) (n : ℕ) (f : HeaderRecord → HeaderRecord) → KeepsPorts f → AreLawful ports next hs → AreLawful ports next (changed n f hs)
changed_lawful ports next hs n f K L = record {
  once = once-changed n f hs K.number L.once;
  numbered = Each-changed (IsNumbered next) n f hs (λ r p. rw (K.number r) p) L.numbered;
  placed = Each-changed (IsPlaced ports) n f hs (λ r p. rw (K.port r) p) L.placed;
  few = λ k. rw (count_found (is_for k) n f hs refl (λ r. keeps_for f k r K)) (L.few k);
  owned = Each-changed IsOwned n f hs K.owned L.owned;
}

out_keeps : KeepsPorts record_out
out_keeps = record { number = λ r. refl; port = λ r. refl; peer = λ r. refl; owned = λ r p. p }

pub out_lawful : (ports : List PortKey) (next : ℕ) (hs : List HeaderRecord) (n : ℕ) → AreLawful ports next hs → AreLawful ports next (changed n record_out hs)
out_lawful ports next hs n L = changed_lawful ports next hs n record_out out_keeps L

pub give_lawful : (ports : List PortKey) (next : ℕ) (hs : List HeaderRecord) (n : ℕ) (owner : Owner) → is_port owner ≡ false → AreLawful ports next hs → AreLawful ports next (changed n (given_to owner) hs)
give_lawful ports next hs n owner free L = changed_lawful ports next hs n (given_to owner) (record { number = λ r. refl; port = λ r. refl; peer = λ r. refl; owned = λ r p key o. absurd (no_port_owns key owner free o) }) L

pub mark_lawful : (ports : List PortKey) (next : ℕ) (hs : List HeaderRecord) (ns : List ℕ) (mark : Mark) → AreLawful ports next hs → AreLawful ports next (first_marked ns (Some mark) hs)
mark_lawful ports next hs [] mark L = L
mark_lawful ports next hs (n ∷ ns) mark L = changed_lawful ports next hs n (marked (Some mark)) (record { number = λ r. refl; port = λ r. refl; peer = λ r. refl; owned = λ r p. p }) L

-- ---- headers are cleared where they stand

where_number : (b : Bool) (r : HeaderRecord) → (cleared_where b r).state ≡ r.state
where_number true r = refl
where_number false r = refl

find_where : (q : HeaderRecord → Bool) (m : ℕ) (hs : List HeaderRecord) → find_header m hs ≡ None → find_header m (map (λ r. cleared_where (q r) r) hs) ≡ None
find_where q m [] h = refl
find_where q m (x ∷ hs) h = rw (where_number (q x) x) (elim (has_number m x) as (λ v. (if v then Some x else find_header m hs) ≡ None → (if v then Some (cleared_where (q x) x) else find_header m (map (λ r. cleared_where (q r) r) hs)) ≡ None)
    [ true ↦ λ e. absurd cc | false ↦ λ e. find_where q m hs e ] h)

pub once_where : (q : HeaderRecord → Bool) (hs : List HeaderRecord) → Once hs → Once (map (λ r. cleared_where (q r) r) hs)
once_where q [] o = tt
once_where q (x ∷ hs) o = (rw (where_number (q x) x) (find_where q x.state.number hs o.0), once_where q hs o.1)

count_where : (q : HeaderRecord → Bool) (test : HeaderState → Bool) (hs : List HeaderRecord) → count_headers test (map (λ r. cleared_where (q r) r) hs) ≡ count_headers test hs
count_where q test [] = refl
count_where q test (x ∷ hs) = rw (where_number (q x) x, count_where q test hs) refl

pub clear_lawful : (ports : List PortKey) (next : ℕ) (hs : List HeaderRecord) (q : HeaderRecord → Bool) → AreLawful ports next hs → AreLawful ports next (map (λ r. cleared_where (q r) r) hs)
clear_lawful ports next hs q L = record {
  once = once_where q hs L.once;
  numbered = Each-map (IsNumbered next) (λ r. cleared_where (q r) r) hs (λ r p. rw (where_number (q r) r) p) L.numbered;
  placed = Each-map (IsPlaced ports) (λ r. cleared_where (q r) r) hs (λ r p. rw (where_number (q r) r) p) L.placed;
  few = λ k. rw (count_where q (is_for k) hs) (L.few k);
  owned = Each-map IsOwned (λ r. cleared_where (q r) r) hs (λ r p. subst IsMadeForOwner (sym (where_number (q r) r)) p) L.owned;
}

-- ---- a header is made

fresh_by : (next m : ℕ) (hs : List HeaderRecord) → next ≤ m → Each (IsNumbered next) hs → find_header m hs ≡ None
fresh_by next m [] l E = refl
fresh_by next m (x ∷ hs) l E = let i = fresh_by next m hs l E.1 in let b = E.0 in grind (arith, nat_tests)

pub fresh_number : (ports : List PortKey) (next : ℕ) (hs : List HeaderRecord) → AreLawful ports next hs → find_header next hs ≡ None
fresh_number ports next hs L = fresh_by next next hs (omega arith) L.numbered

numbered_more : (next : ℕ) (hs : List HeaderRecord) → Each (IsNumbered next) hs → Each (IsNumbered (next + 1)) hs
numbered_more next [] E = tt
numbered_more next (x ∷ hs) E = (omega (arith, E.0), numbered_more next hs E.1)

pub weight_one : (b : Bool) → weight b ≤ 1
weight_one true = omega arith
weight_one false = omega arith

few_peer : (hs : List HeaderRecord) (peer : Option PortKey) (k : PortKey) → count_headers (is_for k) hs ≤ 32 → HasFewer (λ key. count_headers (is_for key) hs) peer → count_headers (is_for k) hs + weight (is_key k peer) ≤ 32
few_peer hs None k l b = omega arith
few_peer hs (Some p) k l b = elim (key_tells p k) [
  | inl x ↦ let c : count_headers (is_for k) hs < 32 = subst (λ (q : PortKey). count_headers (is_for q) hs < 32) x.1 b in let w = weight_one (same_key p k) in omega arith
  | inr x ↦ rw x.0 (omega arith)
]

few_made : (hs : List HeaderRecord) (state : HeaderState) (k : PortKey) → count_headers (is_for k) hs ≤ 32 → count_headers (is_for state.port) hs < 32 → HasFewer (λ key. count_headers (is_for key) hs) state.peer
    → count_headers (is_for k) hs + weight (is_for k state) ≤ 32
few_made hs state k l a b = elim (key_tells state.port k) [
  | inl x ↦ let c : count_headers (is_for k) hs < 32 = subst (λ (q : PortKey). count_headers (is_for q) hs < 32) x.1 a in let w = weight_one (is_for k state) in omega arith
  | inr x ↦ rw x.0 (few_peer hs state.peer k l b)
]

pub make_lawful : (ports : List PortKey) (next : ℕ) (hs : List HeaderRecord) (state : HeaderState) → state.number ≡ next → has_key state.port ports ≡ true
    → is_home_among state.port state.peer state.home ≡ true → state.owner ≡ home_owner state.home
    → count_headers (is_for state.port) hs < 32 → HasFewer (λ key. count_headers (is_for key) hs) state.peer → AreLawful ports next hs → AreLawful ports (next + 1) (hs ++ record { state = state; load = empty_load None } ∷ [])
make_lawful ports next hs state num there home owner a b L =
    let x : HeaderRecord = record { state = state; load = empty_load None } in
    let gone : find_header x.state.number hs ≡ None = rw num (fresh_number ports next hs L) in
    record {
      once = once-append hs x L.once gone;
      numbered = Each-append (IsNumbered (next + 1)) hs x (numbered_more next hs L.numbered) (omega (arith, num));
      placed = Each-append (IsPlaced ports) hs x L.placed there;
      few = λ k. rw (count-append (is_for k) hs x) (few_made hs state k (L.few k) a b);
      owned = Each-append IsOwned hs x L.owned (home_owned state home owner);
    }

-- ---- each header that a port has was made for that port

owned_state : (o : Option HeaderRecord) (h : HeaderState) → ((r : HeaderRecord) → o ≡ Some r → IsOwned r) → option_map state_of o ≡ Some h → IsMadeForOwner h
owned_state None h k e = absurd cc
owned_state (Some r) h k e = let q : r.state ≡ h = cc in subst IsMadeForOwner q (k r refl)

pub lawful_owner : (ports : List PortKey) (next : ℕ) (hs : List HeaderRecord) (n : ℕ) (h : HeaderState) → AreLawful ports next hs → option_map state_of (find_header n hs) ≡ Some h → IsMadeForOwner h
lawful_owner ports next hs n h L e = owned_state (find_header n hs) h (λ r x. Each-find IsOwned n hs r x L.owned) e

-- ---- room

abbrev port_in : List PortKey → HeaderState → Bool
port_in ports h = has_key h.port ports

abbrev port_is : PortKey → HeaderState → Bool
port_is key h = same_key h.port key

weight_or : (a b : Bool) → weight (a || b) ≤ weight a + weight b
weight_or true b = omega arith
weight_or false b = omega arith

weight_part : (a b : Bool) → weight a ≤ weight (a || b)
weight_part true b = omega arith
weight_part false b = omega arith

port_split : (key : PortKey) (ports : List PortKey) (hs : List HeaderRecord) → count_headers (port_in (key ∷ ports)) hs ≤ count_headers (port_is key) hs + count_headers (port_in ports) hs
port_split key ports [] = omega arith
port_split key ports (x ∷ hs) = let i = port_split key ports hs in let w = weight_or (same_key x.state.port key) (has_key x.state.port ports) in omega arith

port_made : (key : PortKey) (hs : List HeaderRecord) → count_headers (port_is key) hs ≤ count_headers (is_for key) hs
port_made key [] = omega arith
port_made key (x ∷ hs) = let i = port_made key hs in let w = weight_part (same_key x.state.port key) (is_key key x.state.peer) in omega arith

none_in : (hs : List HeaderRecord) → count_headers (port_in []) hs ≡ 0
none_in [] = refl
none_in (x ∷ hs) = omega (arith, none_in hs)

ports_full : (ports : List PortKey) (hs : List HeaderRecord) → ((key : PortKey) → count_headers (is_for key) hs ≤ 32) → count_headers (port_in ports) hs ≤ 32 * length ports
ports_full [] hs few = let z = none_in hs in omega arith
ports_full (p ∷ ports) hs few =
    let i = ports_full ports hs few in
    let a = port_split p ports hs in
    let b = port_made p hs in
    let c = few p in
    omega arith

ports_room : (key : PortKey) (ports : List PortKey) (hs : List HeaderRecord) → has_key key ports ≡ true → count_headers (is_for key) hs < 32 → ((key : PortKey) → count_headers (is_for key) hs ≤ 32)
    → count_headers (port_in ports) hs < 32 * length ports
ports_room key [] hs h l few = absurd cc
ports_room key (p ∷ ports) hs h l few =
    let a = port_split p ports hs in
    let b = port_made p hs in
    let c = few p in
    elim (key_tells key p) [
      | inl x ↦
          let d : count_headers (is_for p) hs < 32 = subst (λ (q : PortKey). count_headers (is_for q) hs < 32) x.1 l in
          let i = ports_full ports hs few in
          omega arith
      | inr x ↦
          let rest : has_key key ports ≡ true = rw x.0 at h in
          let i = ports_room key ports hs rest l few in
          omega arith
    ]

all_placed : (ports : List PortKey) (hs : List HeaderRecord) → Each (IsPlaced ports) hs → count_headers (port_in ports) hs ≡ length hs
all_placed ports [] E = refl
all_placed ports (x ∷ hs) E = let i = all_placed ports hs E.1 in let t : has_key x.state.port ports ≡ true = E.0 in rw t (omega arith)

-- where fewer than 32 headers are made for a port, there is a place for one more
pub lawful_room : (ports : List PortKey) (next : ℕ) (hs : List HeaderRecord) (key : PortKey) → AreLawful ports next hs → has_key key ports ≡ true → count_headers (is_for key) hs < 32 → length hs < 32 * length ports
lawful_room ports next hs key L h l =
    let a = ports_room key ports hs h l L.few in
    let b = all_placed ports hs L.placed in
    omega arith

weight_and : (a b : Bool) → weight (a && b) ≤ weight a
weight_and true b = weight_one b
weight_and false b = omega arith

-- those that pass a further test are no more
pub count_and : (p q : HeaderState → Bool) (hs : List HeaderRecord) → count_headers (λ h. p h && q h) hs ≤ count_headers p hs
count_and p q [] = omega arith
count_and p q (x ∷ hs) = let i = count_and p q hs in let w = weight_and (p x.state) (q x.state) in omega arith

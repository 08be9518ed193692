-- Ports are added and taken away, and a stock begins and ends.
use Rattle.std.proofs.Common.{◌≡◌, ℕ, zero, suc, ◌+◌, ◌≤◌, Bool, true, false, not, ◌||◌, nat_eq, List, [], ◌∷◌, ◌++◌, length, filter, Some, None, option_map, refl, sym, ◌∙◌, ap, arith, subst}
use Rattle.std.proofs.lemmas.Bool.Decides.{nat_tests}
use Rattle.il_machine.specs.declared.port.PortKey.{PortKey}
use Rattle.il_machine.specs.World.{HeaderRecord}
use Rattle.il_machine.specs.Headers.{count_headers, find_header, is_for, same_key, state_of, weight, Once}
use Rattle.il_machine.specs.Stock.{added, keys_from, no_stock, removed}
use Rattle.stock_laws.proofs.Flat.{count-without}
use Rattle.stock_laws.proofs.Keys.{same_key-refl}
use Rattle.stock_laws.proofs.Leaving.{front_step}
use Rattle.port_stock.specs.Kept.{Flat, of_flat}
use Rattle.port_stock.specs.Conditions.{IsPort, IsUnmade, has_key}
use Rattle.port_stock.specs.Entries.{AreLawful, Each}
use Rattle.port_stock.proofs.Stocking.{kept, reads, of_flat-is}
use Rattle.port_stock.proofs.Calls.{Becomes, count_read}

-- ---- ports are added

has_more : (key : PortKey) (ports more : List PortKey) → has_key key ports ≡ true → has_key key (ports ++ more) ≡ true
has_more key [] more h = absurd cc
has_more key (p ∷ ports) more h = elim (same_key key p) as (λ v. (v || has_key key ports) ≡ true → (v || has_key key (ports ++ more)) ≡ true) [ true ↦ λ e. refl | false ↦ λ e. has_more key ports more e ] h

placed_more : (ports more : List PortKey) (hs : List HeaderRecord) → Each (λ r. has_key r.state.port ports ≡ true) hs → Each (λ r. has_key r.state.port (ports ++ more) ≡ true) hs
placed_more ports more [] E = tt
placed_more ports more (r ∷ hs) E = (has_more r.state.port ports more E.0, placed_more ports more hs E.1)

pub add_becomes : (k : Flat) (ports : List PortKey) (component count : ℕ) → AreLawful k.ports k.next k.headers → ports ≡ k.ports ++ keys_from component 0 count
    → Becomes k.key ports k.headers k.next (added component count (of_flat k))
add_becomes k ports component count L h =
    let R = reads k in
    let P : List PortKey → Type 0 = λ v. AreLawful v k.next k.headers in
    record {
      lawful = subst P (sym h) (record { once = L.once; numbered = L.numbered; placed = placed_more k.ports (keys_from component 0 count) k.headers L.placed; few = L.few; owned = L.owned });
      is = of_flat-is k.key ports k.headers k.next _ (record { key = R.key; ports = h ∙ ap (λ (v : List PortKey). v ++ keys_from component 0 count) R.ports; looks = R.looks; loads = R.loads; next = R.next });
    }

pub keys_length : (component index count : ℕ) → length (keys_from component index count) ≡ count
keys_length component index zero = refl
keys_length component index (suc count) = omega (arith, keys_length component (index + 1) count)

-- ---- ports are taken away

abbrev pub is_left : ℕ → PortKey → Bool
is_left component key = not (nat_eq key.component component)

has_left : (component : ℕ) (key : PortKey) (ports : List PortKey) → is_left component key ≡ true → has_key key ports ≡ true → has_key key (filter (is_left component) ports) ≡ true
has_left component key [] l h = absurd cc
has_left component key (p ∷ ports) l h = grind (arith, nat_tests, has_left component key ports l)

pub left_length : (component : ℕ) (ports : List PortKey) → length (filter (is_left component) ports) ≤ length ports
left_length component [] = omega arith
left_length component (p ∷ ports) = let i = left_length component ports in grind (arith, nat_tests)

-- what is true of every header that its number finds is true of each
each_found : (P : HeaderRecord → Type 0) (hs : List HeaderRecord) → Once hs → ((n : ℕ) (r : HeaderRecord) → find_header n hs ≡ Some r → P r) → Each P hs
each_found P [] o h = tt
each_found P (r ∷ hs) o h = (h r.state.number r (grind (arith, nat_tests)), each_found P hs o.1 (λ n x e. h n x (front_step n r hs x o.0 e)))

each_with : (P Q : HeaderRecord → Type 0) (hs : List HeaderRecord) → Each P hs → Each Q hs → Each (λ r. P r × Q r) hs
each_with P Q [] p q = tt
each_with P Q (r ∷ hs) p q = ((p.0, q.0), each_with P Q hs p.1 q.1)

each_then : (P Q : HeaderRecord → Type 0) (hs : List HeaderRecord) → ((r : HeaderRecord) → P r → Q r) → Each P hs → Each Q hs
each_then P Q [] k p = tt
each_then P Q (r ∷ hs) k p = (k r p.0, each_then P Q hs k p.1)

made_for_port : (hs : List HeaderRecord) (n : ℕ) (r : HeaderRecord) → find_header n hs ≡ Some r → 1 ≤ count_headers (is_for r.state.port) hs
made_for_port hs n r e =
    let c = count-without (is_for r.state.port) n hs r e in
    let w : weight (is_for r.state.port r.state) ≡ 1 = rw (same_key-refl r.state.port) refl in
    omega arith

left_by : (component : ℕ) (k : Flat) (r : HeaderRecord) → IsUnmade component (of_flat k) → has_key r.state.port k.ports ≡ true → 1 ≤ count_headers (is_for r.state.port) k.headers → is_left component r.state.port ≡ true
left_by component k r U h m =
    let p : IsPort r.state.port (of_flat k) = sym (ap (has_key r.state.port) (reads k).ports) ∙ h in
    let no : r.state.port.component ≡ component → ⊥ = λ e.
    let z = U r.state.port p e in
    let c = count_read k (is_for r.state.port) in
    omega arith in
    grind (arith, nat_tests)

left_lawful : (component : ℕ) (k : Flat) → IsUnmade component (of_flat k) → AreLawful k.ports k.next k.headers → AreLawful (filter (is_left component) k.ports) k.next k.headers
left_lawful component k U L =
    let M : HeaderRecord → Type 0 = λ r. 1 ≤ count_headers (is_for r.state.port) k.headers in
    let H : HeaderRecord → Type 0 = λ r. has_key r.state.port k.ports ≡ true in
    record {
      once = L.once;
      numbered = L.numbered;
      placed = each_then (λ r. H r × M r) (λ r. has_key r.state.port (filter (is_left component) k.ports) ≡ true) k.headers
          (λ r p. has_left component r.state.port k.ports (left_by component k r U p.0 p.1) p.0)
          (each_with H M k.headers L.placed (each_found M k.headers L.once (made_for_port k.headers)));
      few = L.few;
      owned = L.owned;
    }

pub remove_becomes : (k : Flat) (ports : List PortKey) (component : ℕ) → AreLawful k.ports k.next k.headers → IsUnmade component (of_flat k) → ports ≡ filter (is_left component) k.ports
    → Becomes k.key ports k.headers k.next (removed component (of_flat k))
remove_becomes k ports component L U h =
    let R = reads k in
    let P : List PortKey → Type 0 = λ v. AreLawful v k.next k.headers in
    record {
      lawful = subst P (sym h) (left_lawful component k U L);
      is = of_flat-is k.key ports k.headers k.next _ (record { key = R.key; ports = h ∙ ap (filter (is_left component)) R.ports; looks = R.looks; loads = R.loads; next = R.next });
    }

-- ---- a stock begins and ends

pub begins : (key : ℕ) → of_flat (kept key [] [] 0) ≡ no_stock (of_flat (kept key [] [] 0)).key
begins key = of_flat-is key [] [] 0 (no_stock key) (record { key = refl; ports = refl; looks = refl; loads = λ n. refl; next = refl }) ∙ ap no_stock (reads (kept key [] [] 0)).key

pub none_left : (hs : List HeaderRecord) → ((n : ℕ) → option_map state_of (find_header n hs) ≡ None) → hs ≡ []
none_left [] h = refl
none_left (r ∷ hs) h =
    let some : find_header r.state.number (r ∷ hs) ≡ Some r = grind (arith, nat_tests) in
    let none : option_map state_of (Some r) ≡ None = sym (ap (option_map state_of) some) ∙ h r.state.number in
    absurd cc

-- Headers that go out with a work: what their stock stands for then, and their numbers.
use Rattle.std.proofs.Common.{◌++◌, zero, suc, set, take, drop, ◌-◌, add-one, ◌≡◌, ℕ, ◌+◌, ◌≤◌, ◌<◌, Bool, true, false, List, [], ◌∷◌, length, map, filter, slice_get, Option, Some, option_map, if◌then◌else◌, refl, sym, ◌∙◌, ap, subst, arith}
use Rattle.std.proofs.lemmas.Bool.Decides.{nat_tests}
use Rattle.std.proofs.lemmas.List.{take_all, take_more_set}
use Rattle.il_machine.specs.declared.port.Port.{Port}
use Rattle.il_machine.specs.declared.port.PortKey.{PortKey}
use Rattle.il_machine.specs.declared.port.PortSetting.{PortSetting}
use Rattle.il_machine.specs.declared.port.PortState.{PortState}
use Rattle.il_machine.specs.declared.header.Owner.TheVariants as owners
use Rattle.il_machine.specs.World.{Component, HeaderRecord, Picked, number_of, ports_from, ports_of}
use Rattle.il_machine.specs.Headers.{Seen, changed, given_to, same_key}
use Rattle.il_machine.specs.Stock.{Stocked, StandsFor, header_given, todo_pulled, todo_front_pulled}
use Rattle.il_machine.specs.Claims.{all_given_out, first_picked, gives_header, must_announce, picked, wanted, work_of}
use Rattle.stock_laws.proofs.Composed.{pull_give_on}
use Rattle.header_core.specs.BufferHeader.{BufferHeader}
use Rattle.port_stock.specs.Conditions.{IsPort, number_of as header_number}
use Rattle.il_component.specs.Works.{picked_at, picked_from, work_with}
use Rattle.graph_core.specs.Claiming.{AreFree, AreFronts, ArePorts, HasFronts, IsFrontWhere, all_out, front_given, gives_to, goes_out, key_at, out_where}

-- ---- the lists of other ports stay

pulled_todo : (key k : PortKey) (ns : List ℕ) (s : Stocked) → same_key k key ≡ false → (todo_front_pulled key ns s).headers.todo k ≡ s.headers.todo k
pulled_todo key k [] s a = refl
pulled_todo key k (n ∷ ns) s a = rw a refl

given_todo : (key k : PortKey) (ns : List ℕ) (s : Stocked) → same_key k key ≡ false → (front_given key ns s).headers.todo k ≡ s.headers.todo k
given_todo key k [] s a = refl
given_todo key k (n ∷ ns) s a = pulled_todo key k (s.headers.todo key) s a

where_todo : (gives : Bool) (key k : PortKey) (s : Stocked) → same_key k key ≡ false → (out_where gives key s).headers.todo k ≡ s.headers.todo k
where_todo true key k s a = given_todo key k (s.headers.todo key) s a
where_todo false key k s a = refl

apart_ports : (component a b : ℕ) → a < b → same_key (key_at component b) (key_at component a) ≡ false
apart_ports component a b l = grind (arith, nat_tests)

-- from the port on the lists are those that were seen
abbrev pub Agree : ℕ → ℕ → Stocked → Seen → Type 0
Agree component from s t = (port : ℕ) → from ≤ port → s.headers.todo (key_at component port) ≡ t.todo (key_at component port)

pub agree_next : (component port : ℕ) (gives : Bool) (s : Stocked) (t : Seen) → Agree component port s t → Agree component (port + 1) (out_where gives (key_at component port) s) t
agree_next component port gives s t A = λ q b. where_todo gives (key_at component port) (key_at component q) s (apart_ports component port q (omega arith)) ∙ A q (omega arith)

-- ---- the key, the ports and the next number stay

pub record Stays (s t : Stocked) : Type 0 where
  pub key : t.key ≡ s.key
  pub ports : t.ports ≡ s.ports
  pub next : t.next ≡ s.next

stays : (s : Stocked) → Stays s s
stays s = record { key = refl; ports = refl; next = refl }

pulled_stays : (key : PortKey) (ns : List ℕ) (s : Stocked) → Stays s (todo_front_pulled key ns s)
pulled_stays key [] s = stays s
pulled_stays key (n ∷ ns) s = record { key = refl; ports = refl; next = refl }

pub given_stays : (key : PortKey) (ns : List ℕ) (s : Stocked) → Stays s (front_given key ns s)
given_stays key [] s = stays s
given_stays key (n ∷ ns) s = let P = pulled_stays key (s.headers.todo key) s in record { key = P.key; ports = P.ports; next = P.next }

where_stays : (gives : Bool) (key : PortKey) (s : Stocked) → Stays s (out_where gives key s)
where_stays true key s = given_stays key (s.headers.todo key) s
where_stays false key s = stays s

pub out_stays : (component port : ℕ) (flags : List Bool) (s : Stocked) → Stays s (all_out component port flags s)
out_stays component port [] s = stays s
out_stays component port (gives ∷ flags) s =
    let a = where_stays gives (key_at component port) s in
    let b = out_stays component (port + 1) flags (out_where gives (key_at component port) s) in
    record { key = b.key ∙ a.key; ports = b.ports ∙ a.ports; next = b.next ∙ a.next }

-- ---- flat lists

abbrev Rest : ℕ → ℕ → List Bool → List Port → Seen → Type 0
Rest component port flags ports t = (s : Stocked) (hs : List HeaderRecord) → StandsFor s hs → Agree component port s t → StandsFor (all_out component port flags s) (all_given_out component (picked t ports) hs)

first_stands : (component index : ℕ) (p : Port) (flags : List Bool) (ports : List Port) (s : Stocked) (hs : List HeaderRecord) (t : Seen) (ns : List ℕ) → StandsFor s hs → s.headers.todo (key_at component index) ≡ ns
    → Agree component (index + 1) (front_given (key_at component index) ns s) t → Rest component (index + 1) flags ports t
    → StandsFor (all_out component (index + 1) flags (front_given (key_at component index) ns s)) (all_given_out component (first_picked p ns (picked t ports)) hs)
first_stands component index p flags ports s hs t [] S e A rest = rest s hs S A
first_stands component index p flags ports s hs t (n ∷ ns) S e A rest =
    rest (header_given n (owners.Work component) (todo_pulled (key_at component index) s)) (changed n (given_to (owners.Work component)) hs) (pull_give_on s hs (key_at component index) (owners.Work component) n ns S e) A

port_stands : (component index : ℕ) (b : Bool) (p : Port) (flags : List Bool) (ports : List Port) (s : Stocked) (hs : List HeaderRecord) (t : Seen) → p.key ≡ key_at component index → StandsFor s hs → Agree component index s t
    → Rest component (index + 1) flags ports t
    → StandsFor (all_out component (index + 1) flags (out_where b (key_at component index) s)) (all_given_out component (picked t (if b then p ∷ ports else ports)) hs)
port_stands component index false p flags ports s hs t k S A rest = rest s hs S (agree_next component index false s t A)
port_stands component index true p flags ports s hs t k S A rest =
    let key = key_at component index in
    let seen_so : t.todo p.key ≡ s.headers.todo key = ap t.todo k ∙ sym (A index (omega arith)) in
    subst (λ (ns : List ℕ). StandsFor (all_out component (index + 1) flags (goes_out key s)) (all_given_out component (first_picked p ns (picked t ports)) hs)) (sym seen_so)
    (first_stands component index p flags ports s hs t (s.headers.todo key) S refl (agree_next component index true s t A) rest)

pub out_stands : (component index : ℕ) (g : Port → Bool) (ss : List PortSetting) (ps : List PortState) (t : Seen) → Rest component index (map g (ports_from component index ss ps)) (filter g (ports_from component index ss ps)) t
out_stands component index g [] ps t = λ s hs S A. S
out_stands component index g (x ∷ ss) [] t = λ s hs S A. S
out_stands component index g (x ∷ ss) (y ∷ ps) t = λ s hs S A.
    let p : Port = record { key = key_at component index; setting = x; state = y } in
    let later : List Port = ports_from component (index + 1) ss ps in
    port_stands component index (g p) p (map g later) (filter g later) s hs t refl S A (out_stands component (index + 1) g ss ps t)

-- ---- the numbers

numbers_none : (port : ℕ) (places : List (Option BufferHeader)) → AreFree places → picked_from port (map (option_map header_number) places) ≡ []
numbers_none port [] F = refl
numbers_none port (place ∷ places) F = rw F.0 (numbers_none (port + 1) places F.1)

front_picked : (p : Port) (ns : List ℕ) (o : Option ℕ) (rest : List Picked) → o ≡ slice_get ns 0 → picked_at p.key.port o rest ≡ first_picked p ns rest
front_picked p [] o rest e = rw e refl
front_picked p (n ∷ ns) o rest e = rw e refl

port_number : (component index : ℕ) (b : Bool) (p : Port) (place : Option BufferHeader) (rest : List Picked) (ports : List Port) (s : Stocked) (t : Seen) → p.key ≡ key_at component index → s.headers.todo (key_at component index) ≡ t.todo (key_at component index)
    → IsFrontWhere b (key_at component index) place s → rest ≡ picked t ports → picked_at index (option_map header_number place) rest ≡ picked t (if b then p ∷ ports else ports)
port_number component index false p place rest ports s t k e F r = rw F r
port_number component index true p place rest ports s t k e F r =
    let i : p.key.port ≡ index = ap (λ (x : PortKey). x.port) k in
    let f : option_map header_number place ≡ slice_get (t.todo p.key) 0 = F.0 ∙ ap (λ (ns : List ℕ). slice_get ns 0) (e ∙ ap t.todo (sym k)) in
    ap (λ (n : ℕ). picked_at n (option_map header_number place) rest) (sym i) ∙ (front_picked p (t.todo p.key) (option_map header_number place) rest f ∙ ap (first_picked p (t.todo p.key)) r)

pub numbers_are : (component index : ℕ) (g : Port → Bool) (ss : List PortSetting) (ps : List PortState) (places : List (Option BufferHeader)) (s : Stocked) (t : Seen) → AreFronts component index (map g (ports_from component index ss ps)) places s → Agree component index s t
    → picked_from index (map (option_map header_number) places) ≡ picked t (filter g (ports_from component index ss ps))
numbers_are component index g [] ps places s t F A = numbers_none index places F
numbers_are component index g (x ∷ ss) [] places s t F A = numbers_none index places F
numbers_are component index g (x ∷ ss) (y ∷ ps) [] s t F A = absurd F
numbers_are component index g (x ∷ ss) (y ∷ ps) (place ∷ places) s t F A =
    let p : Port = record { key = key_at component index; setting = x; state = y } in
    let later : List Port = ports_from component (index + 1) ss ps in
    port_number component index (g p) p place (picked_from (index + 1) (map (option_map header_number) places)) (filter g later) s t refl (A index (omega arith)) F.0
    (numbers_are component (index + 1) g ss ps places (out_where (g p) (key_at component index) s) t F.1 (agree_next component index (g p) s t A))

-- ---- the ports that give a header

none_given : (c : Component) (ps : List Port) → filter (gives_to true c) ps ≡ []
none_given c [] = refl
none_given c (p ∷ ps) = none_given c ps

wanted_by : (a : Bool) (c : Component) → (if a then [] else filter (gives_header c) (ports_of c)) ≡ filter (gives_to a c) (ports_of c)
wanted_by true c = sym (none_given c (ports_of c))
wanted_by false c = refl

pub wanted_is : (a : Bool) (c : Component) → a ≡ must_announce c → wanted c ≡ filter (gives_to a c) (ports_of c)
wanted_is a c e = ap (λ (b : Bool). if b then [] else filter (gives_header c) (ports_of c)) (sym e) ∙ wanted_by a c

pub ports_there : (component index : ℕ) (g : Port → Bool) (ss : List PortSetting) (ps : List PortState) (s : Stocked) → ((port : ℕ) → index ≤ port → port < index + length ps → IsPort (key_at component port) s) → ArePorts component index (map g (ports_from component index ss ps)) s
ports_there component index g [] ps s h = tt
ports_there component index g (x ∷ ss) [] s h = tt
ports_there component index g (x ∷ ss) (y ∷ ps) s h = (h index (omega arith) (omega arith), ports_there component (index + 1) g ss ps s (λ port a b. h port (omega arith) (omega arith)))

-- each port that is left is the stock's as well
pub where_ports : (b : Bool) (key : PortKey) (component port : ℕ) (flags : List Bool) (s : Stocked) → ArePorts component port flags s → ArePorts component port flags (out_where b key s)
where_ports b key component port [] s P = tt
where_ports b key component port (gives ∷ flags) s P = let S = where_stays b key s in (rw S.ports P.0, where_ports b key component (port + 1) flags s P.1)

pub ports_rest : (component port : ℕ) (flags : List Bool) (s : Stocked) → 1 ≤ length flags → ArePorts component port flags s → ArePorts component (port + 1) (take (length flags - 1) (drop 1 flags)) s
ports_rest component port [] s l P = absurd (omega arith)
ports_rest component port (b ∷ bs) s l P =
    let n : length (b ∷ bs) - 1 ≡ length bs = omega arith in
    let all : take (length bs) bs ≡ bs = take_all (length bs) bs (omega arith) in
    subst (λ (k : ℕ). ArePorts component (port + 1) (take k bs) s) (sym n) (subst (λ (xs : List Bool). ArePorts component (port + 1) xs s) (sym all) P.1)

-- ---- the work

pub work_is : (c : Component) (s : Stocked) (numbers : List (Option ℕ)) (places : List (Option BufferHeader)) (a : Bool) → numbers ≡ map (option_map header_number) places → a ≡ must_announce c → AreFronts (number_of c) 0 (map (gives_to a c) (ports_of c)) places s
    → work_with numbers c ≡ work_of s.headers c
work_is c s numbers places a n e F =
    let H : picked_from 0 numbers ≡ picked s.headers (wanted c) =
    ap (picked_from 0) n ∙ (numbers_are (number_of c) 0 (gives_to a c) c.settings.ports c.ports places s s.headers F (λ port b. refl) ∙ ap (picked s.headers) (sym (wanted_is a c e))) in
    λ i. record { headers = H i; gain = c.settings.gain; weights = c.settings.weights; announces = must_announce c }

pub fronts_are : (c : Component) (s : Stocked) (places : List (Option BufferHeader)) (a : Bool) → a ≡ must_announce c → AreFronts (number_of c) 0 (map (gives_to a c) (ports_of c)) places s → HasFronts c places s
fronts_are c s places a e F = subst (λ (b : Bool). AreFronts (number_of c) 0 (map (gives_to b c) (ports_of c)) places s) e F

-- ---- the flags of the ports, one after the other

take_next : (xs : List Port) (i : ℕ) (x : Port) → slice_get xs i ≡ Some x → take (suc i) xs ≡ take i xs ++ x ∷ []
take_next [] i x e = absurd cc
take_next (y ∷ ys) zero x e = let q : y ≡ x = cc in ap (λ (z : Port). z ∷ []) q
take_next (y ∷ ys) (suc i) x e = ap (λ (zs : List Port). y ∷ zs) (take_next ys i x e)

map_next : (f : Port → Bool) (xs : List Port) (p : Port) → map f (xs ++ p ∷ []) ≡ map f xs ++ f p ∷ []
map_next f [] p = refl
map_next f (x ∷ xs) p = ap (λ (bs : List Bool). f x ∷ bs) (map_next f xs p)

pub flags_more : (f : Port → Bool) (ps : List Port) (i : ℕ) (p : Port) (flags : List Bool) (b : Bool) → slice_get ps i ≡ Some p → take i flags ≡ map f (take i ps) → b ≡ f p → i < length flags → take (i + 1) (set flags i b) ≡ map f (take (i + 1) ps)
flags_more f ps i p flags b at t e l =
    take_more_set flags i b l ∙ (ap (λ (bs : List Bool). bs ++ b ∷ []) t ∙ (ap (λ (x : Bool). map f (take i ps) ++ x ∷ []) e ∙ (sym (map_next f (take i ps) p) ∙ rw add-one (ap (map f) (sym (take_next ps i p at))))))

pub all_flags : (f : Port → Bool) (ps : List Port) (flags : List Bool) → take (length ps) flags ≡ map f (take (length ps) ps) → take (length ps) flags ≡ map f ps
all_flags f ps flags e = e ∙ ap (map f) (take_all (length ps) ps (omega arith))

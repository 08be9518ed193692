-- What the headers of a work carry, as whoever holds them sees it.
use Rattle.std.proofs.Common.{◌≡◌, ℕ, ◌+◌, Bool, true, false, List, [], ◌∷◌, map, filter, slice_get, Option, Some, None, option_map, if◌then◌else◌, refl, sym, ◌∙◌, ap, arith}
use Rattle.il_machine.specs.declared.port.Port.{Port}
use Rattle.il_machine.specs.declared.port.PortKey.{PortKey}
use Rattle.il_machine.specs.declared.port.PortSetting.{PortSetting}
use Rattle.il_machine.specs.declared.port.PortState.{PortState}
use Rattle.il_machine.specs.declared.header.Owner.TheVariants as owners
use Rattle.il_machine.specs.declared.header.HeaderState.{HeaderState}
use Rattle.il_machine.specs.World.{Component, HeaderRecord, Picked, number_of, ports_from}
use Rattle.il_machine.specs.Headers.{Seen, changed, find_header, given_to, load_of}
use Rattle.il_machine.specs.Stock.{Stocked, StandsFor, todo_pulled, state_out}
use Rattle.il_machine.specs.Buffers.{held, load_in}
use Rattle.il_machine.specs.Claims.{CarriedHeader, carried, carried_by, first_picked, must_announce, picked, work_of}
use Rattle.il_machine.proofs.Carrying.{carried_same, held_out}
use Rattle.machine_laws.proofs.Finding.{found_number}
use Rattle.stock_laws.proofs.Composed.{pull_give_on, pull_taken}
use Rattle.header_core.specs.BufferHeader.{BufferHeader}
use Rattle.graph_core.specs.Claiming.{AreFree, AreFronts, HasFronts, IsFrontWhere, IsFromTodo, carried_at, carried_from, front_given, gives_to, key_at, out_where}
use Rattle.graph_core.proofs.Noticing.{outside_size}
use Rattle.graph_core.proofs.Picked.{Agree, agree_next, wanted_is}

-- ---- one header

-- the front of todo shows whoever holds it what the world's header shows
pub record Shown (n : ℕ) (hs : List HeaderRecord) (h : BufferHeader) : Type 0 where
  pub it : HeaderRecord
  pub found : find_header n hs ≡ Some it
  pub shows : held it ≡ h.held

front_shown : (s : Stocked) (hs : List HeaderRecord) (key : PortKey) (n : ℕ) (ns : List ℕ) (h : BufferHeader) → StandsFor s hs → s.headers.todo key ≡ n ∷ ns → h.held.number ≡ n → IsFromTodo key s h → Shown n hs h
front_shown s hs key n ns h S e m F =
    let T = pull_taken s hs key n ns S e in
    let r = T.found.it in
    let number : r.state.number ≡ h.held.number = found_number n hs r T.found.is ∙ sym m in
    let there : (todo_pulled key s).headers.header h.held.number ≡ Some (state_out T.state) = ap (λ (k : ℕ). (todo_pulled key s).headers.header k) m ∙ T.shown in
    let size : r.state.size ≡ h.held.size = ap (λ (x : HeaderState). x.size) T.found.state ∙ sym (outside_size ((todo_pulled key s).headers.header h.held.number) (state_out T.state) h there F.1.1) in
    let load : s.loads n ≡ Some (load_in h.held) = ap s.loads (sym m) ∙ F.0.1 in
    let same : Some r.load ≡ Some (load_in h.held) = ap (option_map load_of) (sym T.found.is) ∙ S.loads n (load_in h.held) load in
    let l : r.load ≡ load_in h.held = cc in
    record { it = r; found = T.found.is; shows = λ j. record { number = number j; size = size j; content = (l j).content; flags = (l j).flags; mark = (l j).mark; memory = (l j).memory } }

-- ---- all headers of a work

none_carried : (port : ℕ) (places : List (Option BufferHeader)) → AreFree places → carried_from port places ≡ []
none_carried port [] F = refl
none_carried port (place ∷ places) F = rw F.0 (none_carried (port + 1) places F.1)

-- what is carried is the same once one of them went out
given_same : (component n port : ℕ) (hs : List HeaderRecord) (xs : List Picked) → carried (changed n (given_to (owners.Work component)) hs) xs ≡ carried hs xs
given_same component n port hs xs = carried_same hs (changed n (given_to (owners.Work component)) hs) xs (λ j p f. held_out p.number component (record { port = port; number = n } ∷ []) hs)

abbrev Later : ℕ → ℕ → List Port → List (Option BufferHeader) → Stocked → Seen → Type 0
Later component port ports places s t = (hs : List HeaderRecord) → StandsFor s hs → Agree component port s t → carried hs (picked t ports) ≡ carried_from port places

found_carried : (n port : ℕ) (hs : List HeaderRecord) (h : BufferHeader) (rest : List CarriedHeader) → Shown n hs h → carried_by port (find_header n hs) rest ≡ record { port = port; header = h.held } ∷ rest
found_carried n port hs h rest F = rw (F.found, F.shows) refl

first_carried : (component index : ℕ) (p : Port) (place : Option BufferHeader) (ports : List Port) (places : List (Option BufferHeader)) (s : Stocked) (hs : List HeaderRecord) (t : Seen) (ns : List ℕ) → p.key.port ≡ index → StandsFor s hs
    → s.headers.todo (key_at component index) ≡ ns → IsFrontWhere true (key_at component index) place s → Agree component (index + 1) (front_given (key_at component index) ns s) t
    → Later component (index + 1) ports places (front_given (key_at component index) ns s) t
    → carried hs (first_picked p ns (picked t ports)) ≡ carried_at index place (carried_from (index + 1) places)
first_carried component index p None ports places s hs t [] k S e F A later = later hs S A
first_carried component index p (Some h) ports places s hs t [] k S e F A later =
    let x : Some h.held.number ≡ slice_get [] 0 = F.0 ∙ ap (λ (xs : List ℕ). slice_get xs 0) e in
    absurd cc
first_carried component index p None ports places s hs t (n ∷ ns) k S e F A later =
    let x : None ≡ slice_get (n ∷ ns) 0 = F.0 ∙ ap (λ (xs : List ℕ). slice_get xs 0) e in
    absurd cc
first_carried component index p (Some h) ports places s hs t (n ∷ ns) k S e F A later =
    let x : Some h.held.number ≡ slice_get (n ∷ ns) 0 = F.0 ∙ ap (λ (xs : List ℕ). slice_get xs 0) e in
    let m : h.held.number ≡ n = cc in
    let W = front_shown s hs (key_at component index) n ns h S e m F.1 in
    let ks : List HeaderRecord = changed n (given_to (owners.Work component)) hs in
    let rest : carried hs (picked t ports) ≡ carried_from (index + 1) places = sym (given_same component n index hs (picked t ports)) ∙ later ks (pull_give_on s hs (key_at component index) (owners.Work component) n ns S e) A in
    found_carried n p.key.port hs h (carried hs (picked t ports)) W ∙ ((λ j. record { port = k j; header = h.held } ∷ rest j))

port_carried : (component index : ℕ) (b : Bool) (p : Port) (place : Option BufferHeader) (ports : List Port) (places : List (Option BufferHeader)) (s : Stocked) (hs : List HeaderRecord) (t : Seen) → p.key ≡ key_at component index → StandsFor s hs
    → Agree component index s t → IsFrontWhere b (key_at component index) place s → Later component (index + 1) ports places (out_where b (key_at component index) s) t
    → carried hs (picked t (if b then p ∷ ports else ports)) ≡ carried_at index place (carried_from (index + 1) places)
port_carried component index false p place ports places s hs t k S A F later = rw F (later hs S (agree_next component index false s t A))
port_carried component index true p place ports places s hs t k S A F later =
    let key = key_at component index in
    let seen_so : t.todo p.key ≡ s.headers.todo key = ap t.todo k ∙ sym (A index (omega arith)) in
    ap (λ (ns : List ℕ). carried hs (first_picked p ns (picked t ports))) seen_so
    ∙ first_carried component index p place ports places s hs t (s.headers.todo key) (ap (λ (x : PortKey). x.port) k) S refl F (agree_next component index true s t A) later

pub fronts_carried : (component index : ℕ) (g : Port → Bool) (ss : List PortSetting) (ps : List PortState) (places : List (Option BufferHeader)) (s : Stocked) (t : Seen) → AreFronts component index (map g (ports_from component index ss ps)) places s
    → Later component index (filter g (ports_from component index ss ps)) places s t
fronts_carried component index g [] ps places s t F = λ hs S A. sym (none_carried index places F)
fronts_carried component index g (x ∷ ss) [] places s t F = λ hs S A. sym (none_carried index places F)
fronts_carried component index g (x ∷ ss) (y ∷ ps) [] s t F = λ hs S A. absurd F
fronts_carried component index g (x ∷ ss) (y ∷ ps) (place ∷ places) s t F = λ hs S A.
    let p : Port = record { key = key_at component index; setting = x; state = y } in
    let later : List Port = ports_from component (index + 1) ss ps in
    port_carried component index (g p) p place (filter g later) places s hs t refl S A F.0 (fronts_carried component (index + 1) g ss ps places (out_where (g p) (key_at component index) s) t F.1)

-- the headers that went out carry what those of the work carry
pub work_carried : (c : Component) (s : Stocked) (places : List (Option BufferHeader)) → HasFronts c places s → (hs : List HeaderRecord) → StandsFor s hs → carried hs (work_of s.headers c).headers ≡ carried_from 0 places
work_carried c s places F hs S =
    ap (λ (ps : List Port). carried hs (picked s.headers ps)) (wanted_is (must_announce c) c refl)
    ∙ fronts_carried (number_of c) 0 (gives_to (must_announce c) c) c.settings.ports c.ports places s s.headers F hs S (λ port b. refl)

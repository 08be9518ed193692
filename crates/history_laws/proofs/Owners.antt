-- Homes, owners and memories of headers stay as they are while things happen.
use Rattle.std.proofs.Common.{◌≡◌, ◌≢◌, inl, inr, ℕ, Bool, true, false, List, [], ◌∷◌, Option, Some, None, is_none, option_map, refl, sym, ◌∙◌, ap}
use Rattle.std.proofs.lemmas.Bool.{cases_eq, and_parts}
use Rattle.omx_types.specs.declared.state.State.{State}
use Rattle.omx_types.specs.declared.state.State.TheVariants.{Invalid, Loaded, Idle, Executing, Pause, WaitForResources}
use Rattle.il_machine.specs.declared.header.HeaderState.{HeaderState}
use Rattle.il_machine.specs.declared.header.Home.{Home}
use Rattle.il_machine.specs.declared.header.Owner.{Owner}
use Rattle.il_machine.specs.declared.header.Owner.TheVariants as owners
use Rattle.il_machine.specs.declared.header.Spot.{Spot}
use Rattle.il_machine.specs.declared.header.Spot.TheVariants.{TodoBack, DoneBack}
use Rattle.il_machine.specs.declared.port.Mark.{Mark}
use Rattle.il_machine.specs.declared.port.Port.{Port}
use Rattle.il_machine.specs.declared.port.PortKey.{PortKey}
use Rattle.il_machine.specs.States.{is_down}
use Rattle.il_machine.specs.World.{Component, HeaderRecord, ports_of}
use Rattle.il_machine.specs.Headers.{seen, find_header, has_number, numbers, is_state, in_todo, in_done, in_unmarked, is_owned_by, is_todo, is_done, Once, changed, put, put_all, cleared_all, cleared, reset, put_at}
use Rattle.il_machine.specs.Ports.{is_supplier, is_input_port}
use Rattle.il_machine.specs.Due.{reset_port, reset_ports, reset_on, marked, first_marked}
use Rattle.machine_laws.proofs.Finding.{either, found_head, found_tail, changed_else, once_changed}
use Rattle.machine_laws.proofs.Listed.{AreListed, numbers_listed}
use Rattle.machine_laws.proofs.Replacing.{IsReplaced, replaced_put}
use Rattle.machine_laws.proofs.Keys.{key_is, none_or_some}
use Rattle.history_laws.specs.Memory.{memory_of, memory_at}

-- what is known of a header but its number and its place
pub record Stand : Type 0 where
  pub port : PortKey
  pub peer : Option PortKey
  pub home : Home
  pub owner : Owner
  pub size : ℕ
  pub client_memory : Bool

abbrev pub stand_in : HeaderState → Stand
stand_in s = record { port = s.port; peer = s.peer; home = s.home; owner = s.owner; size = s.size; client_memory = s.client_memory }

abbrev pub stand_of : HeaderRecord → Stand
stand_of r = stand_in r.state

-- how the header of the number stands
abbrev pub stand : ℕ → List HeaderRecord → Option Stand
stand n hs = option_map stand_of (find_header n hs)

abbrev pub SameStands : List HeaderRecord → List HeaderRecord → Type 0
SameStands hs ks = (n : ℕ) → stand n ks ≡ stand n hs

-- the second list has the same headers, each as it stands and with its memory
pub record Settles (hs ks : List HeaderRecord) : Type 0 where
  pub once : Once ks
  pub stands : SameStands hs ks
  pub memories : (n : ℕ) → memory_at n ks ≡ memory_at n hs

pub settles_not : (hs : List HeaderRecord) → Once hs → Settles hs hs
settles_not hs o = record { once = o; stands = λ n. refl; memories = λ n. refl }

pub settles_on : (hs ks ls : List HeaderRecord) → Settles hs ks → Settles ks ls → Settles hs ls
settles_on hs ks ls A B = record { once = B.once; stands = λ n. B.stands n ∙ A.stands n; memories = λ n. B.memories n ∙ A.memories n }

-- ---- one header

-- what both have in common is found as before
common_replaced : {T : Type 0} (part : HeaderRecord → T) (n : ℕ) (r s : HeaderRecord) (hs ks : List HeaderRecord) → IsReplaced n r s hs ks → part s ≡ part r
    → (m : ℕ) → option_map part (find_header m ks) ≡ option_map part (find_header m hs)
common_replaced {T} part n r s hs ks R e m = elim (cases_eq m n) [
  | inl is ↦ rw is (ap (option_map part) R.here ∙ (ap (λ (x : T). Some x) e ∙ sym (ap (option_map part) R.was)))
  | inr a ↦ ap (option_map part) (R.others m a)
]

stands_replaced : (n : ℕ) (r s : HeaderRecord) (hs ks : List HeaderRecord) → IsReplaced n r s hs ks → stand_of s ≡ stand_of r → memory_of s ≡ memory_of r → Settles hs ks
stands_replaced n r s hs ks R e f = record { once = R.once; stands = common_replaced stand_of n r s hs ks R e; memories = common_replaced memory_of n r s hs ks R f }

module _ (change : HeaderRecord → HeaderRecord) (keeps : (r : HeaderRecord) → (change r).state ≡ r.state) (remembers : (r : HeaderRecord) → memory_of (change r) ≡ memory_of r) where
  number_kept : (r : HeaderRecord) → (change r).state.number ≡ r.state.number
  number_kept r = ap (λ (s : HeaderState). s.number) (keeps r)

  common_changed : {T : Type 0} (part : HeaderRecord → T) → ((r : HeaderRecord) → part (change r) ≡ part r) → (n m : ℕ) (hs : List HeaderRecord)
      → option_map part (find_header m (changed n change hs)) ≡ option_map part (find_header m hs)
  common_changed part same n m [] = refl
  common_changed {T} part same n m (x ∷ hs) = either (has_number n x)
      (λ t. rw t (either (has_number m x)
      (λ u.
      let v : has_number m (change x) ≡ true = rw (number_kept x) u in
      rw (u, v) (ap (λ (y : T). Some y) (same x)))
      (λ u. let v : has_number m (change x) ≡ false = rw (number_kept x) u in rw (u, v) refl)))
      (λ f. rw f (either (has_number m x) (λ u. rw u refl) (λ u. rw u (common_changed part same n m hs))))

  settles_changed : (n : ℕ) (hs : List HeaderRecord) → Once hs → Settles hs (changed n change hs)
  settles_changed n hs o = record {
    once = once_changed change number_kept n hs o;
    stands = λ m. common_changed stand_of (λ r. ap stand_in (keeps r)) n m hs;
    memories = λ m. common_changed memory_of remembers n m hs;
  }

-- ---- the headers of a list of a port

-- the header of the number is there, and is the port's
abbrev pub IsIn : PortKey → ℕ → List HeaderRecord → Type 0
IsIn key n hs = (r : HeaderRecord) × (find_header n hs ≡ Some r) × (r.state.owner ≡ owners.Port key)

abbrev pub AreIn : PortKey → List ℕ → List HeaderRecord → Type 0
AreIn key [] hs = Unit {0}
AreIn key (n ∷ ns) hs = IsIn key n hs × AreIn key ns hs

is_in_stays : (key : PortKey) (n : ℕ) (hs ks : List HeaderRecord) → SameStands hs ks → IsIn key n hs → IsIn key n ks
is_in_stays key n hs ks S (r, f, o) = elim (none_or_some (find_header n ks)) [
  | inl none ↦
      let a : stand n ks ≡ None = ap (option_map stand_of) none in
      let b : stand n hs ≡ Some (stand_of r) = ap (option_map stand_of) f in
      let c : None ≡ Some (stand_of r) = sym a ∙ (S n ∙ b) in
      absurd cc
  | inr some ↦
      let a : stand n ks ≡ Some (stand_of some.0) = ap (option_map stand_of) some.1 in
      let b : stand n hs ≡ Some (stand_of r) = ap (option_map stand_of) f in
      let c : Some (stand_of some.0) ≡ Some (stand_of r) = sym a ∙ (S n ∙ b) in
      let d : stand_of some.0 ≡ stand_of r = cc in
      (some.0, some.1, ap (λ (s : Stand). s.owner) d ∙ o)
]

are_in_stay : (key : PortKey) (ns : List ℕ) (hs ks : List HeaderRecord) → SameStands hs ks → AreIn key ns hs → AreIn key ns ks
are_in_stay key [] hs ks S A = tt
are_in_stay key (n ∷ ns) hs ks S A = (is_in_stays key n hs ks S A.0, are_in_stay key ns hs ks S A.1)

found_further : (n : ℕ) (x r : HeaderRecord) (hs : List HeaderRecord) → find_header x.state.number hs ≡ None → find_header n hs ≡ Some r → find_header n (x ∷ hs) ≡ Some r
found_further n x r hs none f =
    let apart : x.state.number ≢ n = λ e. let a : find_header n hs ≡ None = rw e at none in absurd cc in
    found_tail n x hs apart ∙ f

further : (key : PortKey) (ns : List ℕ) (x : HeaderRecord) (hs : List HeaderRecord) → find_header x.state.number hs ≡ None → AreIn key ns hs → AreIn key ns (x ∷ hs)
further key [] x hs none A = tt
further key (n ∷ ns) x hs none A = (((A.0).0, found_further n x (A.0).0 hs none (A.0).1, (A.0).2), further key ns x hs none A.1)

owned_is : (key : PortKey) (o : Owner) → is_owned_by key o ≡ true → o ≡ owners.Port key
owned_is key owners.Client h = absurd cc
owned_is key (owners.Port k) h = ap (λ (x : PortKey). owners.Port x) (key_is k key h)
owned_is key (owners.Work c) h = absurd cc
owned_is key (owners.Notice c) h = absurd cc

listed : (key : PortKey) (test : HeaderState → Bool) → ((s : HeaderState) → test s ≡ true → s.owner ≡ owners.Port key) → (hs : List HeaderRecord) → Once hs → AreIn key (numbers (is_state test) hs) hs
listed key test T [] o = tt
listed key test T (x ∷ hs) o = either (test x.state)
    (λ t. rw t ((x, found_head x.state.number x hs refl, T x.state t), further key (numbers (is_state test) hs) x hs o.0 (listed key test T hs o.1)))
    (λ f. rw f (further key (numbers (is_state test) hs) x hs o.0 (listed key test T hs o.1)))

pub in_todo_of : (key : PortKey) (hs : List HeaderRecord) → Once hs → AreIn key ((seen hs).todo key) hs
in_todo_of key hs o = listed key (in_todo key) (λ s t. owned_is key s.owner (and_parts (is_todo s.queue) (is_owned_by key s.owner) t).1) hs o

pub in_done_of : (key : PortKey) (hs : List HeaderRecord) → Once hs → AreIn key ((seen hs).done key) hs
in_done_of key hs o = listed key (in_done key) (λ s t. owned_is key s.owner (and_parts (is_done s.queue) (is_owned_by key s.owner) t).1) hs o

-- ---- the reset

stays_put : (key : PortKey) (spot : Spot) (n : ℕ) (hs : List HeaderRecord) → Once hs → IsIn key n hs → Settles hs (put key spot n cleared hs)
stays_put key spot n hs o (r, f, w) =
    let e : owners.Port key ≡ r.state.owner = sym w in
    stands_replaced n r (put_at key spot (cleared r)) hs (put key spot n cleared hs) (replaced_put key spot cleared (λ x. refl) n hs r o f) (λ i. record (stand_of r) { owner = e i }) refl

put_each : (key : PortKey) (spot : Spot) (ns : List ℕ) (hs : List HeaderRecord) → Once hs → AreIn key ns hs → Settles hs (put_all key spot ns hs)
put_each key spot [] hs o A = settles_not hs o
put_each key spot (n ∷ ns) hs o A =
    let ks = put key spot n cleared hs in
    let a = stays_put key spot n hs o A.0 in
    let b = put_each key spot ns ks a.once (are_in_stay key ns hs ks a.stands A.1) in
    settles_on hs ks (put_all key spot ns ks) a b

clear_each : (ns : List ℕ) (hs : List HeaderRecord) → Once hs → Settles hs (cleared_all ns hs)
clear_each [] hs o = settles_not hs o
clear_each (n ∷ ns) hs o =
    let ks = changed n cleared hs in
    let a = settles_changed cleared (λ r. refl) (λ r. refl) n hs o in
    settles_on hs ks (cleared_all ns ks) a (clear_each ns ks a.once)

both : (key : PortKey) (spot : Spot) (ns ms : List ℕ) (hs : List HeaderRecord) → Once hs → AreIn key ns hs → Settles hs (put_all key spot ns (cleared_all ms hs))
both key spot ns ms hs o A =
    let ks = cleared_all ms hs in
    let a = clear_each ms hs o in
    settles_on hs ks (put_all key spot ns ks) a (put_each key spot ns ks a.once (are_in_stay key ns hs ks a.stands A))

reset_settles : (b : Bool) (key : PortKey) (hs : List HeaderRecord) → Once hs → Settles hs (reset b key hs)
reset_settles true key hs o = both key DoneBack ((seen hs).todo key) ((seen hs).done key) hs o (in_todo_of key hs o)
reset_settles false key hs o = both key TodoBack ((seen hs).done key) ((seen hs).todo key) hs o (in_done_of key hs o)

pub port_settles : (p : Port) (hs : List HeaderRecord) → Once hs → Settles hs (reset_port p hs)
port_settles p hs o = either (is_supplier p) (λ t. rw t (reset_settles (is_input_port p) p.key hs o)) (λ f. rw f (settles_not hs o))

ports_settle : (ps : List Port) (hs : List HeaderRecord) → Once hs → Settles hs (reset_ports ps hs)
ports_settle [] hs o = settles_not hs o
ports_settle (p ∷ ps) hs o =
    let ks = reset_port p hs in
    let a = port_settles p hs o in
    settles_on hs ks (reset_ports ps ks) a (ports_settle ps ks a.once)

pub arrival_settles : (c : Component) (target : State) (hs : List HeaderRecord) → Once hs → Settles hs (reset_on c target hs)
arrival_settles c Idle hs o = either (is_down c.state) (λ t. rw t (settles_not hs o)) (λ f. rw f (ports_settle (ports_of c) hs o))
arrival_settles c Invalid hs o = settles_not hs o
arrival_settles c Loaded hs o = settles_not hs o
arrival_settles c Executing hs o = settles_not hs o
arrival_settles c Pause hs o = settles_not hs o
arrival_settles c WaitForResources hs o = settles_not hs o

pub mark_settles : (ns : List ℕ) (mark : Option Mark) (hs : List HeaderRecord) → Once hs → Settles hs (first_marked ns mark hs)
mark_settles [] mark hs o = settles_not hs o
mark_settles (n ∷ ns) mark hs o = settles_changed (marked mark) (λ r. refl) (λ r. refl) n hs o

-- ---- a header in a work is in no list, and stays as it is

-- the header of the number is in a work
abbrev pub IsAway : ℕ → List HeaderRecord → Type 0
IsAway m hs = (r : HeaderRecord) × (k : ℕ) × (find_header m hs ≡ Some r) × (r.state.owner ≡ owners.Work k)

pub away_stays : (m : ℕ) (hs ks : List HeaderRecord) → find_header m ks ≡ find_header m hs → IsAway m hs → IsAway m ks
away_stays m hs ks e (r, k, f, o) = (r, k, e ∙ f, o)

away_apart : (m n : ℕ) (key : PortKey) (hs : List HeaderRecord) → IsAway m hs → IsIn key n hs → m ≢ n
away_apart m n key hs (r, k, f, o) (s, g, p) e =
    let a : Some s ≡ Some r = sym g ∙ (ap (λ (x : ℕ). find_header x hs) (sym e) ∙ f) in
    let b : s ≡ r = cc in
    let c : owners.Port key ≡ owners.Work k = sym p ∙ (ap (λ (x : HeaderRecord). x.state.owner) b ∙ o) in
    cc

put_outs : (key : PortKey) (spot : Spot) (ns : List ℕ) (m : ℕ) (hs : List HeaderRecord) → Once hs → AreIn key ns hs → IsAway m hs → find_header m (put_all key spot ns hs) ≡ find_header m hs
put_outs key spot [] m hs o A w = refl
put_outs key spot (n ∷ ns) m hs o A w =
    let ks = put key spot n cleared hs in
    let R = replaced_put key spot cleared (λ x. refl) n hs (A.0).0 o (A.0).1 in
    let S = stays_put key spot n hs o A.0 in
    let e = R.others m (away_apart m n key hs w A.0) in
    put_outs key spot ns m ks S.once (are_in_stay key ns hs ks S.stands A.1) (away_stays m hs ks e w) ∙ e

clear_outs : (key : PortKey) (ns : List ℕ) (m : ℕ) (hs : List HeaderRecord) → Once hs → AreIn key ns hs → IsAway m hs → find_header m (cleared_all ns hs) ≡ find_header m hs
clear_outs key [] m hs o A w = refl
clear_outs key (n ∷ ns) m hs o A w =
    let ks = changed n cleared hs in
    let S = settles_changed cleared (λ r. refl) (λ r. refl) n hs o in
    let e = changed_else cleared (λ r. refl) n m hs (away_apart m n key hs w A.0) in
    clear_outs key ns m ks S.once (are_in_stay key ns hs ks S.stands A.1) (away_stays m hs ks e w) ∙ e

both_outs : (key : PortKey) (spot : Spot) (ns ms : List ℕ) (m : ℕ) (hs : List HeaderRecord) → Once hs → AreIn key ns hs → AreIn key ms hs → IsAway m hs → find_header m (put_all key spot ns (cleared_all ms hs)) ≡ find_header m hs
both_outs key spot ns ms m hs o A B w =
    let ks = cleared_all ms hs in
    let S = clear_each ms hs o in
    let e = clear_outs key ms m hs o B w in
    put_outs key spot ns m ks S.once (are_in_stay key ns hs ks S.stands A) (away_stays m hs ks e w) ∙ e

reset_outs : (b : Bool) (key : PortKey) (m : ℕ) (hs : List HeaderRecord) → Once hs → IsAway m hs → find_header m (reset b key hs) ≡ find_header m hs
reset_outs true key m hs o w = both_outs key DoneBack ((seen hs).todo key) ((seen hs).done key) m hs o (in_todo_of key hs o) (in_done_of key hs o) w
reset_outs false key m hs o w = both_outs key TodoBack ((seen hs).done key) ((seen hs).todo key) m hs o (in_done_of key hs o) (in_todo_of key hs o) w

pub port_outs : (p : Port) (m : ℕ) (hs : List HeaderRecord) → Once hs → IsAway m hs → find_header m (reset_port p hs) ≡ find_header m hs
port_outs p m hs o w = either (is_supplier p) (λ t. rw t (reset_outs (is_input_port p) p.key m hs o w)) (λ f. rw f refl)

ports_outs : (ps : List Port) (m : ℕ) (hs : List HeaderRecord) → Once hs → IsAway m hs → find_header m (reset_ports ps hs) ≡ find_header m hs
ports_outs [] m hs o w = refl
ports_outs (p ∷ ps) m hs o w =
    let ks = reset_port p hs in
    let e = port_outs p m hs o w in
    ports_outs ps m ks (port_settles p hs o).once (away_stays m hs ks e w) ∙ e

pub arrival_outs : (c : Component) (target : State) (m : ℕ) (hs : List HeaderRecord) → Once hs → IsAway m hs → find_header m (reset_on c target hs) ≡ find_header m hs
arrival_outs c Idle m hs o w = either (is_down c.state) (λ t. rw t refl) (λ f. rw f (ports_outs (ports_of c) m hs o w))
arrival_outs c Invalid m hs o w = refl
arrival_outs c Loaded m hs o w = refl
arrival_outs c Executing m hs o w = refl
arrival_outs c Pause m hs o w = refl
arrival_outs c WaitForResources m hs o w = refl

unmarked_outs : (key : PortKey) (ns : List ℕ) (mark : Option Mark) (m : ℕ) (hs : List HeaderRecord) → AreListed (in_unmarked key) hs ns → IsAway m hs → find_header m (first_marked ns mark hs) ≡ find_header m hs
unmarked_outs key [] mark m hs A w = refl
unmarked_outs key (n ∷ ns) mark m hs A w =
    let L = A.0 in
    let t : in_todo key (L.header).state ≡ true = (and_parts (in_todo key (L.header).state) (is_none (L.header).load.mark) L.passes).0 in
    let o : (L.header).state.owner ≡ owners.Port key = owned_is key (L.header).state.owner (and_parts (is_todo (L.header).state.queue) (is_owned_by key (L.header).state.owner) t).1 in
    changed_else (marked mark) (λ r. refl) n m hs (away_apart m n key hs w (L.header, L.found, o))

pub mark_outs : (key : PortKey) (mark : Option Mark) (m : ℕ) (hs : List HeaderRecord) → Once hs → IsAway m hs → find_header m (first_marked ((seen hs).unmarked key) mark hs) ≡ find_header m hs
mark_outs key mark m hs o w = unmarked_outs key ((seen hs).unmarked key) mark m hs (numbers_listed (in_unmarked key) hs o) w

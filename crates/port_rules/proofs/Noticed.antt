-- What happens to headers in ports leaves those in notices as they are.
use Rattle.std.proofs.Common.{◌≡◌, ◌≢◌, inl, inr, ℕ, Bool, true, false, List, [], ◌∷◌, Some, refl, sym, ◌∙◌, ap, subst}
use Rattle.omx_types.specs.declared.state.State.{State}
use Rattle.omx_types.specs.declared.state.State.TheVariants.{Invalid, Loaded, Idle, Executing, Pause, WaitForResources}
use Rattle.il_machine.specs.declared.port.Mark.{Mark}
use Rattle.il_machine.specs.declared.port.Port.{Port}
use Rattle.il_machine.specs.declared.port.PortKey.{PortKey}
use Rattle.il_machine.specs.declared.header.Spot.{Spot}
use Rattle.il_machine.specs.declared.header.Spot.TheVariants.{TodoBack, DoneBack}
use Rattle.il_machine.specs.States.{is_down}
use Rattle.il_machine.specs.World.{Component, HeaderRecord, ports_of}
use Rattle.il_machine.specs.Headers.{seen, find_header, is_notice, in_unmarked, put, put_all, changed, cleared, cleared_all, reset, Once, input_reset, output_reset}
use Rattle.il_machine.specs.Ports.{is_supplier, is_input_port}
use Rattle.il_machine.specs.Due.{reset_port, reset_ports, reset_on, marked, first_marked}
use Rattle.machine_laws.proofs.Finding.{either, changed_else, once_changed}
use Rattle.machine_laws.proofs.Keys.{none_or_some}
use Rattle.machine_laws.proofs.Replacing.{replaced_put, put_nothing}
use Rattle.machine_laws.proofs.Listed.{IsListed, AreListed, numbers_listed, IsIn, AreIn, todo_in, done_in, todo_owner}
use Rattle.std.proofs.lemmas.Bool.{and_parts}
use Rattle.port_rules.specs.Happened.{KeepsNotices}

-- the header of the number is in a notice
pub record IsNoted (hs : List HeaderRecord) (m : ℕ) : Type 0 where
  pub header : HeaderRecord
  pub found : find_header m hs ≡ Some header
  pub notice : is_notice header.state.owner ≡ true

-- The header of the number stays, and no two headers have one number.
pub record Stays (m : ℕ) (hs ks : List HeaderRecord) : Type 0 where
  pub same : find_header m ks ≡ find_header m hs
  pub once : Once ks

stay : (m : ℕ) (hs : List HeaderRecord) → Once hs → Stays m hs hs
stay m hs o = record { same = refl; once = o }

then : (m : ℕ) (hs ks ls : List HeaderRecord) → Stays m hs ks → Stays m ks ls → Stays m hs ls
then m hs ks ls a b = record { same = b.same ∙ a.same; once = b.once }

still : (m : ℕ) (hs ks : List HeaderRecord) → IsNoted hs m → Stays m hs ks → IsNoted ks m
still m hs ks N S = record { header = N.header; found = S.same ∙ N.found; notice = N.notice }

-- ---- numbers in a port's lists are others

abbrev NotAmong : ℕ → List ℕ → Type 0
NotAmong m [] = Unit {0}
NotAmong m (n ∷ ns) = (m ≢ n) × NotAmong m ns

pub another : (key : PortKey) (hs : List HeaderRecord) (m n : ℕ) → IsNoted hs m → IsIn key hs n → m ≢ n
another key hs m n N I e =
    let a : find_header m hs ≡ Some I.header = ap (λ (k : ℕ). find_header k hs) e ∙ I.found in
    let b : Some N.header ≡ Some I.header = sym N.found ∙ a in
    let q : N.header ≡ I.header = cc in
    let c : is_notice (I.header).state.owner ≡ true = subst (λ (r : HeaderRecord). is_notice r.state.owner ≡ true) q N.notice in
    let d : false ≡ true = ap is_notice (sym I.owner) ∙ c in
    absurd cc

others : (key : PortKey) (hs : List HeaderRecord) (m : ℕ) (ns : List ℕ) → IsNoted hs m → AreIn key hs ns → NotAmong m ns
others key hs m [] N A = tt
others key hs m (n ∷ ns) N A = (another key hs m n N A.0, others key hs m ns N A.1)

-- ---- the reset

one_put : (key : PortKey) (spot : Spot) (n m : ℕ) (hs : List HeaderRecord) → Once hs → m ≢ n → Stays m hs (put key spot n cleared hs)
one_put key spot n m hs o a = elim (none_or_some (find_header n hs)) [
  | inl z ↦ subst (Stays m hs) (sym (put_nothing key spot cleared n hs z)) (stay m hs o)
  | inr f ↦ let R = replaced_put key spot cleared (λ x. refl) n hs f.0 o f.1 in record { same = R.others m a; once = R.once }
]

all_put : (key : PortKey) (spot : Spot) (ns : List ℕ) (m : ℕ) (hs : List HeaderRecord) → Once hs → NotAmong m ns → Stays m hs (put_all key spot ns hs)
all_put key spot [] m hs o a = stay m hs o
all_put key spot (n ∷ ns) m hs o a =
    let x = one_put key spot n m hs o a.0 in
    then m hs (put key spot n cleared hs) (put_all key spot ns (put key spot n cleared hs)) x (all_put key spot ns m (put key spot n cleared hs) x.once a.1)

one_changed : (change : HeaderRecord → HeaderRecord) → ((r : HeaderRecord) → (change r).state.number ≡ r.state.number) → (n m : ℕ) (hs : List HeaderRecord) → Once hs → m ≢ n → Stays m hs (changed n change hs)
one_changed change k n m hs o a = record { same = changed_else change k n m hs a; once = once_changed change k n hs o }

all_cleared : (ns : List ℕ) (m : ℕ) (hs : List HeaderRecord) → Once hs → NotAmong m ns → Stays m hs (cleared_all ns hs)
all_cleared [] m hs o a = stay m hs o
all_cleared (n ∷ ns) m hs o a =
    let x = one_changed cleared (λ r. refl) n m hs o a.0 in
    then m hs (changed n cleared hs) (cleared_all ns (changed n cleared hs)) x (all_cleared ns m (changed n cleared hs) x.once a.1)

reset_stays : (input : Bool) (key : PortKey) (m : ℕ) (hs : List HeaderRecord) → Once hs → IsNoted hs m → Stays m hs (reset input key hs)
reset_stays true key m hs o N =
    let x = all_cleared ((seen hs).done key) m hs o (others key hs m ((seen hs).done key) N (done_in key hs o)) in
    then m hs (cleared_all ((seen hs).done key) hs) (input_reset key hs) x
    (all_put key DoneBack ((seen hs).todo key) m (cleared_all ((seen hs).done key) hs) x.once (others key hs m ((seen hs).todo key) N (todo_in key hs o)))
reset_stays false key m hs o N =
    let x = all_cleared ((seen hs).todo key) m hs o (others key hs m ((seen hs).todo key) N (todo_in key hs o)) in
    then m hs (cleared_all ((seen hs).todo key) hs) (output_reset key hs) x
    (all_put key TodoBack ((seen hs).done key) m (cleared_all ((seen hs).todo key) hs) x.once (others key hs m ((seen hs).done key) N (done_in key hs o)))

port_stays : (p : Port) (m : ℕ) (hs : List HeaderRecord) → Once hs → IsNoted hs m → Stays m hs (reset_port p hs)
port_stays p m hs o N = either (is_supplier p) (λ t. rw t (reset_stays (is_input_port p) p.key m hs o N)) (λ f. rw f (stay m hs o))

ports_stay : (ps : List Port) (m : ℕ) (hs : List HeaderRecord) → Once hs → IsNoted hs m → Stays m hs (reset_ports ps hs)
ports_stay [] m hs o N = stay m hs o
ports_stay (p ∷ ps) m hs o N =
    let x = port_stays p m hs o N in
    then m hs (reset_port p hs) (reset_ports ps (reset_port p hs)) x (ports_stay ps m (reset_port p hs) x.once (still m hs (reset_port p hs) N x))

pub keeps_reset_port : (p : Port) → KeepsNotices (reset_port p)
keeps_reset_port p hs m r o f n = (port_stays p m hs o (record { header = r; found = f; notice = n })).same

pub keeps_reset_on : (c : Component) (target : State) → KeepsNotices (reset_on c target)
keeps_reset_on c Idle hs m r o f n = either (is_down c.state) (λ t. rw t refl) (λ g. rw g ((ports_stay (ports_of c) m hs o (record { header = r; found = f; notice = n })).same))
keeps_reset_on c Loaded hs m r o f n = refl
keeps_reset_on c Executing hs m r o f n = refl
keeps_reset_on c Pause hs m r o f n = refl
keeps_reset_on c WaitForResources hs m r o f n = refl
keeps_reset_on c Invalid hs m r o f n = refl

-- ---- a mark

unmarked_in : (key : PortKey) (hs : List HeaderRecord) (n : ℕ) → IsListed (in_unmarked key) hs n → IsIn key hs n
unmarked_in key hs n L = record { header = L.header; found = L.found; owner = todo_owner key (L.header).state (and_parts _ _ L.passes).0 }

mark_stays : (key : PortKey) (mark : Mark) (ns : List ℕ) (m : ℕ) (hs : List HeaderRecord) → AreListed (in_unmarked key) hs ns → IsNoted hs m → find_header m (first_marked ns (Some mark) hs) ≡ find_header m hs
mark_stays key mark [] m hs A N = refl
mark_stays key mark (n ∷ ns) m hs A N = changed_else (marked (Some mark)) (λ r. refl) n m hs (another key hs m n N (unmarked_in key hs n A.0))

pub keeps_marked : (key : PortKey) (mark : Mark) → KeepsNotices (λ hs. first_marked ((seen hs).unmarked key) (Some mark) hs)
keeps_marked key mark hs m r o f n = mark_stays key mark ((seen hs).unmarked key) m hs (numbers_listed (in_unmarked key) hs o) (record { header = r; found = f; notice = n })

-- Headers that go out with a work are in it.
use Rattle.std.proofs.Common.{◌≡◌, ◌≢◌, ℕ, ◌+◌, Bool, true, false, nat_eq, List, [], ◌∷◌, Option, Some, None, MatchOption, option_map, slice_get, refl, sym, ◌∙◌, subst, ne_eqb, eq-eqb}
use Rattle.il_machine.specs.declared.port.PortKey.{PortKey}
use Rattle.il_machine.specs.declared.header.HeaderState.{HeaderState}
use Rattle.il_machine.specs.declared.header.Owner.TheVariants as owners
use Rattle.il_machine.specs.declared.header.Queue.TheVariants.{Out}
use Rattle.il_machine.specs.Lists.{holds_at}
use Rattle.il_machine.specs.Headers.{Seen, in_todo, state_given}
use Rattle.il_machine.specs.Look.{Look}
use Rattle.il_machine.specs.Stock.{Stocked, todo_pulled, todo_front_pulled}
use Rattle.header_core.specs.BufferHeader.{BufferHeader}
use Rattle.port_stock.specs.Conditions.{IsHeaderOf, IsOutside}
use Rattle.graph_core.specs.Claiming.{AreFree, AreFronts, AreLent, IsFront, IsFrontWhere, all_out, front_given, goes_out, key_at, out_where}
use Rattle.graph_core.proofs.Picked.{given_stays}

-- the header is in the work, and in no list
abbrev pub LentIn : ℕ → BufferHeader → Stocked → Type 0
LentIn component h s = (h.key ≡ s.key) × MatchOption (s.headers.header h.held.number) ⊥ (λ t. (t.owner ≡ owners.Work component) × (t.queue ≡ Out) × IsHeaderOf t h)

-- ---- the front that goes out

given_lent : (component : ℕ) (h : BufferHeader) (o : Option HeaderState) → MatchOption o ⊥ (λ t. (t.queue ≡ Out) × IsHeaderOf t h)
    → MatchOption (option_map (state_given (owners.Work component)) o) ⊥ (λ t. (t.owner ≡ owners.Work component) × (t.queue ≡ Out) × IsHeaderOf t h)
given_lent component h None m = absurd m
given_lent component h (Some t) m = (refl, refl, record { size = m.1.size; memory = m.1.memory })

same_number : (n m : ℕ) → Some n ≡ Some m → n ≡ m
same_number n m e = cc

out_lent : (key : PortKey) (h : BufferHeader) (s : Stocked) (ns : List ℕ) → Some h.held.number ≡ slice_get ns 0 → IsOutside h (todo_pulled key s) → LentIn key.component h (front_given key ns s)
out_lent key h s [] e O = absurd cc
out_lent key h s (n ∷ ns) e O =
    let q : h.held.number ≡ n = same_number h.held.number n e in
    let t : nat_eq h.held.number n ≡ true = eq-eqb h.held.number n q in
    let g = given_lent key.component h ((todo_pulled key s).headers.header h.held.number) O.1 in
    (O.0, rw t (subst (λ (m : ℕ). MatchOption (option_map (state_given (owners.Work key.component)) ((todo_pulled key s).headers.header m)) ⊥ (λ x. (x.owner ≡ owners.Work key.component) × (x.queue ≡ Out) × IsHeaderOf x h)) q g))

-- ---- those that are out stay

-- a header in a list isn't out
apart_of : (o : Option HeaderState) (key : PortKey) (P : HeaderState → Type 0) → MatchOption o ⊥ (λ t. P t × (t.queue ≡ Out)) → holds_at o (in_todo key) ≡ true → ⊥
apart_of None key P m e = m
apart_of (Some t) key P m e = let p = m.1 in let z : in_todo key t ≡ false = rw p refl in absurd (let y = z in cc)

pulled_else : (key : PortKey) (ns : List ℕ) (s : Stocked) (m : ℕ) → MatchOption (slice_get ns 0) (Unit {0}) (λ n. m ≢ n) → (todo_front_pulled key ns s).headers.header m ≡ s.headers.header m
pulled_else key [] s m a = refl
pulled_else key (n ∷ ns) s m a = let t : nat_eq m n ≡ false = ne_eqb m n a in rw t refl

given_else : (key : PortKey) (ns : List ℕ) (s : Stocked) (m : ℕ) → s.headers.todo key ≡ ns → MatchOption (slice_get ns 0) (Unit {0}) (λ n. m ≢ n) → (front_given key ns s).headers.header m ≡ s.headers.header m
given_else key [] s m e a = refl
given_else key (n ∷ ns) s m e a =
    let t : nat_eq m n ≡ false = ne_eqb m n a in
    rw t (pulled_else key (s.headers.todo key) s m (rw e a))

front_number : (key : PortKey) (place : Option BufferHeader) (s : Stocked) (m : ℕ) (P : HeaderState → Type 0) → IsFront key place s → MatchOption (s.headers.header m) ⊥ (λ t. P t × (t.queue ≡ Out))
    → MatchOption (slice_get (s.headers.todo key) 0) (Unit {0}) (λ n. m ≢ n)
front_number key None s m P F L = subst (λ (o : Option ℕ). MatchOption o (Unit {0}) (λ n. m ≢ n)) F.0 tt
front_number key (Some x) s m P F L =
    subst (λ (o : Option ℕ). MatchOption o (Unit {0}) (λ n. m ≢ n)) F.0
    (λ e. apart_of (s.headers.header x.held.number) key P (subst (λ (n : ℕ). MatchOption (s.headers.header n) ⊥ (λ t. P t × (t.queue ≡ Out))) e L) F.1.0.0)

swapped : (o : Option HeaderState) (component : ℕ) (h : BufferHeader) → MatchOption o ⊥ (λ t. (t.owner ≡ owners.Work component) × (t.queue ≡ Out) × IsHeaderOf t h)
    → MatchOption o ⊥ (λ t. ((t.owner ≡ owners.Work component) × IsHeaderOf t h) × (t.queue ≡ Out))
swapped None component h m = m
swapped (Some t) component h m = ((m.0, m.2), m.1)

key_stays : (key : PortKey) (s : Stocked) → (goes_out key s).key ≡ s.key
key_stays key s = (given_stays key (s.headers.todo key) s).key

out_stays_lent : (component : ℕ) (h : BufferHeader) (gives : Bool) (key : PortKey) (place : Option BufferHeader) (s : Stocked) → IsFrontWhere gives key place s → LentIn component h s → LentIn component h (out_where gives key s)
out_stays_lent component h false key place s F L = L
out_stays_lent component h true key place s F L =
    let w = swapped (s.headers.header h.held.number) component h L.1 in
    let a = front_number key place s h.held.number (λ t. (t.owner ≡ owners.Work component) × IsHeaderOf t h) F w in
    let e : (goes_out key s).headers.header h.held.number ≡ s.headers.header h.held.number = given_else key (s.headers.todo key) s h.held.number refl a in
    (L.0 ∙ sym (key_stays key s), subst (λ (o : Option HeaderState). MatchOption o ⊥ (λ t. (t.owner ≡ owners.Work component) × (t.queue ≡ Out) × IsHeaderOf t h)) (sym e) L.1)

all_stay : (component port : ℕ) (flags : List Bool) (places : List (Option BufferHeader)) (s : Stocked) (h : BufferHeader) → AreFronts component port flags places s → LentIn component h s → LentIn component h (all_out component port flags s)
all_stay component port [] places s h F L = L
all_stay component port (gives ∷ flags) [] s h F L = absurd F
all_stay component port (gives ∷ flags) (place ∷ places) s h F L =
    all_stay component (port + 1) flags places (out_where gives (key_at component port) s) h F.1 (out_stays_lent component h gives (key_at component port) place s F.0 L)

-- ---- all of them

first_lent : (component port : ℕ) (gives : Bool) (h : BufferHeader) (s : Stocked) → IsFrontWhere gives (key_at component port) (Some h) s → LentIn component h (out_where gives (key_at component port) s)
first_lent component port true h s F = out_lent (key_at component port) h s (s.headers.todo (key_at component port)) F.0 F.1.1
first_lent component port false h s F = absurd (let e = F in cc)

abbrev pub AllLentIn : ℕ → List (Option BufferHeader) → Stocked → Type 0
AllLentIn component [] s = Unit {0}
AllLentIn component (place ∷ places) s = MatchOption place (Unit {0}) (λ h. LentIn component h s) × AllLentIn component places s

free_lent : (component : ℕ) (places : List (Option BufferHeader)) (s : Stocked) → AreFree places → AllLentIn component places s
free_lent component [] s F = tt
free_lent component (None ∷ places) s F = (tt, free_lent component places s F.1)
free_lent component (Some h ∷ places) s F = absurd (let e = F.0 in cc)

all_lent : (component port : ℕ) (flags : List Bool) (places : List (Option BufferHeader)) (s : Stocked) → AreFronts component port flags places s → AllLentIn component places (all_out component port flags s)
all_lent component port [] places s F = free_lent component places s F
all_lent component port (gives ∷ flags) [] s F = absurd F
all_lent component port (gives ∷ flags) (None ∷ places) s F = (tt, all_lent component (port + 1) flags places (out_where gives (key_at component port) s) F.1)
all_lent component port (gives ∷ flags) (Some h ∷ places) s F =
    let t = out_where gives (key_at component port) s in
    (all_stay component (port + 1) flags places t h F.1 (first_lent component port gives h s F.0), all_lent component (port + 1) flags places t F.1)

seen_lent : (component : ℕ) (h : BufferHeader) (o : Option HeaderState) → MatchOption o ⊥ (λ t. (t.owner ≡ owners.Work component) × (t.queue ≡ Out) × IsHeaderOf t h)
    → MatchOption o ⊥ (λ t. (t.owner ≡ owners.Work component) × IsHeaderOf t h)
seen_lent component h None m = m
seen_lent component h (Some t) m = (m.0, m.2)

pub looked_lent : (component : ℕ) (places : List (Option BufferHeader)) (s : Stocked) (l : Look) → l.key ≡ s.key → l.headers ≡ s.headers → AllLentIn component places s → AreLent component places l
looked_lent component [] s l k e A = tt
looked_lent component (None ∷ places) s l k e A = (tt, looked_lent component places s l k e A.1)
looked_lent component (Some h ∷ places) s l k e A =
    ((A.0.0 ∙ sym k, subst (λ (t : Seen). MatchOption (t.header h.held.number) ⊥ (λ x. (x.owner ≡ owners.Work component) × IsHeaderOf x h)) (sym e) (seen_lent component h (s.headers.header h.held.number) A.0.1)), looked_lent component places s l k e A.1)

-- those that go out with the work of the component
pub fronts_lent : (component : ℕ) (flags : List Bool) (places : List (Option BufferHeader)) (s after : Stocked) (l : Look) → after ≡ all_out component 0 flags s → l.key ≡ after.key → l.headers ≡ after.headers
    → AreFronts component 0 flags places s → AreLent component places l
fronts_lent component flags places s after l goes k e F =
    looked_lent component places after l k e (subst (AllLentIn component places) (sym goes) (all_lent component 0 flags places s F))

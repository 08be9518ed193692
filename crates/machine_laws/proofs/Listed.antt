-- The headers whose numbers are in the lists of a port, or in notes.
use Rattle.std.proofs.Common.{◌≡◌, ◌≢◌, ℕ, ◌+◌, ◌≤◌, Bool, true, false, cond, nat_eq, List, [], ◌∷◌, ◌++◌, Option, Some, None, option_map, MatchOption, refl, ◌∙◌, ap, eq-eqb, ne_eqb, arith}
use Rattle.std.proofs.lemmas.List.Sums.{sum_by-cons, sum_by-append}
use Rattle.il_machine.specs.declared.port.PortKey.{PortKey}
use Rattle.il_machine.specs.declared.header.HeaderState.{HeaderState}
use Rattle.il_machine.specs.declared.header.Owner.{Owner}
use Rattle.il_machine.specs.declared.header.Owner.TheVariants as owners
use Rattle.il_machine.specs.Lists.{holds_at}
use Rattle.il_machine.specs.World.{HeaderRecord}
use Rattle.il_machine.specs.Headers.{seen, find_header, state_of, numbers, is_state, is_owned_by, is_todo, is_done, in_todo, in_done, weight, Once}
use Rattle.il_machine.specs.Census.{times}
use Rattle.machine_laws.proofs.Finding.{either, found_head, found_tail}
use Rattle.machine_laws.proofs.Keys.{key_is}
use Rattle.machine_laws.proofs.Accepting.{both_of}

-- what is seen of a header that is there
pub header_there : (o : Option HeaderRecord) (P : HeaderState → Type 0) → MatchOption (option_map state_of o) ⊥ P → (r : HeaderRecord) × (o ≡ Some r) × P r.state
header_there None P h = absurd h
header_there (Some r) P h = (r, refl, h)

pub record IsListed (test : HeaderRecord → Bool) (hs : List HeaderRecord) (n : ℕ) : Type 0 where
  pub header : HeaderRecord
  pub found : find_header n hs ≡ Some header
  pub passes : test header ≡ true

-- each number of the list names a header that passes
abbrev pub AreListed : (HeaderRecord → Bool) → List HeaderRecord → List ℕ → Type 0
AreListed test hs [] = Unit {0}
AreListed test hs (n ∷ ns) = IsListed test hs n × AreListed test hs ns

listed_below : (test : HeaderRecord → Bool) (x : HeaderRecord) (hs : List HeaderRecord) (ns : List ℕ) → find_header x.state.number hs ≡ None → AreListed test hs ns → AreListed test (x ∷ hs) ns
listed_below test x hs [] o A = tt
listed_below test x hs (n ∷ ns) o A =
    let h = A.0 in
    let apart : x.state.number ≢ n = λ e. let a : find_header x.state.number hs ≡ Some h.header = rw e h.found in absurd cc in
    (record { header = h.header; found = found_tail n x hs apart ∙ h.found; passes = h.passes }, listed_below test x hs ns o A.1)

pub numbers_listed : (test : HeaderRecord → Bool) (hs : List HeaderRecord) → Once hs → AreListed test hs (numbers test hs)
numbers_listed test [] o = tt
numbers_listed test (x ∷ hs) o =
    let i = listed_below test x hs (numbers test hs) o.0 (numbers_listed test hs o.1) in
    either (test x)
    (λ t. rw t (record { header = x; found = found_head x.state.number x hs refl; passes = t }, i))
    (λ f. rw f i)

pub owned_is : (key : PortKey) (owner : Owner) → is_owned_by key owner ≡ true → owner ≡ owners.Port key
owned_is key (owners.Port k) h = ap (λ (x : PortKey). owners.Port x) (key_is k key h)
owned_is key owners.Client h = absurd cc
owned_is key (owners.Notice c) h = absurd cc
owned_is key (owners.Work c) h = absurd cc

pub todo_owner : (key : PortKey) (s : HeaderState) → in_todo key s ≡ true → s.owner ≡ owners.Port key
todo_owner key s h = owned_is key s.owner (both_of (is_todo s.queue) (is_owned_by key s.owner) h).1

pub done_owner : (key : PortKey) (s : HeaderState) → in_done key s ≡ true → s.owner ≡ owners.Port key
done_owner key s h = owned_is key s.owner (both_of (is_done s.queue) (is_owned_by key s.owner) h).1

-- a header in a list of a port, by its number
pub record IsIn (key : PortKey) (hs : List HeaderRecord) (n : ℕ) : Type 0 where
  pub header : HeaderRecord
  pub found : find_header n hs ≡ Some header
  pub owner : header.state.owner ≡ owners.Port key

abbrev pub AreIn : PortKey → List HeaderRecord → List ℕ → Type 0
AreIn key hs [] = Unit {0}
AreIn key hs (n ∷ ns) = IsIn key hs n × AreIn key hs ns

in_by_test : (key : PortKey) (test : HeaderState → Bool) (hs : List HeaderRecord) (ns : List ℕ) → ((s : HeaderState) → test s ≡ true → s.owner ≡ owners.Port key) → AreListed (is_state test) hs ns → AreIn key hs ns
in_by_test key test hs [] h A = tt
in_by_test key test hs (n ∷ ns) h A = let a = A.0 in (record { header = a.header; found = a.found; owner = h (a.header).state a.passes }, in_by_test key test hs ns h A.1)

pub todo_in : (key : PortKey) (hs : List HeaderRecord) → Once hs → AreIn key hs ((seen hs).todo key)
todo_in key hs o = in_by_test key (in_todo key) hs ((seen hs).todo key) (todo_owner key) (numbers_listed (is_state (in_todo key)) hs o)

pub done_in : (key : PortKey) (hs : List HeaderRecord) → Once hs → AreIn key hs ((seen hs).done key)
done_in key hs o = in_by_test key (in_done key) hs ((seen hs).done key) (done_owner key) (numbers_listed (is_state (in_done key)) hs o)

pub both_in : (key : PortKey) (hs : List HeaderRecord) (xs ys : List ℕ) → AreIn key hs xs → AreIn key hs ys → AreIn key hs (xs ++ ys)
both_in key hs [] ys A B = B
both_in key hs (n ∷ xs) ys A B = (A.0, both_in key hs xs ys A.1 B)

pub first_in : (key : PortKey) (hs : List HeaderRecord) (ns rest : List ℕ) (n : ℕ) → AreIn key hs ns → ns ≡ n ∷ rest → IsIn key hs n
first_in key hs [] rest n A e = absurd cc
first_in key hs (m ∷ ns) rest n A e = let s : m ≡ n = cc in rw (← s) A.0

-- ---- how often a number is in a list

pub times_cons : (m n : ℕ) (ns : List ℕ) → times m (n ∷ ns) ≡ weight (nat_eq n m) + times m ns
times_cons m n ns =
    let s = sum_by-cons (λ x. cond (nat_eq x m) 1 0) n ns in
    let w : cond {A = ℕ} (nat_eq n m) 1 0 ≡ weight (nat_eq n m) = either (nat_eq n m) (λ t. rw t refl) (λ f. rw f refl) in
    s ∙ rw w refl

pub times_append : (m : ℕ) (xs ys : List ℕ) → times m (xs ++ ys) ≡ times m xs + times m ys
times_append m xs ys = sum_by-append (λ x. cond (nat_eq x m) 1 0) xs ys

pub times_self : (n : ℕ) (ns : List ℕ) → times n (n ∷ ns) ≡ 1 + times n ns
times_self n ns = let c = times_cons n n ns in let f : weight (nat_eq n n) ≡ 1 = rw (eq-eqb n n refl) refl in omega arith

pub times_else : (m n : ℕ) (ns : List ℕ) → n ≢ m → times m (n ∷ ns) ≡ times m ns
times_else m n ns a = let c = times_cons m n ns in let f : weight (nat_eq n m) ≡ 0 = rw (ne_eqb n m a) refl in omega arith

-- a header that is counted as one of the notes
pub weighs_one : (o : Option HeaderRecord) (test : HeaderState → Bool) → 1 ≤ weight (holds_at (option_map state_of o) test) → (r : HeaderRecord) × (o ≡ Some r) × (test r.state ≡ true)
weighs_one None test h = absurd (omega arith)
weighs_one (Some r) test h = either (test r.state) (λ t. (r, refl, t)) (λ f. let z : weight (test r.state) ≡ 0 = rw f refl in absurd (omega arith))

pub weight_below : (b : Bool) → weight b ≤ 1
weight_below true = omega arith
weight_below false = omega arith

-- How the lists, the headers and the counts of a flat list change.
use Rattle.std.proofs.Common.{◌≡◌, ◌≢◌, ℕ, ◌+◌, Bool, true, false, nat_eq, List, [], ◌∷◌, ◌++◌, Some, None, if◌then◌else◌, refl, ap, arith}
use Rattle.std.proofs.lemmas.Bool.Decides.{nat_tests}
use Rattle.il_machine.specs.declared.header.HeaderState.{HeaderState}
use Rattle.il_machine.specs.World.{HeaderRecord}
use Rattle.il_machine.specs.Headers.{numbers, find_header, without, changed, has_number, Once, weight, count_headers}
use Rattle.il_machine.specs.Stock.{number_where, without_number}

-- ---- one header more

pub numbers-append : (q : HeaderRecord → Bool) (hs : List HeaderRecord) (r : HeaderRecord) → numbers q (hs ++ r ∷ []) ≡ numbers q hs ++ number_where (q r) r.state.number
numbers-append q [] r = elim (q r) as (λ v. (if v then r.state.number ∷ [] else []) ≡ [] ++ number_where v r.state.number) [ true ↦ refl | false ↦ refl ]
numbers-append q (x ∷ hs) r =
    let i = numbers-append q hs r in
    elim (q x) as (λ v. (if v then x.state.number ∷ numbers q (hs ++ r ∷ []) else numbers q (hs ++ r ∷ [])) ≡ (if v then x.state.number ∷ numbers q hs else numbers q hs) ++ number_where (q r) r.state.number)
    [ true ↦ ap (λ (ns : List ℕ). x.state.number ∷ ns) i | false ↦ i ]

pub numbers-cons : (q : HeaderRecord → Bool) (r : HeaderRecord) (hs : List HeaderRecord) → numbers q (r ∷ hs) ≡ number_where (q r) r.state.number ++ numbers q hs
numbers-cons q r hs = elim (q r) as (λ v. (if v then r.state.number ∷ numbers q hs else numbers q hs) ≡ number_where v r.state.number ++ numbers q hs) [ true ↦ refl | false ↦ refl ]

pub find-append : (m : ℕ) (hs : List HeaderRecord) (r : HeaderRecord) → find_header r.state.number hs ≡ None → find_header m (hs ++ r ∷ []) ≡ (if has_number m r then Some r else find_header m hs)
find-append m [] r h = refl
find-append m (x ∷ hs) r h = grind (arith, nat_tests, find-append m hs r)

pub count-append : (q : HeaderState → Bool) (hs : List HeaderRecord) (r : HeaderRecord) → count_headers q (hs ++ r ∷ []) ≡ count_headers q hs + weight (q r.state)
count-append q [] r = omega arith
count-append q (x ∷ hs) r = omega (arith, count-append q hs r)

find-append_none : (m : ℕ) (hs : List HeaderRecord) (r : HeaderRecord) → m ≢ r.state.number → find_header m hs ≡ None → find_header m (hs ++ r ∷ []) ≡ None
find-append_none m [] r d h = grind (arith, nat_tests)
find-append_none m (x ∷ hs) r d h = grind (arith, nat_tests, find-append_none m hs r d)

pub once-append : (hs : List HeaderRecord) (r : HeaderRecord) → Once hs → find_header r.state.number hs ≡ None → Once (hs ++ r ∷ [])
once-append [] r o h = (refl, tt)
once-append (x ∷ hs) r o h =
    let d : x.state.number ≢ r.state.number = grind (arith, nat_tests) in
    let k : find_header r.state.number hs ≡ None = grind (arith, nat_tests) in
    (find-append_none x.state.number hs r d o.0, once-append hs r o.1 k)

-- ---- one header less

pub numbers-without : (q : HeaderRecord → Bool) (n : ℕ) (hs : List HeaderRecord) (r : HeaderRecord) → find_header n hs ≡ Some r → q r ≡ false → numbers q (without n hs) ≡ numbers q hs
numbers-without q n [] r f h = refl
numbers-without q n (x ∷ hs) r f h = grind (arith, numbers-without q n hs r)

pub find_number : (n : ℕ) (hs : List HeaderRecord) (r : HeaderRecord) → find_header n hs ≡ Some r → r.state.number ≡ n
find_number n [] r f = absurd cc
find_number n (x ∷ hs) r f = grind (arith, nat_tests, find_number n hs r)

pub find-without_other : (m n : ℕ) (hs : List HeaderRecord) → m ≢ n → find_header m (without n hs) ≡ find_header m hs
find-without_other m n [] h = refl
find-without_other m n (x ∷ hs) h = grind (arith, nat_tests, find-without_other m n hs h)

pub find-without_none : (m n : ℕ) (hs : List HeaderRecord) → find_header m hs ≡ None → find_header m (without n hs) ≡ None
find-without_none m n [] h = refl
find-without_none m n (x ∷ hs) h = grind (arith, nat_tests, find-without_none m n hs)

pub find-without_same : (n : ℕ) (hs : List HeaderRecord) → Once hs → find_header n (without n hs) ≡ None
find-without_same n [] o = refl
find-without_same n (x ∷ hs) o = let h = o.0 in grind (arith, nat_tests, find-without_same n hs o.1)

pub count-without : (q : HeaderState → Bool) (n : ℕ) (hs : List HeaderRecord) (r : HeaderRecord) → find_header n hs ≡ Some r → count_headers q (without n hs) + weight (q r.state) ≡ count_headers q hs
count-without q n [] r f = absurd cc
count-without q n (x ∷ hs) r f = grind (arith, count-without q n hs r)

pub once-without : (n : ℕ) (hs : List HeaderRecord) → Once hs → Once (without n hs)
once-without n [] o = tt
once-without n (x ∷ hs) o = elim (has_number n x) as (λ v. Once (if v then hs else x ∷ without n hs)) [ true ↦ o.1 | false ↦ (find-without_none x.state.number n hs o.0, once-without n hs o.1) ]

-- ---- one header changed

pub numbers-changed : (q : HeaderRecord → Bool) (n : ℕ) (f : HeaderRecord → HeaderRecord) (hs : List HeaderRecord) (r : HeaderRecord) → find_header n hs ≡ Some r → (f r).state.number ≡ r.state.number → q (f r) ≡ q r → numbers q (changed n f hs) ≡ numbers q hs
numbers-changed q n f [] r e k h = refl
numbers-changed q n f (x ∷ hs) r e k h = grind (arith, numbers-changed q n f hs r)

pub find-changed : (m n : ℕ) (f : HeaderRecord → HeaderRecord) (hs : List HeaderRecord) (r : HeaderRecord) → find_header n hs ≡ Some r → (f r).state.number ≡ r.state.number → find_header m (changed n f hs) ≡ (if nat_eq m n then Some (f r) else find_header m hs)
find-changed m n f [] r e h = absurd cc
find-changed m n f (x ∷ hs) r e h = grind (arith, nat_tests, find-changed m n f hs r)

pub count-changed : (q : HeaderState → Bool) (n : ℕ) (f : HeaderRecord → HeaderRecord) (hs : List HeaderRecord) (r : HeaderRecord) → find_header n hs ≡ Some r → count_headers q (changed n f hs) + weight (q r.state) ≡ count_headers q hs + weight (q (f r).state)
count-changed q n f [] r e = absurd cc
count-changed q n f (x ∷ hs) r e = grind (arith, count-changed q n f hs r)

find-changed_none : (m n : ℕ) (f : HeaderRecord → HeaderRecord) (hs : List HeaderRecord) → ((r : HeaderRecord) → (f r).state.number ≡ r.state.number) → find_header m hs ≡ None → find_header m (changed n f hs) ≡ None
find-changed_none m n f [] k h = refl
find-changed_none m n f (x ∷ hs) k h = grind (arith, nat_tests, k x, find-changed_none m n f hs k)

pub once-changed : (n : ℕ) (f : HeaderRecord → HeaderRecord) (hs : List HeaderRecord) → ((r : HeaderRecord) → (f r).state.number ≡ r.state.number) → Once hs → Once (changed n f hs)
once-changed n f [] k o = tt
once-changed n f (x ∷ hs) k o = elim (has_number n x) as (λ v. Once (if v then f x ∷ hs else x ∷ changed n f hs))
    [ true ↦ (rw (k x) o.0, o.1) | false ↦ (find-changed_none x.state.number n f hs k o.0, once-changed n f hs k o.1) ]

-- a change where it stands doesn't matter to a removal
pub without-changed : (n : ℕ) (f : HeaderRecord → HeaderRecord) (hs : List HeaderRecord) → ((r : HeaderRecord) → (f r).state.number ≡ r.state.number) → without n (changed n f hs) ≡ without n hs
without-changed n f [] k = refl
without-changed n f (x ∷ hs) k = grind (arith, nat_tests, k x, without-changed n f hs k)

-- two changes where it stands are one
pub changed-changed : (n : ℕ) (f g : HeaderRecord → HeaderRecord) (hs : List HeaderRecord) → ((r : HeaderRecord) → (f r).state.number ≡ r.state.number) → changed n g (changed n f hs) ≡ changed n (λ r. g (f r)) hs
changed-changed n f g [] k = refl
changed-changed n f g (x ∷ hs) k = grind (arith, nat_tests, k x, changed-changed n f g hs k)

-- a change does to the header of the number what another does
pub changed-as : (n : ℕ) (f g : HeaderRecord → HeaderRecord) (hs : List HeaderRecord) (r : HeaderRecord) → find_header n hs ≡ Some r → f r ≡ g r → changed n f hs ≡ changed n g hs
changed-as n f g [] r e k = refl
changed-as n f g (x ∷ hs) r e k = grind (arith, nat_tests, changed-as n f g hs r)

pub without-append : (n : ℕ) (hs : List HeaderRecord) (r : HeaderRecord) → find_header n hs ≡ None → r.state.number ≡ n → without n (hs ++ r ∷ []) ≡ hs
without-append n [] r h e = grind (arith, nat_tests)
without-append n (x ∷ hs) r h e = grind (arith, nat_tests, without-append n hs r)

-- ---- the numbers of a list

without-none : (q : HeaderRecord → Bool) (n : ℕ) (hs : List HeaderRecord) → find_header n hs ≡ None → without_number n (numbers q hs) ≡ numbers q hs
without-none q n [] h = refl
without-none q n (x ∷ hs) h = grind (arith, nat_tests, without-none q n hs)

-- the header that stops passing the test leaves the numbers
pub numbers-changed_away : (q : HeaderRecord → Bool) (n : ℕ) (f : HeaderRecord → HeaderRecord) (hs : List HeaderRecord) → Once hs → ((r : HeaderRecord) → q (f r) ≡ false) → numbers q (changed n f hs) ≡ without_number n (numbers q hs)
numbers-changed_away q n f [] o k = refl
numbers-changed_away q n f (x ∷ hs) o k = let h = o.0 in grind (arith, nat_tests, k x, numbers-changed_away q n f hs o.1 k, without-none q n hs)

-- How many headers pass a test.
use Rattle.std.proofs.Common.{◌≡◌, ℕ, ◌<◌, ◌≤◌, Bool, true, false, List, [], ◌∷◌, length, Some, option_map, refl, sym, ◌∙◌, ap, arith}
use Rattle.std.proofs.lemmas.Bool.Decides.{nat_tests}
use Rattle.il_machine.specs.declared.port.PortKey.{PortKey}
use Rattle.il_machine.specs.declared.header.HeaderState.{HeaderState}
use Rattle.il_machine.specs.World.{HeaderRecord}
use Rattle.il_machine.specs.Headers.{Seen, numbers, find_header, has_number, Once, weight, count_headers, state_of, is_state, in_todo, in_done}
use Rattle.il_machine.specs.Stock.{Stocked, StandsFor}
use Rattle.stock_laws.specs.Seeing.{Implies}
use Rattle.stock_laws.proofs.Flat.{count-without}
use Rattle.stock_laws.proofs.Standing.{found}
use Rattle.stock_laws.proofs.Leaving.{front_step}

-- of each header of the list
abbrev pub Each : (HeaderRecord → Type 0) → List HeaderRecord → Type 0
Each P [] = Unit {0}
Each P (r ∷ hs) = P r × Each P hs

-- what is true of every header that its number finds is true of each
pub each_found : (P : HeaderRecord → Type 0) (hs : List HeaderRecord) → Once hs → ((n : ℕ) (r : HeaderRecord) → find_header n hs ≡ Some r → P r) → Each P hs
each_found P [] o h = tt
each_found P (r ∷ hs) o h = (
  h r.state.number r (grind (arith, nat_tests)),
  each_found P hs o.1 (λ n x e. h n x (front_step n r hs x o.0 e)),
)

flat_le : (p q : HeaderState → Bool) (hs : List HeaderRecord) → Each (λ r. p r.state ≡ true → q r.state ≡ true) hs → count_headers p hs ≤ count_headers q hs
flat_le p q [] h = omega arith
flat_le p q (r ∷ hs) h = let i = flat_le p q hs h.1 in grind (arith, h.0)

flat_less : (p q : HeaderState → Bool) (n : ℕ) (hs : List HeaderRecord) (r : HeaderRecord) → Each (λ r. p r.state ≡ true → q r.state ≡ true) hs → find_header n hs ≡ Some r → p r.state ≡ false → q r.state ≡ true
    → count_headers p hs < count_headers q hs
flat_less p q n [] r h f a b = absurd cc
flat_less p q n (x ∷ hs) r h f a b =
    let i = flat_le p q hs h.1 in
    elim (has_number n x) as (λ v. has_number n x ≡ v → count_headers p (x ∷ hs) < count_headers q (x ∷ hs)) [
      | true ↦ λ e. let g : x ≡ r = grind arith in grind (arith, h.0)
      | false ↦ λ e. let g : find_header n hs ≡ Some r = grind arith in let j = flat_less p q n hs r h.1 g a b in grind (arith, h.0)
    ] refl

each_implies : (s : Stocked) (hs : List HeaderRecord) (p q : HeaderState → Bool) → StandsFor s hs → Implies s.headers p q → Each (λ r. p r.state ≡ true → q r.state ≡ true) hs
each_implies s hs p q S h = each_found (λ r. p r.state ≡ true → q r.state ≡ true) hs S.once (λ n r e. h n r.state (sym (ap (λ (v : Seen). v.header n) S.looks) ∙ ap (option_map state_of) e))

pub count_le : (s : Stocked) (hs : List HeaderRecord) (p q : HeaderState → Bool) → StandsFor s hs → Implies s.headers p q → s.headers.count p ≤ s.headers.count q
count_le s hs p q S h =
    let i = flat_le p q hs (each_implies s hs p q S h) in
    let a : count_headers p hs ≡ s.headers.count p = ap (λ (v : Seen). v.count p) S.looks in
    let b : count_headers q hs ≡ s.headers.count q = ap (λ (v : Seen). v.count q) S.looks in
    omega arith

pub count_less : (s : Stocked) (hs : List HeaderRecord) (p q : HeaderState → Bool) (n : ℕ) (h : HeaderState) → StandsFor s hs → Implies s.headers p q → s.headers.header n ≡ Some h → p h ≡ false → q h ≡ true
    → s.headers.count p < s.headers.count q
count_less s hs p q n h S i e a b =
    let F = found s hs n h S e in
    let x : p F.it.state ≡ false = ap p F.state ∙ a in
    let y : q F.it.state ≡ true = ap q F.state ∙ b in
    let j = flat_less p q n hs F.it (each_implies s hs p q S i) F.is x y in
    let c : count_headers p hs ≡ s.headers.count p = ap (λ (v : Seen). v.count p) S.looks in
    let d : count_headers q hs ≡ s.headers.count q = ap (λ (v : Seen). v.count q) S.looks in
    omega arith

-- a header that is there is counted: what a change takes from a count is in it
pub count_at : (s : Stocked) (hs : List HeaderRecord) (test : HeaderState → Bool) (n : ℕ) (h : HeaderState) → StandsFor s hs → s.headers.header n ≡ Some h → weight (test h) ≤ s.headers.count test
count_at s hs test n h S e =
    let F = found s hs n h S e in
    let c = count-without test n hs F.it F.is in
    let w : weight (test F.it.state) ≡ weight (test h) = ap (λ (x : HeaderState). weight (test x)) F.state in
    let d : count_headers test hs ≡ s.headers.count test = ap (λ (v : Seen). v.count test) S.looks in
    omega arith

weight_none : (b : Bool) → weight b ≤ 0 → b ≡ false
weight_none true h = absurd (omega arith)
weight_none false h = refl

-- where none is counted, no header passes
pub count_none : (s : Stocked) (hs : List HeaderRecord) (test : HeaderState → Bool) (n : ℕ) (h : HeaderState) → StandsFor s hs → s.headers.count test ≡ 0 → s.headers.header n ≡ Some h → test h ≡ false
count_none s hs test n h S z e = let a = count_at s hs test n h S e in weight_none (test h) (omega arith)

length-numbers : (test : HeaderState → Bool) (hs : List HeaderRecord) → length (numbers (is_state test) hs) ≡ count_headers test hs
length-numbers test [] = refl
length-numbers test (r ∷ hs) = grind (arith, length-numbers test hs)

pub todo_counted : (s : Stocked) (hs : List HeaderRecord) (key : PortKey) → StandsFor s hs → length (s.headers.todo key) ≡ s.headers.count (in_todo key)
todo_counted s hs key S =
    ap (λ (v : Seen). length (v.todo key)) (sym S.looks) ∙ (length-numbers (in_todo key) hs ∙ ap (λ (v : Seen). v.count (in_todo key)) S.looks)

pub done_counted : (s : Stocked) (hs : List HeaderRecord) (key : PortKey) → StandsFor s hs → length (s.headers.done key) ≡ s.headers.count (in_done key)
done_counted s hs key S =
    ap (λ (v : Seen). length (v.done key)) (sym S.looks) ∙ (length-numbers (in_done key) hs ∙ ap (λ (v : Seen). v.count (in_done key)) S.looks)

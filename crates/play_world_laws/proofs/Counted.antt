-- How many headers pass a test that is told by a list of their numbers.
use Rattle.std.proofs.Common.{◌≡◌, ℕ, Bool, true, false, List, [], ◌∷◌, length, Some, option_map, refl, sym, ◌∙◌, subst, eqb-true, nat_eq, arith}
use Rattle.std.proofs.lemmas.Bool.{eqb-false}
use Rattle.il_machine.specs.declared.header.HeaderState.{HeaderState}
use Rattle.il_machine.specs.Lists.{holds_at}
use Rattle.il_machine.specs.World.{HeaderRecord}
use Rattle.il_machine.specs.Headers.{find_header, state_of, count_headers, numbers, is_state, weight, Once, without}
use Rattle.il_machine.specs.Census.{times}
use Rattle.machine_laws.proofs.Finding.{either, without_else, without_same, once_without, count_without}
use Rattle.machine_laws.proofs.Ties.{none_counted}
use Rattle.machine_laws.proofs.Listed.{times_self, times_else, weighs_one, weight_below}

pub both : {A : Type 0} (b : Bool) → b ≡ true → b ≡ false → A
both b t f = let e : true ≡ false = sym t ∙ f in absurd cc

pub length-numbers : (test : HeaderState → Bool) (rs : List HeaderRecord) → length (numbers (is_state test) rs) ≡ count_headers test rs
length-numbers test [] = refl
length-numbers test (r ∷ rs) = let i = length-numbers test rs in either (test r.state) (λ t. rw t (omega arith)) (λ f. rw f (omega arith))

-- the number stands in the list once where its header is there and passes
abbrev pub AreThose : (HeaderState → Bool) → List ℕ → List HeaderRecord → Type 0
AreThose test ns hs = (n : ℕ) → times n ns ≡ weight (holds_at (option_map state_of (find_header n hs)) test)

passes_none : (test : HeaderState → Bool) (hs : List HeaderRecord) → AreThose test [] hs → (n : ℕ) (r : HeaderRecord) → find_header n hs ≡ Some r → test r.state ≡ false
passes_none test hs A n r f =
    let w : times n [] ≡ weight (test r.state) = A n ∙ rw f refl in
    let z : times n [] ≡ 0 = refl in
    either (test r.state) (λ t. let u : weight (test r.state) ≡ 1 = rw t refl in absurd (omega arith)) (λ e. e)

fewer : (test : HeaderState → Bool) (m : ℕ) (ms : List ℕ) (hs : List HeaderRecord) → Once hs → AreThose test (m ∷ ms) hs → AreThose test ms (without m hs)
fewer test m ms hs o A n = either (nat_eq n m)
    (λ t.
    let e : n ≡ m = eqb-true _ _ t in
    let a = A m in
    let b = times_self m ms in
    let c = weight_below (holds_at (option_map state_of (find_header m hs)) test) in
    let z : times m ms ≡ 0 = omega arith in
    let y : weight (holds_at (option_map state_of (find_header m (without m hs))) test) ≡ 0 = rw (without_same m hs o) refl in
    subst (λ (k : ℕ). times k ms ≡ weight (holds_at (option_map state_of (find_header k (without m hs))) test)) (sym e) (z ∙ sym y))
    (λ f.
    let d = eqb-false _ _ f in
    let a = A n in
    let b = times_else n m ms (λ q. d (sym q)) in
    let y : weight (holds_at (option_map state_of (find_header n (without m hs))) test) ≡ weight (holds_at (option_map state_of (find_header n hs)) test) = rw (without_else m n hs d) refl in
    sym b ∙ (a ∙ sym y))

pub counted_by : (test : HeaderState → Bool) (ns : List ℕ) (hs : List HeaderRecord) → Once hs → AreThose test ns hs → count_headers test hs ≡ length ns
counted_by test [] hs o A = none_counted test hs o (passes_none test hs A)
counted_by test (m ∷ ms) hs o A =
    let a = A m in
    let b = times_self m ms in
    let r = weighs_one (find_header m hs) test (omega arith) in
    let c = count_without test m hs r.0 r.1 in
    let w : weight (test (r.0).state) ≡ 1 = rw r.2 refl in
    let i = counted_by test ms (without m hs) (once_without m hs o) (fewer test m ms hs o A) in
    omega arith

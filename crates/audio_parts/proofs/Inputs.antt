-- One input of those that came.
use Rattle.std.proofs.Common.{◌≡◌, ◌≢◌, ℕ, ◌==◌, List, Bool, true, false, if◌then◌else◌, get_or, set, length, ◌<◌, sym, ap, subst, ◌∙◌, arith}
use Rattle.std.proofs.lemmas.Bool.{false≢true, cond_both}
use Rattle.std.proofs.lemmas.Bool.Decides.{nat_tests}
use Rattle.std.proofs.lemmas.List.{get_or-set_same, get_or-set_other}
use Rattle.part_api.specs.Streams.{Incoming, with_input}

same_test : (i : ℕ) → (i == i) ≡ true
same_test i = grind (arith, nat_tests)

other_test : (k i : ℕ) → k ≢ i → (k == i) ≡ false
other_test k i n = grind (arith, nat_tests)

test_same : (k i : ℕ) → (k == i) ≡ true → k ≡ i
test_same k i e = grind (arith, nat_tests)

test_other : (k i : ℕ) → (k == i) ≡ false → k ≢ i
test_other k i e = λ q. false≢true (sym e ∙ ap (λ n. n == i) q ∙ same_test i)

pub with_same : (i : ℕ) (piece : List ℕ) (incoming : Incoming) → (with_input i piece incoming).input i ≡ piece
with_same i piece incoming = ap (λ b. if b then piece else incoming.input i) (same_test i)

pub with_other : (i : ℕ) (piece : List ℕ) (incoming : Incoming) (k : ℕ) → k ≢ i → (with_input i piece incoming).input k ≡ incoming.input k
with_other i piece incoming k n = ap (λ b. if b then piece else incoming.input k) (other_test k i n)

pub with_each : (P : List ℕ → Type 0) (i : ℕ) (piece : List ℕ) (incoming : Incoming) (k : ℕ) → P piece → P (incoming.input k) → P ((with_input i piece incoming).input k)
with_each P i piece incoming k p q = cond_both (k == i) piece (incoming.input k) P (λ _. p) (λ _. q)

-- an input that wasn't taken after one was is another, and wasn't taken before
pub with_untaken : (P : List ℕ → Type 0) (taken : List Bool) (i : ℕ) (piece : List ℕ) (incoming : Incoming) (k : ℕ) → i < length taken
    → get_or (set taken i true) k true ≡ false → (get_or taken k true ≡ false → P (incoming.input k)) → P ((with_input i piece incoming).input k)
with_untaken P taken i piece incoming k l free q = cond_both (k == i) piece (incoming.input k) P
    (λ e. absurd (false≢true (sym (subst (λ n. get_or (set taken i true) n true ≡ false) (test_same k i e) free) ∙ get_or-set_same taken i true true l)))
    (λ e. q (sym (get_or-set_other taken i k true true (test_other k i e)) ∙ free))

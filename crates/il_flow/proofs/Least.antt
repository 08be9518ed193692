-- The least of what headers offer, and when inputs have ended.
use Rattle.std.proofs.Common.{◌≡◌, ℕ, suc, zero, ◌+◌, ◌-◌, min, Bool, true, false, not, ◌&&◌, ◌||◌, nat_eq, nat_lt, nat_le, List, [], ◌∷◌, length, refl, ap, sym, ◌∙◌, arith}
use Rattle.std.specs.Prelude.{Option, Some, None, unwrap_or}
use Rattle.std.specs.List.{list_all}
use Rattle.part_api.specs.Terms.{Terms}
use Rattle.il_machine.specs.Lists.{least}
use Rattle.il_machine.specs.Claims.{CarriedHeader}
use Rattle.il_machine.specs.World.{Stream}
use Rattle.il_machine.specs.Stepping.{all_frames_at, has_input, is_over, step_frames, ended_from, has_ended_by, inputs_ended, is_in, is_last}
use Rattle.std.proofs.lemmas.Bool.Decides.{nat_tests}
use Rattle.il_flow.specs.Steps.{IsLeft, frames_by, over_by, lowest}

-- ---- the least

least_of_min : (n m : ℕ) (ns : List ℕ) → least (min n m ∷ ns) ≡ least (n ∷ m ∷ ns)
least_of_min n m [] = refl
least_of_min n m (k ∷ ks) = let rest = least (k ∷ ks) in omega arith

lowest_some : (n : ℕ) (ns : List ℕ) → lowest (Some n) ns ≡ Some (least (n ∷ ns))
lowest_some n [] = refl
lowest_some n (m ∷ ns) = lowest_some (min n m) ns ∙ ap (λ k. Some k) (least_of_min n m ns)

pub least_from : (n : ℕ) (ns : List ℕ) → unwrap_or (lowest (Some n) ns) 0 ≡ least (n ∷ ns)
least_from n ns = ap (λ o. unwrap_or o 0) (lowest_some n ns)

pub least_of_all : (ns : List ℕ) → unwrap_or (lowest None ns) 0 ≡ least ns
least_of_all [] = refl
least_of_all (n ∷ ns) = least_from n ns

-- ---- what has ended

is_among : ℕ → ℕ → ℕ → Bool
is_among q p zero = false
is_among q p (suc k) = nat_eq q p || is_among q (p + 1) k

both : (a w b e r : Bool) → ((not a || b) && e) && ((not w || b) && r) ≡ (not (a || w) || b) && (e && r)
both true true true e r = refl
both true true false e r = refl
both true false true e r = refl
both true false false e r = refl
both false true true e r = refl
both false true false true r = refl
both false true false false r = refl
both false false true e r = refl
both false false false e r = refl

among : (q p k : ℕ) → is_among q p k ≡ (nat_le p q && nat_lt q (p + k))
unfolding is_among
among q p zero = grind (arith, nat_tests)
among q p (suc k) = let e = among q (p + 1) k in grind (arith, nat_tests)

with_one : (t : Terms) (n : ℕ) (x : CarriedHeader) (xs : List CarriedHeader) (p k : ℕ)
    → list_all (λ ended. ended) (ended_from t n (x ∷ xs) p k) ≡ ((not (is_among x.port p k) || is_last t n x) && list_all (λ ended. ended) (ended_from t n xs p k))
unfolding is_among
with_one t n x xs p zero = refl
with_one t n x xs p (suc k) =
    ap (λ rest. ((not (nat_eq x.port p) || is_last t n x) && has_ended_by t n xs p) && rest) (with_one t n x xs (p + 1) k)
    ∙ both (nat_eq x.port p) (is_among x.port (p + 1) k) (is_last t n x) (has_ended_by t n xs p) (list_all (λ ended. ended) (ended_from t n xs (p + 1) k))

none_ended : (t : Terms) (n p k : ℕ) → list_all (λ ended. ended) (ended_from t n [] p k) ≡ true
none_ended t n p zero = refl
none_ended t n p (suc k) = none_ended t n (p + 1) k

among_first : (q k : ℕ) → is_among q 0 k ≡ nat_lt q k
among_first q k = among q 0 k ∙ ap (λ b. b) (grind (arith, nat_tests))

-- all inputs have ended where each header of an input is its last one
pub all_ended : (t : Terms) (n : ℕ) (xs : List CarriedHeader) → list_all (λ ended. ended) (inputs_ended t n xs) ≡ list_all (λ x. not (is_in t x) || is_last t n x) xs
all_ended t n [] = none_ended t n 0 (length t.inputs)
all_ended t n (x ∷ xs) =
    with_one t n x xs 0 (length t.inputs)
    ∙ ap (λ b. (not b || is_last t n x) && list_all (λ ended. ended) (inputs_ended t n xs)) (among_first x.port (length t.inputs))
    ∙ ap (λ rest. (not (is_in t x) || is_last t n x) && rest) (all_ended t n xs)

pub over_is : (t : Terms) (s : Stream) (left : Option ℕ) (n : ℕ) (xs : List CarriedHeader) → IsLeft left t s → over_by left t n xs ≡ is_over t s n (inputs_ended t n xs)
over_is t s None n xs other = rw other (sym (all_ended t n xs))
over_is t s (Some left) n xs h = rw h.0 (ap (λ k. nat_eq (k - n) 0) h.1)

-- ---- the frames of a step

pub of_inputs : (t : Terms) (xs : List CarriedHeader) → has_input t xs ≡ true → unwrap_or (lowest None (all_frames_at t xs)) 0 ≡ frames_by None t xs
of_inputs t xs some = rw some (least_of_all (all_frames_at t xs))

pub frames_are : (t : Terms) (s : Stream) (left : Option ℕ) (xs : List CarriedHeader) → IsLeft left t s → frames_by left t xs ≡ step_frames t s xs
frames_are t s None xs other = rw other refl
frames_are t s (Some left) xs h = rw h.0 (ap (λ n. least (n ∷ all_frames_at t xs)) h.1)

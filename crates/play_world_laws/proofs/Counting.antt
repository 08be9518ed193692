-- How many headers a play's world has: for each link, and in all.
use Rattle.std.proofs.Common.{◌≡◌, ◌≢◌, inl, inr, ℕ, zero, suc, ◌+◌, ◌<◌, ◌≤◌, Bool, true, false, nat_eq, List, [], ◌∷◌, slice_get, option_and_then, Option, Some, None, option_map, refl, sym, ◌∙◌, ap, eqb-true, arith}
use Rattle.std.proofs.lemmas.Bool.{eqb-false}
use Rattle.il_machine.specs.declared.port.PortKey.{PortKey}
use Rattle.il_machine.specs.declared.header.HeaderState.{HeaderState}
use Rattle.il_machine.specs.Lists.{holds_at}
use Rattle.il_machine.specs.World.{Component, HeaderRecord, World, number_of}
use Rattle.il_machine.specs.Headers.{find_header, state_of, count_headers, weight, Once}
use Rattle.il_machine.specs.Census.{times, work_numbers}
use Rattle.il_machine.specs.Sound.{Sound, is_in_work_of}
use Rattle.machine_laws.proofs.Finding.{either, found_tail, found_head}
use Rattle.machine_laws.proofs.Keys.{none_or_some}
use Rattle.machine_laws.proofs.Parts.{parts_of}
use Rattle.play_model.specs.Progress.{sum_to}
use Rattle.play_world_laws.specs.View.{worked_at, is_in}
use Rattle.play_world_laws.specs.Wiring.{work_in}
use Rattle.play_world_laws.proofs.Flowing.{not_worked_by, sum_fewer}

-- ---- counts that agree

pub count_same : (f g : HeaderState → Bool) (rs : List HeaderRecord) → Once rs → ((n : ℕ) (r : HeaderRecord) → find_header n rs ≡ Some r → f r.state ≡ g r.state) → count_headers f rs ≡ count_headers g rs
count_same f g [] o h = refl
count_same f g (r ∷ rs) o h =
    let here : weight (f r.state) ≡ weight (g r.state) = ap weight (h r.state.number r (found_head r.state.number r rs refl)) in
    let rest = count_same f g rs o.1 (λ n y e.
    let apart : r.state.number ≢ n = λ s. let a : find_header n rs ≡ None = rw s at o.0 in absurd cc in
    h n y (found_tail n r rs apart ∙ e)) in
    omega arith

pub same_tests : (b c : Bool) → (b ≡ true → c ≡ true) → (c ≡ true → b ≡ true) → b ≡ c
same_tests true c f g = sym (f refl)
same_tests false true f g = g refl
same_tests false false f g = refl

-- ---- sums

pub sum_add : (n : ℕ) (f g : ℕ → ℕ) → sum_to n (λ l. f l + g l) ≡ sum_to n f + sum_to n g
sum_add zero f g = refl
sum_add (suc n) f g = let i = sum_add n f g in omega arith

pub sum_one : (n : ℕ) (f : ℕ → ℕ) (l : ℕ) → l < n → f l ≤ sum_to n f
sum_one zero f l b = absurd (omega arith)
sum_one (suc n) f l b = either (nat_eq l n)
    (λ t. let e : f l ≡ f n = ap f (eqb-true _ _ t) in omega arith)
    (λ s. let d = eqb-false _ _ s in let i = sum_one n f l (omega arith) in omega arith)

-- one is less by one, and none is more
pub sum_less : (n : ℕ) (f g : ℕ → ℕ) (l : ℕ) → l < n → f l + 1 ≤ g l → ((k : ℕ) → k < n → f k ≤ g k) → sum_to n f + 1 ≤ sum_to n g
sum_less zero f g l b s h = absurd (omega arith)
sum_less (suc n) f g l b s h = either (nat_eq l n)
    (λ t.
    let e = eqb-true _ _ t in
    let a : f l ≡ f n = ap f e in
    let c : g l ≡ g n = ap g e in
    let i = sum_fewer n f g (λ k d. h k (omega arith)) in
    omega arith)
    (λ z.
    let d = eqb-false _ _ z in
    let i = sum_less n f g l (omega arith) s (λ k e. h k (omega arith)) in
    let a = h n (omega arith) in
    omega arith)

-- ---- a header that isn't made is in no work

unmade_worked_at : (w : World) (n port i : ℕ) (o : Option Component) → Sound w → find_header n w.headers ≡ None → slice_get w.components i ≡ o → is_in n (worked_at (option_and_then (λ c. c.work) o) port) ≡ false
unmade_worked_at w n port i None S f e = refl
unmade_worked_at w n port i (Some c) S f e =
    let t : times n (work_numbers c.work) ≡ weight (holds_at (option_map state_of (find_header n w.headers)) (is_in_work_of (number_of c))) = ((parts_of w S).works).claimed i c e n in
    let z : weight (holds_at (option_map state_of (find_header n w.headers)) (is_in_work_of (number_of c))) ≡ 0 = rw f refl in
    not_worked_by n port c.work (t ∙ z)

pub unmade_worked : (w : World) (n : ℕ) (key : PortKey) → Sound w → find_header n w.headers ≡ None → is_in n (work_in w.components key) ≡ false
unmade_worked w n key S f = unmade_worked_at w n key.port key.component (slice_get w.components key.component) S f refl

pub next_unmade : (w : World) → Sound w → find_header w.made w.headers ≡ None
next_unmade w S = elim (none_or_some (find_header w.made w.headers)) [
  | inl n ↦ n
  | inr r ↦ let b = (parts_of w S).below w.made r.0 r.1 in absurd (omega arith)
]

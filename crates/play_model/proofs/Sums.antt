-- Sums below a number.
use Rattle.std.proofs.Common.{ℕ, zero, suc, ◌+◌, ◌*◌, ◌<◌, ◌≤◌, nat_eq, subst, eqb-true, arith}
use Rattle.std.proofs.lemmas.Bool.{eqb-false}
use Rattle.play_model.specs.Progress.{sum_to}
use Rattle.play_model.proofs.Queues.{either}

pub sum_le : (k : ℕ) (f g : ℕ → ℕ) → ((j : ℕ) → j < k → f j ≤ g j) → sum_to k f ≤ sum_to k g
sum_le zero f g h = omega arith
sum_le (suc k) f g h = let i = sum_le k f g (λ j b. h j (omega arith)) in let l = h k (omega arith) in omega arith

pub sum_less : (k c : ℕ) (f g : ℕ → ℕ) → c < k → ((j : ℕ) → j < k → f j ≤ g j) → f c < g c → sum_to k f < sum_to k g
sum_less zero c f g b h p = absurd (omega (arith, b))
sum_less (suc k) c f g b h p =
    let l : f k ≤ g k = h k (omega arith) in
    let le = sum_le k f g (λ j b. h j (omega arith)) in
    either (nat_eq c k)
    (λ e. let q : f k < g k = subst (λ (x : ℕ). f x < g x) (eqb-true _ _ e) p in omega arith)
    (λ a. let d = eqb-false _ _ a in let i = sum_less k c f g (omega arith) (λ j b. h j (omega arith)) p in omega arith)

product_grows : (a b h : ℕ) → a < b → a * (h + 1) + (h + 1) ≤ b * (h + 1)
product_grows a b h l = grind arith

pub first_decides : (a b h x y : ℕ) → a < b → x ≤ h → a * (h + 1) + x < b * (h + 1) + y
first_decides a b h x y l m = let p = product_grows a b h l in omega arith

-- Samples and their signs.
use Rattle.std.proofs.Common.{◌≡◌, ℕ, zero, suc, ◌+◌, ◌-◌, ◌<◌, ◌≤◌, Bool, true, false, cond, refl, ap, arith, pos, ◌-ℤ◌, ◌≤ℤ◌}
use Rattle.std.proofs.lemmas.Bool.{le-ltb}
use Rattle.std.proofs.lemmas.Int.{ints}
use lib.IntN.{negsuc, neg_ℤ}
use Rattle.std.specs.Int.{is_negative}
use Rattle.std.specs.Prelude.{unsigned_abs}

pub not_negative : (n : ℕ) → is_negative (pos n) ≡ false
not_negative n = le-ltb n 0 (omega arith)

pub negative : (n : ℕ) → is_negative (negsuc n) ≡ true
negative n = refl

-- the negative of a positive number
pub neg_is : (n : ℕ) → 0 < n → neg_ℤ (pos n) ≡ negsuc (n - 1)
neg_is zero l = absurd (omega arith)
neg_is (suc n) l = ap negsuc (omega arith)

pub pos_rises : (a b : ℕ) → a ≤ b → pos a ≤ℤ pos b
pos_rises a b l = omega (arith, ints)

pub neg_falls : (a b : ℕ) → a ≤ b → neg_ℤ (pos b) ≤ℤ neg_ℤ (pos a)
neg_falls a b l = omega (arith, ints)

pub neg_le_pos : (a b : ℕ) → neg_ℤ (pos a) ≤ℤ pos b
neg_le_pos a b = omega (arith, ints)

pub from_pos : (a b : ℕ) → pos a ≤ℤ pos b → a ≤ b
from_pos a b l = omega (arith, ints)

pub from_negsuc : (a b : ℕ) → negsuc a ≤ℤ negsuc b → b ≤ a
from_negsuc a b l = omega (arith, ints)

pub not_pos_le_negsuc : (a b : ℕ) → pos a ≤ℤ negsuc b → ⊥
not_pos_le_negsuc a b l = omega (arith, ints)

-- how far two numbers of one sign are apart
pub apart_pos : (a b d : ℕ) → a ≤ b + d → b ≤ a + d → unsigned_abs (pos a -ℤ pos b) ≤ d
apart_pos a b d p q = omega (arith, ints)

pub apart_negsuc : (a b d : ℕ) → suc a ≤ b + d → b ≤ suc a + d → unsigned_abs (negsuc a -ℤ neg_ℤ (pos b)) ≤ d
apart_negsuc a b d p q = omega (arith, ints)

pub cond_le : (b : Bool) (m n k : ℕ) → m ≤ k → n ≤ k → cond b m n ≤ k
cond_le true m n k p q = p
cond_le false m n k p q = q

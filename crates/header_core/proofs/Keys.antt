-- A key's number is one to one.
use Rattle.std.proofs.Common.{◌≡◌, ℕ, zero, suc, ◌+◌, ◌*◌, List, [], ◌∷◌, refl, sym, ◌∙◌, ap, arith}
use Rattle.block_region.specs.Regions.{RegionKey}
use Rattle.header_core.specs.Keys.{times_two, list_number, key_number}

same_times : (n m a b : ℕ) → times_two n m ≡ times_two a b → n ≡ a
same_times zero m zero b e = refl
same_times zero m (suc a) b e = absurd (omega arith)
same_times (suc n) m zero b e = absurd (omega arith)
same_times (suc n) m (suc a) b e = ap suc (same_times n m a b (omega arith))

same_odd : (n m b : ℕ) → times_two n m ≡ times_two n b → m ≡ b
same_odd zero m b e = omega arith
same_odd (suc n) m b e = same_odd n m b (omega arith)

never_zero : (n m : ℕ) → times_two n m ≡ 0 → ⊥
never_zero zero m e = omega arith
never_zero (suc n) m e = never_zero n m (omega arith)

list_inj : (xs ys : List ℕ) → list_number xs ≡ list_number ys → xs ≡ ys
list_inj [] [] e = refl
list_inj [] (y ∷ ys) e = absurd (never_zero y (list_number ys) (sym e))
list_inj (x ∷ xs) [] e = absurd (never_zero x (list_number xs) e)
list_inj (x ∷ xs) (y ∷ ys) e =
    let first = same_times x (list_number xs) y (list_number ys) e in
    let odd : times_two x (list_number xs) ≡ times_two x (list_number ys) = e ∙ ap (λ (n : ℕ). times_two n (list_number ys)) (sym first) in
    let rest = list_inj xs ys (same_odd x (list_number xs) (list_number ys) odd) in
    λ i. first i ∷ rest i

pub key_number_inj : (k l : RegionKey) → key_number k ≡ key_number l → k ≡ l
unfolding key_number
key_number_inj k l e =
    let same : k.object ∷ (k.start ∷ (k.size ∷ k.names)) ≡ l.object ∷ (l.start ∷ (l.size ∷ l.names)) = list_inj _ _ e in
    let object : k.object ≡ l.object = cc in
    let start : k.start ≡ l.start = cc in
    let size : k.size ≡ l.size = cc in
    let names : k.names ≡ l.names = cc in
    λ i. record { object = object i; start = start i; size = size i; names = names i }

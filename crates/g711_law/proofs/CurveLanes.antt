-- Vectors of sixteen lanes: what each operation gives lane by lane, and the two curves.
use Rattle.std.proofs.Common.{◌≡◌, ℕ, zero, suc, ◌+◌, ◌-◌, ◌/◌, ◌%◌, ◌^◌, ◌<◌, ◌≤◌, min, max, Bool, true, false, cond, ltb, List, [], ◌∷◌, map, length, replicate, refl, sym, ap, ◌∙◌, arith}
use Rattle.std.proofs.lemmas.Bool.{ltb-true, ltb-false}
use Rattle.std.proofs.lemmas.Nat.{shr-shr, shr_le}
use Rattle.std.proofs.Math.Pow.{pow_mono}
use lib.Lanes.{zip2, sel_l, top, Each1}
use Rattle.g711_law.specs.Lines.{compressed, expanded}
use Rattle.g711_law.proofs.Curves.{compressed_le, expanded_le}

pub ap2 : {x y : ℕ} {xs ys : List ℕ} → x ≡ y → xs ≡ ys → (x ∷ xs) ≡ (y ∷ ys)
ap2 {y = y} {xs = xs} p q = ap (λ n. n ∷ xs) p ∙ ap (λ l. y ∷ l) q

-- ---- the lesser and the greater of two lanes

abbrev pub below_mask : ℕ → ℕ → ℕ
below_mask x y = cond (ltb x y) 65535 0

lesser_lane : (t : Bool) (x y : ℕ) → ltb x y ≡ t → cond (top 15 (cond t 65535 0)) x y ≡ min x y
lesser_lane true x y e = omega (arith, ltb-true x y e)
lesser_lane false x y e = omega (arith, ltb-false x y e)

pub lesser_is : (a b : List ℕ) → sel_l (map (top 15) (zip2 below_mask a b)) a b ≡ zip2 min a b
lesser_is [] b = refl
lesser_is (x ∷ xs) [] = refl
lesser_is (x ∷ xs) (y ∷ ys) = ap2 (lesser_lane (ltb x y) x y refl) (lesser_is xs ys)

greater_lane : (t : Bool) (x y : ℕ) → ltb x y ≡ t → cond (top 15 (cond t 65535 0)) y x ≡ max x y
greater_lane true x y e = omega (arith, ltb-true x y e)
greater_lane false x y e = omega (arith, ltb-false x y e)

pub greater_is : (a b : List ℕ) → sel_l (map (top 15) (zip2 below_mask a b)) b a ≡ zip2 max a b
greater_is [] [] = refl
greater_is [] (y ∷ ys) = refl
greater_is (x ∷ xs) [] = refl
greater_is (x ∷ xs) (y ∷ ys) = ap2 (greater_lane (ltb x y) x y refl) (greater_is xs ys)

-- ---- compressed

abbrev pub down : ℕ → ℕ → ℕ
down a b = a / 2 ^ b

abbrev pub plus : ℕ → ℕ → ℕ
plus a b = (a + b) % 2 ^ 16

-- one line more, where s has the lanes of the lines after it
abbrev pub line : ℕ → ℕ → List ℕ → List ℕ → List ℕ
line n k q s = zip2 min (zip2 down q (replicate n k)) (zip2 plus s (replicate n 16))

abbrev pub last_line : ℕ → List ℕ → List ℕ → List ℕ
last_line n q s = zip2 min q (zip2 plus s (replicate n 16))

abbrev pub lines : ℕ → List ℕ → List ℕ
lines n q = last_line n q (line n 1 q (line n 2 q (line n 3 q (line n 4 q (line n 5 q (line n 6 q (zip2 down q (replicate n 7))))))))

turn : (j k x s : ℕ) → x < 4096 → s ≡ compressed j (x / 2 ^ suc k) → min (x / 2 ^ k) ((s + 16) % 2 ^ 16) ≡ compressed (suc j) (x / 2 ^ k)
unfolding compressed
turn j k x s l e =
    let half : x / 2 ^ k / 2 ≡ x / 2 ^ suc k = shr-shr x k 1 ∙ ap (λ i. x / 2 ^ i) (omega arith) in
    let same : s ≡ compressed j (x / 2 ^ k / 2) = e ∙ sym (ap (compressed j) half) in
    let least : s ≤ x = omega (arith, compressed_le j (x / 2 ^ k / 2), shr_le x k) in
    omega arith

last_turn : (x s : ℕ) → x < 4096 → s ≡ compressed 6 (x / 2 ^ 1) → min x ((s + 16) % 2 ^ 16) ≡ compressed 7 x
unfolding compressed
last_turn x s l e = omega (arith, compressed_le 6 (x / 2 ^ 1))

first_turn : (x : ℕ) → x ≡ compressed 0 x
unfolding compressed
first_turn x = refl

one : (x : ℕ) → x < 4096
    → min x ((min (x / 2 ^ 1) ((min (x / 2 ^ 2) ((min (x / 2 ^ 3) ((min (x / 2 ^ 4) ((min (x / 2 ^ 5) ((min (x / 2 ^ 6) ((x / 2 ^ 7 + 16) % 2 ^ 16) + 16) % 2 ^ 16) + 16) % 2 ^ 16) + 16) % 2 ^ 16) + 16) % 2 ^ 16) + 16) % 2 ^ 16) + 16) % 2 ^ 16) ≡ compressed 7 x
one x l = last_turn x _ l (turn 5 1 x _ l (turn 4 2 x _ l (turn 3 3 x _ l (turn 2 4 x _ l (turn 1 5 x _ l (turn 0 6 x _ l (first_turn (x / 2 ^ 7))))))))

pub compressed_lanes : (n : ℕ) (q : List ℕ) → length q ≡ n → Each1 (λ x. x < 4096) q → lines n q ≡ map (compressed 7) q
compressed_lanes zero [] e h = refl
compressed_lanes zero (x ∷ xs) e h = absurd (omega arith)
compressed_lanes (suc n) [] e h = absurd (omega arith)
compressed_lanes (suc n) (x ∷ xs) e h = ap2 (one x h.0) (compressed_lanes n xs (omega arith) h.1)

-- ---- expanded

abbrev pub less : ℕ → ℕ → ℕ
less a b = (a + (2 ^ 16 - b)) % 2 ^ 16

pub excess_is : (n least : ℕ) (w : List ℕ) → least < 65536 → length w ≡ n → Each1 (λ x. x < 512) w → zip2 less (zip2 max w (replicate n least)) (replicate n least) ≡ map (λ x. x - least) w
excess_is zero least [] k e h = refl
excess_is zero least (x ∷ xs) k e h = absurd (omega arith)
excess_is (suc n) least [] k e h = absurd (omega arith)
excess_is (suc n) least (x ∷ xs) k e h = let small = h.0 in ap2 (omega arith) (excess_is n least xs k (omega arith) h.1)

-- one line more, where s has the lanes of the lines after it
abbrev pub rise : ℕ → List ℕ → List ℕ → List ℕ
rise least w s = zip2 max (map (λ x. x - least) w) (zip2 plus s s)

abbrev pub last_rise : List ℕ → List ℕ → List ℕ
last_rise w s = zip2 max w (zip2 plus s s)

abbrev pub rises : List ℕ → List ℕ
rises w = last_rise w (rise 32 w (rise 64 w (rise 96 w (rise 128 w (rise 160 w (rise 192 w (map (λ x. x - 224) w)))))))

turn_up : (j least x s : ℕ) → j ≤ 6 → x < 512 → s ≡ expanded j (x - (least + 32)) → max (x - least) ((s + s) % 2 ^ 16) ≡ expanded (suc j) (x - least)
unfolding expanded
turn_up j least x s h l e =
    let power : 2 ^ j ≤ 2 ^ 6 = pow_mono h in
    let next : x - least - 32 ≡ x - (least + 32) = omega arith in
    let most = expanded_le j (x - (least + 32)) (omega arith) in
    let same : s ≡ expanded j (x - least - 32) = e ∙ sym (ap (expanded j) next) in
    omega arith

last_up : (x s : ℕ) → x < 512 → s ≡ expanded 6 (x - 32) → max x ((s + s) % 2 ^ 16) ≡ expanded 7 x
unfolding expanded
last_up x s l e = omega (arith, expanded_le 6 (x - 32) (omega arith))

first_up : (x : ℕ) → x ≡ expanded 0 x
unfolding expanded
first_up x = refl

abbrev twice : ℕ → ℕ
twice s = (s + s) % 2 ^ 16

abbrev ups : ℕ → ℕ
ups x =
    let a = max (x - 192) (twice (x - 224)) in
    let b = max (x - 160) (twice a) in
    let c = max (x - 128) (twice b) in
    let d = max (x - 96) (twice c) in
    let e = max (x - 64) (twice d) in
    max x (twice (max (x - 32) (twice e)))

one_up : (x : ℕ) → x < 512 → ups x ≡ expanded 7 x
one_up x l =
    last_up x _ l (turn_up 5 32 x _ (omega arith) l (turn_up 4 64 x _ (omega arith) l (turn_up 3 96 x _ (omega arith) l
    (turn_up 2 128 x _ (omega arith) l (turn_up 1 160 x _ (omega arith) l (turn_up 0 192 x _ (omega arith) l (first_up (x - 224))))))))

pub expanded_lanes : (w : List ℕ) → Each1 (λ x. x < 512) w → rises w ≡ map (expanded 7) w
expanded_lanes [] h = refl
expanded_lanes (x ∷ xs) h = ap2 (one_up x h.0) (expanded_lanes xs h.1)

pub rise_by : (least : ℕ) (w e s t r : List ℕ) → r ≡ zip2 max e (zip2 plus s s) → e ≡ map (λ x. x - least) w → s ≡ t → r ≡ rise least w t
rise_by least w e s t r p q k = p ∙ ap (λ l. zip2 max l (zip2 plus s s)) q ∙ ap (rise least w) k

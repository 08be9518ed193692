-- A vector that is a function of another's lanes stays one through each operation.
use Rattle.std.proofs.Common.{◌≡◌, ℕ, zero, suc, Bool, cond, List, [], ◌∷◌, map, length, replicate, refl, ap, ◌∙◌, arith}
use lib.Lanes.{zip2, sel_l, Each1, Each2}

pub cons_same : {X : Type 0} (x y : X) (xs ys : List X) → x ≡ y → xs ≡ ys → (x ∷ xs) ≡ (y ∷ ys)
cons_same x y xs ys p q = ap (λ n. n ∷ xs) p ∙ ap (λ l. y ∷ l) q

pub map_again : {X Y Z : Type 0} (g : Y → Z) (f : X → Y) (xs : List X) → map g (map f xs) ≡ map (λ x. g (f x)) xs
map_again g f [] = refl
map_again g f (x ∷ xs) = ap (λ l. g (f x) ∷ l) (map_again g f xs)

pub map_where : {X Y : Type 0} (P : X → Type 0) (f g : X → Y) (xs : List X) → Each1 P xs → ((x : X) → P x → f x ≡ g x) → map f xs ≡ map g xs
map_where P f g [] h same = refl
map_where P f g (x ∷ xs) h same = cons_same _ _ _ _ (same x h.0) (map_where P f g xs h.1 same)

pub map_itself : {X : Type 0} (P : X → Type 0) (f : X → X) (xs : List X) → Each1 P xs → ((x : X) → P x → f x ≡ x) → map f xs ≡ xs
map_itself P f [] h same = refl
map_itself P f (x ∷ xs) h same = cons_same _ _ _ _ (same x h.0) (map_itself P f xs h.1 same)

pub each_map : {X Y : Type 0} (P : X → Type 0) (Q : Y → Type 0) (f : X → Y) (xs : List X) → Each1 P xs → ((x : X) → P x → Q (f x)) → Each1 Q (map f xs)
each_map P Q f [] h q = tt
each_map P Q f (x ∷ xs) h q = (q x h.0, each_map P Q f xs h.1 q)

pub zip_splat : {X Y Z : Type 0} (f : X → Y → Z) (k : Y) (n : ℕ) (xs : List X) → length xs ≡ n → zip2 f xs (replicate n k) ≡ map (λ x. f x k) xs
zip_splat f k zero [] e = refl
zip_splat f k zero (x ∷ xs) e = absurd (omega arith)
zip_splat f k (suc n) [] e = absurd (omega arith)
zip_splat f k (suc n) (x ∷ xs) e = ap (λ l. f x k ∷ l) (zip_splat f k n xs (omega arith))

pub splat_zip : {X Y Z : Type 0} (f : X → Y → Z) (k : X) (n : ℕ) (ys : List Y) → length ys ≡ n → zip2 f (replicate n k) ys ≡ map (f k) ys
splat_zip f k zero [] e = refl
splat_zip f k zero (y ∷ ys) e = absurd (omega arith)
splat_zip f k (suc n) [] e = absurd (omega arith)
splat_zip f k (suc n) (y ∷ ys) e = ap (λ l. f k y ∷ l) (splat_zip f k n ys (omega arith))

pub zip_maps : {W X Y Z : Type 0} (f : X → Y → Z) (g : W → X) (h : W → Y) (ws : List W) → zip2 f (map g ws) (map h ws) ≡ map (λ w. f (g w) (h w)) ws
zip_maps f g h [] = refl
zip_maps f g h (w ∷ ws) = ap (λ l. f (g w) (h w) ∷ l) (zip_maps f g h ws)

pub select_maps : {X Y : Type 0} (m : X → Bool) (g h : X → Y) (xs : List X) → sel_l (map m xs) (map g xs) (map h xs) ≡ map (λ x. cond (m x) (g x) (h x)) xs
select_maps m g h [] = refl
select_maps m g h (x ∷ xs) = ap (λ l. cond (m x) (g x) (h x) ∷ l) (select_maps m g h xs)

pub each_splat : {W X Y : Type 0} (P : W → Type 0) (R : X → Y → Type 0) (f : W → X) (k : Y) (n : ℕ) (ws : List W) → length ws ≡ n → Each1 P ws → ((w : W) → P w → R (f w) k)
    → Each2 R (map f ws) (replicate n k)
each_splat P R f k zero [] e h r = tt
each_splat P R f k zero (w ∷ ws) e h r = absurd (omega arith)
each_splat P R f k (suc n) [] e h r = tt
each_splat P R f k (suc n) (w ∷ ws) e h r = (r w h.0, each_splat P R f k n ws (omega arith) h.1 r)

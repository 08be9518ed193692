-- A loop that fills a slice from another, a vector or an item at a time.
use Rattle.std.proofs.Common.{◌≡◌, ℕ, suc, ◌+◌, ◌<◌, ◌≤◌, List, [], ◌∷◌, ◌++◌, map, length, get_or, take, drop, set, sym, ap, subst, ◌∙◌, arith}
use Rattle.std.proofs.lemmas.List.{take_more, take_more_set, length-map, take_all, map-append, take-map, drop-map, drop_more}
use Rattle.std.proofs.lemmas.Simd.{take_more_put_chunk, length-chunk, get_or-chunk}
use Rattle.std.proofs.Math.Seq.{take-add}
use lib.Lanes.{chunk, put_chunk, Each1}

pub vector_step : {X Y : Type 0} (f : X → Y) (from : List X) (to ys : List Y) (i n : ℕ) → i + n ≤ length from → length from ≡ length to
    → take i to ≡ map f (take i from) → ys ≡ map f (chunk i n from) → take (i + n) (put_chunk i to ys) ≡ map f (take (i + n) from)
vector_step f from to ys i n le same before e =
    let long : length ys ≡ n = ap length e ∙ length-map (chunk i n from) f ∙ length-chunk i n from le in
    take_more_put_chunk i to ys (i + n) (omega arith) (omega arith)
    ∙ ap (λ l. l ++ ys) before ∙ ap (λ l. map f (take i from) ++ l) e
    ∙ sym (ap (map f) (take-add i n from) ∙ map-append f (take i from) (chunk i n from))

pub item_step : {X Y : Type 0} (f : X → Y) (from : List X) (to : List Y) (i : ℕ) (d : X) (y : Y) → i < length from → length from ≡ length to
    → take i to ≡ map f (take i from) → y ≡ f (get_or from i d) → take (i + 1) (set to i y) ≡ map f (take (i + 1) from)
item_step f from to i d y l same before e =
    take_more_set to i y (omega arith)
    ∙ ap (λ k. k ++ y ∷ []) before ∙ ap (λ z. map f (take i from) ++ z ∷ []) e
    ∙ sym (ap (map f) (take_more from i d l) ∙ map-append f (take i from) (get_or from i d ∷ []))

pub all_written : {X Y : Type 0} (f : X → Y) (from : List X) (to : List Y) (i : ℕ) → length from ≤ i → length from ≡ length to
    → take i to ≡ map f (take i from) → to ≡ map f from
all_written f from to i le same e = sym (take_all i to (omega arith)) ∙ e ∙ ap (map f) (take_all i from le)

pub each_by_index : {X : Type 0} (P : X → Type 0) (d : X) (xs : List X) → ((k : ℕ) → k < length xs → P (get_or xs k d)) → Each1 P xs
each_by_index P d [] h = tt
each_by_index P d (x ∷ xs) h = (h 0 (omega arith), each_by_index P d xs (λ k l. h (suc k) (omega arith)))

pub each_in_chunk : {X : Type 0} (P : X → Type 0) (d : X) (xs : List X) (i n : ℕ) → i + n ≤ length xs → ((k : ℕ) → k < length xs → P (get_or xs k d)) → Each1 P (chunk i n xs)
each_in_chunk P d xs i n le h =
    let long = length-chunk i n xs le in
    each_by_index P d (chunk i n xs) (λ k l. subst P (sym (get_or-chunk i n xs k d (omega arith))) (h (i + k) (omega arith)))

pub chunk-map : {X Y : Type 0} (f : X → Y) (i n : ℕ) (xs : List X) → chunk i n (map f xs) ≡ map f (chunk i n xs)
chunk-map f i n xs = ap (take n) (drop-map f i xs) ∙ take-map f n (drop i xs)

pub one_there : {X : Type 0} (xs : List X) (i : ℕ) (d x : X) → i < length xs → x ≡ get_or xs i d → (x ∷ []) ≡ chunk i 1 xs
one_there xs i d x l e = ap (λ y. y ∷ []) e ∙ sym (ap (take 1) (drop_more xs i d l))

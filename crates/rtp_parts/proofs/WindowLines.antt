-- The line of a window, by the list that the window holds.
use Rattle.std.proofs.Common.{◌≡◌, ℕ, suc, ◌+◌, ◌<◌, ◌≤◌, nat_le, max, ◌==◌, ◌||◌, if◌then◌else◌, true, false, Bool, List, [], ◌∷◌, ◌++◌, take, drop, map, refl, sym, ap, ◌∙◌, arith}
use Rattle.std.specs.List.{All, list_any, insert}
use Rattle.rtp_parts.specs.declared.window.Held.{Held}
use Rattle.rtp_parts.specs.Sorting.{Numbered, has_number, placed, nearest}
use Rattle.rtp_parts.specs.Steps.{numbered_of, Line, line_kept, line_judged, line_step}
use Rattle.rtp_parts.proofs.SortedNumbers.{placed-later}

pub has-map : (n : ℕ) (xs : List Held) → has_number n (map numbered_of xs) ≡ list_any (λ (h : Held). h.number == n) xs
has-map n [] = refl
has-map n (x ∷ xs) = ap (λ (b : Bool). (x.number == n) || b) (has-map n xs)

pub All-rest : {X : Type 0} (P : X → Type 0) (xs : List X) → All P xs → All P (drop 1 xs)
All-rest P [] all = λ k d lt. all k d lt
All-rest P (x ∷ xs) all = λ k d lt. all (suc k) d (omega arith)

-- a number above all others stands nowhere
pub none-above : (number greatest : ℕ) (xs : List Held) → All (λ (h : Held). h.number ≤ greatest) xs → greatest < number → has_number number (map numbered_of xs) ≡ false
none-above number greatest [] all above = refl
none-above number greatest (x ∷ xs) all above =
    let first : x.number ≤ greatest = all 0 x (omega arith) in
    let other : (x.number == number) ≡ false = grind (arith, first, above) in
    ap (λ (b : Bool). b || has_number number (map numbered_of xs)) other ∙ none-above number greatest xs (λ k d lt. all (suc k) d (omega arith)) above

-- and is placed behind them
pub placed-last : (a : Numbered) (greatest : ℕ) (xs : List Held) → All (λ (h : Held). h.number ≤ greatest) xs → greatest < a.number → placed a (map numbered_of xs) ≡ map numbered_of xs ++ a ∷ []
placed-last a greatest [] all above = refl
placed-last a greatest (x ∷ xs) all above =
    let first : x.number ≤ greatest = all 0 x (omega arith) in
    placed-later a (numbered_of x) (map numbered_of xs) (omega arith)
    ∙ ap (λ (r : List Numbered). numbered_of x ∷ r) (placed-last a greatest xs (λ k d lt. all (suc k) d (omega arith)) above)

pub map-append : (xs ys : List Held) → map numbered_of (xs ++ ys) ≡ map numbered_of xs ++ map numbered_of ys
map-append [] ys = refl
map-append (x ∷ xs) ys = ap (λ (r : List Numbered). numbered_of x ∷ r) (map-append xs ys)

pub insert-placed : (h : Held) (xs : List Held) (i : ℕ) → placed (numbered_of h) (map numbered_of xs) ≡ map numbered_of (take i xs) ++ numbered_of h ∷ map numbered_of (drop i xs) → map numbered_of (insert xs i h) ≡ placed (numbered_of h) (map numbered_of xs)
insert-placed h xs i is = map-append (take i xs) (h ∷ drop i xs) ∙ sym is

pub push-placed : (h : Held) (greatest : ℕ) (xs : List Held) → All (λ (x : Held). x.number ≤ greatest) xs → greatest < h.number → map numbered_of (xs ++ h ∷ []) ≡ placed (numbered_of h) (map numbered_of xs)
push-placed h greatest xs all above = map-append xs (h ∷ []) ∙ sym (placed-last (numbered_of h) greatest xs all above)

pub judged-repeated : (line : Line) (number timestamp : ℕ) (payload : List ℕ) → line.greatest < number + 64 → number ≤ line.greatest → has_number number line.line ≡ true → line_judged line number timestamp payload ≡ record line { repeated = line.repeated + 1 }
judged-repeated line number timestamp payload lt le has =
    let test : nat_le (number + 64) line.greatest ≡ false = grind (arith, lt) in
    let same : max line.greatest number ≡ line.greatest = omega arith in
    ap (λ (b : Bool). if b then record line { greatest = max line.greatest number; late = line.late + 1 } else (if has_number number line.line then record line { greatest = max line.greatest number; repeated = line.repeated + 1 } else line_kept line number timestamp payload)) test
    ∙ ap (λ (b : Bool). if b then record line { greatest = max line.greatest number; repeated = line.repeated + 1 } else line_kept line number timestamp payload) has
    ∙ ap (λ (n : ℕ). record line { greatest = n; repeated = line.repeated + 1 }) same

pub judged-kept : (line : Line) (number timestamp : ℕ) (payload : List ℕ) → line.greatest < number + 64 → has_number number line.line ≡ false → line_judged line number timestamp payload ≡ line_kept line number timestamp payload
judged-kept line number timestamp payload lt has =
    let test : nat_le (number + 64) line.greatest ≡ false = grind (arith, lt) in
    ap (λ (b : Bool). if b then record line { greatest = max line.greatest number; late = line.late + 1 } else (if has_number number line.line then record line { greatest = max line.greatest number; repeated = line.repeated + 1 } else line_kept line number timestamp payload)) test
    ∙ ap (λ (b : Bool). if b then record line { greatest = max line.greatest number; repeated = line.repeated + 1 } else line_kept line number timestamp payload) has

pub line_is : (m n : Line) → m.greatest ≡ n.greatest → m.line ≡ n.line → m.accepted ≡ n.accepted → m.late ≡ n.late → m.repeated ≡ n.repeated → m ≡ n
line_is m n g l a t r =
    ap (λ (x : ℕ). record m { greatest = x }) g
    ∙ ap (λ (x : List Numbered). record m { greatest = n.greatest; line = x }) l
    ∙ ap (λ (x : ℕ). record m { greatest = n.greatest; line = n.line; accepted = x }) a
    ∙ ap (λ (x : ℕ). record m { greatest = n.greatest; line = n.line; accepted = n.accepted; late = x }) t
    ∙ ap (λ (x : ℕ). record n { repeated = x }) r

-- a step is a judgement of the nearest number
pub stepped : (line : Line) (sequence number timestamp : ℕ) (payload : List ℕ) → number ≡ nearest line.greatest sequence → line_judged line number timestamp payload ≡ line_step line sequence timestamp payload
stepped line sequence number timestamp payload is = ap (λ (n : ℕ). line_judged line n timestamp payload) is

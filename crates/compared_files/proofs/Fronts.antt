-- What was given, and the file's front.
use Rattle.std.proofs.Common.{◌≡◌, ◌≢◌, ℕ, zero, suc, ◌+◌, ◌<◌, ◌≤◌, List, [], ◌∷◌, ◌++◌, length, take, drop, Option, Some, None, option_map, refl, sym, ◌∙◌, ap, subst, length-append, append_assoc, append-nil, arith}
use Rattle.std.proofs.lemmas.List.{append_cancel_left}
use Rattle.std.specs.Io.KnownBytes.{append_known}
use Rattle.outside_io.specs.Moves.{WhereTold}
use Rattle.compared_files.specs.Comparing.{HasDiffered, IsFrontless}

take_none : {A : Type 0} (n : ℕ) (xs : List A) → xs ≡ [] → take n xs ≡ []
take_none zero xs e = refl
take_none (suc n) xs e = rw e refl

pub take_sum : {A : Type 0} (n m : ℕ) (xs : List A) → take (n + m) xs ≡ take n xs ++ take m (drop n xs)
take_sum zero m xs = let e : 0 + m ≡ m = omega arith in rw e refl
take_sum (suc n) m [] = take_none (suc n + m) [] refl ∙ sym (take_none m [] refl)
take_sum (suc n) m (x ∷ xs) = let e : suc n + m ≡ suc (n + m) = omega arith in rw e (ap (λ r. x ∷ r) (take_sum n m xs))

front_length : {A : Type 0} (n : ℕ) (xs : List A) → n ≤ length xs → length (take n xs) ≡ n
front_length zero xs l = refl
front_length (suc n) [] l = absurd (omega arith)
front_length (suc n) (x ∷ xs) l = ap suc (front_length n xs (omega arith))

behind_front : {A : Type 0} (n : ℕ) (xs ys : List A) → n ≤ length xs → drop n (take n xs ++ ys) ≡ ys
behind_front zero xs ys l = refl
behind_front (suc n) [] ys l = absurd (omega arith)
behind_front (suc n) (x ∷ xs) ys l = behind_front n xs ys (omega arith)

whole_front : {A : Type 0} (n : ℕ) (xs : List A) → length xs ≤ n → take n xs ≡ xs
whole_front zero [] l = refl
whole_front (suc n) [] l = refl
whole_front zero (x ∷ xs) l = absurd (omega arith)
whole_front (suc n) (x ∷ xs) l = ap (λ r. x ∷ r) (whole_front n xs (omega arith))

-- where what was given behind its front isn't the file's, the file doesn't begin with what was given
pub frontless : (place : ℕ) (known other : List ℕ) → place ≤ length known → take (length other) (drop place known) ≢ other → IsFrontless known (take place known ++ other)
frontless place known other within differs e =
    let many : length (take place known ++ other) ≡ place + length other = length-append (take place known) other ∙ ap (λ (n : ℕ). n + length other) (front_length place known within) in
    let f : take (place + length other) known ≡ take place known ++ other = subst (λ (n : ℕ). take n known ≡ take place known ++ other) many e in
    differs (append_cancel_left (take place known) _ _ (sym (take_sum place (length other) known) ∙ f))

-- nor is it the file
pub not_whole : (place : ℕ) (known other : List ℕ) → place ≤ length known → take (length other) (drop place known) ≢ other → take place known ++ other ≡ known → ⊥
not_whole place known other within differs e =
    let rest : drop place known ≡ other = sym (ap (drop place) e) ∙ behind_front place known other within in
    differs (ap (take (length other)) rest ∙ whole_front (length other) other (omega arith))

-- a piece whose front isn't the file's
pub differs_at : (count place : ℕ) (known piece : List ℕ) → count ≤ length piece → take count (drop place known) ≢ take count piece → take (length piece) (drop place known) ≢ piece
differs_at count place known piece within other e =
    let rest = drop place known in
    other (sym (cut count piece rest within) ∙ ap (take count) e)
  where
    cut : (count : ℕ) (piece rest : List ℕ) → count ≤ length piece → take count (take (length piece) rest) ≡ take count rest
    cut zero piece rest l = refl
    cut (suc n) [] rest l = absurd (omega arith)
    cut (suc n) (x ∷ piece) [] l = refl
    cut (suc n) (x ∷ piece) (y ∷ rest) l = ap (λ r. y ∷ r) (cut n piece rest (omega arith))

-- at the file's end any byte is another
pub differs_past : (place : ℕ) (known piece : List ℕ) → length known ≤ place → 0 < length piece → take (length piece) (drop place known) ≢ piece
differs_past place known [] over some e = absurd (omega (arith, some))
differs_past place known (x ∷ piece) over some e =
    let none : drop place known ≡ [] = past place known over in
    let f : [] ≡ x ∷ piece = sym (ap (take (suc (length piece))) none) ∙ e in
    absurd cc
  where
    past : (place : ℕ) (known : List ℕ) → length known ≤ place → drop place known ≡ []
    past zero [] l = refl
    past zero (y ∷ known) l = absurd (omega arith)
    past (suc n) [] l = refl
    past (suc n) (y ∷ known) l = past n known (omega arith)

-- what differed goes on to
pub differs_more : (told : Option (List ℕ)) (place : ℕ) (other piece : List ℕ) → other ≢ [] → HasDiffered told place other → HasDiffered told place (other ++ piece)
differs_more told place other piece some H = λ more known is e.
    let rest = drop place known in
    H some known is (front_of other piece rest e)
  where
    front_of : (xs ys rest : List ℕ) → take (length (xs ++ ys)) rest ≡ xs ++ ys → take (length xs) rest ≡ xs
    front_of [] ys rest e = refl
    front_of (x ∷ xs) ys [] e = absurd cc
    front_of (x ∷ xs) ys (y ∷ rest) e =
        let first : y ≡ x = cc in
        let others : take (length (xs ++ ys)) rest ≡ xs ++ ys = cc in
        (λ j. first j ∷ front_of xs ys rest others j)

-- a front more that is the file's
pub told_more : (told : Option (List ℕ)) (place count : ℕ) (piece : List ℕ) → WhereTold told (λ known. take count (drop place known) ≡ take count piece)
    → option_map (λ (known : List ℕ). take (place + count) known ++ []) told ≡ append_known (option_map (λ (known : List ℕ). take place known ++ []) told) (take count piece)
told_more None place count piece same = refl
told_more (Some known) place count piece same =
    let e = same known refl in
    ap Some (append-nil (take (place + count) known) ∙ take_sum place count known ∙ ap (λ (r : List ℕ). take place known ++ r) e ∙ ap (λ (r : List ℕ). r ++ take count piece) (sym (append-nil (take place known))))

-- bytes more that aren't
pub told_other : (told : Option (List ℕ)) (place : ℕ) (other piece : List ℕ)
    → option_map (λ (known : List ℕ). take place known ++ (other ++ piece)) told ≡ append_known (option_map (λ (known : List ℕ). take place known ++ other) told) piece
told_other None place other piece = refl
told_other (Some known) place other piece = ap Some (sym (append_assoc (take place known) other piece))

pub some_bytes : (xs : List ℕ) → 0 < length xs → xs ≢ []
some_bytes [] some e = absurd (omega arith)
some_bytes (x ∷ xs) some e = absurd cc

pub no_bytes : (xs : List ℕ) → length xs ≡ 0 → xs ≡ []
no_bytes [] none = refl
no_bytes (x ∷ xs) none = absurd (omega (arith, none))

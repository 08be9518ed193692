-- By what a comparison is known its file's name is told, and what that file tells.
use Rattle.std.proofs.Common.{◌≡◌, ℕ, List, [], ◌∷◌, ◌++◌, length, Option, Some, None, refl, ap, subst, arith}
use Rattle.std.proofs.lemmas.List.{append_cancel_left}
use Rattle.compared_files.specs.Comparing.{bytes_word, end_word, known_by}

bytes_same : (one other : Option (List ℕ)) → bytes_word one ≡ bytes_word other → one ≡ other
bytes_same None None e = refl
bytes_same None (Some bytes) e = absurd cc
bytes_same (Some bytes) None e = absurd cc
bytes_same (Some bytes) (Some others) e = let same : bytes ≡ others = cc in ap Some same

end_same : (one other : Option ℕ) → end_word one ≡ end_word other → one ≡ other
end_same None None e = refl
end_same None (Some end) e = absurd (omega (arith, e))
end_same (Some end) None e = absurd (omega (arith, e))
end_same (Some end) (Some more) e = let same : end ≡ more = omega (arith, e) in ap Some same

front_same : (xs ys more rest : List ℕ) → length xs ≡ length ys → xs ++ more ≡ ys ++ rest → xs ≡ ys
front_same [] [] more rest l e = refl
front_same [] (y ∷ ys) more rest l e = absurd (omega (arith, l))
front_same (x ∷ xs) [] more rest l e = absurd (omega (arith, l))
front_same (x ∷ xs) (y ∷ ys) more rest l e =
    let first : x ≡ y = cc in
    let others : xs ++ more ≡ ys ++ rest = cc in
    (λ j. first j ∷ front_same xs ys more rest (omega (arith, l)) others j)

pub known_names : (name called : List ℕ) (told other : Option (List ℕ)) (ends more : Option ℕ) → known_by name told ends ≡ known_by called other more → name ≡ called
known_names name called told other ends more e =
    let long : length name ≡ length called = cc in
    let all : name ++ bytes_word told ≡ called ++ bytes_word other = cc in
    front_same name called (bytes_word told) (bytes_word other) long all

pub known_bytes : (name called : List ℕ) (told other : Option (List ℕ)) (ends more : Option ℕ) → known_by name told ends ≡ known_by called other more → told ≡ other
known_bytes name called told other ends more e =
    let all : name ++ bytes_word told ≡ called ++ bytes_word other = cc in
    let names = known_names name called told other ends more e in
    let rest : called ++ bytes_word told ≡ called ++ bytes_word other = subst (λ (n : List ℕ). n ++ bytes_word told ≡ called ++ bytes_word other) names all in
    bytes_same told other (append_cancel_left called _ _ rest)

pub known_ends : (name called : List ℕ) (told other : Option (List ℕ)) (ends more : Option ℕ) → known_by name told ends ≡ known_by called other more → ends ≡ more
known_ends name called told other ends more e = let same : end_word ends ≡ end_word more = cc in end_same ends more same

-- Words with a space before each, one word more.
use Rattle.std.proofs.Common.{◌≡◌, ℕ, suc, ◌+◌, ◌<◌, List, ◌∷◌, ◌++◌, length, get_or, drop, Result, Ok, Err, OnErr, sym, ap, ◌∙◌, arith}
use Rattle.std.specs.Borrow.{Bor}
use Rattle.std.proofs.Math.Seq.{drop-cons}
use Rattle.std.proofs.lemmas.List.{append_assoc, append_cancel_left}
use Rattle.line_text.specs.Lists.{texts, after_spaces}
use Rattle.act_text.specs.Words.{IsGrown}

-- the word at a place stands before those behind it
spaces-step : (words : List (Bor (List ℕ))) (i : ℕ) (d : Bor (List ℕ)) → i < length words → after_spaces (texts (drop i words)) ≡ 32 ∷ ((get_or words i d).now ++ after_spaces (texts (drop (i + 1) words)))
spaces-step words i d below =
    let next : suc i ≡ i + 1 = omega arith in
    ap (λ (rest : List (Bor (List ℕ))). after_spaces (texts rest)) (drop-cons words i d below)
    ∙ ap (λ (k : ℕ). 32 ∷ ((get_or words i d).now ++ after_spaces (texts (drop k words)))) next

-- what stands behind a front is the tail where the whole is front and tail
pub behind-front : (line front behind tail : List ℕ) → line ≡ front ++ behind → (behind ≡ tail → line ≡ front ++ tail) × (line ≡ front ++ tail → behind ≡ tail)
behind-front line front behind tail parts =
    (λ same. parts ∙ ap (λ (t : List ℕ). front ++ t) same, λ whole. append_cancel_left front behind tail (sym parts ∙ whole))

-- behind a space and the word at a place stand the later words
pub follow-step : (words : List (Bor (List ℕ))) (i : ℕ) (d : Bor (List ℕ)) → i < length words → (line rest behind : List ℕ) → rest ≡ 32 ∷ ((get_or words i d).now ++ behind) → (line ≡ after_spaces (texts words) → rest ≡ after_spaces (texts (drop i words))) → (rest ≡ after_spaces (texts (drop i words)) → line ≡ after_spaces (texts words)) → (line ≡ after_spaces (texts words) → behind ≡ after_spaces (texts (drop (i + 1) words))) × (behind ≡ after_spaces (texts (drop (i + 1) words)) → line ≡ after_spaces (texts words))
follow-step words i d below line rest behind parts there back =
    let step = spaces-step words i d below in
    let ways = behind-front rest (32 ∷ (get_or words i d).now) behind (after_spaces (texts (drop (i + 1) words))) parts in
    (λ all. ways.1 (there all ∙ step), λ tail. back (ways.0 tail ∙ sym step))

-- bytes that are appended to what was appended
pub grown : (old front mid new : List ℕ) → mid ≡ old ++ front → IsGrown mid new → IsGrown old new
grown old front mid new is more = record {
  rest = front ++ more.rest;
  is = more.is ∙ ap (λ (m : List ℕ). m ++ more.rest) is ∙ append_assoc old front more.rest;
}

pub on_err : {T E : Type 0} (r : Result T E) (P : Type 0) → P → OnErr r P
on_err (Ok x) P p = tt
on_err (Err e) P p = p

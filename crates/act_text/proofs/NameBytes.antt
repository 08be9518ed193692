-- A name that is put in front of sixteen zero bytes.
use Rattle.std.proofs.Common.{◌≡◌, ℕ, ◌-◌, ◌≤◌, List, [], ◌∷◌, ◌++◌, length, take, drop, replicate, sym, ◌∙◌, subst, arith, IsTrue, true}
use Rattle.std.proofs.lemmas.Grind.{common_steps}
use Rattle.std.proofs.lemmas.List.{drop-replicate, length-append, length-drop}
use Rattle.std.proofs.Math.Seq.{drop-append_seam, take-append_seam}
use Rattle.act_text.specs.Names.{is_name}

pub is_name-short : (name : List ℕ) → is_name name ≡ true → length name ≤ 16
is_name-short [] is = omega arith
is_name-short (first ∷ rest) is = Prim.grind (arith, common_steps)

pub padded : (word : List ℕ) → IsTrue (is_name word) → (put : List ℕ) → put ≡ word → let whole = put ++ drop (length word) (replicate 16 0) in (length word ≤ length whole) × (length whole ≡ 16) × (drop (length word) whole ≡ replicate (16 - length word) 0) × IsTrue (is_name (take (length word) whole))
padded word named put is =
    let short = is_name-short word named in
    let zeros = drop (length word) (replicate 16 0) in
    let P : List ℕ → Type 0 = λ front. let whole = front ++ zeros in (length word ≤ length whole) × (length whole ≡ 16) × (drop (length word) whole ≡ replicate (16 - length word) 0) × IsTrue (is_name (take (length word) whole)) in
    subst P (sym is) (
      omega (arith, length-append word zeros),
      omega (arith, length-append word zeros, length-drop {A = ℕ} (length word) (replicate 16 0)),
      drop-append_seam word zeros ∙ drop-replicate (length word) 16 0,
      subst (λ (w : List ℕ). IsTrue (is_name w)) (sym (take-append_seam word zeros)) named,
    )

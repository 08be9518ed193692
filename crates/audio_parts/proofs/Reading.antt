-- What a step of a source reads.
use Rattle.std.proofs.Common.{◌≡◌, ℕ, ◌+◌, ◌-◌, ◌*◌, ◌≤◌, List, ◌++◌, take, drop, refl, sym, ap, subst, ◌∙◌, arith}
use Rattle.std.specs.Prelude.{Option, None, Some}
use Rattle.std.proofs.Math.Seq.{take-add}
use Rattle.std.proofs.lemmas.List.{drop-drop}
use Rattle.outside_io.specs.Moves.{WhereTold}
use Rattle.part_api.specs.Steps.{ComesFirst}
use Rattle.part_forms.specs.Files.{rest_of}

split : (bytes : List ℕ) (next n m : ℕ) → take (n + m) (drop next bytes) ≡ take n (drop next bytes) ++ take m (drop (next + n) bytes)
split bytes next n m = take-add n m (drop next bytes) ∙ ap (λ l. take n (drop next bytes) ++ take m l) (drop-drop n next bytes)

-- the next bytes come first
comes_first : (told : Option (List ℕ)) (next n m : ℕ) (piece : List ℕ) → WhereTold told (λ bytes. piece ≡ take n (drop next bytes))
    → ComesFirst piece (rest_of told next (n + m)) (rest_of told (next + n) m)
comes_first None next n m piece h = refl
comes_first (Some bytes) next n m piece h =
    (take m (drop (next + n) bytes), refl, split bytes next n m ∙ ap (λ l. l ++ take m (drop (next + n) bytes)) (sym (h bytes refl)))

apart : (frames rest bytes : ℕ) → (frames + rest) * bytes ≡ frames * bytes + rest * bytes
apart frames rest bytes = omega arith

-- the frames that are left, less those of the piece
pub less_left : (left frames taken long bytes : ℕ) → frames ≤ left → taken ≡ frames → long ≡ frames * bytes → left * bytes ≡ long + (left - taken) * bytes
less_left left frames taken long bytes few t l =
    let whole : left ≡ frames + (left - frames) = omega (arith, few) in
    ap (λ n. n * bytes) whole ∙ apart frames (left - frames) bytes ∙ ap (λ n. n + (left - frames) * bytes) (sym l) ∙ ap (λ n. long + (left - n) * bytes) (sym t)

-- so many bytes were read
pub next_comes_first : (told now : Option (List ℕ)) (next at left frames taken long bytes : ℕ) (piece : List ℕ) → now ≡ told → at ≡ next + long
    → frames ≤ left → taken ≡ frames → long ≡ frames * bytes → WhereTold told (λ all. piece ≡ take long (drop next all))
    → ComesFirst piece (rest_of told next (left * bytes)) (rest_of now at ((left - taken) * bytes))
next_comes_first told now next at left frames taken long bytes piece same a few t l h =
    subst (λ (o : Option (List ℕ)). ComesFirst piece (rest_of told next (left * bytes)) (rest_of o at ((left - taken) * bytes))) (sym same)
    (subst (λ (k : ℕ). ComesFirst piece (rest_of told next (left * bytes)) (rest_of told k ((left - taken) * bytes))) (sym a)
    (subst (λ (k : ℕ). ComesFirst piece (rest_of told next k) (rest_of told (next + long) ((left - taken) * bytes))) (sym (less_left left frames taken long bytes few t l))
    (comes_first told next long ((left - taken) * bytes) piece h)))

-- The plain functions on joined pieces.
use Rattle.std.proofs.Common.{◌≡◌, ℕ, zero, suc, ◌+◌, ◌*◌, ◌/◌, ◌%◌, List, [], ◌∷◌, ◌++◌, length, map, ℤ, refl, ap, ◌∙◌, arith, of_z, to_z, w16}
use Rattle.std.proofs.lemmas.List.{map-append}
use Rattle.pcm_ops.specs.Samples.{samples, bytes, gained}
use Rattle.part_forms.specs.Effects.{gained_bytes, decoded, encoded, value_of, code_of}
use Rattle.g711_law.specs.declared.companding.Companding.{Companding}

pub bytes-append : (xs ys : List ℤ) → bytes (xs ++ ys) ≡ bytes xs ++ bytes ys
unfolding bytes
bytes-append [] ys = refl
bytes-append (x ∷ xs) ys = ap (λ k. of_z w16 x % 256 ∷ of_z w16 x / 256 ∷ k) (bytes-append xs ys)

-- of whole samples
pub samples-append : (count : ℕ) (xs ys : List ℕ) → length xs ≡ 2 * count → samples (xs ++ ys) ≡ samples xs ++ samples ys
unfolding samples
samples-append count [] ys e = refl
samples-append count (x ∷ []) ys e = absurd (omega (arith, e))
samples-append zero (x ∷ y ∷ xs) ys e = absurd (omega (arith, e))
samples-append (suc count) (x ∷ y ∷ xs) ys e = ap (λ k. to_z w16 (x + 256 * y) ∷ k) (samples-append count xs ys (omega (arith, e)))

frames_joined : (frames channels : ℕ) (xs ys : List ℕ) → length xs ≡ frames * (channels * 2) → samples (xs ++ ys) ≡ samples xs ++ samples ys
frames_joined frames channels xs ys e = samples-append (frames * channels) xs ys (e ∙ grind arith)

pub gained_joined : (gain frames channels : ℕ) (xs ys : List ℕ) → length xs ≡ frames * (channels * 2)
    → gained_bytes gain (xs ++ ys) ≡ gained_bytes gain xs ++ gained_bytes gain ys
unfolding gained_bytes
gained_joined gain frames channels xs ys e =
    ap (λ s. bytes (map (gained gain) s)) (frames_joined frames channels xs ys e)
    ∙ ap bytes (map-append (gained gain) (samples xs) (samples ys))
    ∙ bytes-append (map (gained gain) (samples xs)) (map (gained gain) (samples ys))

pub decoded_joined : (companding : Companding) (xs ys : List ℕ) → decoded companding (xs ++ ys) ≡ decoded companding xs ++ decoded companding ys
unfolding decoded
decoded_joined companding xs ys = ap bytes (map-append (value_of companding) xs ys) ∙ bytes-append (map (value_of companding) xs) (map (value_of companding) ys)

pub encoded_joined : (companding : Companding) (frames channels : ℕ) (xs ys : List ℕ) → length xs ≡ frames * (channels * 2)
    → encoded companding (xs ++ ys) ≡ encoded companding xs ++ encoded companding ys
unfolding encoded
encoded_joined companding frames channels xs ys e =
    ap (map (code_of companding)) (frames_joined frames channels xs ys e) ∙ map-append (code_of companding) (samples xs) (samples ys)

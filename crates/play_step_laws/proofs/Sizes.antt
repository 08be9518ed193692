-- The lengths of the plain functions, kind by kind.
use Rattle.std.proofs.Common.{◌≡◌, ℕ, zero, suc, ◌*◌, ◌<◌, ◌≤◌, true, List, [], ◌∷◌, length, map, ℤ, refl, sym, ◌∙◌, ap, arith}
use Rattle.std.proofs.lemmas.List.{length-map, length-replicate}
use Rattle.omx_types.specs.declared.format.Format.{Format}
use Rattle.omx_types.specs.declared.kind.Kind.{Kind}
use Rattle.omx_types.specs.declared.kind.Kind.TheVariants as kinds
use Rattle.pcm_ops.specs.Samples.{samples, bytes, gained}
use Rattle.part_api.specs.Streams.{Incoming, HasFrames}
use Rattle.part_api.specs.Terms.{Terms}
use Rattle.g711_law.specs.declared.companding.Companding.{Companding}
use Rattle.part_forms.specs.Kinds.{IsSized, is_source}
use Rattle.part_forms.specs.Effects.{decoded, encoded, gained_bytes, value_of, code_of}
use Rattle.part_forms.specs.Mixing.{mixed_bytes}
use Rattle.part_forms.specs.Shapes.{shape_by, shape_of}
use Rattle.audio_parts.specs.Kinds.{default_factors}
use Rattle.audio_parts.specs.Shapes.{IsLawful}
use Rattle.audio_parts.proofs.Mixing.{mixed_long}

bytes_many : (xs : List ℤ) → length (bytes xs) ≡ length xs * 2
unfolding bytes
bytes_many [] = refl
bytes_many (x ∷ xs) = omega (arith, bytes_many xs)

samples_many : (count : ℕ) (xs : List ℕ) → length xs ≡ count * 2 → length (samples xs) ≡ count
unfolding samples
samples_many zero [] e = refl
samples_many (suc count) [] e = absurd (omega (arith, e))
samples_many zero (x ∷ xs) e = absurd (omega (arith, e))
samples_many (suc count) (x ∷ []) e = absurd (omega (arith, e))
samples_many (suc count) (x ∷ y ∷ xs) e = ap suc (samples_many count xs (omega (arith, e)))

-- so many samples of so many channels
times_two : (frames channels : ℕ) → frames * (channels * 2) ≡ (frames * channels) * 2
times_two frames channels = grind arith

times_one : (frames channels : ℕ) → frames * (channels * 1) ≡ frames * channels
times_one frames channels = grind arith

decoded_many : (companding : Companding) (frames channels : ℕ) (xs : List ℕ) → length xs ≡ frames * (channels * 1) → length (decoded companding xs) ≡ frames * (channels * 2)
unfolding decoded
decoded_many companding frames channels xs e =
    bytes_many (map (value_of companding) xs) ∙ (ap (λ (n : ℕ). n * 2) (length-map xs (value_of companding) ∙ (e ∙ times_one frames channels)) ∙ sym (times_two frames channels))

encoded_many : (companding : Companding) (frames channels : ℕ) (xs : List ℕ) → length xs ≡ frames * (channels * 2) → length (encoded companding xs) ≡ frames * (channels * 1)
unfolding encoded
encoded_many companding frames channels xs e =
    length-map (samples xs) (code_of companding) ∙ (samples_many (frames * channels) xs (e ∙ times_two frames channels) ∙ sym (times_one frames channels))

gained_many : (gain frames channels : ℕ) (xs : List ℕ) → length xs ≡ frames * (channels * 2) → length (gained_bytes gain xs) ≡ frames * (channels * 2)
unfolding gained_bytes
gained_many gain frames channels xs e =
    bytes_many (map (gained gain) (samples xs))
    ∙ (ap (λ (n : ℕ). n * 2) (length-map (samples xs) (gained gain) ∙ samples_many (frames * channels) xs (e ∙ times_two frames channels)) ∙ sym (times_two frames channels))

mixed_many : (weights : List ℕ) (frames channels : ℕ) (f : ℕ → List ℕ) → 1 ≤ length weights → ((i : ℕ) → i < length weights → length (f i) ≡ frames * (channels * 2)) → length (mixed_bytes weights f) ≡ frames * (channels * 2)
mixed_many weights frames channels f some h =
    mixed_long weights (frames * channels) (λ i. 0) f (record {
      each = λ i l. let e = h i l in let t = times_two frames channels in omega arith;
      one = (0, omega (arith, some), refl);
    }) ∙ sym (times_two frames channels)

sized_by : (kind : Kind) (inputs outputs : List Format) (factors : List ℕ) (frames : ℕ) (incoming : Incoming) (output : ℕ) → IsSized kind → length factors ≡ length (default_factors kind)
    → HasFrames (shape_by kind inputs outputs factors) frames incoming → (is_source kind ≡ true → length incoming.file ≡ frames * (shape_by kind inputs outputs factors).output_frame)
    → length ((shape_by kind inputs outputs factors).plain incoming output) ≡ frames * (shape_by kind inputs outputs factors).output_frame
sized_by kinds.Source inputs outputs factors frames incoming output s f H file = file refl
sized_by kinds.Late inputs outputs factors frames incoming output s f H file = file refl
sized_by kinds.Decoder inputs outputs factors frames incoming output s f H file = decoded_many _ frames _ (incoming.input 0) (H.input 0 (omega arith))
sized_by kinds.Alaw inputs outputs factors frames incoming output s f H file = encoded_many _ frames _ (incoming.input 0) (H.input 0 (omega arith))
sized_by kinds.Mulaw inputs outputs factors frames incoming output s f H file = encoded_many _ frames _ (incoming.input 0) (H.input 0 (omega arith))
sized_by kinds.Gain inputs outputs factors frames incoming output s f H file = gained_many _ frames _ (incoming.input 0) (H.input 0 (omega arith))
sized_by (kinds.Mixer number) inputs outputs factors frames incoming output s f H file =
    let n : length factors ≡ number = f ∙ length-replicate number 4096 in
    let low = s.0 in
    mixed_many factors frames _ incoming.input (omega arith) H.input
sized_by (kinds.Splitter number) inputs outputs factors frames incoming output s f H file = H.input 0 (omega arith)
sized_by kinds.Sink inputs outputs factors frames incoming output s f H file = H.input 0 (omega arith)

pub sized : (terms : Terms) (frames : ℕ) (incoming : Incoming) (output : ℕ) → IsSized terms.kind → IsLawful terms → HasFrames (shape_of terms) frames incoming
    → (is_source terms.kind ≡ true → length incoming.file ≡ frames * (shape_of terms).output_frame) → length ((shape_of terms).plain incoming output) ≡ frames * (shape_of terms).output_frame
sized terms frames incoming output s L H file = sized_by terms.kind terms.inputs terms.outputs terms.factors frames incoming output s L.factor_count H file

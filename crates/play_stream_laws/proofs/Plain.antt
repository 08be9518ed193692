-- The plain function of a part of lawful terms: stretch by stretch, and frame for frame.
use Rattle.std.proofs.Common.{◌≡◌, ℕ, ◌*◌, true, List, ◌++◌, length, refl, ◌∙◌, arith}
use Rattle.std.proofs.lemmas.List.{length-replicate}
use Rattle.omx_types.specs.declared.format.Format.{Format}
use Rattle.omx_types.specs.declared.kind.Kind.{Kind}
use Rattle.omx_types.specs.declared.kind.Kind.TheVariants as kinds
use Rattle.part_api.specs.Streams.{Incoming, joined, HasFrames}
use Rattle.part_api.specs.Terms.{Terms}
use Rattle.part_forms.specs.Kinds.{IsSized, is_source}
use Rattle.part_forms.specs.Shapes.{shape_by}
use Rattle.audio_parts.specs.Kinds.{default_factors}
use Rattle.audio_parts.specs.Shapes.{IsLawful}
use Rattle.audio_parts.proofs.Joins.{gained_joined, decoded_joined, encoded_joined}
use Rattle.audio_parts.proofs.Mixing.{mixed_joined}
use Rattle.audio_parts.proofs.Plain.{gives}
use Rattle.play_step_laws.proofs.Sizes.{sized}
use Rattle.play_model.specs.Content.{IsPart}
use Rattle.play_stream_laws.specs.Parts.{part_of}

-- ---- two stretches

mixed_frames : (frames channels : ℕ) → frames * (channels * 2) ≡ (frames * channels) * 2
mixed_frames frames channels = grind arith

joins_by : (kind : Kind) (inputs outputs : List Format) (factors : List ℕ) (frames more : ℕ) (first second : Incoming) (output : ℕ) → IsSized kind → length factors ≡ length (default_factors kind)
    → HasFrames (shape_by kind inputs outputs factors) frames first → HasFrames (shape_by kind inputs outputs factors) more second
    → gives kind inputs outputs factors (joined first second) output ≡ gives kind inputs outputs factors first output ++ gives kind inputs outputs factors second output
joins_by kinds.Source inputs outputs factors frames more first second output s f H K = refl
joins_by kinds.Late inputs outputs factors frames more first second output s f H K = refl
joins_by kinds.Decoder inputs outputs factors frames more first second output s f H K = decoded_joined _ (first.input 0) (second.input 0)
joins_by kinds.Alaw inputs outputs factors frames more first second output s f H K = encoded_joined _ frames _ (first.input 0) (second.input 0) (H.input 0 (omega arith))
joins_by kinds.Mulaw inputs outputs factors frames more first second output s f H K = encoded_joined _ frames _ (first.input 0) (second.input 0) (H.input 0 (omega arith))
joins_by kinds.Gain inputs outputs factors frames more first second output s f H K = gained_joined _ frames _ (first.input 0) (second.input 0) (H.input 0 (omega arith))
joins_by (kinds.Mixer number) inputs outputs factors frames more first second output s f H K =
    let n : length factors ≡ number = f ∙ length-replicate number 4096 in
    let low = s.0 in
    let channels : ℕ = (shape_by (kinds.Mixer number) inputs outputs factors).channels in
    mixed_joined factors (frames * channels) (more * channels) first.input second.input (omega arith)
    (λ k l. H.input k l ∙ mixed_frames frames channels) (λ k l. K.input k l ∙ mixed_frames more channels)
joins_by (kinds.Splitter number) inputs outputs factors frames more first second output s f H K = refl
joins_by kinds.Sink inputs outputs factors frames more first second output s f H K = refl

pub no_input : (kind : Kind) (inputs outputs : List Format) (factors : List ℕ) → is_source kind ≡ true → (shape_by kind inputs outputs factors).inputs ≡ 0
no_input kinds.Source inputs outputs factors h = refl
no_input kinds.Late inputs outputs factors h = refl
no_input kinds.Decoder inputs outputs factors h = absurd cc
no_input kinds.Alaw inputs outputs factors h = absurd cc
no_input kinds.Mulaw inputs outputs factors h = absurd cc
no_input kinds.Gain inputs outputs factors h = absurd cc
no_input (kinds.Mixer number) inputs outputs factors h = absurd cc
no_input (kinds.Splitter number) inputs outputs factors h = absurd cc
no_input kinds.Sink inputs outputs factors h = absurd cc

pub parts : (terms : Terms) → IsSized terms.kind → IsLawful terms → IsPart (part_of terms)
parts terms s L = record {
  joins = λ frames more first second H K output.
      joins_by terms.kind terms.inputs terms.outputs terms.factors frames more (record { input = first.input; file = first.file }) (record { input = second.input; file = second.file }) output s L.factor_count
      (record { input = H.input }) (record { input = K.input });
  sized = λ frames came H output.
      sized terms frames (record { input = came.input; file = came.file }) output s L (record { input = H.input })
      (λ h. H.file (no_input terms.kind terms.inputs terms.outputs terms.factors h));
}

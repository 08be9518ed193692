-- The frames of a part's ports.
use Rattle.std.proofs.Common.{◌≡◌, ℕ, ◌*◌, List, [], ◌∷◌, ◌++◌, length, refl, ap, sym, ◌∙◌, arith, true, false, ◌||◌}
use Rattle.std.specs.List.{AllByRecursion}
use Rattle.std.proofs.lemmas.List.{length-replicate}
use Rattle.omx_types.specs.declared.format.Format.{Format}
use Rattle.omx_types.specs.declared.format.Format.TheVariants.{Pcm, Alaw, Mulaw, Auto}
use Rattle.omx_types.specs.declared.kind.Kind.{Kind}
use Rattle.omx_types.specs.declared.kind.Kind.TheVariants as kinds
use Rattle.omx_types.specs.Formats.{channels_of, frame_bytes_of, is_pcm, is_alaw, is_mulaw, IsWithinLimits}
use Rattle.part_forms.specs.Kinds.{inputs_of, outputs_of}
use Rattle.part_api.specs.Terms.{Terms}
use Rattle.part_forms.specs.Effects.{width_of}
use Rattle.audio_parts.specs.Kinds.{MayBe, default_factors}
use Rattle.audio_parts.specs.Ready.{Fit, AreFitting}
use Rattle.audio_parts.specs.Shapes.{IsFrame, IsLawful, HasFramesOf}
use Rattle.part_forms.specs.Shapes.{shape_by, shape_of}

-- ---- one format

pcm_frame : (format : Format) → is_pcm format ≡ true → frame_bytes_of format ≡ channels_of format * 2
pcm_frame (Pcm rate channels) h = omega arith
pcm_frame (Alaw rate channels) h = cc
pcm_frame (Mulaw rate channels) h = cc
pcm_frame Auto h = cc

coded_frame : (format : Format) → (is_alaw format || is_mulaw format) ≡ true → frame_bytes_of format ≡ channels_of format * 1
coded_frame (Pcm rate channels) h = cc
coded_frame (Alaw rate channels) h = omega arith
coded_frame (Mulaw rate channels) h = omega arith
coded_frame Auto h = cc

alaw_frame : (format : Format) → is_alaw format ≡ true → frame_bytes_of format ≡ channels_of format * 1
alaw_frame (Pcm rate channels) h = cc
alaw_frame (Alaw rate channels) h = omega arith
alaw_frame (Mulaw rate channels) h = cc
alaw_frame Auto h = cc

mulaw_frame : (format : Format) → is_mulaw format ≡ true → frame_bytes_of format ≡ channels_of format * 1
mulaw_frame (Pcm rate channels) h = cc
mulaw_frame (Alaw rate channels) h = cc
mulaw_frame (Mulaw rate channels) h = omega arith
mulaw_frame Auto h = cc

width_frame : (format : Format) → IsWithinLimits format → frame_bytes_of format ≡ channels_of format * width_of format
width_frame (Pcm rate channels) h = omega arith
width_frame (Alaw rate channels) h = omega arith
width_frame (Mulaw rate channels) h = omega arith
width_frame Auto h = absurd (let some = h.some_channel in omega arith)

-- ---- lists of ports

all_map : {A : Type 0} (P Q : A → Type 0) (xs : List A) → ((x : A) → P x → Q x) → AllByRecursion P xs → AllByRecursion Q xs
all_map P Q [] f h = tt
all_map P Q (x ∷ xs) f h = (f x h.0, all_map P Q xs f h.1)

all_both : {A : Type 0} (P Q R : A → Type 0) (xs : List A) → ((x : A) → P x → Q x → R x) → AllByRecursion P xs → AllByRecursion Q xs → AllByRecursion R xs
all_both P Q R [] f h k = tt
all_both P Q R (x ∷ xs) f h k = (f x h.0 k.0, all_both P Q R xs f h.1 k.1)

all_front : {A : Type 0} (P : A → Type 0) (xs ys : List A) → AllByRecursion P (xs ++ ys) → AllByRecursion P xs
all_front P [] ys h = tt
all_front P (x ∷ xs) ys h = (h.0, all_front P xs ys h.1)

all_back : {A : Type 0} (P : A → Type 0) (xs ys : List A) → AllByRecursion P (xs ++ ys) → AllByRecursion P ys
all_back P [] ys h = h
all_back P (x ∷ xs) ys h = all_back P xs ys h.1

-- ---- one input and one output

-- both, where they fit
paired : (kind : Kind) (factors : List ℕ)
    → ((input output : Format) → MayBe kind true input → MayBe kind false output → Fit kind output input → HasFramesOf (input ∷ []) (output ∷ []) (shape_by kind (input ∷ []) (output ∷ []) factors))
    → (inputs outputs : List Format) → AllByRecursion (MayBe kind true) inputs → AllByRecursion (MayBe kind false) outputs → length inputs ≡ 1 → length outputs ≡ 1
    → AreFitting kind (inputs ++ outputs) → HasFramesOf inputs outputs (shape_by kind inputs outputs factors)
paired kind factors f [] outputs i o ic oc fit = absurd (omega (arith, ic))
paired kind factors f (x ∷ y ∷ xs) outputs i o ic oc fit = absurd (omega (arith, ic))
paired kind factors f (x ∷ []) [] i o ic oc fit = absurd (omega (arith, oc))
paired kind factors f (x ∷ []) (y ∷ z ∷ zs) i o ic oc fit = absurd (omega (arith, oc))
paired kind factors f (input ∷ []) (output ∷ []) i o ic oc fit = f input output i.0 o.0 fit.0

-- of so many bytes a sample
both_frames : (input output : Format) (from to : ℕ) → frame_bytes_of input ≡ channels_of input * from → frame_bytes_of output ≡ channels_of output * to → channels_of output ≡ channels_of input
    → IsFrame (channels_of input) (channels_of input * from) input × IsFrame (channels_of input) (channels_of input * to) output
both_frames input output from to i o e = (record { samples = refl; size = i }, record { samples = e; size = o ∙ ap (λ n. n * to) e })

decoder_frames : (factors : List ℕ) (input output : Format) → MayBe kinds.Decoder true input → MayBe kinds.Decoder false output → Fit kinds.Decoder output input
    → HasFramesOf (input ∷ []) (output ∷ []) (shape_by kinds.Decoder (input ∷ []) (output ∷ []) factors)
decoder_frames factors input output i o fit =
    let both = both_frames input output 1 2 (coded_frame input i.allowed) (pcm_frame output o.allowed) fit.1 in
    record { input = (both.0, tt); output = (both.1, tt); input_count = refl; output_count = refl }

alaw_frames : (factors : List ℕ) (input output : Format) → MayBe kinds.Alaw true input → MayBe kinds.Alaw false output → Fit kinds.Alaw output input
    → HasFramesOf (input ∷ []) (output ∷ []) (shape_by kinds.Alaw (input ∷ []) (output ∷ []) factors)
alaw_frames factors input output i o fit =
    let both = both_frames input output 2 1 (pcm_frame input i.allowed) (alaw_frame output o.allowed) fit.1 in
    record { input = (both.0, tt); output = (both.1, tt); input_count = refl; output_count = refl }

mulaw_frames : (factors : List ℕ) (input output : Format) → MayBe kinds.Mulaw true input → MayBe kinds.Mulaw false output → Fit kinds.Mulaw output input
    → HasFramesOf (input ∷ []) (output ∷ []) (shape_by kinds.Mulaw (input ∷ []) (output ∷ []) factors)
mulaw_frames factors input output i o fit =
    let both = both_frames input output 2 1 (pcm_frame input i.allowed) (mulaw_frame output o.allowed) fit.1 in
    record { input = (both.0, tt); output = (both.1, tt); input_count = refl; output_count = refl }

gain_frames : (factors : List ℕ) (input output : Format) → MayBe kinds.Gain true input → MayBe kinds.Gain false output → Fit kinds.Gain output input
    → HasFramesOf (input ∷ []) (output ∷ []) (shape_by kinds.Gain (input ∷ []) (output ∷ []) factors)
gain_frames factors input output i o fit =
    let both = both_frames input output 2 2 (pcm_frame input i.allowed) (pcm_frame output o.allowed) fit.1 in
    record { input = (both.0, tt); output = (both.1, tt); input_count = refl; output_count = refl }

-- ---- several inputs, or several outputs

one_number : (number : ℕ) (inputs : List Format) (output : Format) → AreFitting (kinds.Mixer number) (inputs ++ output ∷ []) → AllByRecursion (λ port. channels_of port ≡ channels_of output) inputs
one_number number [] output fit = tt
one_number number (first ∷ rest) output fit =
    let P : Format → Type 0 = λ port. Fit (kinds.Mixer number) port first in
    let e : channels_of output ≡ channels_of first = (all_back P rest (output ∷ []) fit).0.1 in
    (sym e, all_map P (λ port. channels_of port ≡ channels_of output) rest (λ port h. h.1 ∙ sym e) (all_front P rest (output ∷ []) fit))

mixer_frames : (number : ℕ) (factors : List ℕ) (inputs outputs : List Format) → AllByRecursion (MayBe (kinds.Mixer number) true) inputs → AllByRecursion (MayBe (kinds.Mixer number) false) outputs
    → length inputs ≡ number → length outputs ≡ 1 → length factors ≡ number → AreFitting (kinds.Mixer number) (inputs ++ outputs)
    → HasFramesOf inputs outputs (shape_by (kinds.Mixer number) inputs outputs factors)
mixer_frames number factors inputs [] i o ic oc fc fit = absurd (omega (arith, oc))
mixer_frames number factors inputs (x ∷ y ∷ xs) i o ic oc fc fit = absurd (omega (arith, oc))
mixer_frames number factors inputs (output ∷ []) i o ic oc fc fit = record {
  input = all_both (MayBe (kinds.Mixer number) true) (λ port. channels_of port ≡ channels_of output) (IsFrame (channels_of output) (channels_of output * 2)) inputs
      (λ port m e. record { samples = e; size = pcm_frame port m.allowed ∙ ap (λ n. n * 2) e }) i (one_number number inputs output fit);
  output = (record { samples = refl; size = pcm_frame output o.0.allowed }, tt);
  input_count = ic ∙ sym fc;
  output_count = refl;
}

splitter_frames : (number : ℕ) (factors : List ℕ) (inputs outputs : List Format) → AllByRecursion (MayBe (kinds.Splitter number) true) inputs → length inputs ≡ 1 → length outputs ≡ number → AreFitting (kinds.Splitter number) (inputs ++ outputs)
    → HasFramesOf inputs outputs (shape_by (kinds.Splitter number) inputs outputs factors)
splitter_frames number factors [] outputs i ic oc fit = absurd (omega (arith, ic))
splitter_frames number factors (x ∷ y ∷ xs) outputs i ic oc fit = absurd (omega (arith, ic))
splitter_frames number factors (input ∷ []) outputs i ic oc fit = record {
  input = (record { samples = refl; size = width_frame input i.0.limits }, tt);
  output = all_map (λ port. port ≡ input) (IsFrame (channels_of input) (channels_of input * width_of input)) outputs
      (λ port e. record { samples = ap channels_of e; size = ap frame_bytes_of e ∙ width_frame input i.0.limits }) fit;
  input_count = refl;
  output_count = oc;
}

-- ---- one port

source_frames : (factors : List ℕ) (inputs outputs : List Format) → length inputs ≡ 0 → length outputs ≡ 1 → HasFramesOf inputs outputs (shape_by kinds.Source inputs outputs factors)
source_frames factors (x ∷ xs) outputs ic oc = absurd (omega (arith, ic))
source_frames factors [] [] ic oc = absurd (omega (arith, oc))
source_frames factors [] (x ∷ y ∷ xs) ic oc = absurd (omega (arith, oc))
source_frames factors [] (output ∷ []) ic oc = record { input = tt; output = (record { samples = refl; size = refl }, tt); input_count = refl; output_count = refl }

sink_frames : (factors : List ℕ) (inputs outputs : List Format) → length inputs ≡ 1 → length outputs ≡ 0 → HasFramesOf inputs outputs (shape_by kinds.Sink inputs outputs factors)
sink_frames factors [] outputs ic oc = absurd (omega (arith, ic))
sink_frames factors (x ∷ y ∷ xs) outputs ic oc = absurd (omega (arith, ic))
sink_frames factors (input ∷ []) (y ∷ ys) ic oc = absurd (omega (arith, oc))
sink_frames factors (input ∷ []) [] ic oc = record { input = (record { samples = refl; size = refl }, tt); output = tt; input_count = refl; output_count = refl }

frames_of : (kind : Kind) (factors : List ℕ) (inputs outputs : List Format) → AllByRecursion (MayBe kind true) inputs → AllByRecursion (MayBe kind false) outputs
    → length inputs ≡ inputs_of kind → length outputs ≡ outputs_of kind → length factors ≡ length (default_factors kind) → AreFitting kind (inputs ++ outputs)
    → HasFramesOf inputs outputs (shape_by kind inputs outputs factors)
frames_of kinds.Source factors inputs outputs i o ic oc fc fit = source_frames factors inputs outputs ic oc
frames_of kinds.Late factors inputs outputs i o ic oc fc fit = source_frames factors inputs outputs ic oc
frames_of kinds.Decoder factors inputs outputs i o ic oc fc fit = paired kinds.Decoder factors (decoder_frames factors) inputs outputs i o ic oc fit
frames_of kinds.Alaw factors inputs outputs i o ic oc fc fit = paired kinds.Alaw factors (alaw_frames factors) inputs outputs i o ic oc fit
frames_of kinds.Mulaw factors inputs outputs i o ic oc fc fit = paired kinds.Mulaw factors (mulaw_frames factors) inputs outputs i o ic oc fit
frames_of kinds.Gain factors inputs outputs i o ic oc fc fit = paired kinds.Gain factors (gain_frames factors) inputs outputs i o ic oc fit
frames_of (kinds.Mixer number) factors inputs outputs i o ic oc fc fit = mixer_frames number factors inputs outputs i o ic oc (fc ∙ length-replicate number 4096) fit
frames_of (kinds.Splitter number) factors inputs outputs i o ic oc fc fit = splitter_frames number factors inputs outputs i ic oc fit
frames_of kinds.Sink factors inputs outputs i o ic oc fc fit = sink_frames factors inputs outputs ic oc

pub has_frames : (terms : Terms) → IsLawful terms → AreFitting terms.kind (terms.inputs ++ terms.outputs) → HasFramesOf terms.inputs terms.outputs (shape_of terms)
has_frames terms h fit = frames_of terms.kind terms.factors terms.inputs terms.outputs h.inputs h.outputs h.input_count h.output_count h.factor_count fit

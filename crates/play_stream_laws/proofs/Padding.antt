-- Zeros behind the shorter inputs of a part are as good as nothing, where one input is whole.
use Rattle.std.proofs.Common.{◌≡◌, ℕ, ◌-◌, ◌<◌, ◌≤◌, false, List, ◌++◌, length, replicate, refl, sym, ◌∙◌, ap, append-nil, arith}
use Rattle.omx_types.specs.declared.format.Format.{Format}
use Rattle.omx_types.specs.declared.kind.Kind.{Kind}
use Rattle.omx_types.specs.declared.kind.Kind.TheVariants as kinds
use Rattle.part_api.specs.Streams.{Incoming}
use Rattle.part_api.specs.Terms.{Terms}
use Rattle.part_forms.specs.Kinds.{is_source}
use Rattle.part_forms.specs.Shapes.{shape_by, shape_of}
use Rattle.audio_parts.proofs.Mixing.{mixed_padded}
use Rattle.play_model.specs.Content.{padded}
use Rattle.audio_parts.proofs.Plain.{same_by}

pub padded_whole : (size : ℕ) (bytes : List ℕ) → length bytes ≡ size → padded size bytes ≡ bytes
padded_whole size bytes e =
    let none : size - length bytes ≡ 0 = omega arith in
    ap (λ (n : ℕ). bytes ++ replicate n 0) none ∙ append-nil bytes

-- each input with zeros behind it
abbrev pub with_pads : ℕ → Incoming → Incoming
with_pads size came = record { input = λ i. padded size (came.input i); file = came.file }

-- an input of the part that has this size
abbrev pub HasFullInput : ℕ → ℕ → Incoming → Type 0
HasFullInput inputs size came = (i : ℕ) × (i < inputs) × (length (came.input i) ≡ size)

only_whole : (size : ℕ) (came : Incoming) → HasFullInput 1 size came → (i : ℕ) → i < 1 → padded size (came.input i) ≡ came.input i
only_whole size came one i l =
    let low = one.1 in
    let is : one.0 ≡ i = omega arith in
    padded_whole size (came.input i) (ap (λ (j : ℕ). length (came.input j)) (sym is) ∙ one.2)

padded_by : (kind : Kind) (inputs outputs : List Format) (factors : List ℕ) (size : ℕ) (came : Incoming) (output : ℕ)
    → ((i : ℕ) → i < (shape_by kind inputs outputs factors).inputs → length (came.input i) ≤ size)
    → (is_source kind ≡ false → HasFullInput (shape_by kind inputs outputs factors).inputs size came)
    → (shape_by kind inputs outputs factors).plain (with_pads size came) output ≡ (shape_by kind inputs outputs factors).plain came output
padded_by kinds.Source inputs outputs factors size came output low one = refl
padded_by kinds.Late inputs outputs factors size came output low one = refl
padded_by kinds.Decoder inputs outputs factors size came output low one = same_by kinds.Decoder inputs outputs factors (with_pads size came) came output (only_whole size came (one refl)) (λ h. refl)
padded_by kinds.Alaw inputs outputs factors size came output low one = same_by kinds.Alaw inputs outputs factors (with_pads size came) came output (only_whole size came (one refl)) (λ h. refl)
padded_by kinds.Mulaw inputs outputs factors size came output low one = same_by kinds.Mulaw inputs outputs factors (with_pads size came) came output (only_whole size came (one refl)) (λ h. refl)
padded_by kinds.Gain inputs outputs factors size came output low one = same_by kinds.Gain inputs outputs factors (with_pads size came) came output (only_whole size came (one refl)) (λ h. refl)
padded_by (kinds.Mixer number) inputs outputs factors size came output low one =
    let w = one refl in
    mixed_padded factors size (λ i. size - length (came.input i)) came.input
    (record { each = λ i l. let h = low i l in omega arith; one = (w.0, w.1, let h = w.2 in omega arith) })
padded_by (kinds.Splitter number) inputs outputs factors size came output low one = same_by (kinds.Splitter number) inputs outputs factors (with_pads size came) came output (only_whole size came (one refl)) (λ h. refl)
padded_by kinds.Sink inputs outputs factors size came output low one = same_by kinds.Sink inputs outputs factors (with_pads size came) came output (only_whole size came (one refl)) (λ h. refl)

pub plain_padded : (terms : Terms) (size : ℕ) (came : Incoming) (output : ℕ) → ((i : ℕ) → i < (shape_of terms).inputs → length (came.input i) ≤ size)
    → (is_source terms.kind ≡ false → (i : ℕ) × (i < (shape_of terms).inputs) × (length (came.input i) ≡ size))
    → (shape_of terms).plain (record { input = λ i. padded size (came.input i); file = came.file }) output ≡ (shape_of terms).plain came output
plain_padded terms size came output low one = padded_by terms.kind terms.inputs terms.outputs terms.factors size came output low one

-- The plain function of a part looks at nothing but the part's inputs, and at the file of a source.
use Rattle.std.proofs.Common.{◌≡◌, ℕ, suc, ◌<◌, max, true, List, [], ◌∷◌, length, map, refl, sym, ◌∙◌, ap, arith}
use Rattle.std.specs.Simd.Lanes.{zip2}
use Rattle.omx_types.specs.declared.format.Format.{Format}
use Rattle.omx_types.specs.declared.kind.Kind.{Kind}
use Rattle.omx_types.specs.declared.kind.Kind.TheVariants as kinds
use Rattle.pcm_ops.specs.Samples.{samples, bytes, mixed, clamped}
use Rattle.part_api.specs.Streams.{Incoming}
use Rattle.part_api.specs.Terms.{Terms}
use Rattle.part_forms.specs.Kinds.{is_source}
use Rattle.part_forms.specs.Mixing.{longest, mixed_bytes, padded, sums}
use Rattle.part_forms.specs.Shapes.{shape_by, shape_of}

longest_same : (weights : List ℕ) (a b : ℕ → List ℕ) → ((input : ℕ) → input < length weights → a input ≡ b input) → longest weights a ≡ longest weights b
unfolding longest
longest_same [] a b same = refl
longest_same (weight ∷ weights) a b same =
    ap (λ piece. max (length piece) (longest weights (λ number. a (suc number)))) (same 0 (omega arith))
    ∙ ap (λ rest. max (length (b 0)) rest) (longest_same weights (λ number. a (suc number)) (λ number. b (suc number)) (λ input l. same (suc input) (omega (arith, l))))

sums_same : (weights : List ℕ) (size : ℕ) (a b : ℕ → List ℕ) → ((input : ℕ) → input < length weights → a input ≡ b input) → sums weights size a ≡ sums weights size b
unfolding sums
sums_same [] size a b same = refl
sums_same (weight ∷ weights) size a b same =
    ap (λ piece. zip2 (mixed weight) (sums weights size (λ number. a (suc number))) (samples (padded size piece))) (same 0 (omega arith))
    ∙ ap (λ rest. zip2 (mixed weight) rest (samples (padded size (b 0)))) (sums_same weights size (λ number. a (suc number)) (λ number. b (suc number)) (λ input l. same (suc input) (omega (arith, l))))

mixed_same : (weights : List ℕ) (a b : ℕ → List ℕ) → ((input : ℕ) → input < length weights → a input ≡ b input) → mixed_bytes weights a ≡ mixed_bytes weights b
unfolding mixed_bytes
mixed_same weights a b same =
    ap (λ size. bytes (map clamped (sums weights size a))) (longest_same weights a b same)
    ∙ ap (λ all. bytes (map clamped all)) (sums_same weights (longest weights b) a b same)

abbrev pub gives : Kind → List Format → List Format → List ℕ → Incoming → ℕ → List ℕ
gives kind inputs outputs factors came output = (shape_by kind inputs outputs factors).plain came output

-- of a part with one input: what it gives is told by that input
one_same : (kind : Kind) (inputs outputs : List Format) (factors : List ℕ) (a b : Incoming) (output : ℕ)
    → ((came : Incoming) → gives kind inputs outputs factors came output ≡ gives kind inputs outputs factors (record { input = λ input. came.input 0; file = [] }) output)
    → a.input 0 ≡ b.input 0 → gives kind inputs outputs factors a output ≡ gives kind inputs outputs factors b output
one_same kind inputs outputs factors a b output h e = h a ∙ (ap (λ piece. gives kind inputs outputs factors (record { input = λ input. piece; file = [] }) output) e ∙ sym (h b))

pub same_by : (kind : Kind) (inputs outputs : List Format) (factors : List ℕ) (a b : Incoming) (output : ℕ)
    → ((input : ℕ) → input < (shape_by kind inputs outputs factors).inputs → a.input input ≡ b.input input) → (is_source kind ≡ true → a.file ≡ b.file)
    → gives kind inputs outputs factors a output ≡ gives kind inputs outputs factors b output
same_by kinds.Source inputs outputs factors a b output same file = file refl
same_by kinds.Late inputs outputs factors a b output same file = file refl
same_by kinds.Decoder inputs outputs factors a b output same file = one_same kinds.Decoder inputs outputs factors a b output (λ came. refl) (same 0 (omega arith))
same_by kinds.Alaw inputs outputs factors a b output same file = one_same kinds.Alaw inputs outputs factors a b output (λ came. refl) (same 0 (omega arith))
same_by kinds.Mulaw inputs outputs factors a b output same file = one_same kinds.Mulaw inputs outputs factors a b output (λ came. refl) (same 0 (omega arith))
same_by kinds.Gain inputs outputs factors a b output same file = one_same kinds.Gain inputs outputs factors a b output (λ came. refl) (same 0 (omega arith))
same_by (kinds.Mixer number) inputs outputs factors a b output same file = mixed_same factors a.input b.input same
same_by (kinds.Splitter number) inputs outputs factors a b output same file = same 0 (omega arith)
same_by kinds.Sink inputs outputs factors a b output same file = same 0 (omega arith)

pub plain_same : (terms : Terms) (a b : Incoming) (output : ℕ) → ((input : ℕ) → input < (shape_of terms).inputs → a.input input ≡ b.input input)
    → (is_source terms.kind ≡ true → a.file ≡ b.file) → (shape_of terms).plain a output ≡ (shape_of terms).plain b output
plain_same terms a b output same file = same_by terms.kind terms.inputs terms.outputs terms.factors a b output same file

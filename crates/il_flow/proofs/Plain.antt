-- A plain function of lawful terms looks at nothing but the part's inputs, and at the file of a source; the headers that a step leaves.
use Rattle.std.proofs.Common.{◌≡◌, ℕ, ◌+◌, ◌-◌, ◌<◌, true, Bool, false, List, [], ◌∷◌, length, map, refl, ap, ◌∙◌, arith}
use Rattle.std.specs.Prelude.{Option, Some, None}
use Rattle.std.proofs.lemmas.List.{length-replicate}
use Rattle.omx_types.specs.declared.format.Format.{Format}
use Rattle.omx_types.specs.declared.kind.Kind.{Kind}
use Rattle.omx_types.specs.declared.kind.Kind.TheVariants as kinds
use Rattle.part_api.specs.Streams.{Incoming, Shape}
use Rattle.part_api.specs.Terms.{Terms}
use Rattle.part_forms.specs.Kinds.{inputs_of, is_source}
use Rattle.part_forms.specs.Shapes.{shape_by, shape_of}
use Rattle.audio_parts.specs.Kinds.{default_factors}
use Rattle.audio_parts.specs.Shapes.{IsLawful}
use Rattle.audio_parts.proofs.Plain.{plain_same}
use Rattle.il_machine.specs.Stepping.{is_in, stepped}
use Rattle.header_core.specs.BufferHeader.{BufferHeader}
use Rattle.il_flow.specs.Places.{carried, carried_from, changed_from}
use Rattle.il_flow.specs.Steps.{stepped_header}

inputs_few : (kind : Kind) (inputs outputs : List Format) (factors : List ℕ) (input : ℕ) → length inputs ≡ inputs_of kind → length factors ≡ length (default_factors kind) → input < (shape_by kind inputs outputs factors).inputs → input < length inputs
inputs_few kinds.Source inputs outputs factors input count few l = absurd (omega (arith, l))
inputs_few kinds.Late inputs outputs factors input count few l = absurd (omega (arith, l))
inputs_few kinds.Decoder inputs outputs factors input count few l = omega (arith, count, l)
inputs_few kinds.Alaw inputs outputs factors input count few l = omega (arith, count, l)
inputs_few kinds.Mulaw inputs outputs factors input count few l = omega (arith, count, l)
inputs_few kinds.Gain inputs outputs factors input count few l = omega (arith, count, l)
inputs_few (kinds.Mixer number) inputs outputs factors input count few l = let all : length factors ≡ number = few ∙ length-replicate number 4096 in omega (arith, l, all, count)
inputs_few (kinds.Splitter number) inputs outputs factors input count few l = omega (arith, count, l)
inputs_few kinds.Sink inputs outputs factors input count few l = omega (arith, count, l)

pub lawful_same : (t : Terms) (a b : Incoming) (output : ℕ) → IsLawful t → ((input : ℕ) → input < length t.inputs → a.input input ≡ b.input input)
    → (is_source t.kind ≡ true → a.file ≡ b.file) → (shape_of t).plain a output ≡ (shape_of t).plain b output
lawful_same t a b output lawful same file = plain_same t a b output (λ input l. same input (inputs_few t.kind t.inputs t.outputs t.factors input lawful.input_count lawful.factor_count l)) file

-- ---- headers

one_stepped : (t : Terms) (s : Shape) (n : ℕ) (a b : Incoming) (over : Bool) (port : ℕ) (h : BufferHeader) (inside : Bool) → is_in t (carried port h) ≡ inside
    → ((output : ℕ) → s.plain a output ≡ (shape_of t).plain b output) → carried port (stepped_header t s n a over port h) ≡ stepped t n b over (carried port h)
one_stepped t s n a b over port h true e same = rw e refl
one_stepped t s n a b over port h false e same = rw (e, same (port - length t.inputs)) refl

-- the headers that a step leaves are those of the machine
pub all_stepped : (t : Terms) (s : Shape) (n : ℕ) (a b : Incoming) (over : Bool) (port : ℕ) (places : List (Option BufferHeader))
    → ((output : ℕ) → s.plain a output ≡ (shape_of t).plain b output)
    → carried_from port (changed_from (stepped_header t s n a over) port places) ≡ map (stepped t n b over) (carried_from port places)
all_stepped t s n a b over port [] same = refl
all_stepped t s n a b over port (None ∷ places) same = all_stepped t s n a b over (port + 1) places same
all_stepped t s n a b over port (Some h ∷ places) same =
    ap (λ x. x ∷ carried_from (port + 1) (changed_from (stepped_header t s n a over) (port + 1) places)) (one_stepped t s n a b over port h (is_in t (carried port h)) refl same)
    ∙ ap (λ xs. stepped t n b over (carried port h) ∷ xs) (all_stepped t s n a b over (port + 1) places same)

-- What a sink's file takes in a step, behind what it has taken.
use Rattle.std.proofs.Common.{◌≡◌, ℕ, ◌+◌, ◌-◌, ◌*◌, ◌≤◌, Bool, true, false, not, List, [], ◌∷◌, ◌++◌, length, if◌then◌else◌, Option, Some, None, refl, ◌∙◌, ap, nat_le, leb-true, le-leb, arith}
use Rattle.omx_types.specs.declared.format.Format.{Format}
use Rattle.omx_types.specs.declared.kind.Kind.{Kind}
use Rattle.omx_types.specs.declared.kind.Kind.TheVariants as kinds
use Rattle.omx_types.specs.Formats.{frame_bytes_of}
use Rattle.part_api.specs.declared.attached.Attached.{Attached}
use Rattle.part_api.specs.declared.attached.Attached.TheVariants.{From, To}
use Rattle.il_machine.specs.Kinds.{inputs_of, is_sink, is_source}
use Rattle.il_machine.specs.Lists.{is_empty}
use Rattle.il_machine.specs.World.{Stream}
use Rattle.il_machine.specs.Stepping.{text_by}
use Rattle.machine_laws.proofs.Finding.{either}
use Rattle.play_model.specs.Network.{Filled, frames_in}
use Rattle.play_model.specs.Moves.{IsEnding, IsFront}
use Rattle.play_model.specs.Content.{front_taken}
use Rattle.part_forms.specs.Sinking.{sink_text}
use Rattle.play_stream_laws.specs.Sunk.{sunk}
use Rattle.play_stream_laws.proofs.Sinks.{some_sunk, sunk_joined}
use Rattle.play_stream_laws.specs.Streams.{sunk_by}

-- ---- one step more

-- behind what it has taken, the text of the step
pub text_joins : (file : Option Attached) (format : Format) (s : Stream) (frames : ℕ) (bytes piece : List ℕ) → length bytes ≡ s.frames * frame_bytes_of format → length piece ≡ frames * frame_bytes_of format
    → s.written ≡ sunk_by file format s.frames bytes → s.written ++ text_by file format s frames piece ≡ sunk_by file format (s.frames + frames) (bytes ++ piece)
text_joins None format s frames bytes piece h k e = ap (λ (z : List ℕ). z ++ []) e
text_joins (Some (From read many)) format s frames bytes piece h k e = ap (λ (z : List ℕ). z ++ []) e
text_joins (Some (To planned)) format s frames bytes piece h k e =
    let headed : not (is_empty s.written) ≡ true = ap (λ (z : List ℕ). not (is_empty z)) e ∙ ap not (some_sunk format planned s.frames bytes) in
    (λ i. e i ++ sink_text (headed i) format planned (planned - s.frames) frames piece) ∙ sunk_joined format planned s.frames frames bytes piece h k

-- the first step
pub text_begins : (file : Option Attached) (format : Format) (s : Stream) (frames : ℕ) (piece : List ℕ) → s.written ≡ [] → s.frames ≡ 0
    → s.written ++ text_by file format s frames piece ≡ sunk_by file format (s.frames + frames) piece
text_begins None format s frames piece e z = ap (λ (q : List ℕ). q ++ []) e
text_begins (Some (From read many)) format s frames piece e z = ap (λ (q : List ℕ). q ++ []) e
text_begins (Some (To planned)) format s frames piece e z =
    let left : planned - s.frames ≡ planned = omega arith in
    let sum : frames ≡ s.frames + frames = omega arith in
    let headed : not (is_empty s.written) ≡ false = ap (λ (q : List ℕ). not (is_empty q)) e in
    (λ i. e i ++ sink_text (headed i) format planned (left i) frames piece) ∙ ap (λ (j : ℕ). sunk format planned j piece) sum

pub sink_kind : (k : Kind) → is_sink k ≡ true → (is_source k ≡ false) × (inputs_of k ≡ 1)
sink_kind kinds.Source h = absurd cc
sink_kind kinds.Late h = absurd cc
sink_kind kinds.Decoder h = absurd cc
sink_kind kinds.Alaw h = absurd cc
sink_kind kinds.Mulaw h = absurd cc
sink_kind kinds.Gain h = absurd cc
sink_kind (kinds.Mixer n) h = absurd cc
sink_kind (kinds.Splitter n) h = absurd cc
sink_kind kinds.Sink h = (refl, refl)

-- ---- the frames that a step takes of an input

pub front_all : (n : ℕ) (held sent : List Filled) → IsFront (λ (h : Filled). n ≤ h.frames) held → (front_taken n held ≡ n) × (n ≤ frames_in (held ++ sent))
front_all n [] sent F = absurd F
front_all n (h ∷ held) sent F = (
  either (nat_le h.frames n)
      (λ t. let v = leb-true h.frames n t in ap (λ (z : Bool). if z then h.frames else n) t ∙ omega arith)
      (λ t. ap (λ (z : Bool). if z then h.frames else n) t),
  let v : n ≤ h.frames = F in omega arith,
)

pub front_none : (n : ℕ) (held : List Filled) → n ≡ 0 → IsFront IsEnding held → front_taken n held ≡ n
front_none n [] z F = absurd F
front_none n (h ∷ held) z F = let v = F.0 in ap (λ (q : Bool). if q then h.frames else n) (le-leb h.frames n (omega arith)) ∙ omega arith

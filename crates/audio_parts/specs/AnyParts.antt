-- A part of any kind: its file, and whether it failed.
use Rattle.std.specs.Prelude.{◌≡◌, ℕ, ◌+◌, ◌*◌, ◌≤◌, Bool, true, false, Option, None, option_map}
use Rattle.omx_types.specs.declared.format.Format.{Format}
use Rattle.omx_types.specs.declared.kind.Kind.{Kind}
use Rattle.omx_types.specs.declared.kind.Kind.TheVariants as kinds
use Rattle.omx_types.specs.Formats.{frame_bytes_of}
use Rattle.part_forms.specs.Kinds.{is_source}
use Rattle.part_api.specs.declared.attached.Attached.{Attached}
use Rattle.part_api.specs.declared.attached.Attached.TheVariants.{From, To}
use Rattle.audio_parts.specs.Objects.{Held}
use Rattle.audio_parts.specs.declared.any_part.AnyPart.{AnyPart}
use Rattle.audio_parts.specs.declared.any_part.AnyPart.TheVariants.{Source, Sink}
use Rattle.audio_parts.specs.declared.source_file.SourceFile.{SourceFile}
use Rattle.audio_parts.specs.declared.sink_file.SinkFile.{SinkFile}
use Rattle.audio_parts.specs.declared.part_file.PartFile.{PartFile}
use Rattle.audio_parts.specs.declared.part_file.PartFile.TheVariants as files

abbrev pub has_failed : {S K : Type 0} {s : _} {k : _} → AnyPart S K s k → Bool
has_failed (Source part) = part.failed
has_failed (Sink part) = part.failed
has_failed _ = false

-- its file, with the frames for which it came
abbrev pub file_of : {S K : Type 0} {s : _} {k : _} → AnyPart S K s k → Option (PartFile S K)
file_of (Source part) = option_map (λ it. files.From it.source it.format it.attached) part.file
file_of (Sink part) = option_map (λ it. files.To it.sink it.planned) part.file
file_of _ = None

abbrev pub held_of : {S K : Type 0} {s : _} {k : _} → AnyPart S K s k → Held S K
held_of part = record { failed = has_failed part; file = file_of part }

abbrev pub attached_of : {S K : Type 0} → PartFile S K → Attached
attached_of (files.From src format frames) = From format frames
attached_of (files.To snk frames) = To frames

-- a source reads a file, whose frames need no more bytes than there are; a sink writes one
abbrev pub MayAttach : {S K : Type 0} → (S → ℕ) → (S → ℕ) → Kind → PartFile S K → Type 0
MayAttach offset size kind (files.From src format frames) = (is_source kind ≡ true) × (offset src + frames * frame_bytes_of format ≤ size src)
MayAttach offset size kind (files.To snk frames) = kind ≡ kinds.Sink

-- of a file that is read
abbrev pub OnFrom : {S K : Type 0} → PartFile S K → (S → Format → ℕ → Type 0) → Type 0
OnFrom (files.From src format frames) P = P src format frames
OnFrom (files.To snk frames) P = Unit {0}

-- of a file that is written
abbrev pub OnTo : {S K : Type 0} → PartFile S K → (K → ℕ → Type 0) → Type 0
OnTo (files.From src format frames) P = Unit {0}
OnTo (files.To snk frames) P = P snk frames

-- the file that it reads
abbrev pub read_of : {S K : Type 0} {s : _} {k : _} → AnyPart S K s k → Option (SourceFile S)
read_of (Source part) = part.file
read_of _ = None

-- the file that it writes
abbrev pub written_of : {S K : Type 0} {s : _} {k : _} → AnyPart S K s k → Option (SinkFile K)
written_of (Sink part) = part.file
written_of _ = None

-- the sink that it writes to
abbrev pub sink_of : {S K : Type 0} {s : _} {k : _} → AnyPart S K s k → Option K
sink_of part = option_map (λ it. it.sink) (written_of part)

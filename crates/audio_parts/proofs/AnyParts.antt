-- Causes of a part of any kind.
use Rattle.std.proofs.Common.{ℕ, ◌⊎◌, inl, inr}
use Rattle.std.specs.Prelude.{Option, None, Some, IfNone}
use Rattle.omx_types.specs.declared.fault.PartFault.{PartFault}
use Rattle.audio_parts.specs.declared.any_part.AnyPart.{AnyPart}
use Rattle.audio_parts.specs.declared.any_part.AnyPart.TheVariants.{Source, Decoder, Encoder, Gain, Mixer, Splitter, Sink}
use Rattle.audio_parts.specs.declared.source_file.SourceFile.{SourceFile}
use Rattle.audio_parts.specs.declared.sink_file.SinkFile.{SinkFile}
use Rattle.audio_parts.specs.declared.wav_source.WavSource.{WavSource}
use Rattle.audio_parts.specs.declared.wav_sink.WavSink.{WavSink}
use Rattle.audio_parts.specs.AnyParts.{read_of, written_of}
use Rattle.audio_parts.specs.Causes.{ReadCause, WriteCause}

pub on_none_then : {A : Type 0} {P Q : Type 0} (o : Option A) → (P → Q) → IfNone o P → IfNone o Q
on_none_then None f p = f p
on_none_then (Some x) f p = tt

no_read : {F : Type 0} (size : F → ℕ) (ends : F → Option ℕ) (next faults : F → ℕ) (before : Option F) (fault : PartFault) → ReadCause size ends next faults before None fault → ⊥
no_read size ends next faults None fault c = c
no_read size ends next faults (Some file) fault c = c

no_write : {F : Type 0} (faults : F → ℕ) (before : Option F) (fault : PartFault) → WriteCause faults before None fault → ⊥
no_write faults None fault c = c
no_write faults (Some file) fault c = c

only_left : {A B C : Type 0} → (A → C) → (B → ⊥) → A ⊎ B → C ⊎ B
only_left f g (inl a) = inl (f a)
only_left f g (inr b) = absurd (g b)

only_right : {A B C : Type 0} → (A → ⊥) → (B → C) → A ⊎ B → A ⊎ C
only_right f g (inl a) = absurd (f a)
only_right f g (inr b) = inr (g b)

-- what was a cause in the source was one in the part
pub source_causes : {S K : Type 0} {s : _} {k : _} (size : SourceFile S → ℕ) (ends : SourceFile S → Option ℕ) (next faults : SourceFile S → ℕ) (writes : SinkFile K → ℕ)
    (old new : Option (SourceFile S)) → ((after : WavSource S s) (fault : PartFault) → ReadCause size ends next faults new after.file fault → ReadCause size ends next faults old after.file fault)
    → (after : AnyPart S K s k) (fault : PartFault)
    → ReadCause size ends next faults new (read_of after) fault ⊎ WriteCause {F = SinkFile K} writes None (written_of after) fault
    → ReadCause size ends next faults old (read_of after) fault ⊎ WriteCause {F = SinkFile K} writes None (written_of after) fault
source_causes size ends next faults writes old new h (Source after) fault c = only_left (h after fault) (λ c. c) c
source_causes size ends next faults writes old new h (Decoder after) fault c = only_left (λ c. absurd (no_read size ends next faults new fault c)) (λ c. c) c
source_causes size ends next faults writes old new h (Encoder after) fault c = only_left (λ c. absurd (no_read size ends next faults new fault c)) (λ c. c) c
source_causes size ends next faults writes old new h (Gain after) fault c = only_left (λ c. absurd (no_read size ends next faults new fault c)) (λ c. c) c
source_causes size ends next faults writes old new h (Mixer after) fault c = only_left (λ c. absurd (no_read size ends next faults new fault c)) (λ c. c) c
source_causes size ends next faults writes old new h (Splitter after) fault c = only_left (λ c. absurd (no_read size ends next faults new fault c)) (λ c. c) c
source_causes size ends next faults writes old new h (Sink after) fault c = only_left (λ c. absurd (no_read size ends next faults new fault c)) (λ c. c) c

pub sink_causes : {S K : Type 0} {s : _} {k : _} (size : SourceFile S → ℕ) (ends : SourceFile S → Option ℕ) (next faults : SourceFile S → ℕ) (writes : SinkFile K → ℕ)
    (old new : Option (SinkFile K)) → ((after : WavSink K k) (fault : PartFault) → WriteCause writes new after.file fault → WriteCause writes old after.file fault)
    → (after : AnyPart S K s k) (fault : PartFault)
    → ReadCause {F = SourceFile S} size ends next faults None (read_of after) fault ⊎ WriteCause writes new (written_of after) fault
    → ReadCause {F = SourceFile S} size ends next faults None (read_of after) fault ⊎ WriteCause writes old (written_of after) fault
sink_causes size ends next faults writes old new h (Sink after) fault c = only_right (λ c. c) (h after fault) c
sink_causes size ends next faults writes old new h (Source after) fault c = only_right (λ c. c) (λ c. absurd (no_write writes new fault c)) c
sink_causes size ends next faults writes old new h (Decoder after) fault c = only_right (λ c. c) (λ c. absurd (no_write writes new fault c)) c
sink_causes size ends next faults writes old new h (Encoder after) fault c = only_right (λ c. c) (λ c. absurd (no_write writes new fault c)) c
sink_causes size ends next faults writes old new h (Gain after) fault c = only_right (λ c. c) (λ c. absurd (no_write writes new fault c)) c
sink_causes size ends next faults writes old new h (Mixer after) fault c = only_right (λ c. c) (λ c. absurd (no_write writes new fault c)) c
sink_causes size ends next faults writes old new h (Splitter after) fault c = only_right (λ c. c) (λ c. absurd (no_write writes new fault c)) c

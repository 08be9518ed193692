-- No step fails without a file.
use Rattle.std.proofs.Common.{◌≡◌, ◌⊎◌, inl, inr, ℕ, Option, Some, None, refl}
use Rattle.std.specs.Prelude.{IfSome}
use Rattle.omx_types.specs.declared.fault.PartFault.{PartFault}
use Rattle.audio_parts.specs.Causes.{ReadCause, WriteCause}
use Rattle.audio_parts.specs.declared.source_file.SourceFile.{SourceFile}
use Rattle.audio_parts.specs.declared.sink_file.SinkFile.{SinkFile}
use Rattle.il_graph.specs.NoFiles.{NoFile}

no_read : (size : SourceFile NoFile → ℕ) (ends : SourceFile NoFile → Option ℕ) (next faults : SourceFile NoFile → ℕ) (old new : Option (SourceFile NoFile)) (fault : PartFault) → ReadCause size ends next faults old new fault → ⊥
no_read size ends next faults None new fault h = h
no_read size ends next faults (Some file) new fault h = absurd (elim file.source.of [ ])

no_write : (faults : SinkFile NoFile → ℕ) (old new : Option (SinkFile NoFile)) (fault : PartFault) → WriteCause faults old new fault → ⊥
no_write faults None new fault h = h
no_write faults (Some file) new fault h = absurd (elim file.sink.of [ ])

pub no_fault : (size : SourceFile NoFile → ℕ) (ends : SourceFile NoFile → Option ℕ) (next reads : SourceFile NoFile → ℕ) (writes : SinkFile NoFile → ℕ) (source read : Option (SourceFile NoFile)) (sink written : Option (SinkFile NoFile)) (fault : Option PartFault)
    → IfSome fault (λ f. ReadCause size ends next reads source read f ⊎ WriteCause writes sink written f) → fault ≡ None
no_fault size ends next reads writes source read sink written None h = refl
no_fault size ends next reads writes source read sink written (Some f) h = absurd (elim h [ inl a ↦ no_read size ends next reads source read f a | inr b ↦ no_write writes sink written f b ])

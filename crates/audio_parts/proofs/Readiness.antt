-- When steps may begin.
use Rattle.std.proofs.Common.{◌≡◌, ◌*◌, ◌≤◌, Bool, subst}
use Rattle.std.specs.Prelude.{Option, Some}
use Rattle.omx_types.specs.declared.format.Format.{Format}
use Rattle.omx_types.specs.Formats.{frame_bytes_of}
use Rattle.audio_parts.specs.declared.source_file.SourceFile.{SourceFile}
use Rattle.audio_parts.specs.declared.sink_file.SinkFile.{SinkFile}
use Rattle.audio_parts.specs.FileParts.{source_terms, sink_terms}
use Rattle.audio_parts.specs.Ready.{FitsFile, IsReady}

-- the file of a source that is ready has its port's format
pub source_agrees : {S : Type 0} (late : Bool) (port : Format) (file : Option (SourceFile S)) (failed : Bool) → IsReady (source_terms late port file) failed
    → (it : SourceFile S) → file ≡ Some it → it.format ≡ port
source_agrees {S} late port file failed ready it e =
    (subst (λ (o : Option (SourceFile S)). FitsFile (source_terms late port file) (source_terms late port o).file) e ready.file).0

-- the planned frames of a sink that is ready have few bytes
pub sink_agrees : {K : Type 0} (port : Format) (file : Option (SinkFile K)) (failed : Bool) → IsReady (sink_terms port file) failed
    → (it : SinkFile K) → file ≡ Some it → it.planned * frame_bytes_of port ≤ 134217728
sink_agrees {K} port file failed ready it e =
    (subst (λ (o : Option (SinkFile K)). FitsFile (sink_terms port file) (sink_terms port o).file) e ready.file).0

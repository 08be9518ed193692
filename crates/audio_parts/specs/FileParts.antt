-- What the owner of a part with a file set, and how far the writing of the file has come.
use Rattle.std.specs.Prelude.{ℕ, Bool, true, false, List, [], ◌∷◌, Option, option_map}
use Rattle.omx_types.specs.declared.format.Format.{Format}
use Rattle.omx_types.specs.declared.kind.Kind.{Kind}
use Rattle.omx_types.specs.declared.kind.Kind.TheVariants.{Source, Late, Sink}
use Rattle.part_api.specs.declared.attached.Attached.TheVariants.{From, To}
use Rattle.part_api.specs.Terms.{Terms, Writing}
use Rattle.audio_parts.specs.declared.source_file.SourceFile.{SourceFile}
use Rattle.audio_parts.specs.declared.sink_file.SinkFile.{SinkFile}

-- a source, or one that tells its file's format while it runs
abbrev pub source_kind : Bool → Kind
source_kind true = Late
source_kind false = Source

abbrev pub source_terms : {S : Type 0} → Bool → Format → Option (SourceFile S) → Terms
source_terms late format file = record {
  kind = source_kind late;
  inputs = [];
  outputs = format ∷ [];
  factors = [];
  file = option_map (λ it. From it.format it.attached) file;
}

abbrev pub sink_terms : {K : Type 0} → Format → Option (SinkFile K) → Terms
sink_terms format file = record {
  kind = Sink;
  inputs = format ∷ [];
  outputs = [];
  factors = [];
  file = option_map (λ it. To it.planned) file;
}

-- by the name of a sink, the format of the part's input, and the step
abbrev pub writing_of : {K : Type 0} → (K → List ℕ) → Format → ℕ → Bool → Option (SinkFile K) → Option Writing
writing_of name format frames due file =
    option_map (λ it. record {
      name = name it.sink;
      format = format;
      planned = it.planned;
      headed = it.headed;
      left = it.left;
      frames = frames;
      due = due;
    }) file

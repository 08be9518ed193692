-- What is shown of a part of any kind, by what its file tells.
use Rattle.std.specs.Prelude.{ℕ, ◌*◌, Bool, List, [], ◌∷◌, Option, None, Some, option_map, vec_len}
use Rattle.omx_types.specs.declared.kind.Kind.TheVariants as kinds
use Rattle.omx_types.specs.Formats.{frame_bytes_of}
use Rattle.part_api.specs.Terms.{Terms, Writing}
use Rattle.part_forms.specs.Effects.{coder_kind}
use Rattle.part_forms.specs.Files.{rest_of, none_left}
use Rattle.audio_parts.specs.declared.any_part.AnyPart.{AnyPart}
use Rattle.audio_parts.specs.declared.any_part.AnyPart.TheVariants.{Source, Decoder, Encoder, Gain, Mixer, Splitter, Sink}
use Rattle.audio_parts.specs.declared.source_file.SourceFile.{SourceFile}
use Rattle.audio_parts.specs.declared.sink_file.SinkFile.{SinkFile}
use Rattle.audio_parts.specs.declared.part_file.PartFile.{PartFile}
use Rattle.audio_parts.specs.AnyParts.{file_of, has_failed}
use Rattle.audio_parts.specs.Objects.{Held}
use Rattle.audio_parts.specs.FileParts.{sink_terms, source_terms, writing_of}

pub record ShownPart (S K : Type 0) : Type 0 where
  -- what is set of it
  pub terms : Terms
  pub failed : Bool
  -- the frames that a source's file still gives, and their bytes, where it tells them
  pub left : Option ℕ
  pub rest : Option (List ℕ)
  -- what a sink's file has taken, where it tells that, and how far its writing has come
  pub kept : Option (List ℕ)
  pub writing : Option Writing
  pub file : Option (PartFile S K)

abbrev pub held_in : {S K : Type 0} → ShownPart S K → Held S K
held_in part = record { failed = part.failed; file = part.file }

-- ---- what is set

abbrev pub terms_by : {S K : Type 0} {s : _} {k : _} → AnyPart S K s k → Terms
terms_by (Source it) = source_terms it.late it.format it.file
terms_by (Decoder it) = record { kind = kinds.Decoder; inputs = it.effect.input ∷ []; outputs = it.effect.output ∷ []; factors = []; file = None }
terms_by (Encoder it) = record { kind = coder_kind it.effect.companding; inputs = it.effect.input ∷ []; outputs = it.effect.output ∷ []; factors = []; file = None }
terms_by (Gain it) = record { kind = kinds.Gain; inputs = it.effect.input ∷ []; outputs = it.effect.output ∷ []; factors = it.effect.gain ∷ []; file = None }
terms_by (Mixer it) = record { kind = kinds.Mixer (vec_len it.weights); inputs = it.inputs.items; outputs = it.output ∷ []; factors = it.weights.items; file = None }
terms_by (Splitter it) = record { kind = kinds.Splitter (vec_len it.effect.outputs); inputs = it.effect.input ∷ []; outputs = it.effect.outputs.items; factors = []; file = None }
terms_by (Sink it) = sink_terms it.format it.file

-- ---- its file

abbrev pub rest_in : {S : Type 0} → (S → Option (List ℕ)) → Option (SourceFile S) → Option (List ℕ)
rest_in told None = Some []
rest_in told (Some it) = rest_of (told it.source) it.next (it.left * frame_bytes_of it.format)

abbrev pub kept_in : {K : Type 0} → (K → Option (List ℕ)) → Option (SinkFile K) → Option (List ℕ)
kept_in kept None = None
kept_in kept (Some it) = kept it.sink

abbrev pub left_by : {S K : Type 0} {s : _} {k : _} → AnyPart S K s k → Option ℕ
left_by (Source it) = Some (none_left (option_map (λ file. file.left) it.file))
left_by _ = None

abbrev pub rest_by : {S K : Type 0} {s : _} {k : _} → (S → Option (List ℕ)) → AnyPart S K s k → Option (List ℕ)
rest_by told (Source it) = rest_in told it.file
rest_by told _ = None

abbrev pub kept_by : {S K : Type 0} {s : _} {k : _} → (K → Option (List ℕ)) → AnyPart S K s k → Option (List ℕ)
kept_by kept (Sink it) = kept_in kept it.file
kept_by kept _ = None

abbrev pub writing_by : {S K : Type 0} {s : _} {k : _} → (K → List ℕ) → AnyPart S K s k → Option Writing
writing_by name (Sink it) = writing_of name it.format it.frames it.due it.file
writing_by name _ = None

abbrev pub shown_by : {S K : Type 0} {s : _} {k : _} → (S → Option (List ℕ)) → (K → Option (List ℕ)) → (K → List ℕ) → AnyPart S K s k → ShownPart S K
shown_by told kept name part = record {
  terms = terms_by part;
  failed = has_failed part;
  left = left_by part;
  rest = rest_by told part;
  kept = kept_by kept part;
  writing = writing_by name part;
  file = file_of part;
}

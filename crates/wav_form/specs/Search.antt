-- A search from chunk to chunk, which knows the format that it has found. Only the proofs' steps cite it: what the
-- whole search answers is `answer_in`.
use Rattle.std.specs.Prelude.{◌≡◌, ℕ, ◌<◌, if◌then◌else◌, List, [], ◌∷◌, Option, Some, None, Result, Ok, Err, IfOk, bytes_eq, codes}
use Rattle.omx_types.specs.declared.format.Format.{Format}
use Rattle.omx_types.specs.declared.fault.WavFault.{WavFault}
use Rattle.omx_types.specs.declared.fault.WavFault.TheVariants.{NoFormat, NoSamples, Read, Short}
use Rattle.wav_form.specs.declared.heads.WavHead.{WavHead}
use Rattle.wav_form.specs.declared.chunks.ChunkHead.{ChunkHead}
use Rattle.wav_form.specs.Chunks.{Chunk}
use Rattle.wav_form.specs.Reading.{format_in, head_at}

-- a chunk that was read, without where it lies
abbrev pub view : ChunkHead → Chunk
view chunk = record { name = chunk.name; size = chunk.size; content = chunk.content }

abbrev pub some_of : Result Format WavFault → Result (Option Format) WavFault
some_of (Ok format) = Ok (Some format)
some_of (Err fault) = Err fault

-- the format that is known behind a chunk
abbrev pub format_after : List ℕ → Option Format → Chunk → Result (Option Format) WavFault
format_after bytes (Some format) chunk = Ok (Some format)
format_after bytes None chunk = if bytes_eq chunk.name (codes "fmt ") then some_of (format_in bytes chunk) else Ok None

abbrev pub at_samples : List ℕ → Option Format → Chunk → Result WavHead WavFault
at_samples bytes None chunk = Err NoFormat
at_samples bytes (Some format) chunk = Ok (head_at bytes format chunk)

abbrev pub at_end : Option Format → WavFault
at_end None = NoFormat
at_end (Some format) = NoSamples

-- a fault ends the search
abbrev pub and_then : Result (Option Format) WavFault → (Option Format → Result WavHead WavFault) → Result WavHead WavFault
and_then (Err fault) next = Err fault
and_then (Ok format) next = next format

-- what the chunks from here on answer
abbrev pub answer_after : List ℕ → Option Format → List Chunk → Result WavHead WavFault
answer_after bytes format [] = Err (at_end format)
answer_after bytes format (chunk ∷ chunks) =
    if bytes_eq chunk.name (codes "data") then at_samples bytes format chunk
    else and_then (format_after bytes format chunk) (λ known. answer_after bytes known chunks)

-- a result is this answer, or a stop; a file with samples is short only before them
abbrev pub AnswersAs : Result WavHead WavFault → Result WavHead WavFault → Type 0
AnswersAs (Err Read) answer = Unit {0}
AnswersAs (Err (Short at size)) answer = IfOk answer (λ head. at < head.start)
AnswersAs result answer = result ≡ answer

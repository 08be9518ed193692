-- What a WAV file says: a relation between all its bytes and the one answer.
use Rattle.std.specs.Prelude.{◌≡◌, ℕ, ◌+◌, ◌-◌, ◌*◌, ◌/◌, ◌<◌, ◌≤◌, min, Bool, false, ◌==◌, nat_lt, nat_le, ◌&&◌, ◌||◌, if◌then◌else◌, List, length, take, drop, Option, Some, None, Result, Ok, Err, codes}
use Rattle.byteorder.specs.Endian.{little_from}
use Rattle.omx_types.specs.declared.format.Format.{Format}
use Rattle.omx_types.specs.declared.format.Format.TheVariants.{Pcm, Alaw, Mulaw}
use Rattle.omx_types.specs.declared.fault.WavFault.{WavFault}
use Rattle.omx_types.specs.declared.fault.WavFault.TheVariants.{TooLarge, NotRiff, NoFormat, BadFormat, NoSamples, UnsupportedTag}
use Rattle.omx_types.specs.Formats.{frame_bytes_of, IsWithinLimits}
use Rattle.wav_form.specs.declared.heads.WavHead.{WavHead}
use Rattle.wav_form.specs.Chunks.{Chunk, AreChunks, first_named}

-- the longest file that is read
abbrev pub most_bytes : ℕ
most_bytes = 67108864

-- `RIFF`, four bytes that aren't used, `WAVE`
pub record IsRiff (bytes : List ℕ) : Type 0 where
  pub long : 12 ≤ length bytes
  pub riff : take 4 bytes ≡ codes "RIFF"
  pub wave : take 4 (drop 8 bytes) ≡ codes "WAVE"

-- 1 to 768,000 frames a second of 1 to 8 channels
abbrev pub within_limits : ℕ → ℕ → Bool
within_limits rate channels = nat_le 1 rate && nat_le rate 768000 && (nat_le 1 channels && nat_le channels 8)

-- the format, where rate and channels are within their limits and the bits are those that it has
abbrev pub format_or_bad : Format → ℕ → ℕ → ℕ → ℕ → Result Format WavFault
format_or_bad format rate channels bits wanted = if within_limits rate channels && (bits == wanted) then Ok format else Err BadFormat

-- by tag: 1 is PCM of signed 16 bits, 6 A-law, 7 mu-law
abbrev pub format_from : (tag channels rate bits : ℕ) → Result Format WavFault
format_from tag channels rate bits =
    if tag == 1 then format_or_bad (Pcm rate channels) rate channels bits 16
    else (if tag == 6 then format_or_bad (Alaw rate channels) rate channels bits 8
    else (if tag == 7 then format_or_bad (Mulaw rate channels) rate channels bits 8
    else Err (UnsupportedTag tag)))

-- what a format chunk says. Its bytes per second and block size, at 8 to 13 of its content, aren't used.
abbrev pub format_in : List ℕ → Chunk → Result Format WavFault
format_in bytes chunk =
    if nat_lt chunk.size 16 || nat_lt (length bytes) (chunk.content + chunk.size) then Err BadFormat
    else format_from (little_from chunk.content 2 bytes) (little_from (chunk.content + 2) 2 bytes) (little_from (chunk.content + 4) 4 bytes) (little_from (chunk.content + 14) 2 bytes)

-- the whole frames in the lesser of the chunk's length and the bytes that are left
abbrev pub head_at : List ℕ → Format → Chunk → WavHead
head_at bytes format chunk = record {
  format = format;
  start = chunk.content;
  frames = min chunk.size (length bytes - chunk.content) / frame_bytes_of format;
}

-- a bad format is its fault; then samples are wanted
abbrev pub with_samples : List ℕ → Result Format WavFault → Option Chunk → Result WavHead WavFault
with_samples bytes (Err fault) samples = Err fault
with_samples bytes (Ok format) None = Err NoSamples
with_samples bytes (Ok format) (Some chunk) = Ok (head_at bytes format chunk)

abbrev pub comes_before : Option Chunk → Chunk → Bool
comes_before None format = false
comes_before (Some samples) format = nat_lt samples.content format.content

-- the answer of a file whose first format chunk and first chunk of samples are these
abbrev pub answer_of : List ℕ → Option Chunk → Option Chunk → Result WavHead WavFault
answer_of bytes None samples = Err NoFormat
answer_of bytes (Some format) samples =
    if comes_before samples format then Err NoFormat else with_samples bytes (format_in bytes format) samples

abbrev pub answer_in : List ℕ → List Chunk → Result WavHead WavFault
answer_in bytes chunks = answer_of bytes (first_named (codes "fmt ") chunks) (first_named (codes "data") chunks)

-- the bytes of a file read as this answer
pub record Reads (bytes : List ℕ) (answer : Result WavHead WavFault) : Type 0 where
  pub too_large : most_bytes < length bytes → answer ≡ Err (TooLarge (length bytes))
  pub not_riff : length bytes ≤ most_bytes → ¬ (IsRiff bytes) → answer ≡ Err NotRiff
  pub in_chunks : length bytes ≤ most_bytes → IsRiff bytes → (chunks : List Chunk) → AreChunks bytes 12 chunks → answer ≡ answer_in bytes chunks

-- what is known of each head that is answered, whatever the source tells
pub record FitsFile (head : WavHead) (size : ℕ) : Type 0 where
  pub format : IsWithinLimits head.format
  pub bytes : head.frames * frame_bytes_of head.format ≤ most_bytes
  pub within : head.start + head.frames * frame_bytes_of head.format ≤ size

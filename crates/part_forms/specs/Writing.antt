-- The one text that is written of a format and its samples. Numbers are little-endian.
use Rattle.std.specs.Prelude.{ℕ, ◌+◌, ◌-◌, ◌*◌, ◌/◌, ◌%◌, ◌==◌, if◌then◌else◌, List, [], ◌∷◌, ◌++◌, length, codes}
use Rattle.byteorder.specs.Endian.{little_bytes}
use Rattle.omx_types.specs.declared.format.Format.{Format}
use Rattle.omx_types.specs.declared.format.Format.TheVariants.{Pcm, Alaw, Mulaw, Auto}
use Rattle.omx_types.specs.Formats.{rate_of, channels_of, frame_bytes_of, is_pcm}

abbrev pub tag_of : Format → ℕ
tag_of (Pcm rate channels) = 1
tag_of (Alaw rate channels) = 6
tag_of (Mulaw rate channels) = 7
-- no file has a format that isn't known
tag_of Auto = 0

abbrev pub bits_of : Format → ℕ
bits_of format = if is_pcm format then 16 else 8

abbrev pub head_len : Format → ℕ
head_len format = if is_pcm format then 44 else 58

-- the fields of a format chunk: tag, channels, rate, bytes per second, block size, bits
abbrev pub fields_of : Format → List ℕ
fields_of format =
    little_bytes 2 (tag_of format) ++ little_bytes 2 (channels_of format) ++ little_bytes 4 (rate_of format)
    ++ little_bytes 4 (rate_of format * frame_bytes_of format) ++ little_bytes 2 (frame_bytes_of format) ++ little_bytes 2 (bits_of format)

-- a format chunk: of 16 bytes for PCM, else of 18, the last two zero
abbrev pub format_chunk : Format → List ℕ
format_chunk format =
    if is_pcm format then codes "fmt " ++ little_bytes 4 16 ++ fields_of format
    else codes "fmt " ++ little_bytes 4 18 ++ fields_of format ++ little_bytes 2 0

-- for A-law and mu-law, the number of frames
abbrev pub fact_chunk : Format → ℕ → List ℕ
fact_chunk format frames = if is_pcm format then [] else codes "fact" ++ little_bytes 4 4 ++ little_bytes 4 frames

-- the head, whose first length is that of the file less 8: it counts the zero byte behind odd samples, and the `data` length doesn't
abbrev pub head_of : Format → ℕ → List ℕ
head_of format frames =
    let size = frames * frame_bytes_of format in
    codes "RIFF" ++ little_bytes 4 (head_len format + size + size % 2 - 8) ++ codes "WAVE" ++ format_chunk format ++ fact_chunk format frames
    ++ codes "data" ++ little_bytes 4 size

-- a zero byte behind odd samples
abbrev pub pad_of : ℕ → List ℕ
pad_of size = if size % 2 == 1 then 0 ∷ [] else []

-- the file of these samples, which are whole frames
abbrev pub written : Format → List ℕ → List ℕ
written format samples = head_of format (length samples / frame_bytes_of format) ++ samples ++ pad_of (length samples)

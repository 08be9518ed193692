-- A written head is read back.
use Rattle.std.proofs.Common.{◌≡◌, ℕ, ◌+◌, ◌-◌, ◌*◌, ◌/◌, ◌<◌, ◌≤◌, min, true, List, [], ◌++◌, length, take, drop, Some, None, Ok, refl, sym, ap, ◌∙◌, arith, codes, length-append}
use Rattle.std.proofs.lemmas.Bool.{le-ltb, le-leb}
use Rattle.std.proofs.Math.Nat.{mul-div_cancel}
use Rattle.byteorder.specs.Endian.{little_from}
use Rattle.byteorder.specs.Numbers.{little_number-reads_back}
use Rattle.omx_types.specs.declared.format.Format.{Format}
use Rattle.omx_types.specs.declared.format.Format.TheVariants.{Pcm, Alaw, Mulaw, Auto}
use Rattle.omx_types.specs.Formats.{rate_of, channels_of, frame_bytes_of, IsWithinLimits}
use Rattle.wav_form.specs.Chunks.{Chunk, chunk_at, AreChunks}
use Rattle.wav_form.specs.Reading.{within_limits, format_from, format_in, head_at, Reads, most_bytes}
use Rattle.wav_form.specs.Search.{answer_after, format_after, some_of}
use Rattle.part_forms.specs.Writing.{tag_of, bits_of, head_len, head_of}
use Rattle.wav_form.proofs.Read.{Reads-searched}
use Rattle.wav_form.proofs.ChunkSearch.{answer_after-goes_on, answer_after-samples}

within_limits-true : (rate channels : ℕ) → 1 ≤ rate → rate ≤ 768000 → 1 ≤ channels → channels ≤ 8 → within_limits rate channels ≡ true
within_limits-true rate channels a b c d = rw (le-leb _ _ a, le-leb _ _ b, le-leb _ _ c, le-leb _ _ d) refl

format_from-again : (format : Format) → IsWithinLimits format → format_from (tag_of format) (channels_of format) (rate_of format) (bits_of format) ≡ Ok format
format_from-again (Pcm rate channels) lawful = rw (within_limits-true rate channels lawful.some_rate lawful.rate lawful.some_channel lawful.channels) refl
format_from-again (Alaw rate channels) lawful = rw (within_limits-true rate channels lawful.some_rate lawful.rate lawful.some_channel lawful.channels) refl
format_from-again (Mulaw rate channels) lawful = rw (within_limits-true rate channels lawful.some_rate lawful.rate lawful.some_channel lawful.channels) refl
format_from-again Auto lawful = absurd (let some = lawful.some_rate in omega arith)

-- the fields of a format chunk stand at an offset
record HasFields (bytes : List ℕ) (offset : ℕ) (format : Format) : Type 0 where
  tag : little_from offset 2 bytes ≡ tag_of format
  channels : little_from (offset + 2) 2 bytes ≡ channels_of format
  rate : little_from (offset + 4) 4 bytes ≡ rate_of format
  bits : little_from (offset + 14) 2 bytes ≡ bits_of format

format_in-again : (bytes : List ℕ) (chunk : Chunk) (format : Format) → IsWithinLimits format → 16 ≤ chunk.size → chunk.content + chunk.size ≤ length bytes → HasFields bytes chunk.content format → format_in bytes chunk ≡ Ok format
format_in-again bytes chunk format lawful long within has =
    let tag = has.tag in
    let channels = has.channels in
    let rate = has.rate in
    let bits = has.bits in
    rw (le-ltb _ _ long, le-ltb _ _ within, tag, channels, rate, bits) (format_from-again format lawful)

some_frame : (format : Format) → IsWithinLimits format → 0 < frame_bytes_of format
some_frame (Pcm rate channels) lawful = (let some = lawful.some_channel in omega arith)
some_frame (Alaw rate channels) lawful = lawful.some_channel
some_frame (Mulaw rate channels) lawful = lawful.some_channel
some_frame Auto lawful = omega arith

head_at-again : (bytes name : List ℕ) (format : Format) (frames content : ℕ) → IsWithinLimits format → content + frames * frame_bytes_of format ≤ length bytes → head_at bytes format (record { name = name; size = frames * frame_bytes_of format; content = content }) ≡ record { format = format; start = content; frames = frames }
head_at-again bytes name format frames content lawful within =
    let all : min (frames * frame_bytes_of format) (length bytes - content) ≡ frames * frame_bytes_of format = omega arith in
    let whole : frames * frame_bytes_of format / frame_bytes_of format ≡ frames = mul-div_cancel frames (some_frame format lawful) in
    rw (all, whole) refl

-- the format chunk at 12 has 16 bytes, and the samples' chunk follows it
pcm_again : (bytes : List ℕ) (format : Format) (frames : ℕ) → IsWithinLimits format → 44 + frames * frame_bytes_of format ≤ length bytes → take 4 (drop 12 bytes) ≡ codes "fmt " → little_from 16 4 bytes ≡ 16 → HasFields bytes 20 format → take 4 (drop 36 bytes) ≡ codes "data" → little_from 40 4 bytes ≡ frames * frame_bytes_of format → (chunks : List Chunk) → AreChunks bytes 12 chunks → answer_after bytes None chunks ≡ Ok (record { format = format; start = 44; frames = frames })
pcm_again bytes format frames lawful within format_name format_size fields samples_name samples_size chunks are =
    let first : Chunk = record { name = codes "fmt "; size = 16; content = 20 } in
    let first_at : first ≡ chunk_at bytes 12 = rw (format_name, format_size) refl in
    let known : Ok (Some format) ≡ format_after bytes None first = sym (ap some_of (format_in-again bytes first format lawful (omega arith) (omega arith) fields)) in
    let step = answer_after-goes_on bytes None (Some format) 12 first chunks are (omega arith) first_at refl known in
    let last : Chunk = record { name = codes "data"; size = frames * frame_bytes_of format; content = 44 } in
    let last_at : last ≡ chunk_at bytes 36 = rw (samples_name, samples_size) refl in
    let found = answer_after-samples bytes (Some format) 36 last step.0 step.1 (omega arith) last_at refl in
    step.2 ∙ found ∙ ap Ok (head_at-again bytes (codes "data") format frames 44 lawful within)

-- the format chunk at 12 has 18 bytes, and a fact chunk stands before the samples' chunk
law_again : (bytes : List ℕ) (format : Format) (frames : ℕ) → IsWithinLimits format → 58 + frames * frame_bytes_of format ≤ length bytes → take 4 (drop 12 bytes) ≡ codes "fmt " → little_from 16 4 bytes ≡ 18 → HasFields bytes 20 format → take 4 (drop 38 bytes) ≡ codes "fact" → little_from 42 4 bytes ≡ 4 → take 4 (drop 50 bytes) ≡ codes "data" → little_from 54 4 bytes ≡ frames * frame_bytes_of format → (chunks : List Chunk) → AreChunks bytes 12 chunks → answer_after bytes None chunks ≡ Ok (record { format = format; start = 58; frames = frames })
law_again bytes format frames lawful within format_name format_size fields fact_name fact_size samples_name samples_size chunks are =
    let first : Chunk = record { name = codes "fmt "; size = 18; content = 20 } in
    let first_at : first ≡ chunk_at bytes 12 = rw (format_name, format_size) refl in
    let known : Ok (Some format) ≡ format_after bytes None first = sym (ap some_of (format_in-again bytes first format lawful (omega arith) (omega arith) fields)) in
    let step = answer_after-goes_on bytes None (Some format) 12 first chunks are (omega arith) first_at refl known in
    let fact : Chunk = record { name = codes "fact"; size = 4; content = 46 } in
    let fact_at : fact ≡ chunk_at bytes 38 = rw (fact_name, fact_size) refl in
    let next = answer_after-goes_on bytes (Some format) (Some format) 38 fact step.0 step.1 (omega arith) fact_at refl refl in
    let last : Chunk = record { name = codes "data"; size = frames * frame_bytes_of format; content = 58 } in
    let last_at : last ≡ chunk_at bytes 50 = rw (samples_name, samples_size) refl in
    let found = answer_after-samples bytes (Some format) 50 last next.0 next.1 (omega arith) last_at refl in
    step.2 ∙ next.2 ∙ found ∙ ap Ok (head_at-again bytes (codes "data") format frames 58 lawful within)

Reads-pcm : (rate channels frames : ℕ) (samples rest : List ℕ) → IsWithinLimits (Pcm rate channels) → length samples ≡ frames * (2 * channels) → 44 + length samples + length rest ≤ most_bytes → Reads (head_of (Pcm rate channels) frames ++ samples ++ rest) (Ok (record { format = Pcm rate channels; start = 44; frames = frames }))
Reads-pcm rate channels frames samples rest lawful long small =
    let bytes = head_of (Pcm rate channels) frames ++ samples ++ rest in
    let whole : length bytes ≡ 44 + (length samples + length rest) = omega (arith, length-append samples rest) in
    let fields : HasFields bytes 20 (Pcm rate channels) = record {
      tag = refl;
      channels = little_number-reads_back 2 channels [] (let most = lawful.channels in omega arith);
      rate = little_number-reads_back 4 rate [] (let most = lawful.rate in omega arith);
      bits = refl;
    } in
    Reads-searched bytes _ (omega (arith, whole)) (record { long = omega (arith, whole); riff = refl; wave = refl })
    (λ chunks are. sym (pcm_again bytes (Pcm rate channels) frames lawful (omega (arith, whole)) refl refl fields refl
    (little_number-reads_back 4 (frames * (2 * channels)) [] (omega arith)) chunks are))

Reads-alaw : (rate channels frames : ℕ) (samples rest : List ℕ) → IsWithinLimits (Alaw rate channels) → length samples ≡ frames * channels → 58 + length samples + length rest ≤ most_bytes → Reads (head_of (Alaw rate channels) frames ++ samples ++ rest) (Ok (record { format = Alaw rate channels; start = 58; frames = frames }))
Reads-alaw rate channels frames samples rest lawful long small =
    let bytes = head_of (Alaw rate channels) frames ++ samples ++ rest in
    let whole : length bytes ≡ 58 + (length samples + length rest) = omega (arith, length-append samples rest) in
    let fields : HasFields bytes 20 (Alaw rate channels) = record {
      tag = refl;
      channels = little_number-reads_back 2 channels [] (let most = lawful.channels in omega arith);
      rate = little_number-reads_back 4 rate [] (let most = lawful.rate in omega arith);
      bits = refl;
    } in
    Reads-searched bytes _ (omega (arith, whole)) (record { long = omega (arith, whole); riff = refl; wave = refl })
    (λ chunks are. sym (law_again bytes (Alaw rate channels) frames lawful (omega (arith, whole)) refl refl fields refl refl refl
    (little_number-reads_back 4 (frames * channels) [] (omega arith)) chunks are))

Reads-mulaw : (rate channels frames : ℕ) (samples rest : List ℕ) → IsWithinLimits (Mulaw rate channels) → length samples ≡ frames * channels → 58 + length samples + length rest ≤ most_bytes → Reads (head_of (Mulaw rate channels) frames ++ samples ++ rest) (Ok (record { format = Mulaw rate channels; start = 58; frames = frames }))
Reads-mulaw rate channels frames samples rest lawful long small =
    let bytes = head_of (Mulaw rate channels) frames ++ samples ++ rest in
    let whole : length bytes ≡ 58 + (length samples + length rest) = omega (arith, length-append samples rest) in
    let fields : HasFields bytes 20 (Mulaw rate channels) = record {
      tag = refl;
      channels = little_number-reads_back 2 channels [] (let most = lawful.channels in omega arith);
      rate = little_number-reads_back 4 rate [] (let most = lawful.rate in omega arith);
      bits = refl;
    } in
    Reads-searched bytes _ (omega (arith, whole)) (record { long = omega (arith, whole); riff = refl; wave = refl })
    (λ chunks are. sym (law_again bytes (Mulaw rate channels) frames lawful (omega (arith, whole)) refl refl fields refl refl refl
    (little_number-reads_back 4 (frames * channels) [] (omega arith)) chunks are))

pub Reads-again : (format : Format) (frames : ℕ) (samples rest : List ℕ) → IsWithinLimits format → length samples ≡ frames * frame_bytes_of format → head_len format + length samples + length rest ≤ most_bytes → Reads (head_of format frames ++ samples ++ rest) (Ok (record { format = format; start = head_len format; frames = frames }))
Reads-again (Pcm rate channels) frames samples rest lawful long small = Reads-pcm rate channels frames samples rest lawful long small
Reads-again (Alaw rate channels) frames samples rest lawful long small = Reads-alaw rate channels frames samples rest lawful long small
Reads-again (Mulaw rate channels) frames samples rest lawful long small = Reads-mulaw rate channels frames samples rest lawful long small
Reads-again Auto frames samples rest lawful long small = absurd (let some = lawful.some_rate in omega arith)

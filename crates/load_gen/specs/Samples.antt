-- The samples that a number gives, and the WAV files of them.
use Rattle.std.specs.Prelude.{ℕ, zero, suc, ◌+◌, ◌*◌, ◌/◌, ◌%◌, ◌^◌, List, [], ◌++◌}
use Rattle.byteorder.specs.Endian.{little_bytes}
use Rattle.omx_types.specs.declared.format.Format.{Format}
use Rattle.omx_types.specs.declared.format.Format.TheVariants.{Pcm}
use Rattle.part_forms.specs.Writing.{written}

-- the number after a number
abbrev pub next : ℕ → ℕ
next x = (x * 6364136223846793005 + 1442695040888963407) % 2 ^ 64

-- the number that so many samples lead to
abbrev pub after : ℕ → ℕ → ℕ
after zero x = x
after (suc frames) x = after frames (next x)

-- so many samples of 16 bits: each moves the number on, and has the bits of its highest 16
abbrev pub samples : ℕ → ℕ → List ℕ
samples zero x = []
samples (suc frames) x = little_bytes 2 (next x / 2 ^ 48) ++ samples frames (next x)

-- PCM of one channel and 8,000 frames a second
abbrev pub format : Format
format = Pcm 8000 1

-- the WAV file that begins with this number
unfoldable pub wav_from : (x frames : ℕ) → List ℕ
wav_from x frames = written format (samples frames x)

-- the file of number 0 or 1
abbrev pub wav : (seed file frames : ℕ) → List ℕ
wav seed file frames = wav_from ((seed + file) % 2 ^ 64) frames

-- Why unpacking ended.
use Rattle.std.specs.Prelude.{◌≡◌, ℕ, ◌<◌, Option}
use Rattle.omx_types.specs.declared.fault.WavFault.TheVariants.{TooLarge}
use Rattle.outside_io.specs.Causes.{Rose}
use Rattle.outside_io.specs.Stops.{GaveNothing}
use Rattle.wav_form.specs.Reading.{most_bytes}
use Rattle.rtp_parts.specs.declared.fault.RtpFault.{RtpFault}
use Rattle.rtp_parts.specs.declared.fault.RtpFault.TheVariants.{Head, Read, Write, Short, WrongFormat, NotPackets, NoPackets, TooLong, OutOfMemory}

-- The source is too large, its count of faults rose, the sink's rose and its own didn't, or neither rose and it gave nothing at this
-- place. The others come by its bytes, and then its count stands, or for want of memory; no format is wrong.
abbrev pub EndsUnpacking : (size : ℕ) → Option ℕ → (read_before read_now write_before write_now : ℕ) → RtpFault → Type 0
EndsUnpacking size ends read_before read_now write_before write_now (Head fault) = (most_bytes < size) × (fault ≡ TooLarge size) × (read_now ≡ read_before)
EndsUnpacking size ends read_before read_now write_before write_now Read = Rose read_before read_now
EndsUnpacking size ends read_before read_now write_before write_now Write = Rose write_before write_now × (read_now ≡ read_before)
EndsUnpacking size ends read_before read_now write_before write_now (Short at told_size) =
    GaveNothing size ends 0 at told_size × (read_now ≡ read_before) × (write_now ≡ write_before)
EndsUnpacking size ends read_before read_now write_before write_now WrongFormat = ⊥
EndsUnpacking size ends read_before read_now write_before write_now NotPackets = read_now ≡ read_before
EndsUnpacking size ends read_before read_now write_before write_now NoPackets = read_now ≡ read_before
EndsUnpacking size ends read_before read_now write_before write_now TooLong = read_now ≡ read_before
EndsUnpacking size ends read_before read_now write_before write_now OutOfMemory = Unit {0}

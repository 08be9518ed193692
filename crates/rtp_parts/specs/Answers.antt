-- What packing and unpacking answer, and why they fail.
use Rattle.std.specs.Prelude.{◌≡◌, ◌⊎◌, ◌<◌, ◌≤◌, ℕ, List, [], length, take, drop, Option, Some, None, Result, Ok, Err}
use Rattle.outside_io.specs.Moves.{WhereTold}
use Rattle.outside_io.specs.Stops.{GaveNothing}
use Rattle.wav_form.specs.declared.heads.WavHead.{WavHead}
use Rattle.wav_form.specs.Reading.{Reads}
use Rattle.wav_form.specs.Stops.{StoppedShort}
use Rattle.omx_types.specs.declared.fault.WavFault.{WavFault}
use Rattle.omx_types.specs.declared.fault.WavFault.TheVariants.{TooLarge, NotRiff, NoFormat, BadFormat, NoSamples, UnsupportedTag, Read as HeadRead, Short as HeadShort}
use Rattle.outside_io.specs.Causes.{Rose}
use Rattle.outside_io.specs.declared.moving.ReadStop.{ReadStop}
use Rattle.outside_io.specs.declared.moving.ReadStop.TheVariants.{Failed, Short as Stopped}
use Rattle.g711_law.specs.declared.companding.Companding.{Companding}
use Rattle.rtp_parts.specs.declared.fault.RtpFault.{RtpFault}
use Rattle.rtp_parts.specs.declared.fault.RtpFault.TheVariants.{Head, Read, Write, Short, WrongFormat, NotPackets, NoPackets, TooLong, OutOfMemory}
use Rattle.rtp_parts.specs.declared.packing.Packed.{Packed}
use Rattle.rtp_parts.specs.declared.unpacking.Unpacked.{Unpacked}
use Rattle.rtp_parts.specs.Packets.{companding_of_format}
use Rattle.rtp_parts.specs.Packing.{packed, packet_count}
use Rattle.rtp_parts.specs.Unpacking.{Unpacking, wav_of}

-- p of the place of a short stop
abbrev pub IfShort : RtpFault → (ℕ → ℕ → Type 0) → Type 0
IfShort (Short at size) p = p at size
IfShort _ p = Unit {0}

-- P of a result that is no stop by a medium or by want of memory
abbrev pub UnlessStopped : {A : Type 0} → Result A RtpFault → (Result A RtpFault → Type 0) → Type 0
UnlessStopped (Ok a) P = P (Ok a)
UnlessStopped (Err (Head fault)) P = P (Err (Head fault))
UnlessStopped (Err WrongFormat) P = P (Err WrongFormat)
UnlessStopped (Err NotPackets) P = P (Err NotPackets)
UnlessStopped (Err NoPackets) P = P (Err NoPackets)
UnlessStopped (Err TooLong) P = P (Err TooLong)
UnlessStopped (Err Read) P = Unit {0}
UnlessStopped (Err Write) P = Unit {0}
UnlessStopped (Err (Short at size)) P = Unit {0}
UnlessStopped (Err OutOfMemory) P = Unit {0}

-- the samples of a file of this head, whose frames have one byte
abbrev pub samples_of : List ℕ → WavHead → List ℕ
samples_of bytes head = take head.frames (drop head.start bytes)

pub record Packing : Type 0 where
  pub companding : Companding
  pub samples : List ℕ

abbrev pub packing_under : List ℕ → WavHead → Option Companding → Result Packing RtpFault
packing_under bytes head None = Err WrongFormat
packing_under bytes head (Some companding) = Ok (record { companding = companding; samples = samples_of bytes head })

-- what is packed of a file whose head reads as this
abbrev pub packing_of : List ℕ → Result WavHead WavFault → Result Packing RtpFault
packing_of bytes (Err fault) = Err (Head fault)
packing_of bytes (Ok head) = packing_under bytes head (companding_of_format head.format)

abbrev pub counts_of : Result Packing RtpFault → Result Packed RtpFault
counts_of (Err fault) = Err fault
counts_of (Ok packing) = Ok (record { packets = packet_count (length packing.samples); frames = length packing.samples })

-- the file of packets; none where there is a fault
abbrev pub packets_file : Result Packing RtpFault → List ℕ
packets_file (Err fault) = []
packets_file (Ok packing) = packed packing.companding packing.samples

-- Where a source of this size gave nothing while its samples were packed: in its head, which ends where its samples begin; or, where their
-- format is one of RTP, from its samples on where it ends.
abbrev pub StoppedPacking : (size : ℕ) (told : Option (List ℕ)) (ends : Option ℕ) (at told_size : ℕ) → Type 0
StoppedPacking size told ends at told_size =
    (StoppedShort size told ends at told_size × WhereTold told (λ bytes. (head : WavHead) → Reads bytes (Ok head) → at < head.start))
    ⊎ ((head : WavHead) × (companding : Companding) × WhereTold told (λ bytes. Reads bytes (Ok head)) × (companding_of_format head.format ≡ Some companding) × (head.start ≤ at) × GaveNothing size ends 0 at told_size)

-- the fault of a head that was not read
abbrev pub fault_of_head : WavFault → RtpFault
fault_of_head HeadRead = Read
fault_of_head (HeadShort at size) = Short at size
fault_of_head (TooLarge size) = Head (TooLarge size)
fault_of_head NotRiff = Head NotRiff
fault_of_head NoFormat = Head NoFormat
fault_of_head BadFormat = Head BadFormat
fault_of_head NoSamples = Head NoSamples
fault_of_head (UnsupportedTag tag) = Head (UnsupportedTag tag)

abbrev pub fault_of_stop : ReadStop → RtpFault
fault_of_stop Failed = Read
fault_of_stop (Stopped at size) = Short at size

-- A move of bytes from `start` on ended by a fault of the source, by one of the sink before which the source had none, or where
-- the source gave nothing and neither had one.
abbrev pub IsStop : (size : ℕ) → Option ℕ → (start read_before read_now write_before write_now : ℕ) → RtpFault → Type 0
IsStop size ends start read_before read_now write_before write_now Read = Rose read_before read_now
IsStop size ends start read_before read_now write_before write_now Write = Rose write_before write_now × (read_now ≡ read_before)
IsStop size ends start read_before read_now write_before write_now (Short at told_size) =
    GaveNothing size ends start at told_size × (read_now ≡ read_before) × (write_now ≡ write_before)
IsStop size ends start read_before read_now write_before write_now _ = ⊥

-- what is told of what was unpacked
abbrev pub unpacked_counts : Result Unpacking RtpFault → Result Unpacked RtpFault
unpacked_counts (Err fault) = Err fault
unpacked_counts (Ok unpacking) = Ok (record {
  frames = length unpacking.codes;
  bytes = length (wav_of (Ok unpacking));
  packets = unpacking.packets;
  accepted = unpacking.accepted;
  late = unpacking.late;
  repeated = unpacking.repeated;
  skipped = unpacking.skipped;
})

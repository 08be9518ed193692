-- What packing and unpacking a file's bytes give.
use Rattle.std.specs.Prelude.{◌≡◌, ◌≢◌, ℕ, ◌<◌, List, take, Option, Result, Ok, Err}
use Rattle.outside_io.specs.Moves.{WhereTold}
use Rattle.outside_io.specs.Stops.{GaveNothing}
use Rattle.omx_types.specs.declared.fault.Fault.{Fault}
use Rattle.omx_types.specs.declared.fault.Fault.TheVariants as Faults
use Rattle.omx_types.specs.declared.fault.PacketsWhy.TheVariants as Whys
use Rattle.omx_types.specs.declared.fault.Which.TheVariants.{Input}
use Rattle.omx_types.specs.declared.fault.WavFault.{WavFault}
use Rattle.rtp_parts.specs.Answers.{packing_of, counts_of, packets_file, unpacked_counts}
use Rattle.rtp_parts.specs.Packing.{magic}
use Rattle.rtp_parts.specs.Unpacking.{unpacked, wav_of}
use Rattle.rtp_parts.specs.declared.fault.RtpFault.{RtpFault}
use Rattle.rtp_parts.specs.declared.fault.RtpFault.TheVariants as RtpFaults
use Rattle.rtp_parts.specs.declared.packing.Packed.{Packed}
use Rattle.rtp_parts.specs.declared.unpacking.Unpacked.{Unpacked}
use Rattle.wav_form.specs.Reading.{Reads}
use Rattle.wav_form.specs.declared.heads.WavHead.{WavHead}
use Rattle.omxrun.specs.Turned.{Written}
use Rattle.omxrun.specs.declared.done.Done.{Done}
use Rattle.omxrun.specs.declared.done.Done.TheVariants.{Packed as PackedFile, Unpacked as UnpackedFile}

-- what a fault of packing or unpacking is for the program
abbrev pub fault_of_rtp : RtpFault → Fault
fault_of_rtp (RtpFaults.Head fault) = Faults.BadMedia Input fault
fault_of_rtp RtpFaults.Read = Faults.ReadFault
fault_of_rtp RtpFaults.Write = Faults.WriteFault
fault_of_rtp (RtpFaults.Short at size) = Faults.Short Input at size
fault_of_rtp RtpFaults.WrongFormat = Faults.Packets Whys.WrongFormat
fault_of_rtp RtpFaults.NotPackets = Faults.Packets Whys.NotPackets
fault_of_rtp RtpFaults.NoPackets = Faults.Packets Whys.NoPackets
fault_of_rtp RtpFaults.TooLong = Faults.Packets Whys.TooLong
fault_of_rtp RtpFaults.OutOfMemory = Faults.OutOfMemory

abbrev pub packing_done : Result Packed RtpFault → Result Done Fault
packing_done (Ok counts) = Ok (PackedFile counts)
packing_done (Err fault) = Err (fault_of_rtp fault)

abbrev pub unpacking_done : Result Unpacked RtpFault → Result Done Fault
unpacking_done (Ok counts) = Ok (UnpackedFile counts)
unpacking_done (Err fault) = Err (fault_of_rtp fault)

-- a text, and what is told of it
abbrev pub with_text : List ℕ → Result Done Fault → Result Written Fault
with_text text (Ok done) = Ok (record { text = text; done = done })
with_text text (Err fault) = Err fault

abbrev pub PacksTo : List ℕ → Result Written Fault → Type 0
PacksTo bytes answer = (head : Result WavHead WavFault) × Reads bytes head
    × (answer ≡ with_text (packets_file (packing_of bytes head)) (packing_done (counts_of (packing_of bytes head))))

abbrev pub UnpacksTo : List ℕ → Result Written Fault → Type 0
UnpacksTo bytes answer = answer ≡ with_text (wav_of (unpacked bytes)) (unpacking_done (unpacked_counts (unpacked bytes)))

-- where the output's closing failed, that is told of what was done whole or came short
abbrev pub IsWholeOrShort : Result Done Fault → Type 0
IsWholeOrShort (Ok done) = Unit {0}
IsWholeOrShort (Err (Faults.Short which at size)) = Unit {0}
IsWholeOrShort (Err other) = ⊥

abbrev pub IsShortFile : Fault → Type 0
IsShortFile (Faults.Short which at size) = Unit {0}
IsShortFile other = ⊥

-- where a source gave nothing while its packets were read: in its first 8 bytes, where these are not the ones that each file of packets
-- begins with
abbrev pub StoppedUnpacking : (size : ℕ) (told : Option (List ℕ)) (ends : Option ℕ) (at told_size : ℕ) → Type 0
StoppedUnpacking size told ends at told_size = GaveNothing size ends 0 at told_size × WhereTold told (λ bytes. take 8 bytes ≢ magic → at < 8)

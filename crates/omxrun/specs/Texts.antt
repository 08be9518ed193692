-- The texts that the program prints.
use Rattle.std.specs.Prelude.{ℕ, List, [], ◌++◌, codes}
use Rattle.std.specs.Fmt.{decimal}
use Rattle.omx_types.specs.declared.fault.Fault.{Fault}
use Rattle.omx_types.specs.declared.fault.Fault.TheVariants as Faults
use Rattle.omx_types.specs.declared.fault.Which.{Which}
use Rattle.omx_types.specs.declared.fault.Which.TheVariants.{Script, Log, Line, Made, Input, Output}
use Rattle.omx_types.specs.declared.fault.WavFault.{WavFault}
use Rattle.omx_types.specs.declared.fault.WavFault.TheVariants as WavFaults
use Rattle.omx_types.specs.Texts.{audit_text, packets_text, why_text}
use Rattle.rtp_parts.specs.declared.packing.Packed.{Packed}
use Rattle.rtp_parts.specs.declared.unpacking.Unpacked.{Unpacked}

abbrev pub which_text : Which → List ℕ
which_text Script = codes "script"
which_text Log = codes "log"
which_text (Line line) = codes "line " ++ decimal line
which_text (Made number) = codes "made " ++ decimal number
which_text Input = codes "input"
which_text Output = codes "output"

-- what is wrong with a WAV file; a read fault and a short file have texts of their own
abbrev pub wav_text : WavFault → List ℕ
wav_text (WavFaults.TooLarge size) = codes "larger than 67108864 bytes"
wav_text WavFaults.NotRiff = codes "not a RIFF WAVE file"
wav_text WavFaults.NoFormat = codes "no format chunk"
wav_text WavFaults.BadFormat = codes "bad format chunk"
wav_text WavFaults.NoSamples = codes "no data chunk"
wav_text (WavFaults.UnsupportedTag tag) = codes "format tag " ++ decimal tag
wav_text WavFaults.Read = []
wav_text (WavFaults.Short at size) = []

-- the line of a fault, without its line feed
abbrev pub fault_text : Fault → List ℕ
fault_text (Faults.Script line why) = codes "script line " ++ (decimal line ++ (codes ": " ++ why_text why))
fault_text Faults.Usage = codes "usage: trace SCRIPT | play SCRIPT WORKERS LOG | make SEED FRAMES DIR | pack WAV PACKETS | unpack PACKETS WAV | clock SCRIPT | audit SCRIPT LOG"
fault_text (Faults.BadMedia which fault) = which_text which ++ (codes ": " ++ wav_text fault)
fault_text Faults.ReadFault = codes "read fault"
fault_text Faults.WriteFault = codes "write fault"
fault_text (Faults.Absent which) = codes "absent: " ++ which_text which
fault_text Faults.OutOfMemory = codes "out of memory"
fault_text (Faults.Short which at size) =
    codes "short: " ++ (which_text which ++ (codes " at " ++ (decimal at ++ (codes " of " ++ decimal size))))
fault_text (Faults.Units have need) = codes "units: have " ++ (decimal have ++ (codes " need " ++ decimal need))
fault_text (Faults.Packets why) = packets_text why
fault_text (Faults.NotRun line why) = codes "no: log line " ++ (decimal line ++ (codes ": " ++ audit_text why))

abbrev pub fault_line : Fault → List ℕ
fault_line fault = fault_text fault ++ codes "\n"

-- what is printed after files were made
abbrev pub made_text : ℕ → List ℕ
made_text frames = codes "made " ++ (decimal frames ++ codes " frames\n")

-- what is printed of a log that names a run
abbrev pub yes_text : ℕ → List ℕ
yes_text acts = codes "yes " ++ (decimal acts ++ codes " acts\n")

-- what is printed after a file was packed
abbrev pub packed_text : Packed → List ℕ
packed_text counts = codes "packed " ++ (decimal counts.packets ++ (codes " packets " ++ (decimal counts.frames ++ codes " frames\nok\n")))

-- the lines that are printed after one was unpacked
abbrev pub frames_line : Unpacked → List ℕ
frames_line counts = codes "unpacked " ++ (decimal counts.frames ++ (codes " frames " ++ (decimal counts.bytes ++ codes " bytes\n")))

abbrev pub taken_text : Unpacked → List ℕ
taken_text counts =
    codes "packets " ++ (decimal counts.packets ++ (codes " accepted " ++ (decimal counts.accepted ++ (codes " late " ++ decimal counts.late))))

abbrev pub passed_text : Unpacked → List ℕ
passed_text counts = codes " repeated " ++ (decimal counts.repeated ++ (codes " skipped " ++ (decimal counts.skipped ++ codes "\nok\n")))

abbrev pub unpacked_text : Unpacked → List ℕ
unpacked_text counts = frames_line counts ++ (taken_text counts ++ passed_text counts)

-- What a list of packets is unpacked to.
use Rattle.std.specs.Prelude.{ℕ, ◌-◌, not, nat_lt, if◌then◌else◌, List, [], ◌∷◌, length, take, drop, bytes_eq, Option, None, Result, Ok, Err}
use Rattle.omx_types.specs.declared.fault.WavFault.TheVariants.{TooLarge}
use Rattle.wav_form.specs.Reading.{most_bytes}
use Rattle.part_forms.specs.Writing.{written}
use Rattle.g711_law.specs.declared.companding.Companding.{Companding}
use Rattle.g711_law.specs.declared.companding.Companding.TheVariants.{MuLaw}
use Rattle.rtp_parts.specs.declared.fault.RtpFault.{RtpFault}
use Rattle.rtp_parts.specs.declared.fault.RtpFault.TheVariants.{Head, NotPackets, NoPackets, TooLong}
use Rattle.rtp_parts.specs.Packets.{Packet, silence_of, format_of_companding}
use Rattle.rtp_parts.specs.Packing.{magic}
use Rattle.rtp_parts.specs.Arrivals.{records_in, arrivals}
use Rattle.rtp_parts.specs.Sorting.{Taken, taken_of, sorted, codes_from}

pub record Unpacking : Type 0 where
  pub companding : Companding
  pub codes : List ℕ
  -- the packets of the list, those that are skipped among them
  pub packets : ℕ
  pub accepted : ℕ
  pub late : ℕ
  pub repeated : ℕ
  pub skipped : ℕ

abbrev pub companding_of_first : List Packet → Companding
companding_of_first [] = MuLaw
companding_of_first (first ∷ packets) = first.companding

-- the whole list is sorted
abbrev pub unpacking_by : Companding → (packets arrived : ℕ) → Taken → Unpacking
unpacking_by companding packets arrived taken = record {
  companding = companding;
  codes = codes_from (silence_of companding) None (sorted taken.accepted);
  packets = packets;
  accepted = length taken.accepted;
  late = taken.late;
  repeated = taken.repeated;
  skipped = packets - arrived;
}

unfoldable pub unpacking_of : List (Option (List ℕ)) → Unpacking
unpacking_of records =
    unpacking_by (companding_of_first (arrivals records)) (length records) (length (arrivals records)) (taken_of (arrivals records))

-- the most codes that are written
abbrev pub most_codes : ℕ
most_codes = 67108864

abbrev pub if_any : List Packet → Unpacking → Result Unpacking RtpFault
if_any [] unpacking = Err NoPackets
if_any (first ∷ packets) unpacking = if nat_lt most_codes (length unpacking.codes) then Err TooLong else Ok unpacking

abbrev pub unpacked_records : List (Option (List ℕ)) → Result Unpacking RtpFault
unpacked_records records = if_any (arrivals records) (unpacking_of records)

-- the answer for a file
unfoldable pub unpacked : List ℕ → Result Unpacking RtpFault
unpacked bytes =
    if nat_lt most_bytes (length bytes) then Err (Head (TooLarge (length bytes)))
    else (if not (bytes_eq (take 8 bytes) magic) then Err NotPackets
    else unpacked_records (records_in (drop 8 bytes)))

-- the WAV file of what was unpacked; none where there is a fault
abbrev pub wav_of : Result Unpacking RtpFault → List ℕ
wav_of (Err fault) = []
wav_of (Ok unpacking) = written (format_of_companding unpacking.companding) unpacking.codes

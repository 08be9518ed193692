-- A packet of RTP: the fixed header of RFC 3550, with the payload types 0 and 8 of RFC 3551. Numbers are big-endian.
use Rattle.std.specs.Prelude.{ℕ, pos, ◌+◌, ◌-◌, ◌*◌, ◌/◌, ◌%◌, Bool, true, false, not, ◌==◌, nat_le, ◌&&◌, ◌||◌, if◌then◌else◌, List, [], ◌∷◌, ◌++◌, length, take, drop, slice_index, Option, Some, None}
use Rattle.byteorder.specs.Endian.{big_bytes, big_from}
use Rattle.omx_types.specs.declared.format.Format.{Format}
use Rattle.omx_types.specs.declared.format.Format.TheVariants.{Pcm, Alaw as AlawAt, Mulaw as MulawAt, Auto}
use Rattle.g711_law.specs.Alaw.{alaw_code}
use Rattle.g711_law.specs.Mulaw.{mulaw_code}
use Rattle.g711_law.specs.declared.companding.Companding.{Companding}
use Rattle.g711_law.specs.declared.companding.Companding.TheVariants.{MuLaw, ALaw}

abbrev pub type_of_companding : Companding → ℕ
type_of_companding MuLaw = 0
type_of_companding ALaw = 8

abbrev pub companding_of_type : ℕ → Option Companding
companding_of_type number = if number == 0 then Some MuLaw else (if number == 8 then Some ALaw else None)

-- 8,000 frames a second of one channel
abbrev pub format_of_companding : Companding → Format
format_of_companding MuLaw = MulawAt 8000 1
format_of_companding ALaw = AlawAt 8000 1

-- the companding of a format of one channel and 8,000 frames a second
abbrev pub companding_of_format : Format → Option Companding
companding_of_format (Pcm rate channels) = None
companding_of_format (AlawAt rate channels) = if (rate == 8000) && (channels == 1) then Some ALaw else None
companding_of_format (MulawAt rate channels) = if (rate == 8000) && (channels == 1) then Some MuLaw else None
companding_of_format Auto = None

abbrev pub same_companding : Companding → Companding → Bool
same_companding MuLaw MuLaw = true
same_companding MuLaw ALaw = false
same_companding ALaw MuLaw = false
same_companding ALaw ALaw = true

-- the code of silence
abbrev pub silence_of : Companding → ℕ
silence_of MuLaw = mulaw_code (pos 0)
silence_of ALaw = alaw_code (pos 0)

-- The fixed header: version 2 with no padding, no extension and no contributing source; no marker and the payload type;
-- sequence number; timestamp; synchronization source.
abbrev pub header : Companding → (sequence timestamp source : ℕ) → List ℕ
header companding sequence timestamp source =
    (128 ∷ type_of_companding companding ∷ []) ++ big_bytes 2 sequence ++ big_bytes 4 timestamp ++ big_bytes 4 source

-- What is read of a packet's bytes

abbrev pub version : List ℕ → ℕ
version bytes = slice_index bytes 0 / 64

abbrev pub has_padding : List ℕ → Bool
has_padding bytes = slice_index bytes 0 / 32 % 2 == 1

abbrev pub has_extension : List ℕ → Bool
has_extension bytes = slice_index bytes 0 / 16 % 2 == 1

abbrev pub contributing : List ℕ → ℕ
contributing bytes = slice_index bytes 0 % 16

abbrev pub payload_type : List ℕ → ℕ
payload_type bytes = slice_index bytes 1 % 128

-- the fixed header and the contributing sources
abbrev pub sources_end : List ℕ → ℕ
sources_end bytes = 12 + 4 * contributing bytes

-- and the extension: 16 bits of its own, 16 bits that count its words of 32 bits, and these
abbrev pub head_end : List ℕ → ℕ
head_end bytes =
    if has_extension bytes then sources_end bytes + 4 + 4 * big_from (sources_end bytes + 2) 2 bytes else sources_end bytes

-- the last byte counts the bytes of padding, itself among them
abbrev pub padding : List ℕ → ℕ
padding bytes = if has_padding bytes then slice_index bytes (length bytes - 1) else 0

abbrev pub payload_len : List ℕ → ℕ
payload_len bytes = length bytes - head_end bytes - padding bytes

pub record Packet : Type 0 where
  pub companding : Companding
  pub source : ℕ
  pub sequence : ℕ
  pub timestamp : ℕ
  pub payload : List ℕ

-- version 2, contributing sources and extension inside, a padding count of at least 1 where there is padding, and 1 to 4,096
-- bytes left as payload
abbrev pub is_well_formed : List ℕ → Bool
is_well_formed bytes =
    nat_le 12 (length bytes) && (version bytes == 2) && nat_le (head_end bytes) (length bytes)
    && (not (has_padding bytes) || nat_le 1 (padding bytes)) && nat_le 1 (payload_len bytes) && nat_le (payload_len bytes) 4096

abbrev pub packet_under : Option Companding → List ℕ → Option Packet
packet_under None bytes = None
packet_under (Some companding) bytes = Some (record {
  companding = companding;
  source = big_from 8 4 bytes;
  sequence = big_from 2 2 bytes;
  timestamp = big_from 4 4 bytes;
  payload = take (payload_len bytes) (drop (head_end bytes) bytes);
})

-- the packet of these bytes, where they are one that is well formed, of payload type 0 or 8
abbrev pub packet_in : List ℕ → Option Packet
packet_in bytes = if is_well_formed bytes then packet_under (companding_of_type (payload_type bytes)) bytes else None

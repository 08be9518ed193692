-- The packets of a list, and those among them that are looked at.
use Rattle.std.specs.Prelude.{ℕ, zero, suc, ◌+◌, Bool, ◌==◌, nat_lt, ◌&&◌, if◌then◌else◌, List, [], ◌∷◌, ◌++◌, length, take, drop, filter, Option, Some, None}
use Rattle.std.specs.Option.{option_to_list}
use Rattle.byteorder.specs.Endian.{big_from}
use Rattle.g711_law.specs.declared.companding.Companding.{Companding}
use Rattle.rtp_parts.specs.Packets.{Packet, packet_in, same_companding}

-- the bytes of a packet and of the length before it
abbrev pub record_len : List ℕ → ℕ
record_len bytes = 2 + big_from 0 2 bytes

-- The packets of a list, of which there are at most `most`, each behind its length. None stands for one that is cut at the
-- end of the file, as where a single byte is left.
abbrev pub records_within : ℕ → List ℕ → List (Option (List ℕ))
records_within zero bytes = []
records_within (suc most) [] = []
records_within (suc most) (byte ∷ bytes) =
    let rest = byte ∷ bytes in
    if nat_lt (length rest) (record_len rest) then None ∷ []
    else Some (take (big_from 0 2 rest) (drop 2 rest)) ∷ records_within most (drop (record_len rest) rest)

unfoldable pub records_in : List ℕ → List (Option (List ℕ))
records_in bytes = records_within (length bytes) bytes

abbrev pub packet_of_record : Option (List ℕ) → Option Packet
packet_of_record None = None
packet_of_record (Some bytes) = packet_in bytes

abbrev pub well_formed : List (Option (List ℕ)) → List Packet
well_formed [] = []
well_formed (bytes ∷ records) = option_to_list (packet_of_record bytes) ++ well_formed records

-- a stream has one source and one companding
abbrev pub is_of_stream : Companding → ℕ → Packet → Bool
is_of_stream companding source packet = (packet.source == source) && same_companding packet.companding companding

-- the first well-formed packet fixes the stream, and what differs from it is left out
abbrev pub of_first_stream : List Packet → List Packet
of_first_stream [] = []
of_first_stream (first ∷ packets) = first ∷ filter (is_of_stream first.companding first.source) packets

abbrev pub arrivals : List (Option (List ℕ)) → List Packet
arrivals records = of_first_stream (well_formed records)

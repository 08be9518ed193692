-- A file of packets, and how samples are cut into packets.
use Rattle.std.specs.Prelude.{ℕ, ◌+◌, ◌*◌, ◌/◌, ◌%◌, List, [], ◌∷◌, ◌++◌, length, take, drop, map, codes}
use Rattle.std.specs.List.{range_with_len}
use Rattle.byteorder.specs.Endian.{big_bytes}
use Rattle.g711_law.specs.declared.companding.Companding.{Companding}
use Rattle.rtp_parts.specs.Packets.{header}

-- what each file of packets begins with: `omxrtp1` and a line feed
abbrev pub magic : List ℕ
magic = codes "omxrtp1\n"

-- each packet behind its length
abbrev pub records_text : List (List ℕ) → List ℕ
records_text [] = []
records_text (packet ∷ packets) = big_bytes 2 (length packet) ++ packet ++ records_text packets

abbrev pub file_of : List (List ℕ) → List ℕ
file_of packets = magic ++ records_text packets

-- packet k, from 0, has 160 frames, or as many as are left
abbrev pub packet_at : Companding → List ℕ → ℕ → List ℕ
packet_at companding samples k = header companding (k % 65536) (160 * k) 1 ++ take 160 (drop (160 * k) samples)

-- so many packets from a number on, each behind its length
abbrev pub texts_of : Companding → List ℕ → (first count : ℕ) → List ℕ
texts_of companding samples first count = records_text (map (packet_at companding samples) (range_with_len first count))

-- how many packets there are of so many frames
abbrev pub packet_count : ℕ → ℕ
packet_count frames = (frames + 159) / 160

-- the packets of these samples, from packet 0 on
abbrev pub packets_of : Companding → List ℕ → List (List ℕ)
packets_of companding samples = map (packet_at companding samples) (range_with_len 0 (packet_count (length samples)))

-- the file of packets of these samples
unfoldable pub packed : Companding → List ℕ → List ℕ
packed companding samples = file_of (packets_of companding samples)

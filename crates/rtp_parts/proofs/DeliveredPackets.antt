-- The packets that are delivered are read as they were packed.
use Rattle.std.proofs.Common.{◌≡◌, ℕ, ◌+◌, ◌*◌, ◌%◌, ◌^◌, ◌<◌, ◌≤◌, if◌then◌else◌, true, Bool, List, [], ◌∷◌, ◌++◌, length, take, drop, map, filter, refl, ap, ◌∙◌, arith, length-drop, Option, Some, None}
use Rattle.std.proofs.lemmas.List.{take_all, length-take}
use Rattle.byteorder.specs.Endian.{big_bytes, big_from}
use Rattle.byteorder.specs.Numbers.{big_number-reads_back}
use Rattle.g711_law.specs.declared.companding.Companding.{Companding}
use Rattle.g711_law.specs.declared.companding.Companding.TheVariants.{MuLaw, ALaw}
use Rattle.rtp_parts.specs.Packets.{Packet, header, packet_in, packet_under, is_well_formed, payload_len, payload_type, head_end, companding_of_type, same_companding}
use Rattle.rtp_parts.specs.Packing.{packet_at, packet_count, records_text}
use Rattle.rtp_parts.specs.Arrivals.{records_in, well_formed, of_first_stream, is_of_stream}
use Rattle.rtp_parts.proofs.PackedTexts.{packet_length}
use Rattle.rtp_parts.proofs.RecordList.{records-packet, records-none}

-- the samples of packet k
abbrev pub piece : List ℕ → ℕ → List ℕ
piece samples k = take 160 (drop (160 * k) samples)

-- packet k as it is read
abbrev pub packet_of : Companding → List ℕ → ℕ → Packet
packet_of companding samples k = record { companding = companding; source = 1; sequence = k % 65536; timestamp = 160 * k; payload = piece samples k }

pub piece_length : (samples : List ℕ) (k : ℕ) → k < packet_count (length samples) → (1 ≤ length (piece samples k)) × (length (piece samples k) ≤ 160)
piece_length samples k below =
    let long = length-take 160 (drop (160 * k) samples) in
    let left = length-drop (160 * k) samples in
    (omega (arith, long, left, below), omega (arith, long))

fields : (companding : Companding) (sequence timestamp : ℕ) (content : List ℕ) → sequence < 65536 → timestamp < 2 ^ 32 → 1 ≤ length content → length content ≤ 160 → packet_in (header companding sequence timestamp 1 ++ content) ≡ Some (record { companding = companding; source = 1; sequence = sequence; timestamp = timestamp; payload = content })
fields companding sequence timestamp content small early some few =
    let bytes = header companding sequence timestamp 1 ++ content in
    let long : length bytes ≡ length content + 12 = packet_length companding sequence timestamp 1 content in
    let left : payload_len bytes ≡ length content = omega (arith, long) in
    let good : is_well_formed bytes ≡ true = grind (arith, long, left, some, few) in
    let type : companding_of_type (payload_type bytes) ≡ Some companding = elim companding as (λ (l : Companding). companding_of_type (payload_type (header l sequence timestamp 1 ++ content)) ≡ Some l) [ MuLaw ↦ refl | ALaw ↦ refl ] in
    let numbered : big_from 2 2 bytes ≡ sequence = omega (arith, small) in
    let moved : List ℕ = big_bytes 4 timestamp ++ (big_bytes 4 1 ++ content) in
    let timed : big_from 4 4 bytes ≡ timestamp = big_number-reads_back 4 timestamp (big_bytes 4 1 ++ content) early in
    let content_is : take (payload_len bytes) (drop (head_end bytes) bytes) ≡ content = take_all (payload_len bytes) content (omega (arith, left)) in
    let make : ℕ → ℕ → List ℕ → Option Packet = λ s t p. Some (record { companding = companding; source = 1; sequence = s; timestamp = t; payload = p }) in
    ap (λ (b : Bool). if b then packet_under (companding_of_type (payload_type bytes)) bytes else None) good
    ∙ ap (λ (l : Option Companding). packet_under l bytes) type
    ∙ ap (λ (s : ℕ). make s (big_from 4 4 bytes) (take (payload_len bytes) (drop (head_end bytes) bytes))) numbered
    ∙ ap (λ (t : ℕ). make sequence t (take (payload_len bytes) (drop (head_end bytes) bytes))) timed
    ∙ ap (make sequence timestamp) content_is

pub packet_read : (companding : Companding) (samples : List ℕ) (k : ℕ) → length samples ≤ 67108864 → k < packet_count (length samples) → packet_in (packet_at companding samples k) ≡ Some (packet_of companding samples k)
packet_read companding samples k few below =
    let long = piece_length samples k below in
    fields companding (k % 65536) (160 * k) (piece samples k) (omega arith) (omega (arith, few, below)) long.0 long.1

-- each place is below a count
abbrev pub AllBelow : ℕ → List ℕ → Type 0
AllBelow count [] = Unit {0}
AllBelow count (k ∷ places) = (k < count) × AllBelow count places

pub delivered-records : (companding : Companding) (samples places : List ℕ) → length samples ≤ 67108864 → AllBelow (packet_count (length samples)) places → well_formed (records_in (records_text (map (packet_at companding samples) places))) ≡ map (packet_of companding samples) places
delivered-records companding samples [] few below = ap well_formed records-none
delivered-records companding samples (k ∷ places) few (first, below) =
    let packet = packet_at companding samples k in
    let rest = records_text (map (packet_at companding samples) places) in
    let long = piece_length samples k first in
    let small : length packet < 65536 = omega (arith, packet_length companding (k % 65536) (160 * k) 1 (piece samples k), long.1) in
    ap well_formed (records-packet packet rest small)
    ∙ ap (λ (p : Option Packet). Rattle.std.specs.Option.option_to_list p ++ well_formed (records_in rest)) (packet_read companding samples k few first)
    ∙ ap (λ (ps : List Packet). packet_of companding samples k ∷ ps) (delivered-records companding samples places few below)

one_stream : (companding : Companding) (samples places : List ℕ) → filter (is_of_stream companding 1) (map (packet_of companding samples) places) ≡ map (packet_of companding samples) places
one_stream companding samples [] = refl
one_stream companding samples (k ∷ places) =
    let same : same_companding companding companding ≡ true = elim companding as (λ (l : Companding). same_companding l l ≡ true) [ MuLaw ↦ refl | ALaw ↦ refl ] in
    let rest = filter (is_of_stream companding 1) (map (packet_of companding samples) places) in
    ap (λ (b : Bool). if b then packet_of companding samples k ∷ rest else rest) same
    ∙ ap (λ (ps : List Packet). packet_of companding samples k ∷ ps) (one_stream companding samples places)

pub delivered-stream : (companding : Companding) (samples places : List ℕ) → of_first_stream (map (packet_of companding samples) places) ≡ map (packet_of companding samples) places
delivered-stream companding samples [] = refl
delivered-stream companding samples (k ∷ places) = ap (λ (ps : List Packet). packet_of companding samples k ∷ ps) (one_stream companding samples places)

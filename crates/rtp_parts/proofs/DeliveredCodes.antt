-- Deliveries are unpacked to the samples that were packed.
use Rattle.std.proofs.Common.{◌≡◌, ℕ, zero, suc, ◌+◌, ◌-◌, ◌*◌, ◌%◌, ◌^◌, ◌<◌, ◌≤◌, nat_le, nat_lt, not, if◌then◌else◌, false, Bool, List, [], ◌∷◌, ◌++◌, length, take, drop, map, replicate, bytes_eq, refl, sym, ap, ◌∙◌, arith, length-drop, Option, Some, None, Ok, Err}
use Rattle.std.proofs.lemmas.List.{length-take, drop-drop, drop_all, take-append-drop}
use Rattle.std.specs.List.{range_with_len}
use Rattle.omx_types.specs.declared.fault.WavFault.TheVariants.{TooLarge}
use Rattle.wav_form.specs.Reading.{most_bytes}
use Rattle.g711_law.specs.declared.companding.Companding.{Companding}
use Rattle.rtp_parts.specs.declared.fault.RtpFault.TheVariants.{Head, NotPackets, TooLong}
use Rattle.rtp_parts.specs.Packets.{Packet, silence_of}
use Rattle.rtp_parts.specs.Packing.{packet_at, packet_count, records_text, file_of, magic}
use Rattle.rtp_parts.specs.Arrivals.{records_in, arrivals, of_first_stream}
use Rattle.rtp_parts.specs.Sorting.{codes_from, gap_before, end_of, sorted, taken_of, before_first}
use Rattle.rtp_parts.specs.Unpacking.{unpacking_of, unpacked, unpacked_records, if_any, companding_of_first, most_codes}
use Rattle.rtp_parts.specs.Deliveries.{AreDeliveries, Unpacks, delivered}
use Rattle.rtp_parts.proofs.DeliveredPackets.{piece, packet_of, delivered-records, delivered-stream}
use Rattle.rtp_parts.proofs.DeliveredRun.{entry, run_finishes, finished-sorted, deliveries-start, first-early}

gap-none : (end timestamp : ℕ) → end ≡ timestamp → timestamp < 2 ^ 32 → gap_before (Some end) timestamp ≡ 0
gap-none end timestamp is small =
    ap (λ (gap : ℕ). if nat_le gap 80000 then gap else 0) (let e : (timestamp + 2 ^ 32 - end) % 2 ^ 32 ≡ 0 = omega (arith, is, small) in e)

pub entries_codes : (silence : ℕ) (samples : List ℕ) (from count : ℕ) (end : Option ℕ) → from + count ≡ packet_count (length samples) → length samples ≤ 67108864 → (0 < count → gap_before end (160 * from) ≡ 0) → codes_from silence end (map (entry samples) (range_with_len from count)) ≡ drop (160 * from) samples
entries_codes silence samples from zero end all few gap = sym (drop_all (160 * from) samples (omega arith))
entries_codes silence samples from (suc count) end all few gap =
    let rest = map (entry samples) (range_with_len (from + 1) count) in
    let last = end_of (entry samples from) in
    let next : 0 < count → gap_before (Some last) (160 * (from + 1)) ≡ 0 = λ some.
    let whole : length (piece samples from) ≡ 160 = omega (arith, some, all, length-take 160 (drop (160 * from) samples), length-drop (160 * from) samples) in
    gap-none last (160 * (from + 1)) (omega (arith, whole, all, few)) (omega (arith, all, few)) in
    ap (λ (g : ℕ). replicate g silence ++ piece samples from ++ codes_from silence (Some last) rest) (gap (omega arith))
    ∙ ap (λ (t : List ℕ). piece samples from ++ t) (entries_codes silence samples (from + 1) count (Some last) (omega (arith, all)) few next)
    ∙ ap (λ (t : List ℕ). piece samples from ++ t)
    (ap (λ (n : ℕ). drop n samples) (let e : 160 * (from + 1) ≡ 160 * from + 160 = omega arith in e) ∙ sym (drop-drop 160 (160 * from) samples))
    ∙ take-append-drop 160 (drop (160 * from) samples)

arrived : (companding : Companding) (samples places : List ℕ) (first : ℕ) → length samples ≤ most_codes → AreDeliveries (packet_count (length samples)) (first ∷ places) → arrivals (records_in (records_text (map (packet_at companding samples) (first ∷ places)))) ≡ map (packet_of companding samples) (first ∷ places)
arrived companding samples places first few are =
    ap of_first_stream (delivered-records companding samples (first ∷ places) few (Rattle.rtp_parts.proofs.DeliveredRun.places-below (packet_count (length samples)) (first ∷ places) are.packets))
    ∙ delivered-stream companding samples (first ∷ places)

taken_codes : (companding : Companding) (samples places : List ℕ) (first : ℕ) → 0 < length samples → length samples ≤ most_codes → AreDeliveries (packet_count (length samples)) (first ∷ places) → codes_from (silence_of companding) None (sorted (taken_of (map (packet_of companding samples) (first ∷ places))).accepted) ≡ samples
taken_codes companding samples places first some few are =
    let count = packet_count (length samples) in
    let early = first-early count first places (omega (arith, some)) are in
    let start = deliveries-start samples count first places are (omega (arith, early)) in
    ap (codes_from (silence_of companding) None) (finished-sorted samples count _ (run_finishes samples companding count (first % 65536) (before_first (first % 65536)) (first ∷ places) refl start))
    ∙ entries_codes (silence_of companding) samples 0 count None (omega arith) few (λ _. refl)

unpacks_companding : (companding : Companding) (samples places : List ℕ) (first : ℕ) → length samples ≤ most_codes → AreDeliveries (packet_count (length samples)) (first ∷ places) → (unpacking_of (records_in (records_text (map (packet_at companding samples) (first ∷ places))))).companding ≡ companding
unfolding unpacking_of
unpacks_companding companding samples places first few are = ap companding_of_first (arrived companding samples places first few are)

unpacks_codes : (companding : Companding) (samples places : List ℕ) (first : ℕ) → 0 < length samples → length samples ≤ most_codes → AreDeliveries (packet_count (length samples)) (first ∷ places) → (unpacking_of (records_in (records_text (map (packet_at companding samples) (first ∷ places))))).codes ≡ samples
unfolding unpacking_of
unpacks_codes companding samples places first some few are =
    ap (λ (packets : List Packet). codes_from (silence_of (companding_of_first packets)) None (sorted (taken_of packets).accepted)) (arrived companding samples places first few are)
    ∙ taken_codes companding samples places first some few are

unpacks_answer : (packets : List (List ℕ)) (first : Packet) (rest : List Packet) → arrivals (records_in (records_text packets)) ≡ first ∷ rest → length (unpacking_of (records_in (records_text packets))).codes ≤ most_codes → length (file_of packets) ≤ most_bytes → unpacked (file_of packets) ≡ Ok (unpacking_of (records_in (records_text packets)))
unfolding unpacked
unpacks_answer packets first rest are few fits =
    let records = records_in (records_text packets) in
    let size : nat_lt most_bytes (length (file_of packets)) ≡ false = grind (arith, fits) in
    let codes : nat_lt most_codes (length (unpacking_of records).codes) ≡ false = grind (arith, few) in
    ap (λ (b : Bool). if b then Err (Head (TooLarge (length (file_of packets)))) else (if not (bytes_eq (take 8 (file_of packets)) magic) then Err NotPackets else unpacked_records records)) size
    ∙ ap (λ (ps : List Packet). if_any ps (unpacking_of records)) are
    ∙ ap (λ (b : Bool). if b then Err TooLong else Ok (unpacking_of records)) codes

pub deliveries_unpack : (companding : Companding) (samples places : List ℕ) → 0 < length samples → length samples ≤ most_codes → AreDeliveries (packet_count (length samples)) places → Unpacks (delivered companding samples places) companding samples
deliveries_unpack companding samples [] some few are = (let at = are.each 0 (omega (arith, some)) in absurd (omega (arith, at.1)))
deliveries_unpack companding samples (first ∷ places) some few are = record {
  same_companding = unpacks_companding companding samples places first few are;
  codes = unpacks_codes companding samples places first some few are;
  answer = unpacks_answer (delivered companding samples (first ∷ places)) (packet_of companding samples first) (map (packet_of companding samples) places) (arrived companding samples places first few are) (omega (arith, few, ap length (unpacks_codes companding samples places first some few are)));
}

-- Deliveries of packets: which arrive, and in which order.
use Rattle.std.specs.Prelude.{◌≤◌, ◌≡◌, ℕ, ◌+◌, ◌<◌, List, length, drop, slice_index, map, Ok}
use Rattle.g711_law.specs.declared.companding.Companding.{Companding}
use Rattle.wav_form.specs.Reading.{most_bytes}
use Rattle.rtp_parts.specs.Packing.{packet_at, file_of}
use Rattle.rtp_parts.specs.Arrivals.{records_in}
use Rattle.rtp_parts.specs.Unpacking.{unpacking_of, unpacked}

-- the places of the packets that are delivered, of so many in all, in the order of arrival
pub record AreDeliveries (count : ℕ) (places : List ℕ) : Type 0 where
  pub packets : (i : ℕ) → i < length places → slice_index places i < count
  -- each packet is delivered at least once
  pub each : (k : ℕ) → k < count → (i : ℕ) × (i < length places) × (slice_index places i ≡ k)
  -- none after one whose place is 64 or more greater
  pub near : (i j : ℕ) → i < j → j < length places → slice_index places i < slice_index places j + 64

abbrev pub delivered : Companding → List ℕ → List ℕ → List (List ℕ)
delivered companding samples places = map (packet_at companding samples) places

-- these packets are unpacked to these samples, and so is their file, unless it is longer than files may be
pub record Unpacks (packets : List (List ℕ)) (companding : Companding) (samples : List ℕ) : Type 0 where
  pub same_companding : (unpacking_of (records_in (drop 8 (file_of packets)))).companding ≡ companding
  pub codes : (unpacking_of (records_in (drop 8 (file_of packets)))).codes ≡ samples
  pub answer : length (file_of packets) ≤ most_bytes → unpacked (file_of packets) ≡ Ok (unpacking_of (records_in (drop 8 (file_of packets))))

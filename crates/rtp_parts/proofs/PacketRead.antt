-- The fields of a packet, by the numbers that are read.
use Rattle.std.proofs.Common.{◌≡◌, ℕ, zero, suc, ◌+◌, ◌-◌, ◌*◌, ◌^◌, ◌≤◌, if◌then◌else◌, true, Bool, List, length, take, drop, refl, sym, ap, ◌∙◌, arith, Option, Some, None}
use Rattle.std.proofs.lemmas.List.{get_or-drop}
use Rattle.byteorder.specs.Endian.{big_from}
use Rattle.g711_law.specs.declared.companding.Companding.{Companding}
use Rattle.rtp_parts.specs.Packets.{Packet, packet_in, packet_under, is_well_formed, head_end, padding, payload_len, payload_type, companding_of_type}

pub big_from-drop : (n i p : ℕ) (bytes : List ℕ) → big_from i n (drop p bytes) ≡ big_from (p + i) n bytes
big_from-drop zero i p bytes = refl
big_from-drop (suc n) i p bytes =
    ap (λ (b : ℕ). b * 256 ^ n + big_from (suc i) n (drop p bytes)) (get_or-drop p bytes i 0)
    ∙ ap (λ (r : ℕ). Rattle.std.proofs.Common.slice_index bytes (p + i) * 256 ^ n + r)
    (big_from-drop n (suc i) p bytes ∙ ap (λ (q : ℕ). big_from q n bytes) (let e : p + suc i ≡ suc (p + i) = omega arith in e))

inside : (bytes : List ℕ) → is_well_formed bytes ≡ true → head_end bytes ≤ length bytes
inside bytes good = grind (arith, good)

pub fields_are : (bytes : List ℕ) (companding : Companding) (from pad source sequence timestamp : ℕ) → is_well_formed bytes ≡ true → companding_of_type (payload_type bytes) ≡ Some companding → (head_end bytes ≤ length bytes → from ≡ head_end bytes) → pad ≡ padding bytes → source ≡ big_from 0 4 (drop 8 bytes) → sequence ≡ big_from 0 2 (drop 2 bytes) → timestamp ≡ big_from 0 4 (drop 4 bytes) → packet_in bytes ≡ Some (record { companding = companding; source = source; sequence = sequence; timestamp = timestamp; payload = take (length bytes - pad - from) (drop from bytes) })
fields_are bytes companding from pad source sequence timestamp good type at padded is_source is_sequence is_timestamp =
    let make : ℕ → ℕ → ℕ → List ℕ → Option Packet = λ s q t p. Some (record { companding = companding; source = s; sequence = q; timestamp = t; payload = p }) in
    let from_is : head_end bytes ≡ from = sym (at (inside bytes good)) in
    let long : payload_len bytes ≡ length bytes - pad - from = omega (arith, from_is, padded) in
    let content : take (payload_len bytes) (drop (head_end bytes) bytes) ≡ take (length bytes - pad - from) (drop from bytes) =
    ap (λ (n : ℕ). take n (drop (head_end bytes) bytes)) long ∙ ap (λ (n : ℕ). take (length bytes - pad - from) (drop n bytes)) from_is in
    ap (λ (b : Bool). if b then packet_under (companding_of_type (payload_type bytes)) bytes else None) good
    ∙ ap (λ (l : Option Companding). packet_under l bytes) type
    ∙ ap (λ (s : ℕ). make s (big_from 2 2 bytes) (big_from 4 4 bytes) (take (payload_len bytes) (drop (head_end bytes) bytes))) (sym (is_source ∙ big_from-drop 4 0 8 bytes))
    ∙ ap (λ (q : ℕ). make source q (big_from 4 4 bytes) (take (payload_len bytes) (drop (head_end bytes) bytes))) (sym (is_sequence ∙ big_from-drop 2 0 2 bytes))
    ∙ ap (λ (t : ℕ). make source sequence t (take (payload_len bytes) (drop (head_end bytes) bytes))) (sym (is_timestamp ∙ big_from-drop 4 0 4 bytes))
    ∙ ap (make source sequence timestamp) content

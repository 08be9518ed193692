-- The records of a list.
use Rattle.std.proofs.Common.{◌≡◌, ℕ, zero, suc, ◌+◌, ◌*◌, ◌/◌, ◌%◌, ◌<◌, ◌≤◌, nat_lt, if◌then◌else◌, true, false, Bool, List, [], ◌∷◌, ◌++◌, length, take, drop, refl, ap, ◌∙◌, arith, length-append, length-drop, Option, Some, None}
use Rattle.std.proofs.Math.Seq.{take-append_seam, drop-append_seam}
use Rattle.byteorder.specs.Endian.{big_bytes, big_from}
use Rattle.rtp_parts.specs.Arrivals.{records_within, records_in, record_len}

-- as many records are looked for as serve
fuel : (a b : ℕ) (bytes : List ℕ) → length bytes ≤ a → length bytes ≤ b → records_within a bytes ≡ records_within b bytes
fuel zero zero [] ha hb = refl
fuel zero (suc b) [] ha hb = refl
fuel (suc a) zero [] ha hb = refl
fuel (suc a) (suc b) [] ha hb = refl
fuel zero b (byte ∷ bytes) ha hb = absurd (omega arith)
fuel (suc a) zero (byte ∷ bytes) ha hb = absurd (omega arith)
fuel (suc a) (suc b) (byte ∷ bytes) ha hb =
    let rest = byte ∷ bytes in
    let dropped = length-drop (record_len rest) rest in
    ap (λ (records : List (Option (List ℕ))). if nat_lt (length rest) (record_len rest) then None ∷ [] else Some (take (big_from 0 2 rest) (drop 2 rest)) ∷ records)
    (fuel a b (drop (record_len rest) rest) (omega (arith, dropped)) (omega (arith, dropped)))

pub records-none : records_in [] ≡ []
unfolding records_in
records-none = refl

pub records-cut : (bytes : List ℕ) → 0 < length bytes → length bytes < record_len bytes → records_in bytes ≡ None ∷ []
unfolding records_in
records-cut [] some cut = absurd (omega arith)
records-cut (byte ∷ bytes) some cut =
    let rest = byte ∷ bytes in
    let test : nat_lt (length rest) (record_len rest) ≡ true = grind (arith, cut) in
    ap (λ (t : Bool). if t then None ∷ [] else Some (take (big_from 0 2 rest) (drop 2 rest)) ∷ records_within (length bytes) (drop (record_len rest) rest)) test

pub records-whole : (bytes : List ℕ) → record_len bytes ≤ length bytes → records_in bytes ≡ Some (take (big_from 0 2 bytes) (drop 2 bytes)) ∷ records_in (drop (record_len bytes) bytes)
unfolding records_in
records-whole [] whole = absurd (omega arith)
records-whole (byte ∷ bytes) whole =
    let rest = byte ∷ bytes in
    let test : nat_lt (length rest) (record_len rest) ≡ false = grind (arith, whole) in
    let left = drop (record_len rest) rest in
    ap (λ (t : Bool). if t then None ∷ [] else Some (take (big_from 0 2 rest) (drop 2 rest)) ∷ records_within (length bytes) left) test
    ∙ ap (λ (records : List (Option (List ℕ))). Some (take (big_from 0 2 rest) (drop 2 rest)) ∷ records)
    (fuel (length bytes) (length left) left (omega (arith, length-drop (record_len rest) rest)) (omega arith))

two_bytes : (n : ℕ) → n < 65536 → n / 256 % 256 * 256 + (n % 256 * 1 + 0) ≡ n
two_bytes n small = omega arith

-- a packet behind its length
pub records-packet : (packet rest : List ℕ) → length packet < 65536 → records_in (big_bytes 2 (length packet) ++ packet ++ rest) ≡ Some packet ∷ records_in rest
records-packet packet rest small =
    let n = length packet in
    let bytes = big_bytes 2 n ++ packet ++ rest in
    let count : big_from 0 2 bytes ≡ n = two_bytes n small in
    let long : length bytes ≡ 2 + n + length rest = omega (arith, length-append packet rest) in
    let whole : record_len bytes ≤ length bytes = omega (arith, count, long) in
    let content : take (big_from 0 2 bytes) (drop 2 bytes) ≡ packet = ap (λ (k : ℕ). take k (packet ++ rest)) count ∙ take-append_seam packet rest in
    let left : drop (record_len bytes) bytes ≡ rest =
    ap (λ (k : ℕ). drop k bytes) (let e : record_len bytes ≡ suc (suc n) = omega (arith, count) in e) ∙ drop-append_seam packet rest in
    records-whole bytes whole ∙ ap (λ (p : List ℕ). Some p ∷ records_in (drop (record_len bytes) bytes)) content
    ∙ ap (λ (r : List ℕ). Some packet ∷ records_in r) left

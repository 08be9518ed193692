-- Numbers and names in a piece of the bytes.
use Rattle.std.proofs.Common.{◌≡◌, ℕ, zero, suc, ◌+◌, ◌≤◌, List, take, drop, refl, ap, ◌∙◌, arith}
use Rattle.std.proofs.lemmas.List.{get_or-drop, take-take}
use Rattle.byteorder.specs.Endian.{little_from}
use Rattle.byteorder.specs.Numbers.{little_from-take}
use Rattle.wav_form.specs.Chunks.{Chunk, chunk_at}

little_from-drop : (n i p : ℕ) (bytes : List ℕ) → little_from i n (drop p bytes) ≡ little_from (p + i) n bytes
little_from-drop zero i p bytes = refl
little_from-drop (suc n) i p bytes =
    let byte = get_or-drop p bytes i 0 in
    let rest = little_from-drop n (suc i) p bytes in
    let next : p + suc i ≡ suc (p + i) = omega arith in
    rw (byte, rest, next) refl

-- a number in a piece of m bytes that begins at p
pub number_in : (n i p m : ℕ) (bytes : List ℕ) → i + n ≤ m → little_from i n (take m (drop p bytes)) ≡ little_from (p + i) n bytes
number_in n i p m bytes within = little_from-take i n m (drop p bytes) within ∙ little_from-drop n i p bytes

-- the same of a piece that is equal to it
pub number_of-piece : (n i p m : ℕ) (bytes piece : List ℕ) → i + n ≤ m → piece ≡ take m (drop p bytes) → little_from i n piece ≡ little_from (p + i) n bytes
number_of-piece n i p m bytes piece within is = ap (little_from i n) is ∙ number_in n i p m bytes within

-- the chunk that 8 bytes from an offset on say
pub chunk_read : (bytes head name : List ℕ) (offset size content : ℕ) → head ≡ take 8 (drop offset bytes) → name ≡ take 4 head → size ≡ little_from 4 4 head → content ≡ offset + 8 → ◌≡◌ {A = Chunk} (record { name = name; size = size; content = content }) (chunk_at bytes offset)
chunk_read bytes head name offset size content is named sized at =
    let name_is : name ≡ take 4 (drop offset bytes) = named ∙ ap (take 4) is ∙ take-take 4 8 (drop offset bytes) (omega arith) in
    let size_is : size ≡ little_from (offset + 4) 4 bytes = sized ∙ number_of-piece 4 4 offset 8 bytes head (omega arith) is in
    rw (name_is, size_is, at) refl

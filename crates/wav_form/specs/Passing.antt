-- The bytes that are passed over on the way to the samples, and how far a source is asked for its bytes.
use Rattle.std.specs.Prelude.{◌≡◌, ℕ, ◌+◌, ◌<◌, ◌≤◌, ◌⊎◌, Bool, false, not, ◌&&◌, ◌||◌, if◌then◌else◌, List, [], ◌∷◌, Option, Some, bytes_eq, codes}
use Rattle.outside_io.specs.Asking.{AsksWithin}
use Rattle.wav_form.specs.Chunks.{Chunk, end_of, AreChunks, first_named}

abbrev pub is_format : Chunk → Bool
is_format chunk = bytes_eq chunk.name (codes "fmt ")

abbrev pub is_samples : Chunk → Bool
is_samples chunk = bytes_eq chunk.name (codes "data")

-- where the bytes of a chunk begin that aren't looked at: behind the fields of the first format chunk, else at the content.
-- `known` says whether a format chunk came before.
abbrev pub passed_from : Bool → Chunk → ℕ
passed_from known chunk = if not known && is_format chunk then chunk.content + 16 else chunk.content

-- an offset lies in bytes of a chunk before the samples that aren't looked at, and the next chunk's head begins at `next`
abbrev pub IsPassedOver : Bool → List Chunk → (offset next : ℕ) → Type 0
IsPassedOver known [] offset next = ⊥
IsPassedOver known (chunk ∷ chunks) offset next =
    (is_samples chunk ≡ false)
    × (((passed_from known chunk ≤ offset) × (offset < next) × (next ≡ end_of chunk))
    ⊎ IsPassedOver (known || is_format chunk) chunks offset next)

-- nothing behind the head of the first chunk of samples was asked for that wasn't before
abbrev pub AsksNoSamples : List ℕ → Option ℕ → Option ℕ → Type 0
AsksNoSamples bytes old new =
    (chunks : List Chunk) (samples : Chunk) → AreChunks bytes 12 chunks → first_named (codes "data") chunks ≡ Some samples → AsksWithin old new samples.content

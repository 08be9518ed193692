-- The chunks of a file, as a list. Numbers are little-endian.
use Rattle.std.specs.Prelude.{◌≡◌, ℕ, ◌+◌, ◌%◌, ◌<◌, ◌≤◌, List, [], ◌∷◌, length, take, drop, Option, bytes_eq}
use Rattle.std.specs.List.{find}
use Rattle.byteorder.specs.Endian.{little_from}

pub record Chunk : Type 0 where
  pub name : List ℕ
  pub size : ℕ
  -- the offset where its content begins
  pub content : ℕ

-- the chunk whose head begins at an offset: a name of four bytes and a length of 32 bits, and then the content
abbrev pub chunk_at : List ℕ → ℕ → Chunk
chunk_at bytes offset = record { name = take 4 (drop offset bytes); size = little_from (offset + 4) 4 bytes; content = offset + 8 }

-- the offset behind the content and the pad byte of an odd length
abbrev pub end_of : Chunk → ℕ
end_of chunk = chunk.content + chunk.size + chunk.size % 2

-- the chunks from an offset on, each head behind the end of the one before, until fewer than 8 bytes are left
abbrev pub AreChunks : List ℕ → ℕ → List Chunk → Type 0
AreChunks bytes offset [] = length bytes < offset + 8
AreChunks bytes offset (chunk ∷ chunks) = (offset + 8 ≤ length bytes) × (chunk ≡ chunk_at bytes offset) × AreChunks bytes (end_of chunk) chunks

-- the first chunk of that name
abbrev pub first_named : List ℕ → List Chunk → Option Chunk
first_named name chunks = find (λ chunk. bytes_eq chunk.name name) chunks

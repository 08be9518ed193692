-- What the search answers is what the first format chunk and the first chunk of samples say.
use Rattle.std.proofs.Common.{◌≡◌, ℕ, zero, suc, ◌+◌, ◌<◌, ◌≤◌, true, false, nat_lt, List, [], ◌∷◌, length, Option, Some, None, Result, Ok, Err, refl, sym, ap, ◌∙◌, subst, arith, inl, inr, bytes_eq, codes}
use Rattle.std.proofs.lemmas.Bool.{cases_lt, cases_Bool, le-ltb, lt-ltb}
use Rattle.std.proofs.lemmas.Slice.Eq.{bytes_eq-Decides}
use Rattle.omx_types.specs.declared.format.Format.{Format}
use Rattle.omx_types.specs.declared.fault.WavFault.{WavFault}
use Rattle.omx_types.specs.declared.fault.WavFault.TheVariants.{NoFormat}
use Rattle.wav_form.specs.Chunks.{Chunk, chunk_at, end_of, AreChunks, first_named}
use Rattle.wav_form.specs.Reading.{format_in, with_samples, answer_of, answer_in}
use Rattle.wav_form.specs.Search.{and_then, some_of, answer_after}

-- chunks from an offset on have their content behind it
pub first_named-behind : (bytes name : List ℕ) (offset : ℕ) (chunks : List Chunk) (found : Chunk) → AreChunks bytes offset chunks → first_named name chunks ≡ Some found → offset + 8 ≤ found.content
first_named-behind bytes name offset [] found are is = cc
first_named-behind bytes name offset (chunk ∷ chunks) found (room, at, are) is =
    let content : chunk.content ≡ offset + 8 = ap (λ (c : Chunk). c.content) at in
    elim (cases_Bool (bytes_eq chunk.name name)) [
      | inl named ↦ (
          let this : Some chunk ≡ Some found = sym (rw named refl) ∙ is in
          let same : chunk ≡ found = cc in
          omega (arith, ap (λ (c : Chunk). c.content) same)
          )
      | inr other ↦ (
          let rest : first_named name chunks ≡ Some found = sym (rw other refl) ∙ is in
          let behind = first_named-behind bytes name (end_of chunk) chunks found are rest in
          omega arith
          )
    ]

-- with a format, samples are what is left to find
answer_after-known : (bytes : List ℕ) (format : Format) (chunks : List Chunk) → answer_after bytes (Some format) chunks ≡ with_samples bytes (Ok format) (first_named (codes "data") chunks)
answer_after-known bytes format [] = refl
answer_after-known bytes format (chunk ∷ chunks) =
    elim (cases_Bool (bytes_eq chunk.name (codes "data"))) [
      | inl samples ↦ rw samples refl
      | inr other ↦ rw other (answer_after-known bytes format chunks)
    ]

-- a chunk of samples is no format chunk
not_both : (name : List ℕ) → bytes_eq name (codes "data") ≡ true → bytes_eq name (codes "fmt ") ≡ false
not_both name samples =
    let is : name ≡ codes "data" = (bytes_eq-Decides name (codes "data")).0 samples in
    subst (λ (n : List ℕ). bytes_eq n (codes "fmt ") ≡ false) (sym is) refl

samples_first : (bytes : List ℕ) (offset : ℕ) (chunk : Chunk) (chunks : List Chunk) (format : Option Chunk) → AreChunks bytes (end_of chunk) chunks → first_named (codes "fmt ") chunks ≡ format → answer_of bytes format (Some chunk) ≡ Err NoFormat
samples_first bytes offset chunk chunks None are is = refl
samples_first bytes offset chunk chunks (Some format) are is =
    let behind = first_named-behind bytes (codes "fmt ") (end_of chunk) chunks format are is in
    let before : nat_lt chunk.content format.content ≡ true = lt-ltb _ _ (omega arith) in
    rw before refl

format_first : (bytes : List ℕ) (chunk : Chunk) (chunks : List Chunk) (samples : Option Chunk) → AreChunks bytes (end_of chunk) chunks → first_named (codes "data") chunks ≡ samples → answer_of bytes (Some chunk) samples ≡ with_samples bytes (format_in bytes chunk) samples
format_first bytes chunk chunks None are is = refl
format_first bytes chunk chunks (Some samples) are is =
    let behind = first_named-behind bytes (codes "data") (end_of chunk) chunks samples are is in
    let after : nat_lt samples.content chunk.content ≡ false = le-ltb _ _ (omega arith) in
    rw after refl

with_format : (bytes : List ℕ) (format : Result Format WavFault) (chunks : List Chunk) → and_then (some_of format) (λ known. answer_after bytes known chunks) ≡ with_samples bytes format (first_named (codes "data") chunks)
with_format bytes (Ok format) chunks = answer_after-known bytes format chunks
with_format bytes (Err fault) chunks = refl

-- the whole search
pub answer_after-is : (bytes : List ℕ) (offset : ℕ) (chunks : List Chunk) → AreChunks bytes offset chunks → answer_after bytes None chunks ≡ answer_in bytes chunks
answer_after-is bytes offset [] are = refl
answer_after-is bytes offset (chunk ∷ chunks) (room, at, are) =
    elim (cases_Bool (bytes_eq chunk.name (codes "data"))) [
      | inl samples ↦ rw (samples, not_both chunk.name samples) (sym (samples_first bytes offset chunk chunks _ are refl))
      | inr other ↦ elim (cases_Bool (bytes_eq chunk.name (codes "fmt "))) [
        | inl format ↦ rw (other, format) (with_format bytes (format_in bytes chunk) chunks ∙ sym (format_first bytes chunk chunks _ are refl))
        | inr neither ↦ rw (other, neither) (answer_after-is bytes (end_of chunk) chunks are)
      ]
    ]

-- the bytes have a list of chunks from each offset on
chunks_within : (bytes : List ℕ) (more offset : ℕ) → length bytes ≤ offset + more → (chunks : List Chunk) × AreChunks bytes offset chunks
chunks_within bytes zero offset within = let short : length bytes < offset + 8 = omega arith in ([], short)
chunks_within bytes (suc more) offset within =
    elim (cases_lt (length bytes) (offset + 8)) [
      | inl short ↦ ([], short)
      | inr room ↦ (
          let chunk = chunk_at bytes offset in
          let further : length bytes ≤ end_of chunk + more = omega arith in
          let rest = chunks_within bytes more (end_of chunk) further in
          (chunk ∷ rest.0, (room, refl, rest.1))
          )
    ]

pub chunks_from : (bytes : List ℕ) (offset : ℕ) → (chunks : List Chunk) × AreChunks bytes offset chunks
chunks_from bytes offset = chunks_within bytes (length bytes) offset (omega arith)

-- and no other
pub same_chunks : (bytes : List ℕ) (offset : ℕ) (one other : List Chunk) → AreChunks bytes offset one → AreChunks bytes offset other → one ≡ other
same_chunks bytes offset [] [] are too = refl
same_chunks bytes offset [] (chunk ∷ chunks) short (room, _, _) = absurd (omega arith)
same_chunks bytes offset (chunk ∷ chunks) [] (room, _, _) short = absurd (omega arith)
same_chunks bytes offset (one ∷ ones) (other ∷ others) (_, is, are) (_, also, too) =
    let same : other ≡ one = also ∙ sym is in
    let rest = same_chunks bytes (end_of one) ones others are (subst (λ (c : Chunk). AreChunks bytes (end_of c) others) same too) in
    rw (same, rest) refl

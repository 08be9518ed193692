-- How far a search asks for the bytes of a file.
use Rattle.std.proofs.Common.{◌≡◌, ℕ, ◌+◌, ◌≤◌, false, List, [], ◌∷◌, length, Option, Some, Result, Ok, Err, IfOk, refl, sym, ap, ◌∙◌, subst, arith, bytes_eq, codes}
use Rattle.outside_io.specs.Asking.{AsksWithin}
use Rattle.outside_io.proofs.Asked.{asks-none, asks-then}
use Rattle.omx_types.specs.declared.fault.WavFault.{WavFault}
use Rattle.wav_form.specs.declared.heads.WavHead.{WavHead}
use Rattle.wav_form.specs.Chunks.{Chunk, chunk_at, end_of, AreChunks, first_named}
use Rattle.wav_form.specs.Passing.{AsksNoSamples}
use Rattle.wav_form.proofs.Answer.{first_named-behind}

-- a chunk that was read is the first of those that are left
pub first_is : (bytes : List ℕ) (offset : ℕ) (chunk : Chunk) (rest : List Chunk) → AreChunks bytes offset rest → offset + 8 ≤ length bytes → chunk ≡ chunk_at bytes offset → (chunks : List Chunk) × AreChunks bytes (end_of chunk) chunks × (rest ≡ chunk ∷ chunks)
first_is bytes offset chunk [] short room is = absurd (omega arith)
first_is bytes offset chunk (first ∷ chunks) (_, at, are) room is =
    let same : first ≡ chunk = at ∙ sym is in
    (chunks, subst (λ (c : Chunk). AreChunks bytes (end_of c) chunks) same are, ap (λ (c : Chunk). c ∷ chunks) same)

-- a chunk of another name is not the first of that name
pub first_named-other : (name : List ℕ) (chunk : Chunk) (rest chunks : List Chunk) → rest ≡ chunk ∷ chunks → bytes_eq chunk.name name ≡ false → first_named name rest ≡ first_named name chunks
first_named-other name chunk rest chunks is other = rw is (rw other refl)

-- samples that are still to be found lie behind the head at an offset
pub asks_before : (bytes : List ℕ) (offset : ℕ) (whole rest : List Chunk) (samples : Chunk) (old mid new : Option ℕ) → AreChunks bytes offset rest → first_named (codes "data") whole ≡ first_named (codes "data") rest → first_named (codes "data") whole ≡ Some samples → AsksWithin old mid offset → AsksWithin mid new (offset + 8) → AsksWithin old new samples.content
asks_before bytes offset whole rest samples old mid new are same found first second =
    let behind = first_named-behind bytes (codes "data") offset rest samples are (sym same ∙ found) in
    asks-then old mid new offset (offset + 8) samples.content first second (omega arith) (omega arith)

-- the same, where the chunk at the offset was read and is another
pub asks_behind : (bytes : List ℕ) (offset : ℕ) (whole rest : List Chunk) (chunk samples : Chunk) (old mid late new : Option ℕ) → AreChunks bytes offset rest → first_named (codes "data") whole ≡ first_named (codes "data") rest → first_named (codes "data") whole ≡ Some samples → offset + 8 ≤ length bytes → chunk ≡ chunk_at bytes offset → bytes_eq chunk.name (codes "data") ≡ false → AsksWithin old mid offset → AsksWithin mid late (offset + 8) → AsksWithin late new (end_of chunk) → AsksWithin old new samples.content
asks_behind bytes offset whole rest chunk samples old mid late new are same found room is other first second third =
    let (chunks, behind, split) = first_is bytes offset chunk rest are room is in
    let later = first_named-behind bytes (codes "data") (end_of chunk) chunks samples behind (sym (first_named-other (codes "data") chunk rest chunks split other) ∙ sym same ∙ found) in
    let content : chunk.content ≡ offset + 8 = ap (λ (c : Chunk). c.content) is in
    let read = asks-then old mid late offset (offset + 8) samples.content first second (omega arith) (omega arith) in
    asks-then old late new samples.content (end_of chunk) samples.content read third (omega arith) (omega arith)

-- the head of a chunk of samples was read
pub asks_found : (old mid new : Option ℕ) (offset content : ℕ) (result : Result WavHead WavFault) → AsksWithin old mid offset → AsksWithin mid new (offset + 8) → content ≡ offset + 8 → IfOk result (λ head. head.start ≡ content) → IfOk result (λ head. AsksWithin old new head.start)
asks_found old mid new offset content (Ok head) first second at start = asks-then old mid new offset (offset + 8) head.start first second (omega arith) (omega arith)
asks_found old mid new offset content (Err fault) first second at start = tt

-- the first 12 bytes, and then the search
pub asks_whole : (bytes : List ℕ) (old mid new : Option ℕ) → AsksWithin old mid 12 → AsksNoSamples bytes mid new → AsksNoSamples bytes old new
asks_whole bytes old mid new first second = λ chunks samples are found.
    let behind = first_named-behind bytes (codes "data") 12 chunks samples are found in
    asks-then old mid new 12 samples.content samples.content first (second chunks samples are found) (omega arith) (omega arith)

-- a file of which only the first 12 bytes were asked for
pub asks_riff : (bytes : List ℕ) (old new : Option ℕ) → AsksWithin old new 12 → AsksNoSamples bytes old new
asks_riff bytes old new first = λ chunks samples are found.
    let behind = first_named-behind bytes (codes "data") 12 chunks samples are found in
    asks-then old old new 0 12 samples.content (asks-none old 0) first (omega arith) (omega arith)

pub asks_start : (old mid new : Option ℕ) (result : Result WavHead WavFault) → AsksWithin old mid 12 → IfOk result (λ head. AsksWithin mid new head.start) → IfOk result (λ head. 20 ≤ head.start) → IfOk result (λ head. AsksWithin old new head.start)
asks_start old mid new (Ok head) first second behind = asks-then old mid new 12 head.start head.start first second (omega arith) (omega arith)
asks_start old mid new (Err fault) first second behind = tt

-- What the whole call answers, from its first 12 bytes and the search.
use Rattle.std.proofs.Common.{◌≡◌, ℕ, ◌<◌, ◌≤◌, List, length, Option, None, Result, Ok, Err, IfOk, IfErr, refl, sym, ap, ◌∙◌, subst, arith, inl, inr, bytes_eq, codes, take, drop, ◌⊎◌}
use Rattle.std.proofs.lemmas.Bool.{cases_lt, cases_Bool}
use Rattle.std.proofs.lemmas.Slice.Eq.{bytes_eq-Decides}
use Rattle.omx_types.specs.declared.fault.WavFault.{WavFault}
use Rattle.omx_types.specs.declared.fault.WavFault.TheVariants.{TooLarge, NotRiff, NoFormat, BadFormat, NoSamples, UnsupportedTag, Read, Short}
use Rattle.wav_form.specs.declared.heads.WavHead.{WavHead}
use Rattle.wav_form.specs.Chunks.{Chunk, AreChunks}
use Rattle.wav_form.specs.Reading.{IsRiff, Reads, most_bytes, answer_in}
use Rattle.wav_form.specs.Search.{AnswersAs, answer_after}
use Rattle.wav_form.specs.Stops.{UnlessStopped, IfShort, StoppedShort, IsRiffFault}
use Rattle.wav_form.proofs.Answer.{answer_after-is, chunks_from, same_chunks}
use Rattle.wav_form.proofs.ChunkSearch.{start_behind, IfShort-reached}

pub Reads-searched : (bytes : List ℕ) (answer : Result WavHead WavFault) → length bytes ≤ most_bytes → IsRiff bytes → ((chunks : List Chunk) → AreChunks bytes 12 chunks → answer ≡ answer_after bytes None chunks) → Reads bytes answer
Reads-searched bytes answer small riff is = record {
  too_large = λ large. absurd (omega arith);
  not_riff = λ _ other. absurd (other riff);
  in_chunks = λ _ _ chunks are. is chunks are ∙ answer_after-is bytes 12 chunks are;
}

pub UnlessStopped-searched : (bytes : List ℕ) (result : Result WavHead WavFault) → length bytes ≤ most_bytes → IsRiff bytes → ((chunks : List Chunk) → AreChunks bytes 12 chunks → AnswersAs result (answer_after bytes None chunks)) → UnlessStopped result (Reads bytes)
UnlessStopped-searched bytes (Ok head) small riff is = Reads-searched bytes (Ok head) small riff is
UnlessStopped-searched bytes (Err (TooLarge n)) small riff is = Reads-searched bytes (Err (TooLarge n)) small riff is
UnlessStopped-searched bytes (Err NotRiff) small riff is = Reads-searched bytes (Err NotRiff) small riff is
UnlessStopped-searched bytes (Err NoFormat) small riff is = Reads-searched bytes (Err NoFormat) small riff is
UnlessStopped-searched bytes (Err BadFormat) small riff is = Reads-searched bytes (Err BadFormat) small riff is
UnlessStopped-searched bytes (Err NoSamples) small riff is = Reads-searched bytes (Err NoSamples) small riff is
UnlessStopped-searched bytes (Err (UnsupportedTag tag)) small riff is = Reads-searched bytes (Err (UnsupportedTag tag)) small riff is
UnlessStopped-searched bytes (Err Read) small riff is = tt
UnlessStopped-searched bytes (Err (Short at size)) small riff is = tt

-- the samples of a file begin where the search finds them
searched_head : (bytes : List ℕ) (head : WavHead) → length bytes ≤ most_bytes → IsRiff bytes → Reads bytes (Ok head) → (chunks : List Chunk) × AreChunks bytes 12 chunks × (answer_after bytes None chunks ≡ Ok head)
searched_head bytes head small riff reads =
    let (chunks, are) = chunks_from bytes 12 in
    (chunks, are, answer_after-is bytes 12 chunks are ∙ sym (reads.in_chunks small riff chunks are))

-- a search that stopped short stopped before the samples
pub before_samples : (bytes : List ℕ) (result : Result WavHead WavFault) (head : WavHead) → length bytes ≤ most_bytes → IsRiff bytes → ((chunks : List Chunk) → AreChunks bytes 12 chunks → AnswersAs result (answer_after bytes None chunks)) → Reads bytes (Ok head) → IfErr result (λ fault. IfShort fault (λ at _. at < head.start))
before_samples bytes (Ok answered) head small riff is reads = tt
before_samples bytes (Err (TooLarge n)) head small riff is reads = tt
before_samples bytes (Err NotRiff) head small riff is reads = tt
before_samples bytes (Err NoFormat) head small riff is reads = tt
before_samples bytes (Err BadFormat) head small riff is reads = tt
before_samples bytes (Err NoSamples) head small riff is reads = tt
before_samples bytes (Err (UnsupportedTag tag)) head small riff is reads = tt
before_samples bytes (Err Read) head small riff is reads = tt
before_samples bytes (Err (Short at size)) head small riff is reads =
    let (chunks, are, same) = searched_head bytes head small riff reads in
    subst (λ (answer : Result WavHead WavFault). IfOk answer (λ h. at < h.start)) same (is chunks are)

-- samples begin behind the first 20 bytes
starts_late : (bytes : List ℕ) (head : WavHead) → length bytes ≤ most_bytes → IsRiff bytes → Reads bytes (Ok head) → 20 ≤ head.start
starts_late bytes head small riff reads =
    let (chunks, are, same) = searched_head bytes head small riff reads in
    subst (λ (answer : Result WavHead WavFault). IfOk answer (λ h. 20 ≤ h.start)) same (start_behind bytes None 12 chunks are)

not_before : (bytes : List ℕ) (head : WavHead) (at : ℕ) → length bytes ≤ most_bytes → at < 12 → Reads bytes (Ok head) → at < head.start
not_before bytes head at small early reads =
    elim (cases_lt at head.start) [
      | inl before ↦ before
      | inr behind ↦ (
          let never : IsRiff bytes → ⊥ = λ riff. (let late = starts_late bytes head small riff reads in omega arith) in
          let other : Ok head ≡ Err NotRiff = reads.not_riff small never in
          cc
          )
    ]

-- a stop in the first 12 bytes is before the samples
pub before_chunks : (size : ℕ) (ends : Option ℕ) (bytes : List ℕ) (fault : WavFault) (head : WavHead) → length bytes ≤ most_bytes → IsRiffFault size ends fault → Reads bytes (Ok head) → IfShort fault (λ at _. at < head.start)
before_chunks size ends bytes (TooLarge n) head small stopped reads = tt
before_chunks size ends bytes NotRiff head small stopped reads = tt
before_chunks size ends bytes NoFormat head small stopped reads = tt
before_chunks size ends bytes BadFormat head small stopped reads = tt
before_chunks size ends bytes NoSamples head small stopped reads = tt
before_chunks size ends bytes (UnsupportedTag tag) head small stopped reads = tt
before_chunks size ends bytes Read head small stopped reads = tt
before_chunks size ends bytes (Short at told_size) head small (gave, early) reads = not_before bytes head at small early reads

pub IfShort-riff : (size : ℕ) (told : Option (List ℕ)) (ends : Option ℕ) (fault : WavFault) → IsRiffFault size ends fault → IfShort fault (StoppedShort size told ends)
IfShort-riff size told ends (TooLarge n) stopped = tt
IfShort-riff size told ends NotRiff stopped = tt
IfShort-riff size told ends NoFormat stopped = tt
IfShort-riff size told ends BadFormat stopped = tt
IfShort-riff size told ends NoSamples stopped = tt
IfShort-riff size told ends (UnsupportedTag tag) stopped = tt
IfShort-riff size told ends Read stopped = tt
IfShort-riff size told ends (Short at told_size) (gave, early) = IfShort-reached size told ends 0 (Short at told_size) (λ end _ bytes _ chunks _. inl (omega arith)) gave

-- whether the bytes begin as a RIFF file of waves
riff_cases : (bytes : List ℕ) → IsRiff bytes ⊎ ¬ (IsRiff bytes)
riff_cases bytes =
    elim (cases_lt (length bytes) 12) [
      | inl short ↦ inr (λ riff. (let long = riff.long in omega arith))
      | inr long ↦ elim (cases_Bool (bytes_eq (take 4 bytes) (codes "RIFF"))) [
        | inr other ↦ inr (λ riff. (let is = (bytes_eq-Decides (take 4 bytes) (codes "RIFF")).1 riff.riff in cc))
        | inl named ↦ elim (cases_Bool (bytes_eq (take 4 (drop 8 bytes)) (codes "WAVE"))) [
          | inr other ↦ inr (λ riff. (let is = (bytes_eq-Decides (take 4 (drop 8 bytes)) (codes "WAVE")).1 riff.wave in cc))
          | inl waves ↦ inl (record {
            long = long;
            riff = (bytes_eq-Decides (take 4 bytes) (codes "RIFF")).0 named;
            wave = (bytes_eq-Decides (take 4 (drop 8 bytes)) (codes "WAVE")).0 waves;
          })
        ]
      ]
    ]

-- each file has an answer
pub answer_exists : (bytes : List ℕ) → (answer : Result WavHead WavFault) × Reads bytes answer
answer_exists bytes =
    elim (cases_lt most_bytes (length bytes)) [
      | inl large ↦ (
        Err (TooLarge (length bytes)),
        record {
          too_large = λ _. refl;
          not_riff = λ small _. absurd (omega arith);
          in_chunks = λ small _ _ _. absurd (omega arith);
        },
      )
      | inr small ↦ elim (riff_cases bytes) [
        | inr other ↦ (
          Err NotRiff,
          record {
            too_large = λ large. absurd (omega arith);
            not_riff = λ _ _. refl;
            in_chunks = λ _ riff _ _. absurd (other riff);
          },
        )
        | inl riff ↦ (
            let found = chunks_from bytes 12 in (
              answer_in bytes found.0,
              record {
                too_large = λ large. absurd (omega arith);
                not_riff = λ _ other. absurd (other riff);
                in_chunks = λ _ _ chunks are. ap (answer_in bytes) (same_chunks bytes 12 found.0 chunks found.1 are);
              },
            )
            )
      ]
    ]

-- and one alone
pub same_answer : (bytes : List ℕ) (one other : Result WavHead WavFault) → Reads bytes one → Reads bytes other → one ≡ other
same_answer bytes one other reads too =
    elim (cases_lt most_bytes (length bytes)) [
      | inl large ↦ reads.too_large large ∙ sym (too.too_large large)
      | inr small ↦ elim (riff_cases bytes) [
        | inr no_riff ↦ reads.not_riff small no_riff ∙ sym (too.not_riff small no_riff)
        | inl riff ↦ (
            let found = chunks_from bytes 12 in
            reads.in_chunks small riff found.0 found.1 ∙ sym (too.in_chunks small riff found.0 found.1)
            )
      ]
    ]

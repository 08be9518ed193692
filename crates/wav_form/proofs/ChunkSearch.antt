-- A search from chunk to chunk: what it answers from an offset on, and where it stops.
use Rattle.std.proofs.Common.{◌≡◌, ℕ, ◌+◌, ◌<◌, ◌≤◌, Bool, true, false, cond, List, [], ◌∷◌, length, Option, Some, None, Result, Ok, Err, IfOk, refl, sym, ap, ◌∙◌, subst, arith, inl, inr, ◌⊎◌, ◌||◌, is_some, bytes_eq, codes}
use Rattle.std.proofs.lemmas.Bool.{cases_lt, cases_Bool}
use Rattle.omx_types.specs.declared.format.Format.{Format}
use Rattle.omx_types.specs.declared.fault.WavFault.{WavFault}
use Rattle.omx_types.specs.declared.fault.WavFault.TheVariants.{TooLarge, NotRiff, NoFormat, BadFormat, NoSamples, UnsupportedTag, Read, Short}
use Rattle.outside_io.specs.Moves.{WhereTold}
use Rattle.outside_io.specs.Stops.{GaveNothing}
use Rattle.wav_form.specs.declared.heads.WavHead.{WavHead}
use Rattle.wav_form.specs.Chunks.{Chunk, chunk_at, end_of, AreChunks}
use Rattle.wav_form.specs.Passing.{IsPassedOver, is_format, is_samples, passed_from}
use Rattle.wav_form.specs.Search.{AnswersAs, and_then, answer_after, at_end, at_samples, format_after}
use Rattle.wav_form.specs.Stops.{UnlessStopped, IfShort, StoppedShort, IsReadStop}

-- a bound on the start of the samples, and one below it
abbrev pub StartsFrom : ℕ → Result WavHead WavFault → Type 0
StartsFrom offset answer = IfOk answer (λ head. offset ≤ head.start)

StartsFrom-less : (answer : Result WavHead WavFault) (more less : ℕ) → less ≤ more → StartsFrom more answer → StartsFrom less answer
StartsFrom-less (Ok head) more less le from = omega arith
StartsFrom-less (Err fault) more less le from = tt

end_of-after : (chunk : Chunk) → chunk.content ≤ end_of chunk
end_of-after chunk = omega arith

samples_start : (bytes : List ℕ) (known : Option Format) (chunk : Chunk) → StartsFrom chunk.content (at_samples bytes known chunk)
samples_start bytes None chunk = tt
samples_start bytes (Some format) chunk = omega arith

-- samples that are found from an offset on begin behind the head of its chunk
pub start_behind : (bytes : List ℕ) (known : Option Format) (offset : ℕ) (chunks : List Chunk) → AreChunks bytes offset chunks → StartsFrom (offset + 8) (answer_after bytes known chunks)
start_behind bytes known offset [] are = tt
start_behind bytes known offset (chunk ∷ chunks) (room, is, are) =
    let content : offset + 8 ≤ chunk.content = omega (arith, ap (λ (c : Chunk). c.content) is) in
    elim (bytes_eq chunk.name (codes "data")) as (λ b. StartsFrom (offset + 8) (cond b (at_samples bytes known chunk) (and_then (format_after bytes known chunk) (λ k. answer_after bytes k chunks)))) [
      | true ↦ StartsFrom-less _ chunk.content (offset + 8) content (samples_start bytes known chunk)
      | false ↦ elim (format_after bytes known chunk) as (λ f. StartsFrom (offset + 8) (and_then f (λ k. answer_after bytes k chunks))) [
        | Err fault ↦ tt
        | Ok k ↦ StartsFrom-less _ (end_of chunk + 8) (offset + 8) (let after = end_of-after chunk in omega arith) (start_behind bytes k (end_of chunk) chunks are)
      ]
    ]

-- a chunk that isn't of samples: the search goes on behind it with the format that is then known
pub answer_after-goes_on : (bytes : List ℕ) (known next : Option Format) (offset : ℕ) (chunk : Chunk) (rest : List Chunk) → AreChunks bytes offset rest → offset + 8 ≤ length bytes → chunk ≡ chunk_at bytes offset → bytes_eq chunk.name (codes "data") ≡ false → Ok next ≡ format_after bytes known chunk → (chunks : List Chunk) × AreChunks bytes (end_of chunk) chunks × (answer_after bytes known rest ≡ answer_after bytes next chunks) × (rest ≡ chunk ∷ chunks)
answer_after-goes_on bytes known next offset chunk [] short room is other goes = absurd (omega arith)
answer_after-goes_on bytes known next offset chunk (first ∷ chunks) (_, at, are) room is other goes =
    let same : first ≡ chunk = at ∙ sym is in
    let not_samples : bytes_eq first.name (codes "data") ≡ false = ap (λ (c : Chunk). bytes_eq c.name (codes "data")) same ∙ other in
    let format : format_after bytes known first ≡ Ok next = ap (format_after bytes known) same ∙ sym goes in
    (chunks, subst (λ (c : Chunk). AreChunks bytes (end_of c) chunks) same are, rw (not_samples, format) refl, ap (λ (c : Chunk). c ∷ chunks) same)

-- the chunk of the samples ends the search
pub answer_after-samples : (bytes : List ℕ) (known : Option Format) (offset : ℕ) (chunk : Chunk) (rest : List Chunk) → AreChunks bytes offset rest → offset + 8 ≤ length bytes → chunk ≡ chunk_at bytes offset → bytes_eq chunk.name (codes "data") ≡ true → answer_after bytes known rest ≡ at_samples bytes known chunk
answer_after-samples bytes known offset chunk [] short room is samples = absurd (omega arith)
answer_after-samples bytes known offset chunk (first ∷ chunks) (_, at, are) room is samples =
    let same : first ≡ chunk = at ∙ sym is in
    let is_samples : bytes_eq first.name (codes "data") ≡ true = ap (λ (c : Chunk). bytes_eq c.name (codes "data")) same ∙ samples in
    rw is_samples (ap (at_samples bytes known) same)

-- no chunk is left
pub answer_after-end : (bytes : List ℕ) (known : Option Format) (offset : ℕ) (rest : List Chunk) → AreChunks bytes offset rest → length bytes < offset + 8 → answer_after bytes known rest ≡ Err (at_end known)
answer_after-end bytes known offset [] are short = refl
answer_after-end bytes known offset (first ∷ chunks) (room, _, _) short = absurd (omega arith)

-- these answers are no stops
pub AnswersAs-samples : (bytes : List ℕ) (known : Option Format) (chunk : Chunk) (answer : Result WavHead WavFault) → answer ≡ at_samples bytes known chunk → AnswersAs (at_samples bytes known chunk) answer
AnswersAs-samples bytes None chunk answer is = sym is
AnswersAs-samples bytes (Some format) chunk answer is = sym is

pub AnswersAs-end : (known : Option Format) (answer : Result WavHead WavFault) → answer ≡ Err (at_end known) → AnswersAs (Err (at_end known)) answer
AnswersAs-end None answer is = sym is
AnswersAs-end (Some format) answer is = sym is

-- a read that didn't end stopped before the samples, where they begin behind it
pub AnswersAs-stop : (size : ℕ) (ends : Option ℕ) (start stop : ℕ) (fault : WavFault) (answer : Result WavHead WavFault) → IsReadStop size ends start stop fault → StartsFrom stop answer → AnswersAs (Err fault) answer
AnswersAs-stop size ends start stop (TooLarge n) answer stopped from = absurd stopped
AnswersAs-stop size ends start stop NotRiff answer stopped from = absurd stopped
AnswersAs-stop size ends start stop NoFormat answer stopped from = absurd stopped
AnswersAs-stop size ends start stop BadFormat answer stopped from = absurd stopped
AnswersAs-stop size ends start stop NoSamples answer stopped from = absurd stopped
AnswersAs-stop size ends start stop (UnsupportedTag tag) answer stopped from = absurd stopped
AnswersAs-stop size ends start stop Read answer stopped from = tt
AnswersAs-stop size ends start stop (Short at told_size) (Ok head) (gave, before) from = omega arith
AnswersAs-stop size ends start stop (Short at told_size) (Err fault) stopped from = tt

pub IfShort-gave : (size : ℕ) (ends : Option ℕ) (start stop : ℕ) (fault : WavFault) → IsReadStop size ends start stop fault → IfShort fault (GaveNothing size ends start)
IfShort-gave size ends start stop (TooLarge n) stopped = tt
IfShort-gave size ends start stop NotRiff stopped = tt
IfShort-gave size ends start stop NoFormat stopped = tt
IfShort-gave size ends start stop BadFormat stopped = tt
IfShort-gave size ends start stop NoSamples stopped = tt
IfShort-gave size ends start stop (UnsupportedTag tag) stopped = tt
IfShort-gave size ends start stop Read stopped = tt
IfShort-gave size ends start stop (Short at told_size) (gave, before) = gave

IfShort-map : (fault : WavFault) (P Q : ℕ → ℕ → Type 0) → ((at size : ℕ) → P at size → Q at size) → IfShort fault P → IfShort fault Q
IfShort-map (TooLarge n) P Q also is = tt
IfShort-map NotRiff P Q also is = tt
IfShort-map NoFormat P Q also is = tt
IfShort-map BadFormat P Q also is = tt
IfShort-map NoSamples P Q also is = tt
IfShort-map (UnsupportedTag tag) P Q also is = tt
IfShort-map Read P Q also is = tt
IfShort-map (Short at size) P Q also is = also at size is

-- what is passed over lies before the next head
passed_before : (known : Bool) (chunks : List Chunk) (offset next : ℕ) → IsPassedOver known chunks offset next → offset < next
passed_before known [] offset next passed = absurd passed
passed_before known (chunk ∷ chunks) offset next (_, inl (_, before, _)) = before
passed_before known (chunk ∷ chunks) offset next (_, inr later) = passed_before (known || is_format chunk) chunks offset next later

-- an offset that is read next: the source's end isn't before it, or lies in what was passed over up to it
abbrev pub Reached : Option (List ℕ) → Option ℕ → ℕ → Type 0
Reached told ends offset = WhereTold ends (λ end. WhereTold told (λ bytes. (chunks : List Chunk) → AreChunks bytes 12 chunks → (offset ≤ end) ⊎ IsPassedOver false chunks end offset))

StoppedShort-reached : (size : ℕ) (told : Option (List ℕ)) (ends : Option ℕ) (start at told_size : ℕ) → Reached told ends start → GaveNothing size ends start at told_size → StoppedShort size told ends at told_size
StoppedShort-reached size told ends start at told_size reached gave = record {
  whole = gave.whole;
  below = gave.below;
  stopped = λ end is. (let stopped = gave.stopped end is in omega arith);
  where_it_ends = λ end is bytes tells chunks are.
      let stopped = gave.stopped end is in
      elim (reached end is bytes tells chunks are) [
        | inl there ↦ inl (omega arith)
        | inr passed ↦ (
            let before = passed_before false chunks end start passed in
            let at_start : start ≡ at = omega arith in
            inr (subst (IsPassedOver false chunks end) at_start passed)
            )
      ];
}

pub IfShort-reached : (size : ℕ) (told : Option (List ℕ)) (ends : Option ℕ) (start : ℕ) (fault : WavFault) → Reached told ends start → IfShort fault (GaveNothing size ends start) → IfShort fault (StoppedShort size told ends)
IfShort-reached size told ends start fault reached gave =
    IfShort-map fault (GaveNothing size ends start) (StoppedShort size told ends) (λ at n is. StoppedShort-reached size told ends start at n reached is) gave

-- the next offset behind a chunk that isn't of samples
pub Reached-behind : (bytes : List ℕ) (known : Option Format) (offset end : ℕ) (chunk : Chunk) (whole rest : List Chunk) → AreChunks bytes offset rest → offset + 8 ≤ length bytes → chunk ≡ chunk_at bytes offset → is_samples chunk ≡ false → ((p n : ℕ) → IsPassedOver (is_some known) rest p n → IsPassedOver false whole p n) → passed_from (is_some known) chunk ≤ end → (end_of chunk ≤ end) ⊎ IsPassedOver false whole end (end_of chunk)
Reached-behind bytes known offset end chunk whole [] short room is other within passes = absurd (omega arith)
Reached-behind bytes known offset end chunk whole (first ∷ chunks) (_, at, are) room is other within passes =
    let same : first ≡ chunk = at ∙ sym is in
    elim (cases_lt end (end_of chunk)) [
      | inr there ↦ inl there
      | inl before ↦ inr (within end (end_of chunk) (subst (λ (c : Chunk). IsPassedOver (is_some known) (c ∷ chunks) end (end_of chunk)) (sym same) (other, inl (passes, before, refl))))
    ]

-- what is passed over behind a chunk is passed over from it on
pub passed_behind : (known next : Option Format) (chunk : Chunk) (rest chunks : List Chunk) (p n : ℕ) → rest ≡ chunk ∷ chunks → is_samples chunk ≡ false → is_some next ≡ (is_some known || is_format chunk) → IsPassedOver (is_some next) chunks p n → IsPassedOver (is_some known) rest p n
passed_behind known next chunk rest chunks p n is other now passed =
    subst (λ (r : List Chunk). IsPassedOver (is_some known) r p n) (sym is) (other, inr (subst (λ (k : Bool). IsPassedOver k chunks p n) now passed))

pub passed_from-known : (known : Option Format) (chunk : Chunk) (end : ℕ) → chunk.content ≤ end → (known ≡ None → is_format chunk ≡ true → chunk.content + 16 ≤ end) → passed_from (is_some known) chunk ≤ end
passed_from-known (Some format) chunk end content fields = content
passed_from-known None chunk end content fields =
    elim (cases_Bool (is_format chunk)) [
      | inl format ↦ rw format (fields refl format)
      | inr other ↦ rw other content
    ]

before_start : (answer : Result WavHead WavFault) (at end : ℕ) → at < end → StartsFrom (end + 8) answer → IfOk answer (λ head. at < head.start)
before_start (Ok head) at end before from = omega arith
before_start (Err fault) at end before from = tt

-- a fault of the format chunk, or a stop in it, ends the search
faults-format : (bytes : List ℕ) (fault : WavFault) (f : Result (Option Format) WavFault) (end : ℕ) (chunks : List Chunk) → AreChunks bytes end chunks → UnlessStopped {A = Option Format} (Err fault) (λ r. r ≡ f) → IfShort fault (λ at _. at < end) → AnswersAs (Err fault) (and_then f (λ k. answer_after bytes k chunks))
faults-format bytes (TooLarge n) f end chunks are is inside = ap (λ (r : Result (Option Format) WavFault). and_then r (λ k. answer_after bytes k chunks)) is
faults-format bytes NotRiff f end chunks are is inside = ap (λ (r : Result (Option Format) WavFault). and_then r (λ k. answer_after bytes k chunks)) is
faults-format bytes NoFormat f end chunks are is inside = ap (λ (r : Result (Option Format) WavFault). and_then r (λ k. answer_after bytes k chunks)) is
faults-format bytes BadFormat f end chunks are is inside = ap (λ (r : Result (Option Format) WavFault). and_then r (λ k. answer_after bytes k chunks)) is
faults-format bytes NoSamples f end chunks are is inside = ap (λ (r : Result (Option Format) WavFault). and_then r (λ k. answer_after bytes k chunks)) is
faults-format bytes (UnsupportedTag tag) f end chunks are is inside = ap (λ (r : Result (Option Format) WavFault). and_then r (λ k. answer_after bytes k chunks)) is
faults-format bytes Read f end chunks are is inside = tt
faults-format bytes (Short at size) (Err fault) end chunks are is inside = tt
faults-format bytes (Short at size) (Ok k) end chunks are is inside =
    before_start (answer_after bytes k chunks) at end inside (start_behind bytes k end chunks are)

pub answer_after-faults : (bytes : List ℕ) (known : Option Format) (offset : ℕ) (chunk : Chunk) (rest : List Chunk) (fault : WavFault) → AreChunks bytes offset rest → offset + 8 ≤ length bytes → chunk ≡ chunk_at bytes offset → bytes_eq chunk.name (codes "data") ≡ false → UnlessStopped {A = Option Format} (Err fault) (λ r. r ≡ format_after bytes known chunk) → IfShort fault (λ at _. at < end_of chunk) → AnswersAs (Err fault) (answer_after bytes known rest)
answer_after-faults bytes known offset chunk [] fault short room is other faults inside = absurd (omega arith)
answer_after-faults bytes known offset chunk (first ∷ chunks) fault (_, at, are) room is other faults inside =
    let same : first ≡ chunk = at ∙ sym is in
    let not_samples : bytes_eq first.name (codes "data") ≡ false = ap (λ (c : Chunk). bytes_eq c.name (codes "data")) same ∙ other in
    let behind = faults-format bytes fault (format_after bytes known chunk) (end_of chunk) chunks (subst (λ (c : Chunk). AreChunks bytes (end_of c) chunks) same are) faults inside in
    rw (not_samples, same) behind

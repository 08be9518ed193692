-- What a format chunk says, read from 16 bytes.
use Rattle.std.proofs.Common.{◌≡◌, ℕ, ◌+◌, ◌≤◌, true, false, nat_lt, List, length, Option, Some, None, is_some, Result, Ok, Err, take, drop, refl, ap, ◌∙◌, arith, bytes_eq, codes}
use Rattle.std.proofs.lemmas.Bool.{le-ltb}
use Rattle.omx_types.specs.declared.format.Format.{Format}
use Rattle.omx_types.specs.declared.fault.WavFault.{WavFault}
use Rattle.omx_types.specs.declared.fault.WavFault.TheVariants.{TooLarge, NotRiff, NoFormat, BadFormat, NoSamples, UnsupportedTag, Read, Short}
use Rattle.byteorder.specs.Endian.{little_from}
use Rattle.wav_form.specs.Chunks.{Chunk}
use Rattle.wav_form.specs.Reading.{format_in, format_from}
use Rattle.wav_form.specs.Search.{some_of, format_after}
use Rattle.wav_form.specs.Stops.{UnlessStopped}
use Rattle.wav_form.proofs.Pieces.{number_of-piece}

pub format_in-fields : (bytes fields : List ℕ) (chunk : Chunk) → 16 ≤ chunk.size → chunk.content + chunk.size ≤ length bytes → fields ≡ take 16 (drop chunk.content bytes) → format_in bytes chunk ≡ format_from (little_from 0 2 fields) (little_from 2 2 fields) (little_from 4 4 fields) (little_from 14 2 fields)
format_in-fields bytes fields chunk long within is =
    let long_test : nat_lt chunk.size 16 ≡ false = le-ltb _ _ long in
    let within_test : nat_lt (length bytes) (chunk.content + chunk.size) ≡ false = le-ltb _ _ within in
    let zero_more : chunk.content + 0 ≡ chunk.content = omega arith in
    let tag : little_from 0 2 fields ≡ little_from chunk.content 2 bytes = number_of-piece 2 0 chunk.content 16 bytes fields (omega arith) is ∙ ap (λ (p : ℕ). little_from p 2 bytes) zero_more in
    let channels = number_of-piece 2 2 chunk.content 16 bytes fields (omega arith) is in
    let rate = number_of-piece 4 4 chunk.content 16 bytes fields (omega arith) is in
    let bits = number_of-piece 2 14 chunk.content 16 bytes fields (omega arith) is in
    rw (long_test, within_test) (cc (tag, channels, rate, bits))

-- a result that is known is that answer, or a stop
pub UnlessStopped-is : {A : Type 0} (result answer : Result A WavFault) → result ≡ answer → UnlessStopped result (λ r. r ≡ answer)
UnlessStopped-is (Ok a) answer is = is
UnlessStopped-is (Err (TooLarge n)) answer is = is
UnlessStopped-is (Err NotRiff) answer is = is
UnlessStopped-is (Err NoFormat) answer is = is
UnlessStopped-is (Err BadFormat) answer is = is
UnlessStopped-is (Err NoSamples) answer is = is
UnlessStopped-is (Err (UnsupportedTag tag)) answer is = is
UnlessStopped-is (Err Read) answer is = tt
UnlessStopped-is (Err (Short at size)) answer is = tt

some_of-fault : (fault : WavFault) (format : Result Format WavFault) → UnlessStopped {A = Format} (Err fault) (λ r. r ≡ format) → UnlessStopped {A = Option Format} (Err fault) (λ r. r ≡ some_of format)
some_of-fault (TooLarge n) format is = ap some_of is
some_of-fault NotRiff format is = ap some_of is
some_of-fault NoFormat format is = ap some_of is
some_of-fault BadFormat format is = ap some_of is
some_of-fault NoSamples format is = ap some_of is
some_of-fault (UnsupportedTag tag) format is = ap some_of is
some_of-fault Read format is = tt
some_of-fault (Short at size) format is = tt

-- a fault of the first format chunk
pub format_after-fault : (bytes : List ℕ) (known : Option Format) (chunk : Chunk) (fault : WavFault) → known ≡ None → bytes_eq chunk.name (codes "fmt ") ≡ true → UnlessStopped {A = Format} (Err fault) (λ r. r ≡ format_in bytes chunk) → UnlessStopped {A = Option Format} (Err fault) (λ r. r ≡ format_after bytes known chunk)
format_after-fault bytes known chunk fault none named is =
    rw (none, named) (some_of-fault fault (format_in bytes chunk) is)

pub none_left : (known : Option Format) → is_some known ≡ false → known ≡ None
none_left None is = refl
none_left (Some format) is = cc

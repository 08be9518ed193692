-- What a survey of a list finds is what the list is unpacked to.
use Rattle.std.proofs.Common.{◌≡◌, ℕ, ◌+◌, ◌-◌, ◌/◌, ◌%◌, ◌<◌, nat_lt, if◌then◌else◌, true, false, Bool, List, [], ◌∷◌, ◌++◌, length, replicate, refl, sym, ap, subst, ◌∙◌, arith, length-append, Option, Some, None, Result, Ok, Err}
use Rattle.std.proofs.lemmas.List.{length-replicate}
use Rattle.part_forms.specs.Writing.{written, head_of, pad_of}
use Rattle.omx_types.specs.Formats.{frame_bytes_of}
use Rattle.g711_law.specs.declared.companding.Companding.{Companding}
use Rattle.g711_law.specs.declared.companding.Companding.TheVariants.{MuLaw, ALaw}
use Rattle.rtp_parts.specs.declared.fault.RtpFault.{RtpFault}
use Rattle.rtp_parts.specs.declared.fault.RtpFault.TheVariants.{TooLong}
use Rattle.rtp_parts.specs.declared.unpacker.Unpacker.{Unpacker}
use Rattle.rtp_parts.specs.declared.unpacking.Unpacked.{Unpacked}
use Rattle.rtp_parts.specs.Packets.{Packet, silence_of, format_of_companding}
use Rattle.rtp_parts.specs.Arrivals.{records_in, arrivals}
use Rattle.rtp_parts.specs.Sorting.{Numbered, taken_of, before_first, sorted, codes_from, gap_before, end_of}
use Rattle.rtp_parts.specs.Unpacking.{Unpacking, unpacking_by, unpacking_of, companding_of_first, most_codes, if_any, unpacked_records, wav_of}
use Rattle.rtp_parts.specs.Answers.{unpacked_counts}
use Rattle.rtp_parts.specs.Steps.{Course, Counts, course_of, counts_in, whole_course, whole_codes, survey_by, survey_course, survey_of}
use Rattle.rtp_parts.proofs.Course.{run-whole, course_by, counted}

-- how long the codes of a piece and those behind it are
pub length-given : (count silence : ℕ) (codes payload more : List ℕ) → codes ≡ replicate count silence ++ payload ++ more → length codes ≡ count + length payload + length more
length-given count silence codes payload more is =
    omega (arith, ap length is, length-append (replicate count silence ++ payload) more, length-append (replicate count silence) payload, length-replicate count silence)

-- how many codes there are doesn't hang on the code of silence
length-codes : (s t : ℕ) (end : Option ℕ) (list : List Numbered) → length (codes_from s end list) ≡ length (codes_from t end list)
length-codes s t end [] = refl
length-codes s t end (a ∷ rest) =
    let gap = gap_before end a.timestamp in
    let more = length-codes s t (Some (end_of a)) rest in
    length-given gap s (codes_from s end (a ∷ rest)) a.payload (codes_from s (Some (end_of a)) rest) refl
    ∙ (let e : gap + length a.payload + length (codes_from s (Some (end_of a)) rest) ≡ gap + length a.payload + length (codes_from t (Some (end_of a)) rest) = omega (arith, more) in e)
    ∙ sym (length-given gap t (codes_from t end (a ∷ rest)) a.payload (codes_from t (Some (end_of a)) rest) refl)

length-head : (companding : Companding) (frames : ℕ) → length (head_of (format_of_companding companding) frames) ≡ 58
length-head MuLaw frames = refl
length-head ALaw frames = refl

length-pad : (size : ℕ) → length (pad_of size) ≡ size % 2
length-pad size = grind arith

frame_is_byte : (companding : Companding) → frame_bytes_of (format_of_companding companding) ≡ 1
frame_is_byte MuLaw = refl
frame_is_byte ALaw = refl

-- the file of these codes
pub written_is : (companding : Companding) (codes : List ℕ) → written (format_of_companding companding) codes ≡ head_of (format_of_companding companding) (length codes) ++ codes ++ pad_of (length codes)
written_is companding codes =
    ap (λ (n : ℕ). head_of (format_of_companding companding) n ++ codes ++ pad_of (length codes))
    (ap (λ (n : ℕ). length codes / n) (frame_is_byte companding) ∙ (let e : length codes / 1 ≡ length codes = omega arith in e))

length-written : (companding : Companding) (codes : List ℕ) → length (written (format_of_companding companding) codes) ≡ 58 + length codes + length codes % 2
length-written companding codes =
    ap length (written_is companding codes)
    ∙ (let e : length (head_of (format_of_companding companding) (length codes) ++ codes ++ pad_of (length codes)) ≡ 58 + length codes + length codes % 2 =
    omega (arith, length-append (head_of (format_of_companding companding) (length codes) ++ codes) (pad_of (length codes)), length-append (head_of (format_of_companding companding) (length codes)) codes, length-head companding (length codes), length-pad (length codes)) in e)

-- what a survey found, and what the list is unpacked to
pub record Found (codes : ℕ → List ℕ) (found : Companding × Unpacked) (answer : Result Unpacking RtpFault) : Type 0 where
  pub unpacking : Unpacking
  pub is : answer ≡ Ok unpacking
  pub companding : unpacking.companding ≡ found.0
  pub counts : unpacked_counts (Ok unpacking) ≡ Ok found.1
  pub codes_are : unpacking.codes ≡ codes (silence_of found.0)
  pub frames : found.1.frames ≡ length unpacking.codes

abbrev pub Agrees : (ℕ → List ℕ) → Result (Companding × Unpacked) RtpFault → Result Unpacking RtpFault → Type 0
Agrees codes (Err fault) answer = answer ≡ Err fault
Agrees codes (Ok found) answer = Found codes found answer

by_length : (long : Bool) (codes : ℕ → List ℕ) (found : Companding × Unpacked) (u : Unpacking) → u.companding ≡ found.0 → unpacked_counts (Ok u) ≡ Ok found.1 → u.codes ≡ codes (silence_of found.0) → found.1.frames ≡ length u.codes → Agrees codes (if long then Err TooLong else Ok found) (if long then Err TooLong else Ok u)
by_length true codes found u companding counts are frames = refl
by_length false codes found u companding counts are frames = record { unpacking = u; is = refl; companding = companding; counts = counts; codes_are = are; frames = frames }

found_is : (frames1 frames2 bytes1 bytes2 packets accepted late repeated skipped1 skipped2 : ℕ) → frames1 ≡ frames2 → bytes1 ≡ bytes2 → skipped1 ≡ skipped2 → ◌≡◌ {A = Result Unpacked RtpFault} (Ok (record { frames = frames1; bytes = bytes1; packets = packets; accepted = accepted; late = late; repeated = repeated; skipped = skipped1 })) (Ok (record { frames = frames2; bytes = bytes2; packets = packets; accepted = accepted; late = late; repeated = repeated; skipped = skipped2 }))
found_is frames1 frames2 bytes1 bytes2 packets accepted late repeated skipped1 skipped2 f b s =
    ap (λ (n : ℕ). Ok (record { frames = n; bytes = bytes1; packets = packets; accepted = accepted; late = late; repeated = repeated; skipped = skipped1 })) f
    ∙ ap (λ (n : ℕ). Ok (record { frames = frames2; bytes = n; packets = packets; accepted = accepted; late = late; repeated = repeated; skipped = skipped1 })) b
    ∙ ap (λ (n : ℕ). Ok (record { frames = frames2; bytes = bytes2; packets = packets; accepted = accepted; late = late; repeated = repeated; skipped = n })) s

agrees : (list : List Packet) (n : ℕ) → Agrees (λ s. codes_from s None (course_by list n).line.line) (survey_course (course_by list n)) (if_any list (unpacking_by (companding_of_first list) n (length list) (taken_of list)))
agrees [] n = refl
agrees (first ∷ rest) n =
    let list = first ∷ rest in
    let taken = taken_of list in
    let codes = codes_from (silence_of first.companding) None (sorted taken.accepted) in
    let frames = length (codes_from 0 None (sorted taken.accepted)) in
    let same : frames ≡ length codes = length-codes 0 (silence_of first.companding) None (sorted taken.accepted) in
    let all = counted list (before_first first.sequence) in
    let u = unpacking_by first.companding n (length list) taken in
    let found : Companding × Unpacked = (first.companding, record { frames = frames; bytes = 58 + frames + frames % 2; packets = n; accepted = length taken.accepted; late = taken.late; repeated = taken.repeated; skipped = n - (length taken.accepted + taken.late + taken.repeated) }) in
    let bytes : length (wav_of (Ok u)) ≡ 58 + frames + frames % 2 = length-written first.companding codes ∙ ap (λ (k : ℕ). 58 + k + k % 2) (sym same) in
    let skipped : n - length list ≡ n - (length taken.accepted + taken.late + taken.repeated) = omega (arith, all) in
    let step = by_length (nat_lt most_codes frames) (λ s. codes_from s None (sorted taken.accepted)) found u refl (found_is (length codes) frames (length (wav_of (Ok u))) (58 + frames + frames % 2) n (length taken.accepted) taken.late taken.repeated (n - length list) (n - (length taken.accepted + taken.late + taken.repeated)) (sym same) bytes skipped) refl same in
    subst (λ (k : ℕ). Agrees (λ s. codes_from s None (sorted taken.accepted)) (if nat_lt most_codes frames then Err TooLong else Ok found) (if nat_lt most_codes k then Err TooLong else Ok u)) same step

pub survey_agrees : (rest : List ℕ) → Agrees (λ s. whole_codes s rest) (survey_of rest) (unpacked_records (records_in rest))
unfolding unpacking_of whole_course
survey_agrees rest =
    subst (λ (c : Course). Agrees (λ s. codes_from s None c.line.line) (survey_course c) (unpacked_records (records_in rest)))
    (sym (run-whole (records_in rest))) (agrees (arrivals (records_in rest)) (length (records_in rest)))

too_long_if : (long : Bool) (found : Result (Companding × Unpacked) RtpFault) → long ≡ true → (if long then Err TooLong else found) ≡ Err TooLong
too_long_if true found is = refl
too_long_if false found is = absurd (cc is)

-- a list that gives codes has an arrival
too_long : (list : List Packet) (n : ℕ) → most_codes < length (codes_from 0 None (course_by list n).line.line) → survey_course (course_by list n) ≡ Err TooLong
too_long [] n long = absurd (omega (arith, long))
too_long (first ∷ rest) n long =
    let course = course_by (first ∷ rest) n in
    let frames = length (codes_from 0 None course.line.line) in
    too_long_if (nat_lt most_codes frames) (Ok (first.companding, record { frames = frames; bytes = 58 + frames + frames % 2; packets = n; accepted = course.line.accepted; late = course.line.late; repeated = course.line.repeated; skipped = n - (course.line.accepted + course.line.late + course.line.repeated) }))
    (let e : nat_lt most_codes frames ≡ true = grind (arith, long) in e)

pub survey_long : (rest : List ℕ) → most_codes < length (whole_codes 0 rest) → Err TooLong ≡ survey_of rest
unfolding whole_course
survey_long rest long =
    let run = run-whole (records_in rest) in
    sym (ap survey_course run
    ∙ too_long (arrivals (records_in rest)) (length (records_in rest)) (subst (λ (c : Course). most_codes < length (codes_from 0 None c.line.line)) run long))

-- what is found when an unpacker has taken the whole list
pub survey_whole : (rest : List ℕ) (u : Unpacker) (frames : ℕ) (r : Result (Companding × Unpacked) RtpFault) → r ≡ survey_by u.stream (counts_in (course_of u)) frames → counts_in (whole_course rest) ≡ counts_in (course_of u) → length (whole_codes 0 rest) ≡ frames → r ≡ survey_of rest
survey_whole rest u frames r is counts long =
    is ∙ sym (ap (λ (k : Counts). survey_by k.stream k (length (whole_codes 0 rest))) counts ∙ ap (survey_by u.stream (counts_in (course_of u))) long)

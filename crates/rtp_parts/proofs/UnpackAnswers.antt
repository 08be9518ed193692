-- What `unpack` answers, by what its parts found.
use Rattle.std.proofs.Common.{◌≡◌, ℕ, ◌+◌, ◌<◌, ◌≤◌, nat_lt, not, if◌then◌else◌, true, false, Bool, List, length, take, drop, bytes_eq, Decides, Option, Some, None, Result, Ok, Err, IfErr, refl, sym, ap, subst, ◌∙◌, arith}
use Rattle.std.proofs.lemmas.List.{length-take}
use Rattle.std.proofs.lemmas.Slice.Eq.{bytes_eq-Decides}
use Rattle.std.specs.Io.KnownBytes.{append_known}
use Rattle.outside_io.specs.Asking.{AsksWithin}
use Rattle.outside_io.specs.Moves.{AppendsFront}
use Rattle.outside_io.specs.Stops.{StopsBefore}
use Rattle.outside_io.specs.declared.moving.ReadStop.{ReadStop}
use Rattle.outside_io.specs.declared.moving.ReadStop.TheVariants.{Failed, Short as Stopped}
use Rattle.outside_io.proofs.Asked.{asks-none}
use Rattle.outside_io.proofs.Known.{append_known-nil}
use Rattle.omx_types.specs.declared.fault.WavFault.TheVariants.{TooLarge}
use Rattle.wav_form.specs.Reading.{most_bytes}
use Rattle.part_forms.specs.Writing.{written}
use Rattle.g711_law.specs.declared.companding.Companding.{Companding}
use Rattle.rtp_parts.specs.declared.fault.RtpFault.{RtpFault}
use Rattle.rtp_parts.specs.declared.fault.RtpFault.TheVariants.{Head, Read, Write, Short, WrongFormat, NotPackets, NoPackets, TooLong, OutOfMemory}
use Rattle.rtp_parts.specs.declared.unpacker.Stream.{Stream}
use Rattle.rtp_parts.specs.declared.unpacking.Unpacked.{Unpacked}
use Rattle.rtp_parts.specs.Packets.{silence_of, format_of_companding}
use Rattle.rtp_parts.specs.Packing.{magic}
use Rattle.rtp_parts.specs.Arrivals.{records_in}
use Rattle.rtp_parts.specs.Unpacking.{most_codes, unpacked, unpacked_records, wav_of}
use Rattle.rtp_parts.specs.Answers.{IfShort, UnlessStopped, fault_of_stop, unpacked_counts}
use Rattle.rtp_parts.specs.Ends.{EndsUnpacking}
use Rattle.rtp_parts.specs.Steps.{Counts, whole_codes, survey_by, survey_of, StopsMoving}
use Rattle.rtp_parts.proofs.Survey.{Agrees, Found, survey_agrees}

-- a seek asks for nothing
pub asks_sought : (old new : Option ℕ) → new ≡ old → AsksWithin old new 8
asks_sought old new same = subst (λ (asked : Option ℕ). AsksWithin old asked 8) (sym same) (asks-none old 8)

-- and then a read of the first 8 bytes
pub asks_first : (old mid new : Option ℕ) (offset count : ℕ) → mid ≡ old → offset ≡ 0 → count ≡ 8 → AsksWithin mid new (offset + count) → AsksWithin old new 8
asks_first old mid new offset count same start long within =
    subst (λ (end : ℕ). AsksWithin old new end) (let e : offset + count ≡ 8 = omega arith in e) (subst (λ (asked : Option ℕ). AsksWithin asked new (offset + count)) same within)

pub too_large_is : (bytes : List ℕ) → most_bytes < length bytes → unpacked bytes ≡ Err (Head (TooLarge (length bytes)))
unfolding unpacked
too_large_is bytes large = ap (λ (t : Bool). if t then Err (Head (TooLarge (length bytes))) else (if not (bytes_eq (take 8 bytes) magic) then Err NotPackets else unpacked_records (records_in (drop 8 bytes)))) (let e : nat_lt most_bytes (length bytes) ≡ true = grind (arith, large) in e)

pub other_is : (bytes : List ℕ) → length bytes ≤ most_bytes → bytes_eq (take 8 bytes) magic ≡ false → unpacked bytes ≡ Err NotPackets
unfolding unpacked
other_is bytes small other =
    ap (λ (t : Bool). if t then Err (Head (TooLarge (length bytes))) else (if not (bytes_eq (take 8 bytes) magic) then Err NotPackets else unpacked_records (records_in (drop 8 bytes)))) (let e : nat_lt most_bytes (length bytes) ≡ false = grind (arith, small) in e)
    ∙ ap (λ (t : Bool). if not t then Err NotPackets else unpacked_records (records_in (drop 8 bytes))) other

pub unpacked_is : (bytes : List ℕ) → length bytes ≤ most_bytes → bytes_eq (take 8 bytes) magic ≡ true → unpacked bytes ≡ unpacked_records (records_in (drop 8 bytes))
unfolding unpacked
unpacked_is bytes small begins =
    ap (λ (t : Bool). if t then Err (Head (TooLarge (length bytes))) else (if not (bytes_eq (take 8 bytes) magic) then Err NotPackets else unpacked_records (records_in (drop 8 bytes)))) (let e : nat_lt most_bytes (length bytes) ≡ false = grind (arith, small) in e)
    ∙ ap (λ (t : Bool). if not t then Err NotPackets else unpacked_records (records_in (drop 8 bytes))) begins

fault_of_survey : (bytes : List ℕ) (fault : RtpFault) → unpacked bytes ≡ unpacked_records (records_in (drop 8 bytes)) → Err fault ≡ survey_of (drop 8 bytes) → Err fault ≡ unpacked_counts (unpacked bytes)
fault_of_survey bytes fault begins is =
    let answer : unpacked_records (records_in (drop 8 bytes)) ≡ Err fault =
    subst (λ (s : Result (Companding × Unpacked) RtpFault). Agrees (λ s. whole_codes s (drop 8 bytes)) s (unpacked_records (records_in (drop 8 bytes)))) (sym is) (survey_agrees (drop 8 bytes)) in
    sym (ap unpacked_counts (begins ∙ answer))

pub survey_failed : (bytes : List ℕ) (fault : RtpFault) → unpacked bytes ≡ unpacked_records (records_in (drop 8 bytes)) → UnlessStopped {A = Companding × Unpacked} (Err fault) (λ r. r ≡ survey_of (drop 8 bytes)) → UnlessStopped {A = Unpacked} (Err fault) (λ r. r ≡ unpacked_counts (unpacked bytes))
survey_failed bytes (Head f) begins is = fault_of_survey bytes (Head f) begins is
survey_failed bytes WrongFormat begins is = fault_of_survey bytes WrongFormat begins is
survey_failed bytes NotPackets begins is = fault_of_survey bytes NotPackets begins is
survey_failed bytes NoPackets begins is = fault_of_survey bytes NoPackets begins is
survey_failed bytes TooLong begins is = fault_of_survey bytes TooLong begins is
survey_failed bytes Read begins is = tt
survey_failed bytes Write begins is = tt
survey_failed bytes (Short at size) begins is = tt
survey_failed bytes OutOfMemory begins is = tt

pub survey_found : (bytes : List ℕ) (found : Companding × Unpacked) → unpacked bytes ≡ unpacked_records (records_in (drop 8 bytes)) → Ok found ≡ survey_of (drop 8 bytes) → Found (λ s. whole_codes s (drop 8 bytes)) found (unpacked bytes)
survey_found bytes found begins is =
    subst (Found (λ s. whole_codes s (drop 8 bytes)) found) (sym begins)
    (subst (λ (s : Result (Companding × Unpacked) RtpFault). Agrees (λ s. whole_codes s (drop 8 bytes)) s (unpacked_records (records_in (drop 8 bytes)))) (sym is) (survey_agrees (drop 8 bytes)))

-- the file of what was found
pub wav_is : (bytes : List ℕ) (companding : Companding) (counts : Unpacked) → Found (λ s. whole_codes s (drop 8 bytes)) (companding, counts) (unpacked bytes) → wav_of (unpacked bytes) ≡ written (format_of_companding companding) (whole_codes (silence_of companding) (drop 8 bytes))
wav_is bytes companding counts found =
    ap wav_of found.is
    ∙ ap (λ (l : Companding). written (format_of_companding l) found.unpacking.codes) found.companding
    ∙ ap (written (format_of_companding companding)) found.codes_are

pub counts_found : (bytes : List ℕ) (companding : Companding) (counts : Unpacked) → Found (λ s. whole_codes s (drop 8 bytes)) (companding, counts) (unpacked bytes) → Ok counts ≡ unpacked_counts (unpacked bytes)
counts_found bytes companding counts found = sym found.counts ∙ ap unpacked_counts (sym found.is)

pub frames_found : (bytes : List ℕ) (companding : Companding) (counts : Unpacked) → Found (λ s. whole_codes s (drop 8 bytes)) (companding, counts) (unpacked bytes) → counts.frames ≡ length (whole_codes (silence_of companding) (drop 8 bytes))
frames_found bytes companding counts found = found.frames ∙ ap length found.codes_are

unequal : (xs ys : List ℕ) → (xs ≡ ys → ⊥) → bytes_eq xs ys ≡ false
unequal xs ys other =
    elim (bytes_eq xs ys) as (λ (b : Bool). Decides b (xs ≡ ys) → b ≡ false) [
      | true ↦ λ d. absurd (other (d.0 refl))
      | false ↦ λ d. refl
    ] (bytes_eq-Decides xs ys)

pub too_few : (bytes : List ℕ) → length bytes < 8 → bytes_eq (take 8 bytes) magic ≡ false
too_few bytes few =
    unequal (take 8 bytes) magic (λ is. let long : length (take 8 bytes) ≡ 8 = ap length is in absurd (omega (arith, few, long, length-take 8 bytes)))

pub begins_so : (bytes : List ℕ) → take 8 bytes ≡ magic → bytes_eq (take 8 bytes) magic ≡ true
begins_so bytes is = (bytes_eq-Decides (take 8 bytes) magic).1 is

-- what holds of an answer holds unless it is a stop
pub unless_stopped : {A : Type 0} (r : Result A RtpFault) (P : Result A RtpFault → Type 0) → P r → UnlessStopped r P
unless_stopped (Ok a) P p = p
unless_stopped (Err (Head fault)) P p = p
unless_stopped (Err WrongFormat) P p = p
unless_stopped (Err NotPackets) P p = p
unless_stopped (Err NoPackets) P p = p
unless_stopped (Err TooLong) P p = p
unless_stopped (Err Read) P p = tt
unless_stopped (Err Write) P p = tt
unless_stopped (Err (Short at size)) P p = tt
unless_stopped (Err OutOfMemory) P p = tt

ends_by : (size : ℕ) (ends : Option ℕ) (read mid now write write_now : ℕ) (fault : RtpFault) → mid ≡ read → write_now ≡ write → EndsUnpacking size ends mid now 0 0 fault → EndsUnpacking size ends read now write write_now fault
ends_by size ends read mid now write write_now (Head fault) same unwritten stop = (stop.0, stop.1, stop.2 ∙ same)
ends_by size ends read mid now write write_now Read same unwritten stop = omega (arith, same, stop)
ends_by size ends read mid now write write_now Write same unwritten stop = absurd (omega (arith, stop.0))
ends_by size ends read mid now write write_now (Short at told_size) same unwritten stop = (stop.0, stop.1 ∙ same, unwritten)
ends_by size ends read mid now write write_now WrongFormat same unwritten stop = stop
ends_by size ends read mid now write write_now NotPackets same unwritten stop = stop ∙ same
ends_by size ends read mid now write write_now NoPackets same unwritten stop = stop ∙ same
ends_by size ends read mid now write write_now TooLong same unwritten stop = stop ∙ same
ends_by size ends read mid now write write_now OutOfMemory same unwritten stop = tt

-- what ended a reading ended the whole, before anything was written
pub ends_later : (size size1 : ℕ) (ends ends1 : Option ℕ) (read mid now write write_now : ℕ) (fault : RtpFault) → size1 ≡ size → ends1 ≡ ends → mid ≡ read → write_now ≡ write → EndsUnpacking size1 ends1 mid now 0 0 fault → EndsUnpacking size ends read now write write_now fault
ends_later size size1 ends ends1 read mid now write write_now fault same_size same_ends same unwritten stop =
    ends_by size ends read mid now write write_now fault same unwritten
    (subst (λ (e : Option ℕ). EndsUnpacking size e mid now 0 0 fault) same_ends (subst (λ (s : ℕ). EndsUnpacking s ends1 mid now 0 0 fault) same_size stop))

found_ends : (size : ℕ) (ends : Option ℕ) (read now : ℕ) (r : Result (Companding × Unpacked) RtpFault) (long : Bool) (found : Companding × Unpacked) → r ≡ (if long then Err TooLong else Ok found) → now ≡ read → IfErr r (EndsUnpacking size ends read now 0 0)
found_ends size ends read now r true found is same = subst (λ (s : Result (Companding × Unpacked) RtpFault). IfErr s (EndsUnpacking size ends read now 0 0)) (sym is) same
found_ends size ends read now r false found is same = subst (λ (s : Result (Companding × Unpacked) RtpFault). IfErr s (EndsUnpacking size ends read now 0 0)) (sym is) tt

-- what is found in a whole list is at fault only by its bytes
pub survey_ends : (size : ℕ) (ends : Option ℕ) (read now : ℕ) (stream : Option Stream) (counts : Counts) (frames : ℕ) (r : Result (Companding × Unpacked) RtpFault) → r ≡ survey_by stream counts frames → now ≡ read → IfErr r (EndsUnpacking size ends read now 0 0)
survey_ends size ends read now None counts frames r is same = subst (λ (s : Result (Companding × Unpacked) RtpFault). IfErr s (EndsUnpacking size ends read now 0 0)) (sym is) same
survey_ends size ends read now (Some stream) counts frames r is same = found_ends size ends read now r (nat_lt most_codes frames) _ is same

moving_by : (size : ℕ) (ends : Option ℕ) (read mid now write write_now : ℕ) (fault : RtpFault) → mid ≡ read → StopsMoving size ends mid now write write_now fault → EndsUnpacking size ends read now write write_now fault
moving_by size ends read mid now write write_now (Head fault) same stop = absurd stop
moving_by size ends read mid now write write_now Read same stop = omega (arith, same, stop)
moving_by size ends read mid now write write_now Write same stop = (stop.0, stop.1 ∙ same)
moving_by size ends read mid now write write_now (Short at told_size) same stop = (stop.0, stop.1 ∙ same, stop.2)
moving_by size ends read mid now write write_now WrongFormat same stop = stop
moving_by size ends read mid now write write_now NotPackets same stop = absurd stop
moving_by size ends read mid now write write_now NoPackets same stop = absurd stop
moving_by size ends read mid now write write_now TooLong same stop = absurd stop
moving_by size ends read mid now write write_now OutOfMemory same stop = tt

-- and so did what ended the writing
pub moving_ends : (size size1 : ℕ) (ends ends1 : Option ℕ) (read mid now write write_now : ℕ) (fault : RtpFault) → size1 ≡ size → ends1 ≡ ends → mid ≡ read → StopsMoving size1 ends1 mid now write write_now fault → EndsUnpacking size ends read now write write_now fault
moving_ends size size1 ends ends1 read mid now write write_now fault same_size same_ends same stop =
    moving_by size ends read mid now write write_now fault same
    (subst (λ (e : Option ℕ). StopsMoving size e mid now write write_now fault) same_ends (subst (λ (s : ℕ). StopsMoving s ends1 mid now write write_now fault) same_size stop))

pub moving_unless : {A : Type 0} (size : ℕ) (ends : Option ℕ) (read now write write_now : ℕ) (fault : RtpFault) (P : Result A RtpFault → Type 0) → StopsMoving size ends read now write write_now fault → UnlessStopped (Err fault) P
moving_unless size ends read now write write_now (Head fault) P stop = absurd stop
moving_unless size ends read now write write_now WrongFormat P stop = absurd stop
moving_unless size ends read now write write_now NotPackets P stop = absurd stop
moving_unless size ends read now write write_now NoPackets P stop = absurd stop
moving_unless size ends read now write write_now TooLong P stop = absurd stop
moving_unless size ends read now write write_now Read P stop = tt
moving_unless size ends read now write write_now Write P stop = tt
moving_unless size ends read now write write_now (Short at told_size) P stop = tt
moving_unless size ends read now write write_now OutOfMemory P stop = tt

stopped_by : (end : ℕ) (stop : ReadStop) → StopsBefore end stop → IfShort (fault_of_stop stop) (λ at told_size. at < end)
stopped_by end Failed before = tt
stopped_by end (Stopped at told_size) before = before

-- what was not read whole ended before its end
pub stopped_before : (end to : ℕ) (stop : ReadStop) (answer : RtpFault) → end ≡ to → answer ≡ fault_of_stop stop → StopsBefore end stop → IfShort answer (λ at told_size. at < to)
stopped_before end to stop answer same is before =
    subst (λ (f : RtpFault). IfShort f (λ at told_size. at < to)) (sym is) (stopped_by to stop (subst (λ (n : ℕ). StopsBefore n stop) same before))

-- what is no file of packets
pub magic_failed : (bytes : List ℕ) (fault : RtpFault) → UnlessStopped {A = Unit {0}} (Err fault) (λ r. IfErr r (λ (f : RtpFault). unpacked bytes ≡ Err f)) → UnlessStopped {A = Unpacked} (Err fault) (λ r. r ≡ unpacked_counts (unpacked bytes))
magic_failed bytes (Head f) is = sym (ap unpacked_counts is)
magic_failed bytes WrongFormat is = sym (ap unpacked_counts is)
magic_failed bytes NotPackets is = sym (ap unpacked_counts is)
magic_failed bytes NoPackets is = sym (ap unpacked_counts is)
magic_failed bytes TooLong is = sym (ap unpacked_counts is)
magic_failed bytes Read is = tt
magic_failed bytes Write is = tt
magic_failed bytes (Short at size) is = tt
magic_failed bytes OutOfMemory is = tt

-- a list that begins as it should is unpacked by its records
pub begun : (bytes : List ℕ) → (take 8 bytes ≡ magic) × (length bytes ≤ most_bytes) → unpacked bytes ≡ unpacked_records (records_in (drop 8 bytes))
begun bytes (begins, small) = unpacked_is bytes small (begins_so bytes begins)

-- what was found in such a list, from the place where it begins
pub found_at : (bytes : List ℕ) (found : Companding × Unpacked) (place : ℕ) → (take 8 bytes ≡ magic) × (length bytes ≤ most_bytes) → place ≡ 8 → Ok found ≡ survey_of (drop place bytes) → Found (λ s. whole_codes s (drop 8 bytes)) found (unpacked bytes)
found_at bytes found place begins at is =
    survey_found bytes found (begun bytes begins) (subst (λ (n : ℕ). ◌≡◌ {A = Result (Companding × Unpacked) RtpFault} (Ok found) (survey_of (drop n bytes))) at is)

pub failed_at : (bytes : List ℕ) (fault : RtpFault) (place : ℕ) → (take 8 bytes ≡ magic) × (length bytes ≤ most_bytes) → place ≡ 8 → UnlessStopped {A = Companding × Unpacked} (Err fault) (λ r. r ≡ survey_of (drop place bytes)) → UnlessStopped {A = Unpacked} (Err fault) (λ r. r ≡ unpacked_counts (unpacked bytes))
failed_at bytes fault place begins at is =
    survey_failed bytes fault (begun bytes begins) (subst (λ (n : ℕ). UnlessStopped {A = Companding × Unpacked} (Err fault) (λ r. r ≡ survey_of (drop n bytes))) at is)

pub front-none : (known : Option (List ℕ)) (whole : List ℕ) → AppendsFront known known whole
front-none known whole = (0, omega arith, sym (append_known-nil known))

-- what was written is the file of what was found
pub wav_sent : (bytes : List ℕ) (companding : Companding) (counts : Unpacked) (place : ℕ) (known new : Option (List ℕ)) → Found (λ s. whole_codes s (drop 8 bytes)) (companding, counts) (unpacked bytes) → place ≡ 8 → (counts.frames ≡ length (whole_codes (silence_of companding) (drop place bytes)) → new ≡ append_known known (written (format_of_companding companding) (whole_codes (silence_of companding) (drop place bytes)))) → new ≡ append_known known (wav_of (unpacked bytes))
wav_sent bytes companding counts place known new found at sent =
    let same : whole_codes (silence_of companding) (drop place bytes) ≡ whole_codes (silence_of companding) (drop 8 bytes) = ap (λ (n : ℕ). whole_codes (silence_of companding) (drop n bytes)) at in
    sent (frames_found bytes companding counts found ∙ ap length (sym same))
    ∙ ap (λ (codes : List ℕ). append_known known (written (format_of_companding companding) codes)) same
    ∙ ap (append_known known) (sym (wav_is bytes companding counts found))

pub wav_front : (bytes : List ℕ) (companding : Companding) (counts : Unpacked) (place : ℕ) (known new : Option (List ℕ)) → Found (λ s. whole_codes s (drop 8 bytes)) (companding, counts) (unpacked bytes) → place ≡ 8 → (counts.frames ≡ length (whole_codes (silence_of companding) (drop place bytes)) → AppendsFront known new (written (format_of_companding companding) (whole_codes (silence_of companding) (drop place bytes)))) → AppendsFront known new (wav_of (unpacked bytes))
wav_front bytes companding counts place known new found at sent =
    let same : whole_codes (silence_of companding) (drop place bytes) ≡ whole_codes (silence_of companding) (drop 8 bytes) = ap (λ (n : ℕ). whole_codes (silence_of companding) (drop n bytes)) at in
    subst (AppendsFront known new) (ap (written (format_of_companding companding)) same ∙ sym (wav_is bytes companding counts found))
    (sent (frames_found bytes companding counts found ∙ ap length (sym same)))

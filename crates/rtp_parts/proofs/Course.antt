-- The run of a list by its records, and the run that sorts the whole list.
use Rattle.std.proofs.Common.{◌≡◌, ℕ, suc, ◌+◌, ◌<◌, ◌≤◌, nat_le, max, ◌==◌, ◌||◌, if◌then◌else◌, true, false, Bool, List, [], ◌∷◌, ◌++◌, length, filter, refl, sym, ap, ◌∙◌, arith, Option, Some, None}
use Rattle.std.specs.Option.{option_to_list}
use Rattle.rtp_parts.specs.declared.unpacker.Stream.{Stream}
use Rattle.rtp_parts.specs.Packets.{Packet}
use Rattle.rtp_parts.specs.Arrivals.{packet_of_record, well_formed, is_of_stream, of_first_stream, arrivals}
use Rattle.rtp_parts.specs.Sorting.{Numbered, has_number, placed, sorted, nearest, Taken, judged, with_arrival, with_arrivals, before_first, taken_of}
use Rattle.rtp_parts.specs.Steps.{Line, line_kept, line_judged, line_step, with_first, Course, stream_of, with_packet, with_records, start_line}
use Rattle.rtp_parts.proofs.SortedNumbers.{placed-later}

swap_tests : (a b c : Bool) → (a || (b || c)) ≡ (b || (a || c))
swap_tests true true c = refl
swap_tests true false c = refl
swap_tests false true c = refl
swap_tests false false c = refl

-- a test of a number finds it wherever it was placed
has-placed : (n : ℕ) (a : Numbered) (list : List Numbered) → has_number n (placed a list) ≡ ((a.number == n) || has_number n list)
has-placed n a [] = refl
has-placed n a (b ∷ rest) =
    let later = ap (λ (t : Bool). (b.number == n) || t) (has-placed n a rest) ∙ swap_tests (b.number == n) (a.number == n) (has_number n rest) in
    elim (nat_le a.number b.number) as (λ (t : Bool). has_number n (if t then a ∷ b ∷ rest else b ∷ placed a rest) ≡ ((a.number == n) || ((b.number == n) || has_number n rest))) [
      | true ↦ refl
      | false ↦ later
    ]

has-sorted : (n : ℕ) (list : List Numbered) → has_number n (sorted list) ≡ has_number n list
has-sorted n [] = refl
has-sorted n (a ∷ rest) = has-placed n a (sorted rest) ∙ ap (λ (t : Bool). (a.number == n) || t) (has-sorted n rest)

-- the line of what was taken
abbrev pub line_taken : Taken → Line
line_taken taken = record { greatest = taken.greatest; line = sorted taken.accepted; accepted = length taken.accepted; late = taken.late; repeated = taken.repeated }

-- the three answers of a judgement, by their tests
by_tests : (late known : Bool) (taken : Taken) (number : ℕ) (packet : Packet) → (if late then record (line_taken taken) { greatest = max taken.greatest number; late = taken.late + 1 } else (if known then record (line_taken taken) { greatest = max taken.greatest number; repeated = taken.repeated + 1 } else line_kept (line_taken taken) number packet.timestamp packet.payload))
    ≡ line_taken (if late then record taken { greatest = max taken.greatest number; late = taken.late + 1 } else (if known then record taken { greatest = max taken.greatest number; repeated = taken.repeated + 1 } else record taken { greatest = max taken.greatest number; accepted = record { number = number; timestamp = packet.timestamp; payload = packet.payload } ∷ taken.accepted }))
by_tests true known taken number packet = refl
by_tests false true taken number packet = refl
by_tests false false taken number packet =
    ap (λ (n : ℕ). record (line_kept (line_taken taken) number packet.timestamp packet.payload) { accepted = n }) (let e : length taken.accepted + 1 ≡ suc (length taken.accepted) = omega arith in e)

taken-judged : (taken : Taken) (number : ℕ) (packet : Packet) → line_judged (line_taken taken) number packet.timestamp packet.payload ≡ line_taken (judged taken number packet)
taken-judged taken number packet =
    ap (λ (known : Bool). if nat_le (number + 64) taken.greatest then record (line_taken taken) { greatest = max taken.greatest number; late = taken.late + 1 } else (if known then record (line_taken taken) { greatest = max taken.greatest number; repeated = taken.repeated + 1 } else line_kept (line_taken taken) number packet.timestamp packet.payload)) (has-sorted number taken.accepted)
    ∙ by_tests (nat_le (number + 64) taken.greatest) (has_number number taken.accepted) taken number packet

abbrev pub line_steps : Line → List Packet → Line
line_steps line [] = line
line_steps line (packet ∷ packets) = line_steps (line_step line packet.sequence packet.timestamp packet.payload) packets

steps-taken : (taken : Taken) (packets : List Packet) → line_steps (line_taken taken) packets ≡ line_taken (with_arrivals taken packets)
steps-taken taken [] = refl
steps-taken taken (packet ∷ packets) =
    ap (λ (line : Line). line_steps line packets) (taken-judged taken (nearest taken.greatest packet.sequence) packet)
    ∙ steps-taken (with_arrival taken packet) packets

-- the packets of the stream that are left
abbrev of_stream : Stream → List (Option (List ℕ)) → List Packet
of_stream stream records = filter (is_of_stream stream.companding stream.source) (well_formed records)

course_is : (stream : Option Stream) (line : Line) (m n : ℕ) → m ≡ n → ◌≡◌ {A = Course} (record { stream = stream; line = line; packets = m }) (record { stream = stream; line = line; packets = n })
course_is stream line m n e = ap (λ (k : ℕ). record { stream = stream; line = line; packets = k }) e

-- a run whose stream is known, by its first record
run-some_record : (stream : Stream) (line : Line) (packets : ℕ) (records : List (Option (List ℕ))) (packet : Option Packet) → ((l : Line) (p : ℕ) → with_records (record { stream = Some stream; line = l; packets = p }) records ≡ record { stream = Some stream; line = line_steps l (of_stream stream records); packets = p + length records }) → with_records (with_packet packet (record { stream = Some stream; line = line; packets = packets + 1 })) records ≡ record { stream = Some stream; line = line_steps line (filter (is_of_stream stream.companding stream.source) (option_to_list packet ++ well_formed records)); packets = packets + suc (length records) }
run-some_record stream line packets records None ih =
    ih line (packets + 1) ∙ course_is (Some stream) (line_steps line (of_stream stream records)) (packets + 1 + length records) (packets + suc (length records)) (omega arith)
run-some_record stream line packets records (Some packet) ih =
    let stepped = line_step line packet.sequence packet.timestamp packet.payload in
    let taken = ih stepped (packets + 1) ∙ course_is (Some stream) (line_steps stepped (of_stream stream records)) (packets + 1 + length records) (packets + suc (length records)) (omega arith) in
    let left = ih line (packets + 1) ∙ course_is (Some stream) (line_steps line (of_stream stream records)) (packets + 1 + length records) (packets + suc (length records)) (omega arith) in
    elim (is_of_stream stream.companding stream.source packet) as (λ (t : Bool). with_records (if t then record { stream = Some stream; line = stepped; packets = packets + 1 } else record { stream = Some stream; line = line; packets = packets + 1 }) records ≡ record { stream = Some stream; line = line_steps line (if t then packet ∷ of_stream stream records else of_stream stream records); packets = packets + suc (length records) }) [
      | true ↦ taken
      | false ↦ left
    ]

run-some : (stream : Stream) (records : List (Option (List ℕ))) (line : Line) (packets : ℕ) → with_records (record { stream = Some stream; line = line; packets = packets }) records ≡ record { stream = Some stream; line = line_steps line (of_stream stream records); packets = packets + length records }
run-some stream [] line packets = course_is (Some stream) line packets (packets + 0) (let e : packets ≡ packets + 0 = omega arith in e)
run-some stream (bytes ∷ records) line packets = run-some_record stream line packets records (packet_of_record bytes) (run-some stream records)

-- what a whole list comes to, by its arrivals
abbrev pub course_by : List Packet → ℕ → Course
course_by [] packets = record { stream = None; line = start_line; packets = packets }
course_by (first ∷ rest) packets = record { stream = Some (stream_of first); line = line_taken (taken_of (first ∷ rest)); packets = packets }

course_by_count : (list : List Packet) (m n : ℕ) → m ≡ n → course_by list m ≡ course_by list n
course_by_count list m n e = ap (course_by list) e

run-none_record : (packets : ℕ) (records : List (Option (List ℕ))) (packet : Option Packet) → ((p : ℕ) → with_records (record { stream = None; line = start_line; packets = p }) records ≡ course_by (arrivals records) (p + length records)) → with_records (with_packet packet (record { stream = None; line = start_line; packets = packets + 1 })) records ≡ course_by (of_first_stream (option_to_list packet ++ well_formed records)) (packets + suc (length records))
run-none_record packets records None ih = ih (packets + 1) ∙ course_by_count (arrivals records) (packets + 1 + length records) (packets + suc (length records)) (omega arith)
run-none_record packets records (Some packet) ih =
    let stream = stream_of packet in
    let first = before_first packet.sequence in
    let packet_line = line_step (line_taken first) packet.sequence packet.timestamp packet.payload in
    run-some stream records packet_line (packets + 1)
    ∙ course_is (Some stream) (line_steps packet_line (of_stream stream records)) (packets + 1 + length records) (packets + suc (length records)) (omega arith)
    ∙ ap (λ (l : Line). record { stream = Some stream; line = l; packets = packets + suc (length records) }) (steps-taken first (packet ∷ of_stream stream records))

run-none : (records : List (Option (List ℕ))) (packets : ℕ) → with_records (record { stream = None; line = start_line; packets = packets }) records ≡ course_by (arrivals records) (packets + length records)
run-none [] packets = course_by_count [] packets (packets + 0) (let e : packets ≡ packets + 0 = omega arith in e)
run-none (bytes ∷ records) packets = run-none_record packets records (packet_of_record bytes) (run-none records)

-- the run over a whole list is the whole list sorted
pub run-whole : (records : List (Option (List ℕ))) → with_records (record { stream = None; line = start_line; packets = 0 }) records ≡ course_by (arrivals records) (length records)
run-whole records = run-none records 0 ∙ course_by_count (arrivals records) (0 + length records) (length records) (omega arith)

-- each arrival is accepted, late or repeated
counted-tests : (late known : Bool) (taken : Taken) (number : ℕ) (packet : Packet) → (n : ℕ) → let next : Taken = if late then record taken { greatest = max taken.greatest number; late = taken.late + 1 } else (if known then record taken { greatest = max taken.greatest number; repeated = taken.repeated + 1 } else record taken { greatest = max taken.greatest number; accepted = record { number = number; timestamp = packet.timestamp; payload = packet.payload } ∷ taken.accepted }) in length next.accepted + next.late + next.repeated ≡ length taken.accepted + taken.late + taken.repeated + 1
counted-tests true known taken number packet n = omega arith
counted-tests false true taken number packet n = omega arith
counted-tests false false taken number packet n = omega arith

pub counted : (packets : List Packet) (taken : Taken) → let end = with_arrivals taken packets in length end.accepted + end.late + end.repeated ≡ length taken.accepted + taken.late + taken.repeated + length packets
counted [] taken = omega arith
counted (packet ∷ packets) taken =
    let number = nearest taken.greatest packet.sequence in
    let one = counted-tests (nat_le (number + 64) taken.greatest) (has_number number taken.accepted) taken number packet 0 in
    counted packets (with_arrival taken packet) ∙ (let e : length (with_arrival taken packet).accepted + (with_arrival taken packet).late + (with_arrival taken packet).repeated + length packets ≡ length taken.accepted + taken.late + taken.repeated + suc (length packets) = omega (arith, one) in e)

-- a packet whose number plus 64 isn't above the greatest one is before all that is accepted later
first_tests : (a : Numbered) (late known : Bool) (line : Line) (number timestamp : ℕ) (payload : List ℕ) → (late ≡ false → a.number < number) → (if late then record (with_first a line) { greatest = max line.greatest number; late = line.late + 1 } else (if known then record (with_first a line) { greatest = max line.greatest number; repeated = line.repeated + 1 } else line_kept (with_first a line) number timestamp payload)) ≡ with_first a (if late then record line { greatest = max line.greatest number; late = line.late + 1 } else (if known then record line { greatest = max line.greatest number; repeated = line.repeated + 1 } else line_kept line number timestamp payload))
first_tests a true known line number timestamp payload later = refl
first_tests a false true line number timestamp payload later = refl
first_tests a false false line number timestamp payload later =
    let b : Numbered = record { number = number; timestamp = timestamp; payload = payload } in
    ap (λ (l : List Numbered). record (line_kept line number timestamp payload) { line = l }) (placed-later b a line.line (later refl))

late_or_after : (a greatest number : ℕ) → a + 64 ≤ greatest → nat_le (number + 64) greatest ≡ false → a < number
late_or_after a greatest number due late = grind (arith, due, late)

first_unknown : (late : Bool) (a : Numbered) (line : Line) (number timestamp : ℕ) (payload : List ℕ) → (late ≡ false → a.number < number) → (if late then record (with_first a line) { greatest = max line.greatest number; late = line.late + 1 } else (if has_number number (a ∷ line.line) then record (with_first a line) { greatest = max line.greatest number; repeated = line.repeated + 1 } else line_kept (with_first a line) number timestamp payload)) ≡ (if late then record (with_first a line) { greatest = max line.greatest number; late = line.late + 1 } else (if has_number number line.line then record (with_first a line) { greatest = max line.greatest number; repeated = line.repeated + 1 } else line_kept (with_first a line) number timestamp payload))
first_unknown true a line number timestamp payload later = refl
first_unknown false a line number timestamp payload later =
    let lt : a.number < number = later refl in
    let other : (a.number == number) ≡ false = grind (arith, lt) in
    ap (λ (t : Bool). if t || has_number number line.line then record (with_first a line) { greatest = max line.greatest number; repeated = line.repeated + 1 } else line_kept (with_first a line) number timestamp payload) other

first-judged : (a : Numbered) (line : Line) (number timestamp : ℕ) (payload : List ℕ) → a.number + 64 ≤ line.greatest → line_judged (with_first a line) number timestamp payload ≡ with_first a (line_judged line number timestamp payload)
first-judged a line number timestamp payload due =
    let late = nat_le (number + 64) line.greatest in
    first_unknown late a line number timestamp payload (late_or_after a.number line.greatest number due)
    ∙ first_tests a late (has_number number line.line) line number timestamp payload (late_or_after a.number line.greatest number due)

greatest_tests : (late known : Bool) (line : Line) (number timestamp : ℕ) (payload : List ℕ) → line.greatest ≤ (if late then record line { greatest = max line.greatest number; late = line.late + 1 } else (if known then record line { greatest = max line.greatest number; repeated = line.repeated + 1 } else line_kept line number timestamp payload)).greatest
greatest_tests true known line number timestamp payload = omega arith
greatest_tests false true line number timestamp payload = omega arith
greatest_tests false false line number timestamp payload = omega arith

greatest-steps : (line : Line) (number timestamp : ℕ) (payload : List ℕ) → line.greatest ≤ (line_judged line number timestamp payload).greatest
greatest-steps line number timestamp payload = greatest_tests (nat_le (number + 64) line.greatest) (has_number number line.line) line number timestamp payload

first-steps : (a : Numbered) (packets : List Packet) (line : Line) → a.number + 64 ≤ line.greatest → line_steps (with_first a line) packets ≡ with_first a (line_steps line packets)
first-steps a [] line due = refl
first-steps a (packet ∷ packets) line due =
    let number = nearest line.greatest packet.sequence in
    let grows = greatest-steps line number packet.timestamp packet.payload in
    ap (λ (l : Line). line_steps l packets) (first-judged a line number packet.timestamp packet.payload due)
    ∙ first-steps a packets (line_step line packet.sequence packet.timestamp packet.payload) (omega (arith, due, grows))

-- so it may be given out before the rest is taken
pub run-first : (a : Numbered) (stream : Stream) (line : Line) (packets : ℕ) (records : List (Option (List ℕ))) → a.number + 64 ≤ line.greatest → with_records (record { stream = Some stream; line = with_first a line; packets = packets }) records ≡ (let rest = with_records (record { stream = Some stream; line = line; packets = packets }) records in record rest { line = with_first a rest.line })
run-first a stream line packets records due =
    run-some stream records (with_first a line) packets
    ∙ ap (λ (l : Line). record { stream = Some stream; line = l; packets = packets + length records }) (first-steps a (of_stream stream records) line due)
    ∙ sym (ap (λ (c : Course). record c { line = with_first a c.line }) (run-some stream records line packets))

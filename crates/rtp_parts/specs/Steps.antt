-- A list that is unpacked with a window: what is left of it at each step. Only the proofs' steps cite it: what a whole list is
-- unpacked to is `unpacking_of`.
use Rattle.std.specs.Prelude.{◌≡◌, ℕ, ◌+◌, ◌*◌, ◌-◌, ◌%◌, ◌<◌, ◌≤◌, max, nat_lt, nat_le, if◌then◌else◌, List, [], ◌∷◌, length, take, drop, map, Option, Some, None, Result, Ok, Err}
use Rattle.std.specs.VecDeque.{deque_len}
use Rattle.outside_io.specs.Causes.{Rose}
use Rattle.outside_io.specs.Stops.{GaveNothing}
use Rattle.g711_law.specs.declared.companding.Companding.{Companding}
use Rattle.rtp_parts.specs.declared.fault.RtpFault.{RtpFault}
use Rattle.rtp_parts.specs.declared.fault.RtpFault.TheVariants.{Read, Write, Short, NoPackets, TooLong, OutOfMemory}
use Rattle.rtp_parts.specs.declared.packet.Fields.{Fields}
use Rattle.rtp_parts.specs.declared.reading.Record.{Record}
use Rattle.rtp_parts.specs.declared.reading.Record.TheVariants.{Whole, Cut, End}
use Rattle.rtp_parts.specs.declared.unpacker.Stream.{Stream}
use Rattle.rtp_parts.specs.declared.unpacker.Unpacker.{Unpacker}
use Rattle.rtp_parts.specs.declared.unpacking.Unpacked.{Unpacked}
use Rattle.rtp_parts.specs.declared.window.Held.{Held}
use Rattle.rtp_parts.specs.declared.window.Window.{Window}
use Rattle.rtp_parts.specs.Packets.{Packet}
use Rattle.rtp_parts.specs.Arrivals.{records_in, packet_of_record, is_of_stream}
use Rattle.rtp_parts.specs.Sorting.{Numbered, has_number, placed, nearest, codes_from}
use Rattle.rtp_parts.specs.Unpacking.{most_codes}

-- the packet whose fields were read of these bytes
abbrev pub packet_read : List ℕ → Option Fields → Option Packet
packet_read bytes None = None
packet_read bytes (Some fields) = Some (record {
  companding = fields.companding;
  source = fields.source;
  sequence = fields.sequence;
  timestamp = fields.timestamp;
  payload = take (fields.«to» - fields.«from») (drop fields.«from» bytes);
})

abbrev pub numbered_of : Held → Numbered
numbered_of held = record { number = held.number; timestamp = held.timestamp; payload = held.payload.items }

-- what is accepted and not given out yet, by rising number
pub record Line : Type 0 where
  pub greatest : ℕ
  pub line : List Numbered
  pub accepted : ℕ
  pub late : ℕ
  pub repeated : ℕ

abbrev pub line_of : Window → Line
line_of window = record {
  greatest = window.greatest;
  line = map numbered_of window.held.items;
  accepted = window.accepted;
  late = window.late;
  repeated = window.repeated;
}

-- with an arrival of this number, which is kept at its place
abbrev pub line_kept : Line → (number timestamp : ℕ) → List ℕ → Line
line_kept line number timestamp payload = record line {
  greatest = max line.greatest number;
  line = placed (record { number = number; timestamp = timestamp; payload = payload }) line.line;
  accepted = line.accepted + 1;
}

abbrev pub line_judged : Line → (number timestamp : ℕ) → List ℕ → Line
line_judged line number timestamp payload =
    if nat_le (number + 64) line.greatest then record line { greatest = max line.greatest number; late = line.late + 1 }
    else (if has_number number line.line then record line { greatest = max line.greatest number; repeated = line.repeated + 1 }
    else line_kept line number timestamp payload)

abbrev pub line_step : Line → (sequence timestamp : ℕ) → List ℕ → Line
line_step line sequence timestamp payload = line_judged line (nearest line.greatest sequence) timestamp payload

abbrev pub with_first : Numbered → Line → Line
with_first a line = record line { line = a ∷ line.line }

-- the stream of a packet
abbrev pub stream_of : Packet → Stream
stream_of packet = record { companding = packet.companding; source = packet.source }

-- how far a list is unpacked
pub record Course : Type 0 where
  pub stream : Option Stream
  pub line : Line
  pub packets : ℕ

-- with a well-formed packet, by the stream so far
abbrev pub course_under : Option Stream → Course → Packet → Course
course_under None course packet = record course {
  stream = Some (stream_of packet);
  line = line_step (record course.line { greatest = 65536 + packet.sequence }) packet.sequence packet.timestamp packet.payload;
}
course_under (Some first) course packet =
    if is_of_stream first.companding first.source packet then record course { line = line_step course.line packet.sequence packet.timestamp packet.payload }
    else course

abbrev pub with_packet : Option Packet → Course → Course
with_packet None course = course
with_packet (Some packet) course = course_under course.stream course packet

abbrev pub with_record : Course → Option (List ℕ) → Course
with_record course bytes = with_packet (packet_of_record bytes) (record course { packets = course.packets + 1 })

abbrev pub with_records : Course → List (Option (List ℕ)) → Course
with_records course [] = course
with_records course (bytes ∷ records) = with_records (with_record course bytes) records

-- what an unpacker has done
abbrev pub course_of : Unpacker → Course
course_of unpacker = record { stream = unpacker.stream; line = line_of unpacker.window; packets = unpacker.packets }

-- what it will have done when the rest of the list is taken too
unfoldable pub course_left : Unpacker → List ℕ → Course
course_left unpacker rest = with_records (course_of unpacker) (if unpacker.ended then [] else records_in rest)

-- the codes that it has still to give
unfoldable pub codes_left : ℕ → Unpacker → List ℕ → List ℕ
codes_left silence unpacker rest = codes_from silence unpacker.end (course_left unpacker rest).line.line

-- what stays the same when codes are given
pub record Counts : Type 0 where
  pub stream : Option Stream
  pub packets : ℕ
  pub accepted : ℕ
  pub late : ℕ
  pub repeated : ℕ

abbrev pub counts_in : Course → Counts
counts_in course = record {
  stream = course.stream;
  packets = course.packets;
  accepted = course.line.accepted;
  late = course.line.late;
  repeated = course.line.repeated;
}

-- how many records can be left in so many bytes, with one at their end
abbrev pub room_left : Unpacker → ℕ → ℕ
room_left unpacker left = if unpacker.ended then 0 else left + 1

-- what stands at the front of a list, by what was read there into a buffer
abbrev pub RecordAt : (buffer before after : List ℕ) → Record → Type 0
RecordAt buffer before after (Whole len) = records_in before ≡ Some (take len buffer) ∷ records_in after
RecordAt buffer before after Cut = records_in before ≡ None ∷ []
RecordAt buffer before after End = records_in before ≡ []

-- how many bytes are left before and after it
abbrev pub RecordTakes : (before after : ℕ) → Record → Type 0
RecordTakes before after (Whole len) = (after + 2 ≤ before) × (len ≤ 65535)
RecordTakes before after Cut = 0 < before
RecordTakes before after End = Unit {0}

-- what ends the reading of a list
abbrev pub StopsReading : (size : ℕ) (ends : Option ℕ) (before now : ℕ) → RtpFault → Type 0
StopsReading size ends before now Read = Rose before now
StopsReading size ends before now (Short at told_size) = GaveNothing size ends 0 at told_size × (now ≡ before)
StopsReading size ends before now OutOfMemory = Unit {0}
StopsReading size ends before now _ = ⊥

-- a number that falls with each step of an unpacker
abbrev pub steps_left : Unpacker → ℕ → ℕ
steps_left unpacker left = 2 * room_left unpacker left + deque_len unpacker.window.held

-- nothing is taken yet
abbrev pub start_line : Line
start_line = record { greatest = 65536; line = []; accepted = 0; late = 0; repeated = 0 }

-- what a whole list comes to
unfoldable pub whole_course : List ℕ → Course
whole_course bytes = with_records (record { stream = None; line = start_line; packets = 0 }) (records_in bytes)

abbrev pub whole_codes : ℕ → List ℕ → List ℕ
whole_codes silence bytes = codes_from silence None (whole_course bytes).line.line

-- the companding and the counts of a list that has so many codes
abbrev pub survey_by : Option Stream → Counts → ℕ → Result (Companding × Unpacked) RtpFault
survey_by None counts frames = Err NoPackets
survey_by (Some stream) counts frames =
    if nat_lt most_codes frames then Err TooLong
    else Ok (
      stream.companding,
      record {
        frames = frames;
        bytes = 58 + frames + frames % 2;
        packets = counts.packets;
        accepted = counts.accepted;
        late = counts.late;
        repeated = counts.repeated;
        skipped = counts.packets - (counts.accepted + counts.late + counts.repeated);
      },
    )

abbrev pub survey_course : Course → Result (Companding × Unpacked) RtpFault
survey_course course = survey_by course.stream (counts_in course) (length (codes_from 0 None course.line.line))

abbrev pub survey_of : List ℕ → Result (Companding × Unpacked) RtpFault
survey_of bytes = survey_course (whole_course bytes)

-- what ends the writing of what a list is unpacked to
abbrev pub StopsMoving : (size : ℕ) (ends : Option ℕ) (read_before read_now write_before write_now : ℕ) → RtpFault → Type 0
StopsMoving size ends read_before read_now write_before write_now Read = Rose read_before read_now
StopsMoving size ends read_before read_now write_before write_now Write = Rose write_before write_now × (read_now ≡ read_before)
StopsMoving size ends read_before read_now write_before write_now (Short at told_size) =
    GaveNothing size ends 0 at told_size × (read_now ≡ read_before) × (write_now ≡ write_before)
StopsMoving size ends read_before read_now write_before write_now OutOfMemory = Unit {0}
StopsMoving size ends read_before read_now write_before write_now _ = ⊥

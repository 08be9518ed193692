-- Which arrivals are accepted, and what they give in the order of their numbers.
use Rattle.std.specs.Prelude.{◌≡◌, ◌≤◌, ℕ, ◌+◌, ◌-◌, ◌%◌, ◌^◌, max, Bool, ◌==◌, nat_le, if◌then◌else◌, List, [], ◌∷◌, ◌++◌, length, replicate, Option, Some, None}
use Rattle.std.specs.List.{list_any}
use Rattle.rtp_parts.specs.Packets.{Packet}

-- the number from `greatest` - 32,767 to `greatest` + 32,768 that equals the sequence number modulo 65,536
abbrev pub nearest : (greatest sequence : ℕ) → ℕ
nearest greatest sequence =
    let least = greatest - 32767 in
    least + (sequence + 65536 - least % 65536) % 65536

-- a number from `greatest` - 32,767 to `greatest` + 32,768 that equals the sequence number modulo 65,536
pub record IsNearest (greatest sequence number : ℕ) : Type 0 where
  pub low : greatest ≤ number + 32767
  pub high : number ≤ greatest + 32768
  pub same : number % 65536 ≡ sequence

pub record Numbered : Type 0 where
  pub number : ℕ
  pub timestamp : ℕ
  pub payload : List ℕ

pub record Taken : Type 0 where
  -- the greatest number of an arrival
  pub greatest : ℕ
  -- the latest first
  pub accepted : List Numbered
  pub late : ℕ
  pub repeated : ℕ

abbrev pub has_number : ℕ → List Numbered → Bool
has_number number accepted = list_any (λ (a : Numbered). a.number == number) accepted

-- An arrival is late where its number plus 64 isn't above the greatest one before. It is repeated where it isn't late and an
-- accepted one has its number. Else it is accepted.
abbrev pub judged : Taken → ℕ → Packet → Taken
judged taken number packet =
    if nat_le (number + 64) taken.greatest then record taken { greatest = max taken.greatest number; late = taken.late + 1 }
    else (if has_number number taken.accepted then record taken { greatest = max taken.greatest number; repeated = taken.repeated + 1 }
    else record taken {
      greatest = max taken.greatest number;
      accepted = record { number = number; timestamp = packet.timestamp; payload = packet.payload } ∷ taken.accepted;
    })

abbrev pub with_arrival : Taken → Packet → Taken
with_arrival taken packet = judged taken (nearest taken.greatest packet.sequence) packet

abbrev pub with_arrivals : Taken → List Packet → Taken
with_arrivals taken [] = taken
with_arrivals taken (packet ∷ packets) = with_arrivals (with_arrival taken packet) packets

-- nothing is taken yet, and the number 65,536 plus the first arrival's sequence number is the nearest
abbrev pub before_first : ℕ → Taken
before_first sequence = record { greatest = 65536 + sequence; accepted = []; late = 0; repeated = 0 }

abbrev pub taken_of : List Packet → Taken
taken_of [] = before_first 0
taken_of (first ∷ packets) = with_arrivals (before_first first.sequence) (first ∷ packets)

-- sorted by rising number
abbrev pub placed : Numbered → List Numbered → List Numbered
placed a [] = a ∷ []
placed a (b ∷ rest) = if nat_le a.number b.number then a ∷ b ∷ rest else b ∷ placed a rest

abbrev pub sorted : List Numbered → List Numbered
sorted [] = []
sorted (a ∷ rest) = placed a (sorted rest)

-- the time behind the last frame of a packet, in 32 bits
abbrev pub end_of : Numbered → ℕ
end_of a = (a.timestamp + length a.payload) % 2 ^ 32

-- the frames of silence between two packets: those from the end of the one to the timestamp of the other, in 32 bits, or none
-- where these are more than 80,000. Before the first packet there are none.
abbrev pub gap_before : Option ℕ → ℕ → ℕ
gap_before None timestamp = 0
gap_before (Some end) timestamp = let gap = (timestamp + 2 ^ 32 - end) % 2 ^ 32 in if nat_le gap 80000 then gap else 0

-- the codes of packets one after another, behind one that ended at `end`
abbrev pub codes_from : (silence : ℕ) → Option ℕ → List Numbered → List ℕ
codes_from silence end [] = []
codes_from silence end (a ∷ rest) =
    replicate (gap_before end a.timestamp) silence ++ a.payload ++ codes_from silence (Some (end_of a)) rest

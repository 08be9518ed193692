-- What `pack` answers, by what the head reads as.
use Rattle.std.proofs.Common.{◌≡◌, ℕ, ◌+◌, ◌*◌, ◌<◌, ◌≤◌, max, List, ◌++◌, length, take, drop, Option, Some, None, Result, Ok, Err, OnErr, inl, inr, refl, sym, ap, subst, ◌∙◌, arith, length-drop}
use Rattle.std.proofs.lemmas.List.{length-take}
use Rattle.std.specs.Io.KnownBytes.{append_known}
use Rattle.outside_io.specs.Moves.{AppendsFront, WhereTold}
use Rattle.outside_io.proofs.Known.{append_known-twice}
use Rattle.omx_types.specs.declared.fault.WavFault.{WavFault}
use Rattle.omx_types.specs.declared.fault.WavFault.TheVariants.{TooLarge, NotRiff, NoFormat, BadFormat, NoSamples, UnsupportedTag, Read as HeadRead, Short as HeadShort}
use Rattle.omx_types.specs.Formats.{frame_bytes_of}
use Rattle.wav_form.specs.declared.heads.WavHead.{WavHead}
use Rattle.wav_form.specs.Reading.{Reads, FitsFile}
use Rattle.wav_form.specs.Stops.{IfShort as IfHeadShort, StoppedShort, UnlessStopped as UnlessHeadStopped}
use Rattle.wav_form.proofs.Read.{same_answer}
use Rattle.g711_law.specs.declared.companding.Companding.{Companding}
use Rattle.rtp_parts.specs.declared.fault.RtpFault.{RtpFault}
use Rattle.rtp_parts.specs.declared.fault.RtpFault.TheVariants.{Head, Read, Write, Short, WrongFormat, NotPackets, NoPackets, TooLong, OutOfMemory}
use Rattle.rtp_parts.specs.declared.packing.Packed.{Packed}
use Rattle.rtp_parts.specs.Packets.{companding_of_format}
use Rattle.rtp_parts.specs.Packing.{magic, texts_of, packet_count}
use Rattle.rtp_parts.specs.Answers.{IfShort, UnlessStopped, StoppedPacking, IsStop, packing_of, packing_under, counts_of, packets_file, samples_of, fault_of_head}
use Rattle.rtp_parts.proofs.PackedTexts.{frame_byte, packed_is, front-first, front-then}

same_fault : (bytes : List ℕ) (fault : WavFault) (head : Result WavHead WavFault) → Reads bytes (Err fault) → Reads bytes head → Err (Head fault) ≡ counts_of (packing_of bytes head)
same_fault bytes fault head one other = ap (λ h. counts_of (packing_of bytes h)) (same_answer bytes (Err fault) head one other)

by_fault : (bytes : List ℕ) (fault : WavFault) (head : Result WavHead WavFault) → UnlessHeadStopped {A = WavHead} (Err fault) (Reads bytes) → Reads bytes head → UnlessStopped {A = Packed} (Err (fault_of_head fault)) (λ r. r ≡ counts_of (packing_of bytes head))
by_fault bytes (TooLarge size) head one other = same_fault bytes (TooLarge size) head one other
by_fault bytes NotRiff head one other = same_fault bytes NotRiff head one other
by_fault bytes NoFormat head one other = same_fault bytes NoFormat head one other
by_fault bytes BadFormat head one other = same_fault bytes BadFormat head one other
by_fault bytes NoSamples head one other = same_fault bytes NoSamples head one other
by_fault bytes (UnsupportedTag tag) head one other = same_fault bytes (UnsupportedTag tag) head one other
by_fault bytes HeadRead head one other = tt
by_fault bytes (HeadShort at size) head one other = tt

pub head_fault : (bytes : List ℕ) (fault : WavFault) (answer : RtpFault) (head : Result WavHead WavFault) → UnlessHeadStopped {A = WavHead} (Err fault) (Reads bytes) → Reads bytes head → answer ≡ fault_of_head fault → UnlessStopped {A = Packed} (Err answer) (λ r. r ≡ counts_of (packing_of bytes head))
head_fault bytes fault answer head one other is =
    subst (λ (f : RtpFault). UnlessStopped {A = Packed} (Err f) (λ r. r ≡ counts_of (packing_of bytes head))) (sym is) (by_fault bytes fault head one other)

pub wrong_format : (bytes : List ℕ) (h : WavHead) (head : Result WavHead WavFault) → Reads bytes (Ok h) → Reads bytes head → companding_of_format h.format ≡ None → Err WrongFormat ≡ counts_of (packing_of bytes head)
wrong_format bytes h head one other none =
    ap (λ (companding : Option Companding). counts_of (packing_under bytes h companding)) (sym none) ∙ ap (λ r. counts_of (packing_of bytes r)) (same_answer bytes (Ok h) head one other)

pub packing_is : (bytes : List ℕ) (h : WavHead) (head : Result WavHead WavFault) (companding : Companding) → Reads bytes (Ok h) → Reads bytes head → companding_of_format h.format ≡ Some companding → packing_of bytes head ≡ Ok (record { companding = companding; samples = samples_of bytes h })
packing_is bytes h head companding one other some = ap (packing_of bytes) (same_answer bytes head (Ok h) other one) ∙ ap (packing_under bytes h) some

-- what can be packed is no fault
pub asks_packable : (P : Type 0) (bytes : List ℕ) (h : WavHead) (head : Result WavHead WavFault) (companding : Companding) → Reads bytes (Ok h) → Reads bytes head → companding_of_format h.format ≡ Some companding → OnErr (packing_of bytes head) P
asks_packable P bytes h head companding one other some = subst (λ r. OnErr r P) (sym (packing_is bytes h head companding one other some)) tt

-- nothing more was asked for, whatever is packed
pub asks_none_more : {P : Type 0} (bytes : List ℕ) (head : Result WavHead WavFault) → P → OnErr (packing_of bytes head) P
asks_none_more {P = P} bytes head asks = on_err (packing_of bytes head)
  where
    on_err : {A E : Type 0} (r : Result A E) → OnErr r P
    on_err (Ok a) = tt
    on_err (Err e) = asks

pub head_fits : (h : WavHead) (companding : Companding) (size : ℕ) → companding_of_format h.format ≡ Some companding → FitsFile h size → (h.start + h.frames ≤ size) × (h.frames ≤ 67108864)
head_fits h companding size some fits =
    let one : h.frames * frame_bytes_of h.format ≡ h.frames = ap (λ (n : ℕ). h.frames * n) (frame_byte h.format companding some) ∙ (let e : h.frames * 1 ≡ h.frames = omega arith in e) in
    (omega (arith, one, fits.within), omega (arith, one, fits.bytes))

samples_count : (bytes : List ℕ) (h : WavHead) (size : ℕ) → h.start + h.frames ≤ size → size ≡ length bytes → length (samples_of bytes h) ≡ h.frames
samples_count bytes h size within whole = omega (arith, within, whole, length-take h.frames (drop h.start bytes), length-drop h.start bytes)

pub counts_are : (bytes : List ℕ) (h : WavHead) (head : Result WavHead WavFault) (companding : Companding) (size packets : ℕ) → Reads bytes (Ok h) → Reads bytes head → companding_of_format h.format ≡ Some companding → h.start + h.frames ≤ size → size ≡ length bytes → packets ≡ packet_count h.frames → Ok (record { packets = packets; frames = h.frames }) ≡ counts_of (packing_of bytes head)
counts_are bytes h head companding size packets one other some within whole count =
    let make : ℕ → ℕ → Result Packed RtpFault = λ p f. Ok (record { packets = p; frames = f }) in
    ap (λ (p : ℕ). make p h.frames) count
    ∙ ap (λ (n : ℕ). make (packet_count n) n) (sym (samples_count bytes h size within whole))
    ∙ ap counts_of (sym (packing_is bytes h head companding one other some))

pub file_is : (bytes : List ℕ) (h : WavHead) (head : Result WavHead WavFault) (companding : Companding) (size : ℕ) → Reads bytes (Ok h) → Reads bytes head → companding_of_format h.format ≡ Some companding → h.start + h.frames ≤ size → size ≡ length bytes → packets_file (packing_of bytes head) ≡ magic ++ texts_of companding (samples_of bytes h) 0 (packet_count h.frames)
file_is bytes h head companding size one other some within whole =
    ap packets_file (packing_is bytes h head companding one other some) ∙ packed_is companding (samples_of bytes h)
    ∙ ap (λ (n : ℕ). magic ++ texts_of companding (samples_of bytes h) 0 (packet_count n)) (samples_count bytes h size within whole)

pub packed-front_magic : (known new : Option (List ℕ)) (bytes : List ℕ) (h : WavHead) (head : Result WavHead WavFault) (companding : Companding) (size : ℕ) → Reads bytes (Ok h) → Reads bytes head → companding_of_format h.format ≡ Some companding → h.start + h.frames ≤ size → size ≡ length bytes → AppendsFront known new magic → AppendsFront known new (packets_file (packing_of bytes head))
packed-front_magic known new bytes h head companding size one other some within whole front =
    subst (AppendsFront known new) (sym (file_is bytes h head companding size one other some within whole))
    (front-first known new magic (texts_of companding (samples_of bytes h) 0 (packet_count h.frames)) front)

pub packed-front : (known mid new : Option (List ℕ)) (bytes : List ℕ) (h : WavHead) (head : Result WavHead WavFault) (companding : Companding) (size place : ℕ) → Reads bytes (Ok h) → Reads bytes head → companding_of_format h.format ≡ Some companding → h.start + h.frames ≤ size → size ≡ length bytes → place ≡ h.start → mid ≡ append_known known magic → AppendsFront mid new (texts_of companding (take h.frames (drop place bytes)) 0 (packet_count h.frames)) → AppendsFront known new (packets_file (packing_of bytes head))
packed-front known mid new bytes h head companding size place one other some within whole at is front =
    subst (AppendsFront known new) (sym (file_is bytes h head companding size one other some within whole))
    (front-then known mid new magic (texts_of companding (samples_of bytes h) 0 (packet_count h.frames)) is
    (subst (λ (n : ℕ). AppendsFront mid new (texts_of companding (take h.frames (drop n bytes)) 0 (packet_count h.frames))) at front))

pub packed-whole : (known mid new : Option (List ℕ)) (bytes : List ℕ) (h : WavHead) (head : Result WavHead WavFault) (companding : Companding) (size place : ℕ) → Reads bytes (Ok h) → Reads bytes head → companding_of_format h.format ≡ Some companding → h.start + h.frames ≤ size → size ≡ length bytes → place ≡ h.start → mid ≡ append_known known magic → new ≡ append_known mid (texts_of companding (take h.frames (drop place bytes)) 0 (packet_count h.frames)) → new ≡ append_known known (packets_file (packing_of bytes head))
packed-whole known mid new bytes h head companding size place one other some within whole at is taken =
    let texts = texts_of companding (samples_of bytes h) 0 (packet_count h.frames) in
    taken ∙ ap (λ (n : ℕ). append_known mid (texts_of companding (take h.frames (drop n bytes)) 0 (packet_count h.frames))) at
    ∙ ap (λ (m : Option (List ℕ)). append_known m texts) is ∙ append_known-twice known magic texts
    ∙ ap (append_known known) (sym (file_is bytes h head companding size one other some within whole))

short_by : (size : ℕ) (told : Option (List ℕ)) (ends : Option ℕ) (fault : WavFault) → IfHeadShort fault (StoppedShort size told ends) → WhereTold told (λ bytes. (head : WavHead) → Reads bytes (Ok head) → IfHeadShort fault (λ at whole. at < head.start)) → IfShort (fault_of_head fault) (StoppedPacking size told ends)
short_by size told ends (HeadShort at told_size) short before = inl (short, before)
short_by size told ends HeadRead short before = tt
short_by size told ends (TooLarge told_size) short before = tt
short_by size told ends NotRiff short before = tt
short_by size told ends NoFormat short before = tt
short_by size told ends BadFormat short before = tt
short_by size told ends NoSamples short before = tt
short_by size told ends (UnsupportedTag tag) short before = tt

-- a source that ended in its head gave nothing before its samples
pub short_head : (size : ℕ) (told : Option (List ℕ)) (ends : Option ℕ) (fault : WavFault) (answer : RtpFault) → answer ≡ fault_of_head fault → IfHeadShort fault (StoppedShort size told ends) → WhereTold told (λ bytes. (head : WavHead) → Reads bytes (Ok head) → IfHeadShort fault (λ at whole. at < head.start)) → IfShort answer (StoppedPacking size told ends)
short_head size told ends fault answer is short before =
    subst (λ (f : RtpFault). IfShort f (StoppedPacking size told ends)) (sym is) (short_by size told ends fault short before)

-- a source that ended in its samples gave nothing at its end
pub short_samples : (size size1 : ℕ) (told : Option (List ℕ)) (ends ends1 : Option ℕ) (head : WavHead) (companding : Companding) (place read_before read_now write_before write_now : ℕ) (fault : RtpFault) → companding_of_format head.format ≡ Some companding → size1 ≡ size → ends1 ≡ ends → place ≡ head.start → WhereTold ends (λ end. head.start ≤ end) → WhereTold told (λ bytes. Reads bytes (Ok head)) → IsStop size1 ends1 place read_before read_now write_before write_now fault → IfShort fault (StoppedPacking size told ends)
short_samples size size1 told ends ends1 head companding place rb rn wb wn (Short at told_size) some same_size same_ends same_place reached reads nothing =
    inr (
      head,
      companding,
      reads,
      some,
      omega (arith, nothing.0.started, same_place),
      record {
        whole = nothing.0.whole ∙ same_size;
        below = omega (arith, nothing.0.below, same_size);
        started = omega arith;
        stopped = λ end is. omega (arith, nothing.0.stopped end (same_ends ∙ is), reached end is, same_place);
      },
    )
short_samples size size1 told ends ends1 head companding place rb rn wb wn (Head fault) some same_size same_ends same_place reached reads nothing = tt
short_samples size size1 told ends ends1 head companding place rb rn wb wn Read some same_size same_ends same_place reached reads nothing = tt
short_samples size size1 told ends ends1 head companding place rb rn wb wn Write some same_size same_ends same_place reached reads nothing = tt
short_samples size size1 told ends ends1 head companding place rb rn wb wn WrongFormat some same_size same_ends same_place reached reads nothing = tt
short_samples size size1 told ends ends1 head companding place rb rn wb wn NotPackets some same_size same_ends same_place reached reads nothing = tt
short_samples size size1 told ends ends1 head companding place rb rn wb wn NoPackets some same_size same_ends same_place reached reads nothing = tt
short_samples size size1 told ends ends1 head companding place rb rn wb wn TooLong some same_size same_ends same_place reached reads nothing = tt
short_samples size size1 told ends ends1 head companding place rb rn wb wn OutOfMemory some same_size same_ends same_place reached reads nothing = tt

-- a source that is too large is told as such
pub head_large : (size : ℕ) (fault : WavFault) (answer : RtpFault) → answer ≡ fault_of_head fault → fault ≡ TooLarge size → answer ≡ Head (TooLarge size)
head_large size fault answer is same = is ∙ ap fault_of_head same

-- where a head's reading didn't fail, nor did the whole
pub head_stands : (before now : ℕ) (fault : WavFault) (answer : RtpFault) → answer ≡ fault_of_head fault → ((fault ≡ HeadRead → ⊥) → now ≡ before) → (answer ≡ Read → ⊥) → now ≡ before
head_stands before now fault answer is stands other = stands (λ same. other (is ∙ ap fault_of_head same))

-- a move that a failed read didn't end left the source's count
pub stop_stands : (size : ℕ) (ends : Option ℕ) (start read_before read_now write_before write_now : ℕ) (fault : RtpFault) → IsStop size ends start read_before read_now write_before write_now fault → (fault ≡ Read → ⊥) → read_now ≡ read_before
stop_stands size ends start rb rn wb wn Read stop other = absurd (other refl)
stop_stands size ends start rb rn wb wn Write stop other = stop.1
stop_stands size ends start rb rn wb wn (Short at told_size) stop other = stop.1
stop_stands size ends start rb rn wb wn (Head fault) stop other = absurd stop
stop_stands size ends start rb rn wb wn WrongFormat stop other = absurd stop
stop_stands size ends start rb rn wb wn NotPackets stop other = absurd stop
stop_stands size ends start rb rn wb wn NoPackets stop other = absurd stop
stop_stands size ends start rb rn wb wn TooLong stop other = absurd stop
stop_stands size ends start rb rn wb wn OutOfMemory stop other = absurd stop

-- what stopped a later part of the move stopped the whole, where no fault came before
pub stop_later : (size size1 : ℕ) (ends ends1 : Option ℕ) (start later read_before read_mid read_now write_before write_mid write_now : ℕ) (fault : RtpFault) → size1 ≡ size → ends1 ≡ ends → start ≤ later → WhereTold ends (λ end. later ≤ max end start) → read_mid ≡ read_before → write_mid ≡ write_before → IsStop size1 ends1 later read_mid read_now write_mid write_now fault → IsStop size ends start read_before read_now write_before write_now fault
stop_later size size1 ends ends1 start later rb rm rn wb wm wn Read same_size same_ends further reached read write stop = omega (arith, read, stop)
stop_later size size1 ends ends1 start later rb rm rn wb wm wn Write same_size same_ends further reached read write stop = (let rose = stop.0 in omega (arith, write, rose), stop.1 ∙ read)
stop_later size size1 ends ends1 start later rb rm rn wb wm wn (Short at told_size) same_size same_ends further reached read write stop = (
  record {
    whole = stop.0.whole ∙ same_size;
    below = omega (arith, stop.0.below, same_size);
    started = omega (arith, stop.0.started, further);
    stopped = λ end is. omega (arith, stop.0.stopped end (same_ends ∙ is), reached end is, further);
  },
  stop.1 ∙ read,
  stop.2 ∙ write,
)
stop_later size size1 ends ends1 start later rb rm rn wb wm wn (Head fault) same_size same_ends further reached read write stop = absurd stop
stop_later size size1 ends ends1 start later rb rm rn wb wm wn WrongFormat same_size same_ends further reached read write stop = absurd stop
stop_later size size1 ends ends1 start later rb rm rn wb wm wn NotPackets same_size same_ends further reached read write stop = absurd stop
stop_later size size1 ends ends1 start later rb rm rn wb wm wn NoPackets same_size same_ends further reached read write stop = absurd stop
stop_later size size1 ends ends1 start later rb rm rn wb wm wn TooLong same_size same_ends further reached read write stop = absurd stop
stop_later size size1 ends ends1 start later rb rm rn wb wm wn OutOfMemory same_size same_ends further reached read write stop = absurd stop

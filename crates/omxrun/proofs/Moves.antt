-- What packing and unpacking the files that were opened come to.
use Rattle.std.proofs.Common.{◌≡◌, ◌≢◌, ◌⊎◌, inl, inr, ℕ, ◌<◌, ◌≤◌, List, [], ◌∷◌, length, take, Option, Some, Result, Ok, Err, OnOk, OnErr, IfOk, IfErr, IsTrue, IsSome, ap, sym, subst, refl, ◌∙◌, arith}
use Rattle.std.proofs.lemmas.Bool.{cases_lt}
use Rattle.std.specs.Io.KnownBytes.{append_known}
use Rattle.outside_io.specs.Causes.{Rose, sum_of_counts}
use Rattle.outside_io.specs.Files.{AbsencesStand, CountsStand, GoesOn, IsFailedRead, IsFrontOf, Outside, SameBut, with_name}
use Rattle.outside_io.specs.Moves.{AppendsFront, WhereTold}
use Rattle.outside_io.proofs.Closed.{told_value}
use Rattle.outside_io.proofs.Names.{names-same}
use Rattle.omx_types.specs.declared.fault.Fault.{Fault}
use Rattle.omx_types.specs.declared.fault.Fault.TheVariants as Faults
use Rattle.omx_types.specs.declared.fault.PacketsWhy.{PacketsWhy}
use Rattle.omx_types.specs.declared.fault.WavFault.{WavFault}
use Rattle.omx_types.specs.declared.fault.WavFault.TheVariants.{TooLarge}
use Rattle.omx_types.specs.declared.fault.Which.{Which}
use Rattle.rtp_parts.specs.Answers.{IfShort, UnlessStopped, Packing, packing_of, counts_of, packets_file, StoppedPacking, unpacked_counts}
use Rattle.rtp_parts.specs.Ends.{EndsUnpacking}
use Rattle.rtp_parts.specs.Packing.{magic}
use Rattle.rtp_parts.specs.Unpacking.{Unpacking, unpacked, wav_of}
use Rattle.rtp_parts.specs.declared.fault.RtpFault.{RtpFault}
use Rattle.rtp_parts.specs.declared.fault.RtpFault.TheVariants as RtpFaults
use Rattle.rtp_parts.specs.declared.packing.Packed.{Packed}
use Rattle.rtp_parts.specs.declared.unpacking.Unpacked.{Unpacked}
use Rattle.wav_form.specs.Reading.{Reads, most_bytes}
use Rattle.wav_form.specs.declared.heads.WavHead.{WavHead}
use Rattle.omxrun.specs.Packets.{IsShortFile, IsWholeOrShort, fault_of_rtp, packing_done, unpacking_done, with_text, PacksTo, UnpacksTo, StoppedUnpacking}
use Rattle.omxrun.specs.Turned.{Giving, Stopping, IsAlone, text_in}
use Rattle.omxrun.specs.declared.done.Done.{Done}
use Rattle.omxrun.proofs.Causes.{later}
use Rattle.omxrun.proofs.Turns.{IsOfBytes, IsMoved, HasMoveReason, IsClosed, at-name}

-- ---- what the bytes come to

bytes-fault : {A : Type 0} (fault : RtpFault) (wanted : Result A RtpFault) → UnlessStopped (Err fault) (λ (r : Result A RtpFault). r ≡ wanted) → IsOfBytes (fault_of_rtp fault) → wanted ≡ Err fault
bytes-fault (RtpFaults.Head fault) wanted is of = sym is
bytes-fault RtpFaults.WrongFormat wanted is of = sym is
bytes-fault RtpFaults.NotPackets wanted is of = sym is
bytes-fault RtpFaults.NoPackets wanted is of = sym is
bytes-fault RtpFaults.TooLong wanted is of = sym is
bytes-fault RtpFaults.Read wanted is of = absurd of
bytes-fault RtpFaults.Write wanted is of = absurd of
bytes-fault (RtpFaults.Short at size) wanted is of = absurd of
bytes-fault RtpFaults.OutOfMemory wanted is of = absurd of

pack-text : (packing : Result Packing RtpFault) → text_in (with_text (packets_file packing) (packing_done (counts_of packing))) ≡ packets_file packing
pack-text (Ok packing) = refl
pack-text (Err fault) = refl

wav-text : (found : Result Unpacking RtpFault) → text_in (with_text (wav_of found) (unpacking_done (unpacked_counts found))) ≡ wav_of found
wav-text (Ok unpacking) = refl
wav-text (Err fault) = refl

begun-front : (before told : Option (List ℕ)) (text written : List ℕ) → before ≡ Some [] → written ≡ text → AppendsFront before told text → AppendsFront (Some []) told written
begun-front before told text written begun same front = subst (λ (t : List ℕ). AppendsFront (Some []) told t) (sym same) (subst (λ (o : Option (List ℕ)). AppendsFront o told text) begun front)

pub pack-moved : (bytes : List ℕ) (before told : Option (List ℕ)) (result : Result Packed RtpFault) (head : Result WavHead WavFault) → Reads bytes head → before ≡ Some [] → UnlessStopped result (λ r. r ≡ counts_of (packing_of bytes head)) → OnOk result (told ≡ append_known before (packets_file (packing_of bytes head))) → AppendsFront before told (packets_file (packing_of bytes head)) → IsMoved PacksTo bytes (packing_done result) told
pack-moved bytes before told (Ok counts) head reads begun answer file front =
    let packing = packing_of bytes head in
    let text = packets_file packing in record {
      answer = with_text text (packing_done (counts_of packing));
      gives = (head, reads, refl);
      whole = (text, ap (λ (r : Result Packed RtpFault). with_text text (packing_done r)) (sym answer), file ∙ ap (λ (o : Option (List ℕ)). append_known o text) begun);
      fault = tt;
      front = begun-front before told text _ begun (pack-text packing) front;
    }
pack-moved bytes before told (Err fault) head reads begun answer file front =
    let packing = packing_of bytes head in
    let text = packets_file packing in record {
      answer = with_text text (packing_done (counts_of packing));
      gives = (head, reads, refl);
      whole = tt;
      fault = λ of. ap (λ (r : Result Packed RtpFault). with_text text (packing_done r)) (bytes-fault fault (counts_of packing) answer of);
      front = begun-front before told text _ begun (pack-text packing) front;
    }

pub unpack-moved : (bytes : List ℕ) (before told : Option (List ℕ)) (result : Result Unpacked RtpFault) → before ≡ Some [] → UnlessStopped result (λ r. r ≡ unpacked_counts (unpacked bytes)) → OnOk result (told ≡ append_known before (wav_of (unpacked bytes))) → AppendsFront before told (wav_of (unpacked bytes)) → IsMoved UnpacksTo bytes (unpacking_done result) told
unpack-moved bytes before told (Ok counts) begun answer file front =
    let found = unpacked bytes in
    let text = wav_of found in record {
      answer = with_text text (unpacking_done (unpacked_counts found));
      gives = refl;
      whole = (text, ap (λ (r : Result Unpacked RtpFault). with_text text (unpacking_done r)) (sym answer), file ∙ ap (λ (o : Option (List ℕ)). append_known o text) begun);
      fault = tt;
      front = begun-front before told text _ begun (wav-text found) front;
    }
unpack-moved bytes before told (Err fault) begun answer file front =
    let found = unpacked bytes in
    let text = wav_of found in record {
      answer = with_text text (unpacking_done (unpacked_counts found));
      gives = refl;
      whole = tt;
      fault = λ of. ap (λ (r : Result Unpacked RtpFault). with_text text (unpacking_done r)) (bytes-fault fault (unpacked_counts found) answer of);
      front = begun-front before told text _ begun (wav-text found) front;
    }

-- ---- why it stopped

-- the input that was opened, and what the counts of the two objects do to those of the media
pub record IsCounted (input : List ℕ) (old new : Outside) (size : ℕ) (told : Option (List ℕ)) (ends : Option ℕ) (rb rn wb wn : ℕ) : Type 0 where
  pub told_is : told ≡ old.file input
  pub ends_are : ends ≡ old.ends input
  pub there : IsTrue old.tells → IsSome (old.file input)
  pub sized : WhereTold (old.file input) (λ bytes. size ≡ length bytes)
  pub read : Rose rb rn → IsFailedRead (input ∷ []) old new
  pub write : Rose wb wn → Rose old.write_faults new.write_faults

read-rose : (old mid new before now : ℕ) → before ≡ 0 → old ≤ mid → new ≡ sum_of_counts mid now → Rose before now → Rose old new
read-rose old mid new before now none le is rose = grind (arith, none, le, is, rose)

-- a failed read of the input is named by it, once that is closed
pub read-failed : (input name : List ℕ) (old mid new : Outside) (before now : ℕ) → before ≡ 0 → GoesOn old mid → new.read_faults ≡ sum_of_counts mid.read_faults now → (IsTrue old.tells → name ≡ input)
    → mid.failed_reads ≡ old.failed_reads → new.failed_reads ≡ with_name name now mid.failed_reads → Rose before now → IsFailedRead (input ∷ []) old new
read-failed input name old mid new before now none on is named still names rose =
    let some : 1 ≤ now = grind (arith, none, rose) in
    record {
      rose = read-rose old.read_faults mid.read_faults new.read_faults before now none on.read_faults is rose;
      named = λ tells. names-same input now old.failed_reads new.failed_reads some (names ∙ (ap (with_name name now) still ∙ ap (λ (n : List ℕ). with_name n now old.failed_reads) (named tells)));
    }

pub write-rose : (old mid new before now : ℕ) → before ≡ 0 → old ≤ mid → sum_of_counts mid now ≤ new → Rose before now → Rose old new
write-rose old mid new before now none le is rose = grind (arith, none, le, is, rose)

short-at : (Stops : Stopping) (input : List ℕ) (old new : Outside) (size : ℕ) (told : Option (List ℕ)) (ends : Option ℕ) (rb rn wb wn at whole : ℕ) → IsCounted input old new size told ends rb rn wb wn → Stops size told ends at whole → IsTrue old.tells → (bytes : List ℕ) × (old.file input ≡ Some bytes) × Stops (length bytes) (old.file input) (old.ends input) at whole
short-at Stops input old new size told ends rb rn wb wn at whole is stops tells =
    let (bytes, held) = told_value (old.file input) (is.there tells) in (
      bytes,
      held,
      subst (λ (n : ℕ). Stops n (old.file input) (old.ends input) at whole) (is.sized bytes held)
          (subst (λ (t : Option (List ℕ)). Stops size t (old.ends input) at whole) is.told_is (subst (λ (e : Option ℕ). Stops size told e at whole) is.ends_are stops)),
    )

-- a short source isn't too large, where that is told first
not-large : (size : ℕ) (fault : RtpFault) → (most_bytes < size → fault ≡ RtpFaults.Head (TooLarge size)) → IfShort fault (λ at whole. whole ≡ size) → IfShort fault (λ at whole. whole ≤ most_bytes)
not-large size (RtpFaults.Short at whole) large same = elim (cases_lt most_bytes size) [
  | inl more ↦ absurd (let e : RtpFaults.Short at whole ≡ RtpFaults.Head (TooLarge size) = large more in cc)
  | inr few ↦ omega (arith, same, few)
]
not-large size RtpFaults.Read large same = tt
not-large size RtpFaults.Write large same = tt
not-large size (RtpFaults.Head fault) large same = tt
not-large size RtpFaults.WrongFormat large same = tt
not-large size RtpFaults.NotPackets large same = tt
not-large size RtpFaults.NoPackets large same = tt
not-large size RtpFaults.TooLong large same = tt
not-large size RtpFaults.OutOfMemory large same = tt

rtp-stopped : (Stops : Stopping) (input : List ℕ) (old new : Outside) (size : ℕ) (told : Option (List ℕ)) (ends : Option ℕ) (rb rn wb wn : ℕ) (fault : RtpFault) → IsCounted input old new size told ends rb rn wb wn
    → (fault ≡ RtpFaults.Read → Rose rb rn) → (fault ≡ RtpFaults.Write → Rose wb wn) → IfShort fault (Stops size told ends) → IfShort fault (λ at whole. whole ≤ most_bytes) → HasMoveReason Stops input old new (fault_of_rtp fault)
rtp-stopped Stops input old new size told ends rb rn wb wn RtpFaults.Read is read write short few = is.read (read refl)
rtp-stopped Stops input old new size told ends rb rn wb wn RtpFaults.Write is read write short few = is.write (write refl)
rtp-stopped Stops input old new size told ends rb rn wb wn (RtpFaults.Short at whole) is read write short few = (few, short-at Stops input old new size told ends rb rn wb wn at whole is short)
rtp-stopped Stops input old new size told ends rb rn wb wn (RtpFaults.Head fault) is read write short few = tt
rtp-stopped Stops input old new size told ends rb rn wb wn RtpFaults.WrongFormat is read write short few = tt
rtp-stopped Stops input old new size told ends rb rn wb wn RtpFaults.NotPackets is read write short few = tt
rtp-stopped Stops input old new size told ends rb rn wb wn RtpFaults.NoPackets is read write short few = tt
rtp-stopped Stops input old new size told ends rb rn wb wn RtpFaults.TooLong is read write short few = tt
rtp-stopped Stops input old new size told ends rb rn wb wn RtpFaults.OutOfMemory is read write short few = tt

packing-whole : (size : ℕ) (told : Option (List ℕ)) (ends : Option ℕ) (fault : RtpFault) → IfShort fault (StoppedPacking size told ends) → IfShort fault (λ at whole. whole ≡ size)
packing-whole size told ends (RtpFaults.Short at whole) (inl (short, _)) = short.whole
packing-whole size told ends (RtpFaults.Short at whole) (inr (head, _, _, _, _, nothing)) = nothing.whole
packing-whole size told ends RtpFaults.Read short = tt
packing-whole size told ends RtpFaults.Write short = tt
packing-whole size told ends (RtpFaults.Head fault) short = tt
packing-whole size told ends RtpFaults.WrongFormat short = tt
packing-whole size told ends RtpFaults.NotPackets short = tt
packing-whole size told ends RtpFaults.NoPackets short = tt
packing-whole size told ends RtpFaults.TooLong short = tt
packing-whole size told ends RtpFaults.OutOfMemory short = tt

pub pack-stopped : (input : List ℕ) (old new : Outside) (size : ℕ) (told : Option (List ℕ)) (ends : Option ℕ) (rb rn wb wn : ℕ) (result : Result Packed RtpFault) → IsCounted input old new size told ends rb rn wb wn
    → (result ≡ Err RtpFaults.Read → Rose rb rn) → (result ≡ Err RtpFaults.Write → Rose wb wn) → IfErr result (λ fault. IfShort fault (StoppedPacking size told ends))
    → (most_bytes < size → result ≡ Err (RtpFaults.Head (TooLarge size))) → IfErr (packing_done result) (HasMoveReason StoppedPacking input old new)
pack-stopped input old new size told ends rb rn wb wn (Ok counts) is read write short large = tt
pack-stopped input old new size told ends rb rn wb wn (Err fault) is read write short large =
    rtp-stopped StoppedPacking input old new size told ends rb rn wb wn fault is (λ same. read (ap (λ (f : RtpFault). let r : Result Packed RtpFault = Err f in r) same)) (λ same. write (ap (λ (f : RtpFault). let r : Result Packed RtpFault = Err f in r) same)) short
    (not-large size fault (λ more. (let e = large more in cc)) (packing-whole size told ends fault short))

-- what is no file of packets came short only in its first 8 bytes
abbrev AsksNoFurther : Option (List ℕ) → RtpFault → Type 0
AsksNoFurther told fault = WhereTold told (λ bytes. take 8 bytes ≢ magic → IfShort fault (λ at whole. at < 8))

ends-short : (size : ℕ) (told : Option (List ℕ)) (ends : Option ℕ) (rb rn wb wn : ℕ) (fault : RtpFault) → EndsUnpacking size ends rb rn wb wn fault → AsksNoFurther told fault → IfShort fault (StoppedUnpacking size told ends)
ends-short size told ends rb rn wb wn (RtpFaults.Short at whole) is further = (is.0, further)
ends-short size told ends rb rn wb wn RtpFaults.Read is further = tt
ends-short size told ends rb rn wb wn RtpFaults.Write is further = tt
ends-short size told ends rb rn wb wn (RtpFaults.Head fault) is further = tt
ends-short size told ends rb rn wb wn RtpFaults.WrongFormat is further = tt
ends-short size told ends rb rn wb wn RtpFaults.NotPackets is further = tt
ends-short size told ends rb rn wb wn RtpFaults.NoPackets is further = tt
ends-short size told ends rb rn wb wn RtpFaults.TooLong is further = tt
ends-short size told ends rb rn wb wn RtpFaults.OutOfMemory is further = tt

ends-whole : (size : ℕ) (ends : Option ℕ) (rb rn wb wn : ℕ) (fault : RtpFault) → EndsUnpacking size ends rb rn wb wn fault → IfShort fault (λ at whole. whole ≡ size)
ends-whole size ends rb rn wb wn (RtpFaults.Short at whole) is = is.0.whole
ends-whole size ends rb rn wb wn RtpFaults.Read is = tt
ends-whole size ends rb rn wb wn RtpFaults.Write is = tt
ends-whole size ends rb rn wb wn (RtpFaults.Head fault) is = tt
ends-whole size ends rb rn wb wn RtpFaults.WrongFormat is = tt
ends-whole size ends rb rn wb wn RtpFaults.NotPackets is = tt
ends-whole size ends rb rn wb wn RtpFaults.NoPackets is = tt
ends-whole size ends rb rn wb wn RtpFaults.TooLong is = tt
ends-whole size ends rb rn wb wn RtpFaults.OutOfMemory is = tt

pub unpack-stopped : (input : List ℕ) (old new : Outside) (size : ℕ) (told : Option (List ℕ)) (ends : Option ℕ) (rb rn wb wn : ℕ) (result : Result Unpacked RtpFault) → IsCounted input old new size told ends rb rn wb wn
    → IfErr result (EndsUnpacking size ends rb rn wb wn) → WhereTold told (λ bytes. take 8 bytes ≢ magic → IfErr result (λ fault. IfShort fault (λ at whole. at < 8)))
    → (most_bytes < size → result ≡ Err (RtpFaults.Head (TooLarge size))) → IfErr (unpacking_done result) (HasMoveReason StoppedUnpacking input old new)
unpack-stopped input old new size told ends rb rn wb wn (Ok counts) is cause further large = tt
unpack-stopped input old new size told ends rb rn wb wn (Err fault) is cause further large =
    rtp-stopped StoppedUnpacking input old new size told ends rb rn wb wn fault is (λ same. subst (λ (f : RtpFault). EndsUnpacking size ends rb rn wb wn f) same cause) (λ same. (subst (λ (f : RtpFault). EndsUnpacking size ends rb rn wb wn f) same cause).0) (ends-short size told ends rb rn wb wn fault cause further)
    (not-large size fault (λ more. (let e = large more in cc)) (ends-whole size ends rb rn wb wn fault cause))

-- ---- both files are closed

-- what closing them said
pub record IsShut (name : List ℕ) (mid new : Outside) (ran outcome : Result Done Fault) (told : Option (List ℕ)) : Type 0 where
  pub others : SameBut name mid new
  pub done : IfOk outcome (λ done. (ran ≡ Ok done) × (new.file name ≡ told))
  pub front : OnErr outcome ((new.file name ≡ told) ⊎ WhereTold told (IsFrontOf (new.file name)))
  pub fault : IfErr outcome (λ fault. (ran ≡ Err fault) ⊎ ((fault ≡ Faults.WriteFault) × Rose mid.write_faults new.write_faults))

shut-done : (name output : List ℕ) (old new : Outside) (ran outcome : Result Done Fault) (told : Option (List ℕ)) → (IsTrue old.tells → name ≡ output) → IfOk outcome (λ done. (ran ≡ Ok done) × (new.file name ≡ told)) → IfOk outcome (λ done. (ran ≡ Ok done) × (IsTrue old.tells → new.file output ≡ told))
shut-done name output old new ran (Ok done) told named is = (is.0, λ tells. subst (λ (n : List ℕ). new.file n ≡ told) (named tells) is.1)
shut-done name output old new ran (Err fault) told named is = tt

shut-fault : (old mid new : Outside) (ran outcome : Result Done Fault) → old.write_faults ≤ mid.write_faults → IfErr outcome (λ fault. (ran ≡ Err fault) ⊎ ((fault ≡ Faults.WriteFault) × Rose mid.write_faults new.write_faults)) → IfErr outcome (λ fault. (ran ≡ Err fault) ⊎ ((fault ≡ Faults.WriteFault) × Rose old.write_faults new.write_faults))
shut-fault old mid new ran (Ok done) le is = tt
shut-fault old mid new ran (Err fault) le (inl same) = inl same
shut-fault old mid new ran (Err fault) le (inr (same, rose)) = inr (same, later old.write_faults mid.write_faults new.write_faults le rose)

pub closed-of : (Gives : Giving) (Stops : Stopping) (name input output : List ℕ) (old mid new : Outside) (ran outcome : Result Done Fault) (told : Option (List ℕ)) → mid.file ≡ old.file → GoesOn old mid → AbsencesStand old mid → AbsencesStand mid new → (IsTrue old.tells → name ≡ output) → IsShut name mid new ran outcome told → (IsTrue old.tells → (bytes : List ℕ) × (old.file input ≡ Some bytes) × IsMoved Gives bytes ran told) → IfErr ran (HasMoveReason Stops input old new) → IfErr outcome (IsAlone old new) → OnOk outcome (CountsStand old new) → IsClosed Gives Stops input output old new ran outcome told
closed-of Gives Stops name input output old mid new ran outcome told same on before after named shut moved stopped alone stand = record {
  others = λ tells other apart. shut.others other (λ (is : other ≡ name). apart (is ∙ named tells)) ∙ at-name other old mid same;
  moved = moved;
  absences = after ∙ before;
  done = shut-done name output old new ran outcome told named shut.done;
  front = λ tells. subst (λ (n : List ℕ). OnErr outcome ((new.file n ≡ told) ⊎ WhereTold told (IsFrontOf (new.file n)))) (named tells) shut.front;
  fault = shut-fault old mid new ran outcome on.write_faults shut.fault;
  stopped = stopped;
  alone = alone;
  stand = stand;
}

-- ---- which counts rose

-- what a run says of the source's count and the sink's, which were 0: where it was done whole, where its write failed, where it came short and
-- where its bytes are at fault
abbrev pub RanAlone : Result Done Fault → ℕ → ℕ → Type 0
RanAlone (Ok done) reads writes = (reads ≡ 0) × (writes ≡ 0)
RanAlone (Err Faults.WriteFault) reads writes = reads ≡ 0
RanAlone (Err (Faults.Short which at size)) reads writes = (reads ≡ 0) × (writes ≡ 0)
RanAlone (Err (Faults.BadMedia which fault)) reads writes = reads ≡ 0
RanAlone (Err (Faults.Packets why)) reads writes = reads ≡ 0
RanAlone (Err other) reads writes = Unit {0}

rtp-alone : (rb rn wb wn : ℕ) (fault : RtpFault) → rb ≡ 0 → wb ≡ 0 → (fault ≡ RtpFaults.Write → rn ≡ rb) → (IsOfBytes (fault_of_rtp fault) → rn ≡ rb) → IfShort fault (λ at whole. (rn ≡ rb) × (wn ≡ wb)) → RanAlone (Err (fault_of_rtp fault)) rn wn
rtp-alone rb rn wb wn RtpFaults.Write unread unwritten write bytes short = write refl ∙ unread
rtp-alone rb rn wb wn (RtpFaults.Short at whole) unread unwritten write bytes short = (short.0 ∙ unread, short.1 ∙ unwritten)
rtp-alone rb rn wb wn RtpFaults.Read unread unwritten write bytes short = tt
rtp-alone rb rn wb wn (RtpFaults.Head fault) unread unwritten write bytes short = bytes tt ∙ unread
rtp-alone rb rn wb wn RtpFaults.WrongFormat unread unwritten write bytes short = bytes tt ∙ unread
rtp-alone rb rn wb wn RtpFaults.NotPackets unread unwritten write bytes short = bytes tt ∙ unread
rtp-alone rb rn wb wn RtpFaults.NoPackets unread unwritten write bytes short = bytes tt ∙ unread
rtp-alone rb rn wb wn RtpFaults.TooLong unread unwritten write bytes short = bytes tt ∙ unread
rtp-alone rb rn wb wn RtpFaults.OutOfMemory unread unwritten write bytes short = tt

not-read : (fault : RtpFault) → IsOfBytes (fault_of_rtp fault) → fault ≡ RtpFaults.Read → ⊥
not-read fault of same = subst (λ (f : RtpFault). IsOfBytes (fault_of_rtp f)) same of

pub pack-alone : (rb rn wb wn : ℕ) (result : Result Packed RtpFault) → rb ≡ 0 → wb ≡ 0 → OnOk result ((rn ≡ rb) × (wn ≡ wb)) → (result ≡ Err RtpFaults.Write → rn ≡ rb) → (result ≢ Err RtpFaults.Read → rn ≡ rb)
    → IfErr result (λ fault. IfShort fault (λ at whole. (rn ≡ rb) × (wn ≡ wb))) → RanAlone (packing_done result) rn wn
pack-alone rb rn wb wn (Ok counts) unread unwritten stand write read short = (stand.0 ∙ unread, stand.1 ∙ unwritten)
pack-alone rb rn wb wn (Err fault) unread unwritten stand write read short =
    rtp-alone rb rn wb wn fault unread unwritten (λ same. write (ap (λ (f : RtpFault). let r : Result Packed RtpFault = Err f in r) same))
    (λ of. read (λ same. not-read fault of (let e : fault ≡ RtpFaults.Read = cc in e))) short

ends-alone : (size : ℕ) (ends : Option ℕ) (rb rn wb wn : ℕ) (fault : RtpFault) → EndsUnpacking size ends rb rn wb wn fault → IfShort fault (λ at whole. (rn ≡ rb) × (wn ≡ wb))
ends-alone size ends rb rn wb wn (RtpFaults.Short at whole) is = (is.1, is.2)
ends-alone size ends rb rn wb wn RtpFaults.Read is = tt
ends-alone size ends rb rn wb wn RtpFaults.Write is = tt
ends-alone size ends rb rn wb wn (RtpFaults.Head fault) is = tt
ends-alone size ends rb rn wb wn RtpFaults.WrongFormat is = tt
ends-alone size ends rb rn wb wn RtpFaults.NotPackets is = tt
ends-alone size ends rb rn wb wn RtpFaults.NoPackets is = tt
ends-alone size ends rb rn wb wn RtpFaults.TooLong is = tt
ends-alone size ends rb rn wb wn RtpFaults.OutOfMemory is = tt

ends-bytes : (size : ℕ) (ends : Option ℕ) (rb rn wb wn : ℕ) (fault : RtpFault) → EndsUnpacking size ends rb rn wb wn fault → IsOfBytes (fault_of_rtp fault) → rn ≡ rb
ends-bytes size ends rb rn wb wn (RtpFaults.Head fault) is of = is.2
ends-bytes size ends rb rn wb wn RtpFaults.WrongFormat is of = absurd is
ends-bytes size ends rb rn wb wn RtpFaults.NotPackets is of = is
ends-bytes size ends rb rn wb wn RtpFaults.NoPackets is of = is
ends-bytes size ends rb rn wb wn RtpFaults.TooLong is of = is
ends-bytes size ends rb rn wb wn RtpFaults.Read is of = absurd of
ends-bytes size ends rb rn wb wn RtpFaults.Write is of = absurd of
ends-bytes size ends rb rn wb wn (RtpFaults.Short at whole) is of = absurd of
ends-bytes size ends rb rn wb wn RtpFaults.OutOfMemory is of = absurd of

pub unpack-alone : (size : ℕ) (ends : Option ℕ) (rb rn wb wn : ℕ) (result : Result Unpacked RtpFault) → rb ≡ 0 → wb ≡ 0 → OnOk result ((rn ≡ rb) × (wn ≡ wb))
    → IfErr result (EndsUnpacking size ends rb rn wb wn) → RanAlone (unpacking_done result) rn wn
unpack-alone size ends rb rn wb wn (Ok counts) unread unwritten stand cause = (stand.0 ∙ unread, stand.1 ∙ unwritten)
unpack-alone size ends rb rn wb wn (Err fault) unread unwritten stand cause =
    rtp-alone rb rn wb wn fault unread unwritten (λ same. (subst (λ (f : RtpFault). EndsUnpacking size ends rb rn wb wn f) same cause).1) (ends-bytes size ends rb rn wb wn fault cause) (ends-alone size ends rb rn wb wn fault cause)

-- a run that was done whole or came short left the source's count
whole-alone : (ran : Result Done Fault) (reads writes : ℕ) → RanAlone ran reads writes → IsWholeOrShort ran → reads ≡ 0
whole-alone (Ok done) reads writes is whole = is.0
whole-alone (Err (Faults.Short which at size)) reads writes is whole = is.0
whole-alone (Err Faults.WriteFault) reads writes is whole = is
whole-alone (Err Faults.ReadFault) reads writes is whole = absurd whole
whole-alone (Err Faults.OutOfMemory) reads writes is whole = absurd whole
whole-alone (Err (Faults.BadMedia which fault)) reads writes is whole = absurd whole
whole-alone (Err (Faults.Packets why)) reads writes is whole = absurd whole
whole-alone (Err (Faults.Absent which)) reads writes is whole = absurd whole
whole-alone (Err (Faults.Script line why)) reads writes is whole = absurd whole
whole-alone (Err Faults.Usage) reads writes is whole = absurd whole
whole-alone (Err (Faults.Units have need)) reads writes is whole = absurd whole
whole-alone (Err (Faults.NotRun line why)) reads writes is whole = absurd whole

-- what closing both files said of the counts
pub record IsShutAlone (mid new : Outside) (ran outcome : Result Done Fault) (reads writes : ℕ) : Type 0 where
  pub closing : IfErr outcome (λ fault. (ran ≡ Err fault) ⊎ ((fault ≡ Faults.WriteFault) × IsWholeOrShort ran))
  pub unread : reads ≡ 0 → new.read_faults ≡ mid.read_faults
  pub unwritten : writes ≡ 0 → IfErr outcome (λ fault. IsShortFile fault → new.write_faults ≡ mid.write_faults)
  pub closed : writes ≡ 0 → OnOk outcome (new.write_faults ≡ mid.write_faults)

write-alone : (ran : Result Done Fault) (reads writes : ℕ) → RanAlone ran reads writes → (ran ≡ Err Faults.WriteFault) ⊎ ((Faults.WriteFault ≡ Faults.WriteFault) × IsWholeOrShort ran) → reads ≡ 0
write-alone ran reads writes is (inl same) = subst (λ (r : Result Done Fault). RanAlone r reads writes) same is
write-alone ran reads writes is (inr (_, whole)) = whole-alone ran reads writes is whole

short-alone : (ran : Result Done Fault) (which : Which) (at size reads writes : ℕ) → RanAlone ran reads writes → (ran ≡ Err (Faults.Short which at size)) ⊎ ((Faults.Short which at size ≡ Faults.WriteFault) × IsWholeOrShort ran)
    → (reads ≡ 0) × (writes ≡ 0)
short-alone ran which at size reads writes is (inl same) = subst (λ (r : Result Done Fault). RanAlone r reads writes) same is
short-alone ran which at size reads writes is (inr (other, _)) = absurd cc

media-alone : (ran : Result Done Fault) (which : Which) (fault : WavFault) (reads writes : ℕ) → RanAlone ran reads writes → (ran ≡ Err (Faults.BadMedia which fault)) ⊎ ((Faults.BadMedia which fault ≡ Faults.WriteFault) × IsWholeOrShort ran) → reads ≡ 0
media-alone ran which fault reads writes is (inl same) = subst (λ (r : Result Done Fault). RanAlone r reads writes) same is
media-alone ran which fault reads writes is (inr (other, _)) = absurd cc

packets-alone : (ran : Result Done Fault) (why : PacketsWhy) (reads writes : ℕ) → RanAlone ran reads writes → (ran ≡ Err (Faults.Packets why)) ⊎ ((Faults.Packets why ≡ Faults.WriteFault) × IsWholeOrShort ran) → reads ≡ 0
packets-alone ran why reads writes is (inl same) = subst (λ (r : Result Done Fault). RanAlone r reads writes) same is
packets-alone ran why reads writes is (inr (other, _)) = absurd cc

alone-of : (old mid new : Outside) (ran : Result Done Fault) (fault : Fault) (reads writes : ℕ) → CountsStand old mid → RanAlone ran reads writes → (ran ≡ Err fault) ⊎ ((fault ≡ Faults.WriteFault) × IsWholeOrShort ran)
    → (reads ≡ 0 → new.read_faults ≡ mid.read_faults) → (writes ≡ 0 → IsShortFile fault → new.write_faults ≡ mid.write_faults) → IsAlone old new fault
alone-of old mid new ran Faults.WriteFault reads writes stand is closing unread unwritten = unread (write-alone ran reads writes is closing) ∙ stand.reads
alone-of old mid new ran (Faults.Short which at size) reads writes stand is closing unread unwritten =
    let none = short-alone ran which at size reads writes is closing in
    record { reads = unread none.0 ∙ stand.reads; writes = unwritten none.1 tt ∙ stand.writes }
alone-of old mid new ran Faults.ReadFault reads writes stand is closing unread unwritten = tt
alone-of old mid new ran Faults.OutOfMemory reads writes stand is closing unread unwritten = tt
alone-of old mid new ran (Faults.BadMedia which fault) reads writes stand is closing unread unwritten = unread (media-alone ran which fault reads writes is closing) ∙ stand.reads
alone-of old mid new ran (Faults.Packets why) reads writes stand is closing unread unwritten = unread (packets-alone ran why reads writes is closing) ∙ stand.reads
alone-of old mid new ran (Faults.Absent which) reads writes stand is closing unread unwritten = tt
alone-of old mid new ran (Faults.Script line why) reads writes stand is closing unread unwritten = tt
alone-of old mid new ran Faults.Usage reads writes stand is closing unread unwritten = tt
alone-of old mid new ran (Faults.Units have need) reads writes stand is closing unread unwritten = tt
alone-of old mid new ran (Faults.NotRun line why) reads writes stand is closing unread unwritten = tt

pub shut-alone : (old mid new : Outside) (ran outcome : Result Done Fault) (reads writes : ℕ) → CountsStand old mid → RanAlone ran reads writes → IsShutAlone mid new ran outcome reads writes → IfErr outcome (IsAlone old new)
shut-alone old mid new ran (Ok done) reads writes stand is shut = tt
shut-alone old mid new ran (Err fault) reads writes stand is shut = alone-of old mid new ran fault reads writes stand is shut.closing shut.unread shut.unwritten

pub shut-stand : (name : List ℕ) (old mid new : Outside) (ran outcome : Result Done Fault) (told : Option (List ℕ)) (reads writes : ℕ) → CountsStand old mid → RanAlone ran reads writes → IsShut name mid new ran outcome told → IsShutAlone mid new ran outcome reads writes → OnOk outcome (CountsStand old new)
shut-stand name old mid new ran (Ok done) told reads writes stand is whole shut =
    let none = subst (λ (r : Result Done Fault). RanAlone r reads writes) whole.done.0 is in
    record { reads = shut.unread none.0 ∙ stand.reads; writes = shut.closed none.1 ∙ stand.writes }
shut-stand name old mid new ran (Err fault) told reads writes stand is whole shut = tt

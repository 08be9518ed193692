-- A record of a list, by what was read of it.
use Rattle.std.proofs.Common.{◌≡◌, ℕ, ◌+◌, ◌-◌, ◌<◌, ◌≤◌, if◌then◌else◌, true, false, Bool, List, [], ◌∷◌, ◌++◌, length, take, drop, refl, sym, ap, subst, ◌∙◌, arith, length-drop, Option, Some, None}
use Rattle.std.proofs.Math.Seq.{take-append_seam}
use Rattle.std.proofs.Math.ListN.{drop_of_length-le}
use Rattle.std.proofs.lemmas.List.{length-take, drop-drop}
use Rattle.byteorder.specs.Endian.{big_from}
use Rattle.outside_io.specs.Causes.{Rose}
use Rattle.outside_io.specs.Moves.{WhereTold}
use Rattle.outside_io.specs.Stops.{IsStopOf}
use Rattle.outside_io.specs.declared.moving.ReadStop.{ReadStop}
use Rattle.outside_io.specs.declared.moving.ReadStop.TheVariants.{Failed, Short as Stopped}
use Rattle.rtp_parts.specs.declared.fault.RtpFault.{RtpFault}
use Rattle.rtp_parts.specs.declared.unpacker.Unpacker.{Unpacker}
use Rattle.rtp_parts.specs.Answers.{fault_of_stop}
use Rattle.rtp_parts.specs.Arrivals.{records_in, record_len}
use Rattle.rtp_parts.specs.Steps.{course_of, course_left, with_record, with_records, StopsReading}
use Rattle.rtp_parts.proofs.RecordList.{records-none, records-cut, records-whole}

first_two : (rest : List ℕ) → big_from 0 2 (take 2 rest) ≡ big_from 0 2 rest
first_two [] = refl
first_two (a ∷ []) = refl
first_two (a ∷ b ∷ rest) = refl

pub none_read : (x : List ℕ) (place : ℕ) → length x - place ≡ 0 → records_in (drop place x) ≡ []
none_read x place none = ap records_in (drop_of_length-le x (let e : length x ≤ place = omega arith in e)) ∙ records-none

pub one_read : (x : List ℕ) (place : ℕ) → length x - place ≡ 1 → records_in (drop place x) ≡ None ∷ []
one_read x place one =
    let long : length (drop place x) ≡ 1 = omega (arith, length-drop place x, one) in
    records-cut (drop place x) (omega (arith, long)) (omega (arith, long))

pub cut_read : (x head : List ℕ) (place len : ℕ) → head ≡ take 2 (drop place x) → len ≡ big_from 0 2 head → 2 ≤ length x - place → length x - place - 2 < len → records_in (drop place x) ≡ None ∷ []
cut_read x head place len front is some few =
    let rest = drop place x in
    let count : big_from 0 2 rest ≡ len = sym (first_two rest) ∙ ap (big_from 0 2) (sym front) ∙ sym is in
    let long : length rest ≡ length x - place = omega (arith, length-drop place x) in
    records-cut rest (omega (arith, long, some)) (omega (arith, long, some, few, count))

pub whole_read : (x head buffer tail : List ℕ) (place place1 place2 len n m : ℕ) → 2 ≤ length x - place → head ≡ take 2 (drop place x) → len ≡ big_from 0 2 head → n ≡ len → m ≡ n → n ≤ length x - place - 2 → place1 ≡ place + 2 → place2 ≡ place1 + m → buffer ≡ take m (drop place1 x) → records_in (drop place x) ≡ Some (take n (buffer ++ tail)) ∷ records_in (drop place2 x)
whole_read x head buffer tail place place1 place2 len n m some front is same same2 few at1 at2 read =
    let rest = drop place x in
    let count : big_from 0 2 rest ≡ n = sym (first_two rest) ∙ ap (big_from 0 2) (sym front) ∙ sym is ∙ sym same in
    let long : length rest ≡ length x - place = omega (arith, length-drop place x) in
    let whole : record_len rest ≤ length rest = omega (arith, long, some, few, count) in
    let got : length buffer ≡ n = ap length read ∙ (let e : length (take m (drop place1 x)) ≡ n = omega (arith, length-take m (drop place1 x), length-drop place1 x, some, few, at1, same2) in e) in
    let content : take (big_from 0 2 rest) (drop 2 rest) ≡ take n (buffer ++ tail) =
    ap (λ (k : ℕ). take k (drop 2 rest)) (count ∙ sym same2)
    ∙ ap (take m) (drop-drop 2 place x ∙ ap (λ (k : ℕ). drop k x) (sym at1))
    ∙ sym read ∙ sym (take-append_seam buffer tail) ∙ ap (λ (k : ℕ). take k (buffer ++ tail)) got in
    let left : drop (record_len rest) rest ≡ drop place2 x =
    drop-drop (record_len rest) place x ∙ ap (λ (k : ℕ). drop k x) (let e : place + record_len rest ≡ place2 = omega (arith, count, at1, at2, same2) in e) in
    records-whole rest whole ∙ ap (λ (p : List ℕ). Some p ∷ records_in (drop (record_len rest) rest)) content
    ∙ ap (λ (r : List ℕ). Some (take n (buffer ++ tail)) ∷ records_in r) left

by_stop : (size : ℕ) (ends : Option ℕ) (place before mid now : ℕ) (stop : ReadStop) → mid ≡ before → (stop ≡ Failed → Rose mid now) → ((stop ≡ Failed → ⊥) → now ≡ mid) → IsStopOf size ends place stop → WhereTold ends (λ end. place ≤ end) → StopsReading size ends before now (fault_of_stop stop)
by_stop size ends place before mid now Failed same failed stands short reached = let r = failed refl in omega (arith, same, r)
by_stop size ends place before mid now (Stopped at told_size) same failed stands short reached = (
  record {
    whole = short.whole;
    below = short.below;
    started = omega arith;
    stopped = λ end is. omega (arith, short.stopped end is, reached end is);
  },
  stands (λ e. cc) ∙ same,
)

-- a stopped read ends the reading of a list
pub stop_read : (size size1 : ℕ) (ends ends1 : Option ℕ) (place before mid now : ℕ) (stop : ReadStop) (fault : RtpFault) → fault ≡ fault_of_stop stop → size1 ≡ size → ends1 ≡ ends → mid ≡ before → (stop ≡ Failed → Rose mid now) → ((stop ≡ Failed → ⊥) → now ≡ mid) → IsStopOf size1 ends1 place stop → WhereTold ends (λ end. place ≤ end) → StopsReading size ends before now fault
stop_read size size1 ends ends1 place before mid now stop fault is same_size same_ends same failed stands short reached =
    subst (StopsReading size ends before now) (sym is)
    (by_stop size ends place before mid now stop same failed stands
    (subst (λ (e : Option ℕ). IsStopOf size e place stop) same_ends (subst (λ (s : ℕ). IsStopOf s ends1 place stop) same_size short)) reached)

pub left-ends : (u v : Unpacker) (before after : List ℕ) → u.ended ≡ false → v.ended ≡ true → with_records (course_of u) (records_in before) ≡ course_of v → course_left v after ≡ course_left u before
unfolding course_left
left-ends u v before after going ended is =
    ap (λ (e : Bool). with_records (course_of v) (if e then [] else records_in after)) ended ∙ sym is
    ∙ sym (ap (λ (e : Bool). with_records (course_of u) (if e then [] else records_in before)) going)

pub left-goes : (u v : Unpacker) (before after : List ℕ) (bytes : Option (List ℕ)) → u.ended ≡ false → v.ended ≡ false → records_in before ≡ bytes ∷ records_in after → course_of v ≡ with_record (course_of u) bytes → course_left v after ≡ course_left u before
unfolding course_left
left-goes u v before after bytes going still is taken =
    ap (λ (e : Bool). with_records (course_of v) (if e then [] else records_in after)) still
    ∙ ap (λ (c : Rattle.rtp_parts.specs.Steps.Course). with_records c (records_in after)) taken
    ∙ ap (with_records (course_of u)) (sym is)
    ∙ sym (ap (λ (e : Bool). with_records (course_of u) (if e then [] else records_in before)) going)

-- What the run of a clock's script comes to.
use Rattle.std.proofs.Common.{◌≡◌, ◌≢◌, ◌⊎◌, inl, inr, ℕ, ◌<◌, List, length, Option, Some, Result, Ok, Err, OnOk, IfErr, IsTrue, IsSome, ap, sym, subst, refl, ◌∙◌, arith}
use Rattle.std.specs.Io.KnownBytes.{append_known}
use Rattle.outside_io.specs.Causes.{Rose}
use Rattle.outside_io.specs.Files.{AbsencesStand, CountsStand, Outside}
use Rattle.outside_io.specs.Whole.{HasReadReason, WasOpened}
use Rattle.outside_io.specs.declared.whole.Unread.{Unread}
use Rattle.outside_io.specs.declared.whole.Unread.TheVariants as Unreads
use Rattle.outside_io.proofs.Closed.{told_value}
use Rattle.omx_types.specs.declared.fault.Fault.{Fault}
use Rattle.omx_types.specs.declared.fault.Fault.TheVariants as Faults
use Rattle.omx_types.specs.declared.fault.ScriptWhy.{ScriptWhy}
use Rattle.omx_types.specs.declared.fault.Status.{Status}
use Rattle.omx_types.specs.declared.fault.Status.TheVariants as Statuses
use Rattle.clock_core.specs.Printed.{clock_text, IsStopped}
use Rattle.clock_core.specs.Script.{IsFaulty, IsScript}
use Rattle.clock_core.proofs.OneFault.{one-fault, script-no_fault}
use Rattle.omxrun.specs.Asked.{IsGiven, IsFaultless, IsOrMemory}
use Rattle.omxrun.specs.Clocked.{RunsTo, IsClockOf, IsClockOutcome, HasClockReason, CanClock, IsUnclocked}
use Rattle.omxrun.specs.Faults.{fault_of_script}
use Rattle.omxrun.specs.Texts.{fault_line}
use Rattle.omxrun.specs.Reports.{IsPrinted, status_of}
use Rattle.omxrun.proofs.Absences.{none-counted}
use Rattle.omxrun.proofs.Causes.{on_ok}
use Rattle.omxrun.proofs.Complete.{printed-status, same-text}
use Rattle.omxrun.proofs.Runs.{front-none}
use Rattle.omxrun.proofs.Traces.{front-whole, left-fault as left-trace, unread-reason}

-- what the run of these bytes came to, and what is printed of it
abbrev pub HasRunTo : List ℕ → Option (List ℕ) → Option (List ℕ) → ℕ → ℕ → Status → Type 0
HasRunTo bytes old new before now status =
    (outcome : Result (Unit {0}) Fault) × (text : List ℕ) × RunsTo bytes outcome text × IsPrinted (status_of outcome) text old new before now status

-- ---- a script that wasn't read

pub unread-clock : (name : List ℕ) (old new : Outside) (unread : Unread) → HasReadReason name 65536 old new unread → (IsTrue old.tells → WasOpened unread → IsSome (old.file name)) → (unread ≢ Unreads.Failed → new.read_faults ≡ old.read_faults) → new.write_faults ≡ old.write_faults → HasClockReason name old new (fault_of_script unread)
unread-clock name old new (Unreads.TooLong size) reason there stands writes =
    let other : Unreads.TooLong size ≢ Unreads.Failed = λ same. cc in (
      record { reads = stands other; writes = writes },
      λ tells.
          (let (bytes, held) = told_value (old.file name) (there tells tt) in
          let whole = reason.1 bytes held in
          let more = reason.0 in
          let longer : 65536 < length bytes = omega (arith, whole, more) in
          record { bytes = bytes; held = held; faulty = inl (longer, refl, refl) }),
    )
unread-clock name old new other reason there stands writes = unread-reason name old new other reason there stands writes

-- ---- the run of a script

pub clock-whole : (bytes : List ℕ) (old new : Option (List ℕ)) (before now : ℕ) → IsScript bytes → new ≡ append_known old (clock_text bytes) → now ≡ before → HasRunTo bytes old new before now Statuses.Ok
clock-whole bytes old new before now is got same = (Ok tt, clock_text bytes, (is, refl), inl (refl, got, same))

-- the count rose: a front of the script's text, or nothing at all
risen-fault : (bytes : List ℕ) (old new : Option (List ℕ)) (before mid now : ℕ) (fault : Fault) → IsStopped bytes old new before mid fault → Rose before now → HasRunTo bytes old new before now (Statuses.Fault Faults.WriteFault)
risen-fault bytes old new before mid now (Faults.Script line why) (faulty, same) rose =
    (Err (Faults.Script line why), fault_line (Faults.Script line why), (faulty, refl), inr (refl, rose, front-none old new (fault_line (Faults.Script line why)) same))
risen-fault bytes old new before mid now Faults.WriteFault (is, _, front) rose = (Ok tt, clock_text bytes, (is, refl), inr (refl, rose, front))
risen-fault bytes old new before mid now Faults.Usage stopped rose = absurd stopped
risen-fault bytes old new before mid now Faults.OutOfMemory stopped rose = absurd stopped
risen-fault bytes old new before mid now (Faults.BadMedia which fault) stopped rose = absurd stopped
risen-fault bytes old new before mid now Faults.ReadFault stopped rose = absurd stopped
risen-fault bytes old new before mid now (Faults.Absent which) stopped rose = absurd stopped
risen-fault bytes old new before mid now (Faults.Short which at size) stopped rose = absurd stopped
risen-fault bytes old new before mid now (Faults.Units have need) stopped rose = absurd stopped
risen-fault bytes old new before mid now (Faults.Packets why) stopped rose = absurd stopped
risen-fault bytes old new before mid now (Faults.NotRun line why) stopped rose = absurd stopped

pub clock-risen : (bytes : List ℕ) (old new : Option (List ℕ)) (before now : ℕ) (ran : Result (Unit {0}) Fault)
    → OnOk ran (IsScript bytes) → OnOk ran (new ≡ append_known old (clock_text bytes)) → IfErr ran (IsStopped bytes old new before now)
    → Rose before now → HasRunTo bytes old new before now (Statuses.Fault Faults.WriteFault)
clock-risen bytes old new before now (Ok done) is got stopped rose = (Ok tt, clock_text bytes, (is, refl), inr (refl, rose, front-whole old new (clock_text bytes) got))
clock-risen bytes old new before now (Err fault) is got stopped rose = risen-fault bytes old new before now now fault stopped rose

pub clock-failed : (bytes : List ℕ) (old new : Option (List ℕ)) (before now : ℕ) → IsStopped bytes old new before now Faults.WriteFault → HasRunTo bytes old new before now (Statuses.Fault Faults.WriteFault)
clock-failed bytes old new before now stopped = risen-fault bytes old new before now now Faults.WriteFault stopped stopped.1

-- the line of the fault was told, and nothing before it
abbrev ToldFault : Fault → Option (List ℕ) → Option (List ℕ) → ℕ → ℕ → Status → Type 0
ToldFault fault mid new now later status = IsPrinted (Statuses.Fault fault) (fault_line fault) mid new now later status

told-line : (bytes : List ℕ) (old mid new : Option (List ℕ)) (before now later line : ℕ) (why : ScriptWhy) (status : Status) → IsFaulty bytes line why → mid ≡ old → now ≡ before → ToldFault (Faults.Script line why) mid new now later status → HasRunTo bytes old new before later status
told-line bytes old mid new before now later line why status faulty same stands told = (
  Err (Faults.Script line why),
  fault_line (Faults.Script line why),
  (faulty, refl),
  subst (λ (o : Option (List ℕ)). ToldFault (Faults.Script line why) o new before later status) same (subst (λ (n : ℕ). ToldFault (Faults.Script line why) mid new n later status) stands told),
)

pub clock-told : (bytes : List ℕ) (old mid new : Option (List ℕ)) (before now later : ℕ) (fault : Fault) (status : Status) → (fault ≡ Faults.WriteFault → ⊥) → IsStopped bytes old mid before now fault → now ≡ before → ToldFault fault mid new now later status → HasRunTo bytes old new before later status
clock-told bytes old mid new before now later (Faults.Script line why) status other (faulty, same) stands told = told-line bytes old mid new before now later line why status faulty same stands told
clock-told bytes old mid new before now later Faults.WriteFault status other stopped stands told = absurd (other refl)
clock-told bytes old mid new before now later Faults.Usage status other stopped stands told = absurd stopped
clock-told bytes old mid new before now later Faults.OutOfMemory status other stopped stands told = absurd stopped
clock-told bytes old mid new before now later (Faults.BadMedia which fault) status other stopped stands told = absurd stopped
clock-told bytes old mid new before now later Faults.ReadFault status other stopped stands told = absurd stopped
clock-told bytes old mid new before now later (Faults.Absent which) status other stopped stands told = absurd stopped
clock-told bytes old mid new before now later (Faults.Short which at size) status other stopped stands told = absurd stopped
clock-told bytes old mid new before now later (Faults.Units have need) status other stopped stands told = absurd stopped
clock-told bytes old mid new before now later (Faults.Packets why) status other stopped stands told = absurd stopped
clock-told bytes old mid new before now later (Faults.NotRun line why) status other stopped stands told = absurd stopped

-- the file was read, and its bytes were run
abbrev pub HasClocked : List ℕ → Outside → Outside → Option (List ℕ) → Option (List ℕ) → ℕ → ℕ → Status → Type 0
HasClocked name old new told told_new before now status =
    (outcome : Result (Unit {0}) Fault) × (text : List ℕ) × IsClockOutcome name old new outcome text × IsPrinted (status_of outcome) text told told_new before now status

clock-of : (name bytes : List ℕ) (old new : Outside) (outcome : Result (Unit {0}) Fault) (text : List ℕ) → (IsTrue old.tells → old.file name ≡ Some bytes) → CountsStand old new → RunsTo bytes outcome text → IsClockOf name old new outcome text
clock-of name bytes old new (Ok done) text held stand (is, spelled) = record { bytes = bytes; held = held; is = is; spelled = spelled }
clock-of name bytes old new (Err (Faults.Script line why)) text held stand (faulty, spelled) = ((stand, λ tells. record { bytes = bytes; held = held tells; faulty = faulty }), spelled)
clock-of name bytes old new (Err Faults.Usage) text held stand runs = absurd runs
clock-of name bytes old new (Err Faults.OutOfMemory) text held stand runs = absurd runs
clock-of name bytes old new (Err Faults.WriteFault) text held stand runs = absurd runs
clock-of name bytes old new (Err (Faults.BadMedia which fault)) text held stand runs = absurd runs
clock-of name bytes old new (Err Faults.ReadFault) text held stand runs = absurd runs
clock-of name bytes old new (Err (Faults.Absent which)) text held stand runs = absurd runs
clock-of name bytes old new (Err (Faults.Short which at size)) text held stand runs = absurd runs
clock-of name bytes old new (Err (Faults.Units have need)) text held stand runs = absurd runs
clock-of name bytes old new (Err (Faults.Packets why)) text held stand runs = absurd runs
clock-of name bytes old new (Err (Faults.NotRun line why)) text held stand runs = absurd runs

pub clocked-of : (name bytes : List ℕ) (old new : Outside) (told told_new : Option (List ℕ)) (before now : ℕ) (status : Status) → (IsTrue old.tells → old.file name ≡ Some bytes) → new.file ≡ old.file → CountsStand old new → AbsencesStand old new → HasRunTo bytes told told_new before now status → HasClocked name old new told told_new before now status
clocked-of name bytes old new told told_new before now status held kept stand absences (outcome, text, runs, printed) =
    (outcome, text, record { kept = kept; unabsent = none-counted old new outcome absences; is = clock-of name bytes old new outcome text held stand runs; stand = on_ok outcome (CountsStand old new) stand }, printed)

-- ---- where all is told and no count rises

-- what is left of a fault of a file that is given whole: memory, or that it is no script
abbrev IsLeftOf : List ℕ → Fault → Type 0
IsLeftOf bytes fault =
    (fault ≡ Faults.OutOfMemory) ⊎ ((line : ℕ) × (why : ScriptWhy) × (fault ≡ Faults.Script line why) × IsFaulty bytes line why)

left-fault : (name bytes : List ℕ) (old new : Outside) (fault : Fault) → IsTrue old.tells → IsGiven old name bytes → (Rose old.read_faults new.read_faults → ⊥) → HasClockReason name old new fault → IsLeftOf bytes fault
left-fault name bytes old new (Faults.Script line why) tells given none reason =
    let is = reason.1 tells in
    inr (line, why, refl, subst (λ (b : List ℕ). IsFaulty b line why) (same-text is.bytes bytes (old.file name) is.held given.held) is.faulty)
left-fault name bytes old new other tells given none reason = elim (left-trace name bytes old new other tells given none reason) [
  | inl memory ↦ inl memory
  | inr left ↦ absurd (let is = left.2 in cc)
]

no-fault : (bytes : List ℕ) (line : ℕ) (why : ScriptWhy) → IsScript bytes → IsFaulty bytes line why → ⊥
no-fault bytes line why (lines, begun, good) faulty = script-no_fault bytes lines line why begun good faulty

ended-clock : (name bytes : List ℕ) (old new : Outside) (outcome : Result (Unit {0}) Fault) (text : List ℕ) → IsTrue old.tells → IsGiven old name bytes → IsScript bytes → (Rose old.read_faults new.read_faults → ⊥) → IsClockOf name old new outcome text → IsOrMemory (status_of outcome) Statuses.Ok
ended-clock name bytes old new (Ok done) text tells given is none found = inl refl
ended-clock name bytes old new (Err fault) text tells given is none (reason, _) = elim (left-fault name bytes old new fault tells given none reason) [
  | inl memory ↦ inr (ap Statuses.Fault memory)
  | inr left ↦ absurd (no-fault bytes left.0 left.1 is left.3)
]

pub complete_clock : (name : List ℕ) (old new : Outside) (told told_new : Option (List ℕ)) (before now : ℕ) (status : Status) → HasClocked name old new told told_new before now status → IsFaultless old new before now → CanClock name old → IsOrMemory status Statuses.Ok
complete_clock name old new told told_new before now status (outcome, text, is, printed) none can =
    let same = printed-status (status_of outcome) text told told_new before now status none.print printed in
    subst (λ (s : Status). IsOrMemory s Statuses.Ok) (sym same) (ended-clock name can.bytes old new outcome text can.tells can.given can.is none.read is.is)

refused-clock : (name bytes : List ℕ) (old new : Outside) (line : ℕ) (why : ScriptWhy) (outcome : Result (Unit {0}) Fault) (text : List ℕ) → IsTrue old.tells → IsGiven old name bytes → IsFaulty bytes line why → (Rose old.read_faults new.read_faults → ⊥) → IsClockOf name old new outcome text → IsOrMemory (status_of outcome) (Statuses.Fault (Faults.Script line why))
refused-clock name bytes old new line why (Ok done) text tells given faulty none found =
    absurd (no-fault bytes line why (subst (λ (b : List ℕ). IsScript b) (same-text found.bytes bytes (old.file name) (found.held tells) given.held) found.is) faulty)
refused-clock name bytes old new line why (Err fault) text tells given faulty none (reason, _) = elim (left-fault name bytes old new fault tells given none reason) [
  | inl memory ↦ inr (ap Statuses.Fault memory)
  | inr left ↦ (let same = one-fault bytes left.0 line left.1 why left.3 faulty in
      inl (ap Statuses.Fault (left.2 ∙ ap (λ (n : ℕ). Faults.Script n left.1) same.0 ∙ ap (λ (w : ScriptWhy). Faults.Script line w) same.1)))
]

pub unclocked : (name : List ℕ) (old new : Outside) (told told_new : Option (List ℕ)) (before now line : ℕ) (why : ScriptWhy) (status : Status) → HasClocked name old new told told_new before now status → IsFaultless old new before now → IsUnclocked name old line why → IsOrMemory status (Statuses.Fault (Faults.Script line why))
unclocked name old new told told_new before now line why status (outcome, text, is, printed) none has =
    let same = printed-status (status_of outcome) text told told_new before now status none.print printed in
    subst (λ (s : Status). IsOrMemory s (Statuses.Fault (Faults.Script line why))) (sym same) (refused-clock name has.bytes old new line why outcome text has.tells has.given has.faulty none.read is.is)

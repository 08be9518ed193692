-- What the trace of a script comes to.
use Rattle.std.proofs.Common.{◌≡◌, ◌≢◌, ◌⊎◌, inl, inr, ℕ, ◌+◌, ◌<◌, List, ◌++◌, length, take, Option, Result, Ok, Err, OnOk, IfErr, IsTrue, IsSome, ap, sym, subst, refl, ◌∙◌, arith}
use Rattle.std.proofs.lemmas.List.{take-append-le, length-append}
use Rattle.std.proofs.Math.Seq.{take-append-add, take-length}
use Rattle.std.specs.Io.KnownBytes.{append_known}
use Rattle.outside_io.specs.Causes.{Rose}
use Rattle.outside_io.specs.Files.{Outside}
use Rattle.outside_io.specs.Moves.{AppendsFront}
use Rattle.outside_io.specs.Writings.{WritesUntil}
use Rattle.outside_io.specs.declared.writing.Writing.{Writing}
use Rattle.outside_io.specs.Whole.{HasReadReason, WasOpened}
use Rattle.outside_io.specs.declared.whole.Unread.{Unread}
use Rattle.outside_io.specs.declared.whole.Unread.TheVariants as Unreads
use Rattle.outside_io.proofs.Closed.{told_value}
use Rattle.outside_io.proofs.Known.{append_known-twice}
use Rattle.omx_types.specs.declared.fault.Fault.{Fault}
use Rattle.omx_types.specs.declared.fault.Fault.TheVariants as Faults
use Rattle.omx_types.specs.declared.fault.Which.TheVariants as Files
use Rattle.omx_types.specs.declared.fault.ScriptWhy.{ScriptWhy}
use Rattle.omx_types.specs.declared.fault.Status.{Status}
use Rattle.omx_types.specs.declared.fault.Status.TheVariants as Statuses
use Rattle.script_lang.specs.LineByLine.{fault_at}
use Rattle.script_lang.specs.Scripts.{IsScript, ReadsAs, Before}
use Rattle.script_lang.specs.declared.script.Script.{Script}
use Rattle.script_lang.specs.declared.script.ScriptFault.{ScriptFault}
use Rattle.trace_run.specs.Traced.{GotTrace, GotFront, GotLines, IsStopped}
use Rattle.omxrun.specs.Asked.{IsGiven, CanTrace, IsUntraced, IsFaultless, IsOrMemory}
use Rattle.omxrun.specs.Faults.{fault_of_script}
use Rattle.omxrun.specs.Texts.{fault_line}
use Rattle.omxrun.specs.Reports.{HasStopped, IsPrinted, status_of}
use Rattle.omxrun.specs.Traced.{HasScriptReason, TracesTo, IsTraceOf, IsTraceOutcome}
use Rattle.omxrun.proofs.Complete.{none-some, printed-status, same-text}

-- ---- fronts of a text and what follows it

front-more : (old new : Option (List ℕ)) (text more : List ℕ) → AppendsFront old new text → AppendsFront old new (text ++ more)
front-more old new text more (k, within, is) =
    let longer = length-append text more in
    (k, omega (arith, within, longer), is ∙ ap (append_known old) (sym (take-append-le k text more within)))

pub front-whole : (old new : Option (List ℕ)) (text : List ℕ) → new ≡ append_known old text → AppendsFront old new text
front-whole old new text is = (length text, omega arith, is ∙ ap (append_known old) (sym (take-length text)))

front-behind : (old mid new : Option (List ℕ)) (text more : List ℕ) → mid ≡ append_known old text → AppendsFront mid new more → AppendsFront old new (text ++ more)
front-behind old mid new text more behind (k, within, is) =
    let longer = length-append text more in (
      length text + k,
      omega (arith, within, longer),
      is ∙ ap (λ (o : Option (List ℕ)). append_known o (take k more)) behind ∙ append_known-twice old text (take k more) ∙ ap (append_known old) (sym (take-append-add text more k)),
    )

-- ---- a script that wasn't read

pub unread-reason : (name : List ℕ) (old new : Outside) (unread : Unread) → HasReadReason name 65536 old new unread → (IsTrue old.tells → WasOpened unread → IsSome (old.file name)) → (unread ≢ Unreads.Failed → new.read_faults ≡ old.read_faults) → new.write_faults ≡ old.write_faults → HasScriptReason name old new (fault_of_script unread)
unread-reason name old new Unreads.Absent reason there stands writes = reason
unread-reason name old new Unreads.Failed reason there stands writes = reason
unread-reason name old new (Unreads.TooLong size) reason there stands writes =
    let other : Unreads.TooLong size ≢ Unreads.Failed = λ same. cc in (
      record { reads = stands other; writes = writes },
      λ tells.
          (let (bytes, held) = told_value (old.file name) (there tells tt) in
          let whole = reason.1 bytes held in
          let more = reason.0 in
          let longer : 65536 < length bytes = omega (arith, whole, more) in
          record { bytes = bytes; held = held; refused = inl (longer, refl) }),
    )
unread-reason name old new (Unreads.Short at size) reason there stands writes =
    let other : Unreads.Short at size ≢ Unreads.Failed = λ same. cc in
    (record { reads = stands other; writes = writes }, reason, λ tells. there tells tt)
unread-reason name old new Unreads.OutOfMemory reason there stands writes = tt

-- ---- the trace of a script

-- what a trace came to, and what is printed of it
abbrev pub HasTold : Script → Option (List ℕ) → Option (List ℕ) → ℕ → ℕ → Status → Type 0
HasTold script old new before now status = (outcome : Result (Unit {0}) Fault) × (text : List ℕ) × TracesTo script outcome text × IsPrinted (status_of outcome) text old new before now status

pub told-whole : (script : Script) (old new : Option (List ℕ)) (before now : ℕ) → GotTrace script old new → now ≡ before → HasTold script old new before now Statuses.Ok
told-whole script old new before now (text, is, got) same = (Ok tt, text, is, inl (refl, got, same))

-- the count rose: a front of the trace, or of its first lines
risen-front : (script : Script) (old new : Option (List ℕ)) (before now : ℕ) → GotFront script old new → Rose before now → HasTold script old new before now (Statuses.Fault Faults.WriteFault)
risen-front script old new before now (text, inl whole, front) rose = (Ok tt, text, whole, inr (refl, rose, front))
risen-front script old new before now (text, inr (count, first), front) rose =
    (Err Faults.OutOfMemory, text ++ fault_line Faults.OutOfMemory, (count, text, first, refl), inr (refl, rose, front-more old new text (fault_line Faults.OutOfMemory) front))

risen-stop : (script : Script) (old new : Option (List ℕ)) (before now : ℕ) (fault : Fault) → IsStopped script old new before now fault → Rose before now → HasTold script old new before now (Statuses.Fault Faults.WriteFault)
risen-stop script old new before now Faults.WriteFault stopped rose = risen-front script old new before now stopped.1 rose
risen-stop script old new before now Faults.OutOfMemory (count, text, first, got) rose = risen-front script old new before now (text, inr (count, first), front-whole old new text got) rose
risen-stop script old new before now (Faults.Script line why) stopped rose = absurd stopped
risen-stop script old new before now Faults.Usage stopped rose = absurd stopped
risen-stop script old new before now (Faults.BadMedia which fault) stopped rose = absurd stopped
risen-stop script old new before now Faults.ReadFault stopped rose = absurd stopped
risen-stop script old new before now (Faults.Absent which) stopped rose = absurd stopped
risen-stop script old new before now (Faults.Short which at size) stopped rose = absurd stopped
risen-stop script old new before now (Faults.Units have need) stopped rose = absurd stopped
risen-stop script old new before now (Faults.Packets why) stopped rose = absurd stopped
risen-stop script old new before now (Faults.NotRun line why) stopped rose = absurd stopped

-- a trace that ended so, where the count rose
pub told-risen : (script : Script) (old new : Option (List ℕ)) (before now : ℕ) (ended : Result (Unit {0}) Fault)
    → OnOk ended (GotTrace script old new) → IfErr ended (IsStopped script old new before now)
    → Rose before now → HasTold script old new before now (Statuses.Fault Faults.WriteFault)
told-risen script old new before now (Ok done) (text, is, got) stopped rose = (Ok tt, text, is, inr (refl, rose, front-whole old new text got))
told-risen script old new before now (Err fault) whole stopped rose = risen-stop script old new before now fault stopped rose

-- a fault that isn't want of memory is a failed write
pub told-stopped : (script : Script) (old new : Option (List ℕ)) (before now : ℕ) (fault : Fault) → (fault ≡ Faults.OutOfMemory → ⊥) → IsStopped script old new before now fault → HasTold script old new before now (Statuses.Fault Faults.WriteFault)
told-stopped script old new before now Faults.WriteFault other stopped = risen-front script old new before now stopped.1 stopped.0
told-stopped script old new before now Faults.OutOfMemory other stopped = absurd (other refl)
told-stopped script old new before now (Faults.Script line why) other stopped = absurd stopped
told-stopped script old new before now Faults.Usage other stopped = absurd stopped
told-stopped script old new before now (Faults.BadMedia which fault) other stopped = absurd stopped
told-stopped script old new before now Faults.ReadFault other stopped = absurd stopped
told-stopped script old new before now (Faults.Absent which) other stopped = absurd stopped
told-stopped script old new before now (Faults.Short which at size) other stopped = absurd stopped
told-stopped script old new before now (Faults.Units have need) other stopped = absurd stopped
told-stopped script old new before now (Faults.Packets why) other stopped = absurd stopped
told-stopped script old new before now (Faults.NotRun line why) other stopped = absurd stopped

-- a trace that stopped without want of memory stopped at the write that failed
pub stopped-writing : (script : Script) (old new : Option (List ℕ)) (before now : ℕ) (going stands : Option Writing) (result : Result (Unit {0}) Fault) (fault : Fault) → result ≡ Err fault → (fault ≡ Faults.OutOfMemory → ⊥)
    → IsStopped script old new before now fault → WritesUntil Faults.WriteFault going stands result → HasStopped going stands (Statuses.Fault Faults.WriteFault)
stopped-writing script old new before now going stands result Faults.WriteFault is other stopped W = λ went. inr (W.stopped went is, refl)
stopped-writing script old new before now going stands result Faults.OutOfMemory is other stopped W = absurd (other refl)
stopped-writing script old new before now going stands result (Faults.Script line why) is other stopped W = absurd stopped
stopped-writing script old new before now going stands result Faults.Usage is other stopped W = absurd stopped
stopped-writing script old new before now going stands result (Faults.BadMedia which fault) is other stopped W = absurd stopped
stopped-writing script old new before now going stands result Faults.ReadFault is other stopped W = absurd stopped
stopped-writing script old new before now going stands result (Faults.Absent which) is other stopped W = absurd stopped
stopped-writing script old new before now going stands result (Faults.Short which at size) is other stopped W = absurd stopped
stopped-writing script old new before now going stands result (Faults.Units have need) is other stopped W = absurd stopped
stopped-writing script old new before now going stands result (Faults.Packets why) is other stopped W = absurd stopped
stopped-writing script old new before now going stands result (Faults.NotRun line why) is other stopped W = absurd stopped

-- the first lines are there, and the line of want of memory was told behind them
pub told-memory : (script : Script) (old mid new : Option (List ℕ)) (before now later : ℕ) (status : Status) → GotLines script old mid → now ≡ before → IsPrinted (Statuses.Fault Faults.OutOfMemory) (fault_line Faults.OutOfMemory) mid new now later status → HasTold script old new before later status
told-memory script old mid new before now later status (count, text, first, got) same (inl (is, more, still)) = (
  Err Faults.OutOfMemory,
  text ++ fault_line Faults.OutOfMemory,
  (count, text, first, refl),
  inl (is, more ∙ ap (λ (o : Option (List ℕ)). append_known o (fault_line Faults.OutOfMemory)) got ∙ append_known-twice old text (fault_line Faults.OutOfMemory), still ∙ same),
)
told-memory script old mid new before now later status (count, text, first, got) same (inr (is, rose, front)) = (
  Err Faults.OutOfMemory,
  text ++ fault_line Faults.OutOfMemory,
  (count, text, first, refl),
  inr (is, subst (λ (n : ℕ). Rose n later) same rose, front-behind old mid new text (fault_line Faults.OutOfMemory) got front),
)

-- ---- where all is told and no count rises

-- a text reads as one outcome
abbrev pub ReadsOnce : Type 0
ReadsOnce = (text : List ℕ) (one other : Result Before ScriptFault) → ReadsAs text one → ReadsAs text other → one ≡ other

ok-err : {T E : Type 0} (x : T) (e : E) (found : Result T E) → found ≡ Ok x → found ≡ Err e → ⊥
ok-err x e found p q = let same : Ok x ≡ Err e = sym p ∙ q in cc

same-err : {T E : Type 0} (e f : E) (found : Result T E) → found ≡ Err e → found ≡ Err f → e ≡ f
same-err e f found p q = let same : Err e ≡ Err f = sym p ∙ q in cc

-- what is left of a fault of a file that is given whole: memory, or that it is no script
abbrev pub IsLeftOf : List ℕ → Fault → Type 0
IsLeftOf bytes fault =
    (fault ≡ Faults.OutOfMemory) ⊎ ((line : ℕ) × (why : ScriptWhy) × (fault ≡ Faults.Script line why) × ReadsAs bytes (Err (fault_at line why)))

pub left-fault : (name bytes : List ℕ) (old new : Outside) (fault : Fault) → IsTrue old.tells → IsGiven old name bytes → (Rose old.read_faults new.read_faults → ⊥) → HasScriptReason name old new fault → IsLeftOf bytes fault
left-fault name bytes old new (Faults.Script line why) tells given none reason =
    let is = reason.1 tells in
    inr (line, why, refl, subst (λ (b : List ℕ). ReadsAs b (Err (fault_at line why))) (same-text is.bytes bytes (old.file name) is.held given.held) is.refused)
left-fault name bytes old new Faults.ReadFault tells given none reason = absurd (none reason.rose)
left-fault name bytes old new (Faults.Absent Files.Script) tells given none reason = absurd (none-some bytes (old.file name) reason.1 given.held)
left-fault name bytes old new (Faults.Absent Files.Log) tells given none reason = absurd reason
left-fault name bytes old new (Faults.Absent (Files.Line line)) tells given none reason = absurd reason
left-fault name bytes old new (Faults.Absent (Files.Made number)) tells given none reason = absurd reason
left-fault name bytes old new (Faults.Absent Files.Input) tells given none reason = absurd reason
left-fault name bytes old new (Faults.Absent Files.Output) tells given none reason = absurd reason
left-fault name bytes old new Faults.OutOfMemory tells given none reason = inl refl
left-fault name bytes old new (Faults.Short Files.Script at size) tells given none reason =
    absurd (let below = reason.1.below in let end = reason.1.stopped given.end given.told_end in let whole = reason.1.whole bytes given.held in let all = given.whole in omega (arith, below, end, whole, all))
left-fault name bytes old new (Faults.Short Files.Log at size) tells given none reason = absurd reason
left-fault name bytes old new (Faults.Short (Files.Line line) at size) tells given none reason = absurd reason
left-fault name bytes old new (Faults.Short (Files.Made number) at size) tells given none reason = absurd reason
left-fault name bytes old new (Faults.Short Files.Input at size) tells given none reason = absurd reason
left-fault name bytes old new (Faults.Short Files.Output at size) tells given none reason = absurd reason
left-fault name bytes old new Faults.Usage tells given none reason = absurd reason
left-fault name bytes old new (Faults.BadMedia which fault) tells given none reason = absurd reason
left-fault name bytes old new Faults.WriteFault tells given none reason = absurd reason
left-fault name bytes old new (Faults.Units have need) tells given none reason = absurd reason
left-fault name bytes old new (Faults.Packets why) tells given none reason = absurd reason
left-fault name bytes old new (Faults.NotRun line why) tells given none reason = absurd reason

-- a script's trace ends whole, or memory was wanting
traced-status : (script : Script) (outcome : Result (Unit {0}) Fault) (text : List ℕ) → TracesTo script outcome text → IsOrMemory (status_of outcome) Statuses.Ok
traced-status script (Ok done) text traces = inl refl
traced-status script (Err Faults.OutOfMemory) text traces = inr refl
traced-status script (Err (Faults.Script line why)) text traces = absurd traces
traced-status script (Err Faults.Usage) text traces = absurd traces
traced-status script (Err (Faults.BadMedia which fault)) text traces = absurd traces
traced-status script (Err Faults.ReadFault) text traces = absurd traces
traced-status script (Err Faults.WriteFault) text traces = absurd traces
traced-status script (Err (Faults.Absent which)) text traces = absurd traces
traced-status script (Err (Faults.Short which at size)) text traces = absurd traces
traced-status script (Err (Faults.Units have need)) text traces = absurd traces
traced-status script (Err (Faults.Packets why)) text traces = absurd traces
traced-status script (Err (Faults.NotRun line why)) text traces = absurd traces

abbrev pub HasTraced : List ℕ → Outside → Outside → Option (List ℕ) → Option (List ℕ) → ℕ → ℕ → Status → Type 0
HasTraced name old new told told_new before now status =
    (outcome : Result (Unit {0}) Fault) × (text : List ℕ) × IsTraceOutcome name old new outcome text × IsPrinted (status_of outcome) text told told_new before now status

ended-trace : (name bytes : List ℕ) (old new : Outside) (read : Script) (outcome : Result (Unit {0}) Fault) (text : List ℕ) → ReadsOnce → IsTrue old.tells → IsGiven old name bytes → IsScript bytes read → (Rose old.read_faults new.read_faults → ⊥) → IsTraceOf name old new outcome text → IsOrMemory (status_of outcome) Statuses.Ok
ended-trace name bytes old new read outcome text once tells given script none (inl (found, _, traces, _)) = traced-status found outcome text traces
ended-trace name bytes old new read outcome text once tells given script none (inr (fault, reason, is, _)) = elim (left-fault name bytes old new fault tells given none reason) [
  | inl memory ↦ inr (ap status_of is ∙ ap Statuses.Fault memory)
  | inr left ↦ (let before = script.0 in absurd (ok-err before (fault_at left.0 left.1) (Ok before) refl (once bytes (Ok before) (Err (fault_at left.0 left.1)) script.1 left.3)))
]

pub complete_trace : (name : List ℕ) (old new : Outside) (told told_new : Option (List ℕ)) (before now : ℕ) (status : Status) → ReadsOnce → HasTraced name old new told told_new before now status → IsFaultless old new before now → CanTrace name old → IsOrMemory status Statuses.Ok
complete_trace name old new told told_new before now status once (outcome, text, is, printed) none can =
    let same = printed-status (status_of outcome) text told told_new before now status none.print printed in
    subst (λ (s : Status). IsOrMemory s Statuses.Ok) (sym same) (ended-trace name can.bytes old new can.read outcome text once can.tells can.given can.is none.read is.is)

refused-trace : (name bytes : List ℕ) (old new : Outside) (line : ℕ) (why : ScriptWhy) (outcome : Result (Unit {0}) Fault) (text : List ℕ) → ReadsOnce → IsTrue old.tells → IsGiven old name bytes → ReadsAs bytes (Err (fault_at line why)) → (Rose old.read_faults new.read_faults → ⊥) → IsTraceOf name old new outcome text → IsOrMemory (status_of outcome) (Statuses.Fault (Faults.Script line why))
refused-trace name bytes old new line why outcome text once tells given refused none (inl (found, in_file, _, _)) =
    let before = in_file.is.0 in
    let reads = subst (λ (b : List ℕ). ReadsAs b (Ok before)) (same-text in_file.bytes bytes (old.file name) (in_file.held tells) given.held) in_file.is.1 in
    absurd (ok-err before (fault_at line why) (Ok before) refl (once bytes (Ok before) (Err (fault_at line why)) reads refused))
refused-trace name bytes old new line why outcome text once tells given refused none (inr (fault, reason, is, _)) = elim (left-fault name bytes old new fault tells given none reason) [
  | inl memory ↦ inr (ap status_of is ∙ ap Statuses.Fault memory)
  | inr left ↦ (let same = once bytes (Err (fault_at left.0 left.1)) (Err (fault_at line why)) left.3 refused in
      inl (ap status_of is ∙ ap Statuses.Fault (left.2 ∙ ap (λ (f : ScriptFault). Faults.Script f.line f.why) (same-err (fault_at left.0 left.1) (fault_at line why) (Err (fault_at left.0 left.1)) refl same))))
]

pub untraced : (name : List ℕ) (old new : Outside) (told told_new : Option (List ℕ)) (before now line : ℕ) (why : ScriptWhy) (status : Status) → ReadsOnce → HasTraced name old new told told_new before now status → IsFaultless old new before now → IsUntraced name old line why → IsOrMemory status (Statuses.Fault (Faults.Script line why))
untraced name old new told told_new before now line why status once (outcome, text, is, printed) none has =
    let same = printed-status (status_of outcome) text told told_new before now status none.print printed in
    subst (λ (s : Status). IsOrMemory s (Statuses.Fault (Faults.Script line why))) (sym same) (refused-trace name has.bytes old new line why outcome text once has.tells has.given has.refused none.read is.is)

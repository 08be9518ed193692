-- What comes of the files where one is turned into another.
use Rattle.std.proofs.Common.{◌≡◌, ◌⊎◌, ◌≤◌, inl, inr, ℕ, List, [], ◌∷◌, length, take, Option, Some, None, Result, Ok, Err, OnOk, OnErr, IfOk, IfErr, IsTrue, ap, sym, subst, refl, ◌∙◌, arith}
use Rattle.outside_io.specs.Causes.{Rose}
use Rattle.outside_io.specs.Files.{AbsencesStand, CountsStand, IsFailedRead, IsFrontOf, Outside, SameBut, with_name}
use Rattle.outside_io.specs.Moves.{AppendsFront, WhereTold}
use Rattle.outside_io.specs.declared.media.Refused.{Refused}
use Rattle.outside_io.specs.declared.media.Refused.TheVariants as Refusals
use Rattle.outside_io.proofs.Closed.{take-twice}
use Rattle.outside_io.proofs.Names.{names-same}
use Rattle.omx_types.specs.declared.fault.Fault.{Fault}
use Rattle.omx_types.specs.declared.fault.Fault.TheVariants as Faults
use Rattle.omx_types.specs.declared.fault.Which.TheVariants as Files
use Rattle.wav_form.specs.Reading.{most_bytes}
use Rattle.omxrun.specs.Opened.{HasOpenReason, fault_of_input}
use Rattle.omxrun.specs.Turned.{Written, Giving, Stopping, text_in, Comes, HasTurnReason, IsAlone, IsUnopened, IsTurnOutcome}
use Rattle.omxrun.specs.declared.done.Done.{Done}
use Rattle.omxrun.proofs.Absences.{IsAbsenceTold}

-- ---- files that weren't opened

pub input-refused : (input output : List ℕ) (old new : Outside) (refused : Refused) → (refused ≡ Refusals.Absent → Rose old.absences new.absences) → (refused ≡ Refusals.Absent → old.file input ≡ None)
    → (refused ≡ Refusals.Failed → Rose old.read_faults new.read_faults) → (refused ≡ Refusals.Failed → new.failed_reads ≡ with_name input 1 old.failed_reads) → HasOpenReason input output old new (fault_of_input refused)
input-refused input output old new Refusals.Absent absent there failed named = (absent refl, there refl)
input-refused input output old new Refusals.Failed absent there failed named = record { rose = failed refl; named = λ tells. names-same input 1 old.failed_reads new.failed_reads (omega arith) (named refl) }
input-refused input output old new Refusals.OutOfMemory absent there failed named = tt

open-reason : (Gives : Giving) (Stops : Stopping) (input output : List ℕ) (old new : Outside) (fault : Fault) → HasOpenReason input output old new fault → HasTurnReason Gives Stops input output old new fault
open-reason Gives Stops input output old new Faults.ReadFault reason = reason
open-reason Gives Stops input output old new Faults.WriteFault reason = reason
open-reason Gives Stops input output old new (Faults.Absent Files.Input) reason = reason
open-reason Gives Stops input output old new (Faults.Absent Files.Output) reason = reason
open-reason Gives Stops input output old new (Faults.Absent Files.Script) reason = absurd reason
open-reason Gives Stops input output old new (Faults.Absent Files.Log) reason = absurd reason
open-reason Gives Stops input output old new (Faults.Absent (Files.Line line)) reason = absurd reason
open-reason Gives Stops input output old new (Faults.Absent (Files.Made number)) reason = absurd reason
open-reason Gives Stops input output old new Faults.OutOfMemory reason = tt
open-reason Gives Stops input output old new (Faults.Script line why) reason = absurd reason
open-reason Gives Stops input output old new Faults.Usage reason = absurd reason
open-reason Gives Stops input output old new (Faults.BadMedia which fault) reason = absurd reason
open-reason Gives Stops input output old new (Faults.Short which at size) reason = absurd reason
open-reason Gives Stops input output old new (Faults.Units have need) reason = absurd reason
open-reason Gives Stops input output old new (Faults.Packets why) reason = absurd reason
open-reason Gives Stops input output old new (Faults.NotRun line why) reason = absurd reason

pub at-name : (name : List ℕ) (old new : Outside) → new.file ≡ old.file → new.file name ≡ old.file name
at-name name old new same = ap (λ (f : List ℕ → Option (List ℕ)). f name) same

pub unopened-outcome : (Gives : Giving) (Stops : Stopping) (input output : List ℕ) (old new : Outside) (fault : Fault) → new.file ≡ old.file → HasOpenReason input output old new fault → IsAlone old new fault → IsAbsenceTold old new fault → IsTurnOutcome Gives Stops input output old new (Err fault)
unopened-outcome Gives Stops input output old new fault same reason alone told = record {
  others = λ tells other apart. at-name other old new same;
  turned = λ tells. tt;
  left = λ tells. inl (at-name output old new same);
  unabsent = told;
  unopened = λ early. same;
  reason = open-reason Gives Stops input output old new fault reason;
  alone = alone;
  stand = tt;
}

-- ---- files that were opened

-- the bytes themselves are at fault
abbrev pub IsOfBytes : Fault → Type 0
IsOfBytes (Faults.BadMedia which fault) = Unit {0}
IsOfBytes (Faults.Packets why) = Unit {0}
IsOfBytes other = ⊥

-- what a move of these bytes came to, and what it told its sink
pub record IsMoved (Gives : Giving) (bytes : List ℕ) (ran : Result Done Fault) (told : Option (List ℕ)) : Type 0 where
  pub answer : Result Written Fault
  pub gives : Gives bytes answer
  pub whole : IfOk ran (λ done. (text : List ℕ) × (answer ≡ Ok (record { text = text; done = done })) × (told ≡ Some text))
  pub fault : IfErr ran (λ fault. IsOfBytes fault → answer ≡ Err fault)
  pub front : AppendsFront (Some []) told (text_in answer)

-- why it stopped
abbrev pub HasMoveReason : Stopping → (input : List ℕ) → Outside → Outside → Fault → Type 0
HasMoveReason Stops input old new Faults.ReadFault = IsFailedRead (input ∷ []) old new
HasMoveReason Stops input old new Faults.WriteFault = Rose old.write_faults new.write_faults
HasMoveReason Stops input old new Faults.OutOfMemory = Unit {0}
HasMoveReason Stops input old new (Faults.Short Files.Input at size) =
    (size ≤ most_bytes) × (IsTrue old.tells → (bytes : List ℕ) × (old.file input ≡ Some bytes) × Stops (length bytes) (old.file input) (old.ends input) at size)
HasMoveReason Stops input old new (Faults.BadMedia Files.Input fault) = Unit {0}
HasMoveReason Stops input old new (Faults.Packets why) = Unit {0}
HasMoveReason Stops input old new other = ⊥

-- the files were opened, one was turned into the other, and both were closed
pub record IsClosed (Gives : Giving) (Stops : Stopping) (input output : List ℕ) (old new : Outside) (ran outcome : Result Done Fault) (told : Option (List ℕ)) : Type 0 where
  pub others : IsTrue old.tells → SameBut output old new
  pub moved : IsTrue old.tells → (bytes : List ℕ) × (old.file input ≡ Some bytes) × IsMoved Gives bytes ran told
  pub absences : AbsencesStand old new
  pub done : IfOk outcome (λ done. (ran ≡ Ok done) × (IsTrue old.tells → new.file output ≡ told))
  pub front : IsTrue old.tells → OnErr outcome ((new.file output ≡ told) ⊎ WhereTold told (IsFrontOf (new.file output)))
  pub fault : IfErr outcome (λ fault. (ran ≡ Err fault) ⊎ ((fault ≡ Faults.WriteFault) × Rose old.write_faults new.write_faults))
  pub stopped : IfErr ran (HasMoveReason Stops input old new)
  pub alone : IfErr outcome (IsAlone old new)
  pub stand : OnOk outcome (CountsStand old new)

if-ok : {A E : Type 0} (r : Result A E) (a : A) (P : A → Type 0) → r ≡ Ok a → IfOk r P → P a
if-ok r a P is h = subst (λ (q : Result _ _). IfOk q P) is h

if-err : {A E : Type 0} (r : Result A E) (e : E) (P : E → Type 0) → r ≡ Err e → IfErr r P → P e
if-err r e P is h = subst (λ (q : Result _ _). IfErr q P) is h

of-bytes : (Gives : Giving) (Stops : Stopping) (input output : List ℕ) (old new : Outside) (fault : Fault) (ran : Result Done Fault) (told : Option (List ℕ))
    → (IsTrue old.tells → (bytes : List ℕ) × (old.file input ≡ Some bytes) × IsMoved Gives bytes ran told) → ran ≡ Err fault → IsOfBytes fault → IsTrue old.tells → Comes Gives input old (Err fault)
of-bytes Gives Stops input output old new fault ran told moved is of tells =
    let (bytes, held, m) = moved tells in
    record { bytes = bytes; held = held; gives = subst (λ (a : Result Written Fault). Gives bytes a) (if-err ran fault (λ f. IsOfBytes f → m.answer ≡ Err f) is m.fault of) m.gives }

move-reason : (Gives : Giving) (Stops : Stopping) (input output : List ℕ) (old new : Outside) (fault : Fault) → HasMoveReason Stops input old new fault → (IsOfBytes fault → IsTrue old.tells → Comes Gives input old (Err fault)) → HasTurnReason Gives Stops input output old new fault
move-reason Gives Stops input output old new Faults.ReadFault reason comes = reason
move-reason Gives Stops input output old new Faults.WriteFault reason comes = reason
move-reason Gives Stops input output old new Faults.OutOfMemory reason comes = tt
move-reason Gives Stops input output old new (Faults.Short Files.Input at size) reason comes = reason
move-reason Gives Stops input output old new (Faults.Short Files.Script at size) reason comes = absurd reason
move-reason Gives Stops input output old new (Faults.Short Files.Log at size) reason comes = absurd reason
move-reason Gives Stops input output old new (Faults.Short (Files.Line line) at size) reason comes = absurd reason
move-reason Gives Stops input output old new (Faults.Short (Files.Made number) at size) reason comes = absurd reason
move-reason Gives Stops input output old new (Faults.Short Files.Output at size) reason comes = absurd reason
move-reason Gives Stops input output old new (Faults.BadMedia Files.Input fault) reason comes = comes tt
move-reason Gives Stops input output old new (Faults.BadMedia Files.Script fault) reason comes = absurd reason
move-reason Gives Stops input output old new (Faults.BadMedia Files.Log fault) reason comes = absurd reason
move-reason Gives Stops input output old new (Faults.BadMedia (Files.Line line) fault) reason comes = absurd reason
move-reason Gives Stops input output old new (Faults.BadMedia (Files.Made number) fault) reason comes = absurd reason
move-reason Gives Stops input output old new (Faults.BadMedia Files.Output fault) reason comes = absurd reason
move-reason Gives Stops input output old new (Faults.Packets why) reason comes = comes tt
move-reason Gives Stops input output old new (Faults.Absent which) reason comes = absurd reason
move-reason Gives Stops input output old new (Faults.Script line why) reason comes = absurd reason
move-reason Gives Stops input output old new Faults.Usage reason comes = absurd reason
move-reason Gives Stops input output old new (Faults.Units have need) reason comes = absurd reason
move-reason Gives Stops input output old new (Faults.NotRun line why) reason comes = absurd reason

-- a fault of a move isn't one of an opening
unopened-none : (Stops : Stopping) (input : List ℕ) (old new : Outside) (fault : Fault) → HasMoveReason Stops input old new fault → IsUnopened fault → new.file ≡ old.file
unopened-none Stops input old new (Faults.Absent which) reason early = absurd reason
unopened-none Stops input old new Faults.ReadFault reason early = absurd early
unopened-none Stops input old new Faults.WriteFault reason early = absurd early
unopened-none Stops input old new Faults.OutOfMemory reason early = absurd early
unopened-none Stops input old new (Faults.Short which at size) reason early = absurd early
unopened-none Stops input old new (Faults.BadMedia which fault) reason early = absurd early
unopened-none Stops input old new (Faults.Packets why) reason early = absurd early
unopened-none Stops input old new (Faults.Script line why) reason early = absurd early
unopened-none Stops input old new Faults.Usage reason early = absurd early
unopened-none Stops input old new (Faults.Units have need) reason early = absurd early
unopened-none Stops input old new (Faults.NotRun line why) reason early = absurd early

-- a front of what was told, which is a front of a text, is a front of it
closed-begun : (held told : Option (List ℕ)) (text : List ℕ) → AppendsFront (Some []) told text → (held ≡ told) ⊎ WhereTold told (IsFrontOf held) → IsFrontOf held text
closed-begun held told text (k, within, is) (inl same) = (k, same ∙ is)
closed-begun held told text (k, within, is) (inr front) =
    let (j, at) = front (take k text) is in
    let (n, cut) = take-twice j k text in
    (n, at ∙ ap Some cut)

pub turned-outcome : (Gives : Giving) (Stops : Stopping) (input output : List ℕ) (old new : Outside) (ran outcome : Result Done Fault) (told : Option (List ℕ)) → IsClosed Gives Stops input output old new ran outcome told → IsTurnOutcome Gives Stops input output old new outcome
turned-outcome Gives Stops input output old new ran (Ok done) told is = record {
  others = is.others;
  turned = λ tells.
      let (bytes, held, moved) = is.moved tells in
      let (text, answers, spelled) = if-ok ran done (λ d. (text : List ℕ) × (moved.answer ≡ Ok (record { text = text; done = d })) × (told ≡ Some text)) is.done.0 moved.whole in
      (text, record { bytes = bytes; held = held; gives = subst (λ (a : Result Written Fault). Gives bytes a) answers moved.gives }, is.done.1 tells ∙ spelled);
  left = λ tells. tt;
  unabsent = is.absences;
  unopened = tt;
  reason = tt;
  alone = tt;
  stand = is.stand;
}
turned-outcome Gives Stops input output old new ran (Err fault) told is = record {
  others = is.others;
  turned = λ tells. tt;
  left = λ tells.
      let (bytes, held, moved) = is.moved tells in
      inr (moved.answer, record { bytes = bytes; held = held; gives = moved.gives }, closed-begun (new.file output) told (text_in moved.answer) moved.front (is.front tells));
  unabsent = λ _. is.absences;
  unopened = elim is.fault [
    | inl same ↦ unopened-none Stops input old new fault (if-err ran fault (HasMoveReason Stops input old new) same is.stopped)
    | inr closing ↦ unopened-none Stops input old new fault (subst (λ (f : Fault). HasMoveReason Stops input old new f) (sym closing.0) closing.1)
  ];
  reason = elim is.fault [
    | inl same ↦ move-reason Gives Stops input output old new fault (if-err ran fault (HasMoveReason Stops input old new) same is.stopped) (of-bytes Gives Stops input output old new fault ran told is.moved same)
    | inr closing ↦ subst (λ (f : Fault). HasTurnReason Gives Stops input output old new f) (sym closing.0) closing.1
  ];
  alone = is.alone;
  stand = tt;
}

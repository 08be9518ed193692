-- What a play comes to, from before its script was read.
use Rattle.std.proofs.Common.{◌≡◌, ◌≢◌, inl, inr, ℕ, ◌+◌, ◌<◌, ◌≤◌, List, [], ◌∷◌, length, Option, Some, None, Result, Ok, Err, IsTrue, IsSome, ap, refl, ◌∙◌, arith}
use Rattle.outside_io.specs.Files.{Outside}
use Rattle.outside_io.specs.Whole.{HasReadReason, WasOpened}
use Rattle.outside_io.specs.declared.whole.Unread.{Unread}
use Rattle.outside_io.specs.declared.whole.Unread.TheVariants as Unreads
use Rattle.outside_io.proofs.Closed.{told_value}
use Rattle.omx_types.specs.declared.fault.Fault.{Fault}
use Rattle.script_lang.specs.declared.play_line.PartLine.{PartLine}
use Rattle.script_lang.specs.declared.script.Script.{Script}
use Rattle.script_lang.specs.declared.script.Script.TheVariants.{Play, Trace}
use Rattle.play_forms.specs.Plans.{IsPlanOfScript, PlanValue}
use Rattle.play_result_laws.specs.Files.{written_by}
use Rattle.play_result_laws.specs.Summaries.{SinkLine, with_line}
use Rattle.play_course.specs.Outcomes.{IsDone}
use Rattle.play_course.specs.Sums.{planned_from, planned_line}
use Rattle.omxrun.specs.Faults.{fault_of_script}
use Rattle.omxrun.specs.Plays.{HasPlayReason, IsPlayCourse, IsPlayOutcome, WasRead}
use Rattle.omxrun.proofs.Absences.{IsAbsenceTold, none-before}
use Rattle.omxrun.proofs.Causes.{CountsStand-then}
use Rattle.omxrun.proofs.Lefts.{OwnNames, undone-early, undone-left, undone-log}
use Rattle.omxrun.proofs.Traces.{unread-reason}

-- ---- a script that wasn't read

pub unread-play : (name log : List ℕ) (old new : Outside) (unread : Unread) → HasReadReason name 65536 old new unread → (IsTrue old.tells → WasOpened unread → IsSome (old.file name)) → (unread ≢ Unreads.Failed → new.read_faults ≡ old.read_faults) → new.write_faults ≡ old.write_faults → HasPlayReason name log old new (fault_of_script unread)
unread-play name log old new Unreads.Absent reason there stands writes = unread-reason name old new Unreads.Absent reason there stands writes
unread-play name log old new Unreads.Failed reason there stands writes = unread-reason name old new Unreads.Failed reason there stands writes
unread-play name log old new (Unreads.TooLong size) reason there stands writes =
    let other : Unreads.TooLong size ≢ Unreads.Failed = λ same. cc in (
      record { reads = stands other; writes = writes },
      λ tells.
          (let (bytes, held) = told_value (old.file name) (there tells tt) in
          let whole = reason.1 bytes held in
          let more = reason.0 in
          let longer : 65536 < length bytes = omega (arith, whole, more) in
          record { bytes = bytes; held = held; refused = inl (longer, refl) }),
    )
unread-play name log old new (Unreads.Short at size) reason there stands writes = unread-reason name old new (Unreads.Short at size) reason there stands writes
unread-play name log old new Unreads.OutOfMemory reason there stands writes = unread-reason name old new Unreads.OutOfMemory reason there stands writes

-- ---- a script that was read

-- the script was read, and this came of it
pub read-outcome : {workers : ℕ} → OwnNames → (name log : List ℕ) (old mid new : Outside) (script : Script) (outcome : Result (List ℕ) Fault) → WasRead name log old mid script → IsPlayCourse workers script log mid new outcome → IsPlayOutcome workers name log old new outcome
read-outcome names name log old mid new script (Ok printed) W C = record {
  played = record { script = script; mid = mid; read = W; done = C.done };
  unabsent = none-before {T = List ℕ} old mid new (Ok printed) W.absences C.unabsent;
  stand = CountsStand-then old mid new W.stand C.stand;
  unplayed = tt;
  left = λ _. tt;
  early = tt;
  unlogged = λ _. tt;
}
read-outcome names name log old mid new script (Err fault) W C = record {
  played = tt;
  unabsent = none-before {T = List ℕ} old mid new (Err fault) W.absences C.unabsent;
  stand = tt;
  unplayed = inr (script, mid, W, C.undone);
  left = λ tells. undone-left names name log old mid new script W fault tells C.undone;
  early = undone-early names name log old mid new script W fault C.undone;
  unlogged = λ tells. undone-log names name log old mid new script W fault tells C.undone;
}

pub unread-outcome : {workers : ℕ} (name log : List ℕ) (old new : Outside) (fault : Fault) → new.file ≡ old.file → HasPlayReason name log old new fault → IsAbsenceTold old new fault → IsPlayOutcome workers name log old new (Err fault)
unread-outcome name log old new fault same reason told = record {
  played = tt;
  unabsent = told;
  stand = tt;
  unplayed = inl (same, reason);
  left = λ _. inl same;
  early = λ _. same;
  unlogged = λ _ _. ap (λ (f : List ℕ → Option (List ℕ)). f log) same;
}

-- ---- a play has few sinks

line-few : (file : Option (List ℕ)) (line : SinkLine) (lines : List SinkLine) (n : ℕ) → length lines ≤ n → length (with_line file line lines) ≤ n + 1
line-few None line lines n few = omega arith
line-few (Some file) line lines n few = omega arith

lines-few : (plan : PlanValue) (place : ℕ) (parts : List PartLine) → length (planned_from plan place parts) ≤ length parts
lines-few plan place [] = omega arith
lines-few plan place (part ∷ parts) =
    let rest = lines-few plan (place + 1) parts in
    let more = line-few (written_by part.form) (planned_line plan place) (planned_from plan (place + 1) parts) (length parts) rest in
    omega arith

plan-few : (script : Script) (plan : PlanValue) → IsPlanOfScript script plan → length plan.parts ≤ 32
plan-few (Play units parts links) plan is = is.valid.most
plan-few (Trace units lines) plan is = absurd is

pub sinks-few : {workers : ℕ} (script : Script) (log : List ℕ) (old new : Outside) (summary : List SinkLine) → IsDone workers script log old new summary → length summary ≤ 32
sinks-few script log old new summary D =
    let O = D.opened in
    let few = plan-few script O.planned O.is_plan in
    let same = ap length (O.fitted).parts in
    let lines = lines-few D.plan 0 (D.plan).parts in
    let told = ap length D.told in
    omega (arith, few, same, lines, told)

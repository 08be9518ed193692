-- What a command comes to, and what is printed of it.
use Rattle.std.specs.Prelude.{ℕ, List, Option, Result}
use Rattle.outside_io.specs.Files.{Outside}
use Rattle.omx_types.specs.declared.fault.Fault.{Fault}
use Rattle.omx_types.specs.declared.fault.Status.{Status}
use Rattle.omxrun.specs.Audits.{IsAuditOutcome}
use Rattle.omxrun.specs.Clocked.{IsClockOutcome}
use Rattle.omxrun.specs.Making.{IsMakeOutcome}
use Rattle.rtp_parts.specs.Answers.{StoppedPacking}
use Rattle.omxrun.specs.Packets.{PacksTo, UnpacksTo, StoppedUnpacking}
use Rattle.omxrun.specs.Plays.{IsPlayOutcome, IsPlayReported}
use Rattle.omxrun.specs.Reports.{IsPrinted, IsReported, status_of}
use Rattle.omxrun.specs.Traced.{IsTraceOutcome}
use Rattle.omxrun.specs.Turned.{IsTurnOutcome}
use Rattle.omxrun.specs.Words.{Asked, to_trace, to_play, to_make, to_clock, to_pack, to_unpack, to_audit}
use Rattle.omxrun.specs.declared.done.Done.{Done}

abbrev pub HasRun : Asked → Outside → Outside → Option (List ℕ) → Option (List ℕ) → ℕ → ℕ → Status → Type 0
HasRun (to_trace script) old new told told_new before now status =
    (outcome : Result (Unit {0}) Fault) × (text : List ℕ) × IsTraceOutcome script old new outcome text
    × IsPrinted (status_of outcome) text told told_new before now status
HasRun (to_play script workers log) old new told told_new before now status =
    (outcome : Result (List ℕ) Fault) × IsPlayOutcome workers script log old new outcome × IsPlayReported outcome told told_new before now status
HasRun (to_make seed frames folder) old new told told_new before now status =
    (outcome : Result Done Fault) × IsMakeOutcome seed frames folder old new outcome × IsReported outcome told told_new before now status
HasRun (to_clock script) old new told told_new before now status =
    (outcome : Result (Unit {0}) Fault) × (text : List ℕ) × IsClockOutcome script old new outcome text
    × IsPrinted (status_of outcome) text told told_new before now status
HasRun (to_pack input output) old new told told_new before now status =
    (outcome : Result Done Fault) × IsTurnOutcome PacksTo StoppedPacking input output old new outcome × IsReported outcome told told_new before now status
HasRun (to_unpack input output) old new told told_new before now status =
    (outcome : Result Done Fault) × IsTurnOutcome UnpacksTo StoppedUnpacking input output old new outcome × IsReported outcome told told_new before now status
HasRun (to_audit script log) old new told told_new before now status =
    (outcome : Result Done Fault) × IsAuditOutcome script log old new outcome × IsReported outcome told told_new before now status

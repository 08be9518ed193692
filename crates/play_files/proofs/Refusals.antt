-- A file that a media refused.
use Rattle.std.proofs.Common.{◌≡◌, ◌≢◌, ℕ, List, None, IsTrue, refl, ap, arith}
use Rattle.omx_types.specs.declared.fault.Which.TheVariants.{Line}
use Rattle.outside_io.specs.Causes.{Rose}
use Rattle.outside_io.specs.Files.{GoesOn, Outside, with_name}
use Rattle.outside_io.proofs.Names.{names-same}
use Rattle.outside_io.specs.declared.media.Refused.{Refused}
use Rattle.outside_io.specs.declared.media.Refused.TheVariants as Refusals
use Rattle.play_files.specs.Faults.{fault_of_sink, fault_of_source}
use Rattle.play_files.specs.Opening.{IsSinkFault, IsSinkRefused, IsSourceFault, IsSourceRefused}

source_why : (line : ℕ) (name : List ℕ) (old new : Outside) (refused : Refused) → (refused ≡ Refusals.Absent → Rose old.absences new.absences) → (refused ≡ Refusals.Absent → old.file name ≡ None)
    → (refused ≡ Refusals.Failed → Rose old.read_faults new.read_faults) → (refused ≡ Refusals.Failed → new.failed_reads ≡ with_name name 1 old.failed_reads) → IsSourceFault line name old new (fault_of_source line refused)
source_why line name old new Refusals.Absent absent there failed named = (refl, absent refl, there refl)
source_why line name old new Refusals.Failed absent there failed named = record { rose = failed refl; named = λ tells. names-same name 1 old.failed_reads new.failed_reads (omega arith) (named refl) }
source_why line name old new Refusals.OutOfMemory absent there failed named = tt

pub source_refused : (line : ℕ) (name : List ℕ) (old new : Outside) (refused : Refused) → GoesOn old new → new.file ≡ old.file → (refused ≡ Refusals.Absent → Rose old.absences new.absences) → (refused ≡ Refusals.Absent → old.file name ≡ None)
    → (refused ≡ Refusals.Failed → Rose old.read_faults new.read_faults) → (refused ≡ Refusals.Failed → new.failed_reads ≡ with_name name 1 old.failed_reads)
    → (refused ≢ Refusals.Failed → new.read_faults ≡ old.read_faults) → (refused ≢ Refusals.Failed → new.failed_reads ≡ old.failed_reads) → new.write_faults ≡ old.write_faults
    → (refused ≢ Refusals.Absent → new.absences ≡ old.absences) → IsSourceRefused line name old new (fault_of_source line refused)
source_refused line name old new refused on files absent there failed named reads unread writes absences = record {
  goes_on = on;
  files = files;
  reads = λ n. reads (λ e. n (ap (fault_of_source line) e));
  unread = λ n. unread (λ e. n (ap (fault_of_source line) e));
  writes = writes;
  unabsent = λ none. absences (λ e. none (Line line) (ap (fault_of_source line) e));
  why = source_why line name old new refused absent there failed named;
}

sink_why : (line : ℕ) (name : List ℕ) (old new : Outside) (refused : Refused) → (refused ≡ Refusals.Absent → Rose old.absences new.absences) → (refused ≡ Refusals.Absent → IsTrue (old.may_refuse name))
    → (refused ≡ Refusals.Failed → Rose old.write_faults new.write_faults) → IsSinkFault line name old new (fault_of_sink line refused)
sink_why line name old new Refusals.Absent absent may failed = (refl, absent refl, may refl)
sink_why line name old new Refusals.Failed absent may failed = failed refl
sink_why line name old new Refusals.OutOfMemory absent may failed = tt

pub sink_refused : (line : ℕ) (name : List ℕ) (old new : Outside) (refused : Refused) → GoesOn old new → new.file ≡ old.file → (refused ≡ Refusals.Absent → Rose old.absences new.absences) → (refused ≡ Refusals.Absent → IsTrue (old.may_refuse name))
    → (refused ≡ Refusals.Failed → Rose old.write_faults new.write_faults) → new.read_faults ≡ old.read_faults → new.failed_reads ≡ old.failed_reads
    → (refused ≢ Refusals.Absent → new.absences ≡ old.absences) → IsSinkRefused line name old new (fault_of_sink line refused)
sink_refused line name old new refused on files absent may failed reads unread absences = record {
  goes_on = on;
  files = files;
  reads = reads;
  unread = unread;
  unabsent = λ none. absences (λ e. none (Line line) (ap (fault_of_sink line) e));
  why = sink_why line name old new refused absent may failed;
}

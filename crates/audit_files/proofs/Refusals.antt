-- A file that wasn't opened to be compared.
use Rattle.std.proofs.Common.{◌≡◌, ◌≢◌, ℕ, List, [], ◌∷◌, Option, Some, None, IsSome, refl, sym, ◌∙◌, ap, subst, arith}
use Rattle.std.specs.List.{slice_index_or}
use Rattle.omx_types.specs.declared.fault.Fault.{Fault}
use Rattle.omx_types.specs.declared.fault.Fault.TheVariants as Faults
use Rattle.omx_types.specs.declared.fault.Which.TheVariants.{Line}
use Rattle.outside_io.specs.Causes.{Rose}
use Rattle.outside_io.specs.Files.{GoesOn, Outside, with_name}
use Rattle.outside_io.proofs.Names.{names-same}
use Rattle.outside_io.specs.declared.media.Refused.{Refused}
use Rattle.outside_io.specs.declared.media.Refused.TheVariants as Refusals
use Rattle.outside_io.specs.declared.source.Source.{Ghosts as SourceGhosts}
use Rattle.audio_parts.specs.declared.part_file.PartFile.{PartFile}
use Rattle.audio_parts.specs.declared.part_file.PartFile.TheVariants as files
use Rattle.script_lang.specs.declared.play_line.PartLine.{PartLine}
use Rattle.play_files.specs.Faults.{fault_of_source}
use Rattle.play_files.specs.Opening.{IsStill}
use Rattle.play_files.specs.Seen.{SourceSeen, source_seen}
use Rattle.play_files.proofs.Closings.{then}
use Rattle.play_files.proofs.Fronts.{failed_later, failed_sooner, later, sooner}
use Rattle.compared_files.specs.Comparing.{ComparingValue}
use Rattle.audit_files.specs.Compared.{HaveCompared, IsComparedBy, IsFileOf}
use Rattle.audit_files.specs.Left.{IsKnownFault, IsKnownRefused}

known_why : (line : ℕ) (name : List ℕ) (old new : Outside) (refused : Refused) → (refused ≡ Refusals.Absent → Rose old.absences new.absences) → (refused ≡ Refusals.Absent → old.file name ≡ None)
    → (refused ≡ Refusals.Failed → Rose old.read_faults new.read_faults) → (refused ≡ Refusals.Failed → new.failed_reads ≡ with_name name 1 old.failed_reads) → IsKnownFault line name old new (fault_of_source line refused)
known_why line name old new Refusals.Absent absent there failed named = (refl, absent refl, there refl)
known_why line name old new Refusals.Failed absent there failed named = record { rose = failed refl; named = λ tells. names-same name 1 old.failed_reads new.failed_reads (omega arith) (named refl) }
known_why line name old new Refusals.OutOfMemory absent there failed named = tt

pub known_refused : (line : ℕ) (name : List ℕ) (old new : Outside) (refused : Refused) → GoesOn old new → new.file ≡ old.file → (refused ≡ Refusals.Absent → Rose old.absences new.absences) → (refused ≡ Refusals.Absent → old.file name ≡ None)
    → (refused ≡ Refusals.Failed → Rose old.read_faults new.read_faults) → (refused ≡ Refusals.Failed → new.failed_reads ≡ with_name name 1 old.failed_reads)
    → (refused ≢ Refusals.Failed → new.failed_reads ≡ old.failed_reads) → new.write_faults ≡ old.write_faults → new.failed_writes ≡ old.failed_writes
    → (refused ≢ Refusals.Absent → new.absences ≡ old.absences) → IsKnownRefused line name old new (fault_of_source line refused)
known_refused line name old new refused on files absent there failed named unread writes names absences = record {
  goes_on = on;
  files = files;
  writes = writes;
  unread = λ n. unread (λ e. n (ap (fault_of_source line) e));
  failed = names;
  unabsent = λ none. absences (λ e. none (Line line) (ap (fault_of_source line) e));
  why = known_why line name old new refused absent there failed named;
}

-- ---- from a media that was still until then

module _ (old mid : Outside) (S : IsStill old mid) where
  file_same : (name : List ℕ) → mid.file name ≡ old.file name
  file_same name = ap (λ (f : List ℕ → Option (List ℕ)). f name) S.files

  pub file_sooner : (name : List ℕ) (source : SourceSeen) → IsFileOf mid name source → IsFileOf old name source
  file_sooner name source I = record {
    offset = I.offset;
    name_is = λ tells. I.name_is ((S.goes_on).tells ∙ tells);
    faults = I.faults;
    told = I.told ∙ file_same name;
    ends = I.ends ∙ ap (λ (f : List ℕ → Option ℕ). f name) (S.goes_on).ends;
    whole = λ bytes is. I.whole bytes (file_same name ∙ is);
    there = λ tells. subst (λ (held : Option (List ℕ)). IsSome held) (file_same name) (I.there ((S.goes_on).tells ∙ tells));
  }

  fault_sooner : (line : ℕ) (name : List ℕ) (new : Outside) (fault : Fault) → IsKnownFault line name mid new fault → IsKnownFault line name old new fault
  fault_sooner line name new Faults.ReadFault is = failed_later (name ∷ []) old mid new S is
  fault_sooner line name new (Faults.Absent which) is = (is.0, later old.absences mid.absences new.absences ((S.goes_on).absences) is.1, sym (file_same name) ∙ is.2)
  fault_sooner line name new Faults.OutOfMemory is = tt
  fault_sooner line name new (Faults.BadMedia which fault) is = absurd is
  fault_sooner line name new Faults.WriteFault is = absurd is
  fault_sooner line name new (Faults.Short which at size) is = absurd is
  fault_sooner line name new (Faults.Script at why) is = absurd is
  fault_sooner line name new Faults.Usage is = absurd is
  fault_sooner line name new (Faults.Units have need) is = absurd is
  fault_sooner line name new (Faults.Packets why) is = absurd is
  fault_sooner line name new (Faults.NotRun at why) is = absurd is

  pub refused_sooner : (line : ℕ) (name : List ℕ) (new : Outside) (fault : Fault) → IsKnownRefused line name mid new fault → IsKnownRefused line name old new fault
  refused_sooner line name new fault R = record {
    goes_on = then old mid new S.goes_on R.goes_on;
    files = R.files ∙ S.files;
    writes = R.writes ∙ S.writes;
    unread = λ n. R.unread n ∙ S.unread;
    failed = R.failed ∙ S.failed;
    unabsent = λ none. R.unabsent none ∙ S.absences;
    why = fault_sooner line name new fault R.why;
  }

module _ {S : Type 0} (g : SourceGhosts S) (old mid : Outside) (S' : IsStill old mid) where
  by_sooner : (planned : ℕ) (name : List ℕ) (file : Option (PartFile S (ComparingValue S))) → IsComparedBy g mid planned name file → IsComparedBy g old planned name file
  by_sooner planned name (Some (files.To snk frames)) I = (I.0, I.1, file_sooner old mid S' name (source_seen g snk.src) I.2)
  by_sooner planned name (Some (files.From src format frames)) I = absurd I
  by_sooner planned name None I = absurd I

  pub compared_sooner : (parts : List PartLine) (planned : List ℕ) (count : ℕ) (before after : List (Option (PartFile S (ComparingValue S)))) → HaveCompared g mid parts planned count before after → HaveCompared g old parts planned count before after
  compared_sooner parts planned count before after H = record {
    many = H.many;
    sinks = λ place part name b e w. (let h = H.sinks place part name b e w in (h.0, h.1, by_sooner (slice_index_or planned place 0) name h.0 h.2));
    others = H.others;
    rest = H.rest;
  }

-- ---- once what was open is closed

pub known_fault_later : (line : ℕ) (name : List ℕ) (old mid new : Outside) (fault : Fault) → IsStill mid new → IsKnownFault line name old mid fault → IsKnownFault line name old new fault
known_fault_later line name old mid new Faults.ReadFault S is = failed_sooner (name ∷ []) old mid new is S
known_fault_later line name old mid new (Faults.Absent which) S is = (is.0, sooner old.absences mid.absences new.absences ((S.goes_on).absences) is.1, is.2)
known_fault_later line name old mid new Faults.OutOfMemory S is = tt
known_fault_later line name old mid new (Faults.BadMedia which fault) S is = absurd is
known_fault_later line name old mid new Faults.WriteFault S is = absurd is
known_fault_later line name old mid new (Faults.Short which at size) S is = absurd is
known_fault_later line name old mid new (Faults.Script at why) S is = absurd is
known_fault_later line name old mid new Faults.Usage S is = absurd is
known_fault_later line name old mid new (Faults.Units have need) S is = absurd is
known_fault_later line name old mid new (Faults.Packets why) S is = absurd is
known_fault_later line name old mid new (Faults.NotRun at why) S is = absurd is

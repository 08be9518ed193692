-- Calls of a media one after another.
use Rattle.std.proofs.Common.{◌≡◌, ℕ, ◌≤◌, List, [], ◌∷◌, Option, IsTrue, refl, sym, ◌∙◌, ap, subst, arith}
use Rattle.omx_types.specs.declared.fault.Fault.{Fault}
use Rattle.omx_types.specs.declared.fault.Fault.TheVariants as Faults
use Rattle.outside_io.specs.Causes.{Rose}
use Rattle.outside_io.specs.Files.{IsFailedRead, Outside, with_names}
use Rattle.wav_form.specs.Stops.{StoppedShort}
use Rattle.wav_form.specs.declared.heads.WavHead.{WavHead}
use Rattle.play_files.proofs.Closings.{same, then}
use Rattle.play_files.specs.Opening.{IsSinkFault, IsSinkOf, IsSinkRefused, IsSourceFault, IsSourceOf, IsSourceRefused, IsStill}
use Rattle.play_files.specs.Seen.{SinkSeen, SourceSeen}

pub still : (old : Outside) → IsStill old old
still old = record { goes_on = same old; files = refl; reads = refl; writes = refl; absences = refl; unread = refl; failed = refl }

pub still_then : (old mid new : Outside) → IsStill old mid → IsStill mid new → IsStill old new
still_then old mid new a b = record {
  goes_on = then old mid new a.goes_on b.goes_on;
  files = b.files ∙ a.files;
  reads = b.reads ∙ a.reads;
  writes = b.writes ∙ a.writes;
  absences = b.absences ∙ a.absences;
  unread = b.unread ∙ a.unread;
  failed = b.failed ∙ a.failed;
}

-- a count that rose later rose
pub later : (old mid new : ℕ) → old ≤ mid → Rose mid new → Rose old new
later old mid new le rose = grind arith

pub sooner : (old mid new : ℕ) → mid ≤ new → Rose old mid → Rose old new
sooner old mid new le rose = grind arith

-- so it is with a failed read that is named
pub failed_later : (names : List (List ℕ)) (old mid new : Outside) → IsStill old mid → IsFailedRead names mid new → IsFailedRead names old new
failed_later names old mid new S is = record {
  rose = later old.read_faults mid.read_faults new.read_faults ((S.goes_on).read_faults) is.rose;
  named = λ tells. (let n = is.named ((S.goes_on).tells ∙ tells) in (n.0, n.1, n.2, n.3 ∙ ap (with_names n.0) S.unread));
}

pub failed_sooner : (names : List (List ℕ)) (old mid new : Outside) → IsFailedRead names old mid → IsStill mid new → IsFailedRead names old new
failed_sooner names old mid new is S = record {
  rose = sooner old.read_faults mid.read_faults new.read_faults ((S.goes_on).read_faults) is.rose;
  named = λ tells. (let n = is.named tells in (n.0, n.1, n.2, S.unread ∙ n.3));
}

-- ---- what was seen from a media that was still until then

module _ (old mid : Outside) (S : IsStill old mid) where
  file_same : (name : List ℕ) → mid.file name ≡ old.file name
  file_same name = ap (λ (f : List ℕ → Option (List ℕ)). f name) S.files

  end_same : (name : List ℕ) → mid.ends name ≡ old.ends name
  end_same name = ap (λ (f : List ℕ → Option ℕ). f name) (S.goes_on).ends

  tells_too : IsTrue old.tells → IsTrue mid.tells
  tells_too tells = (S.goes_on).tells ∙ tells

  pub source_sooner : (name : List ℕ) (head : WavHead) (source : SourceSeen) → IsSourceOf mid name head source → IsSourceOf old name head source
  source_sooner name head source I = record {
    offset = I.offset;
    name_is = λ tells. I.name_is (tells_too tells);
    fits = I.fits;
    faults = I.faults;
    told = I.told ∙ file_same name;
    whole = λ bytes is. I.whole bytes (file_same name ∙ is);
    ends = I.ends ∙ end_same name;
    starts = λ end is. I.starts end (end_same name ∙ is);
    head_is = λ tells. (let h = I.head_is (tells_too tells) in (h.0, sym (file_same name) ∙ h.1, h.2));
    reads_as = λ bytes is. I.reads_as bytes (file_same name ∙ is);
  }

  pub sink_sooner : (name : List ℕ) (sink : SinkSeen) → IsSinkOf mid name sink → IsSinkOf old name sink
  sink_sooner name sink I = record { faults = I.faults; told = λ tells. I.told (tells_too tells); name_is = λ tells. I.name_is (tells_too tells) }

  source_fault_sooner : (line : ℕ) (name : List ℕ) (new : Outside) (fault : Fault) → IsSourceFault line name mid new fault → IsSourceFault line name old new fault
  source_fault_sooner line name new (Faults.BadMedia which fault) is = (is.0, is.1, λ tells. (let h = is.2 (tells_too tells) in (h.0, sym (file_same name) ∙ h.1, h.2)))
  source_fault_sooner line name new Faults.ReadFault is = failed_later (name ∷ []) old mid new S is
  source_fault_sooner line name new (Faults.Absent which) is = (is.0, later old.absences mid.absences new.absences ((S.goes_on).absences) is.1, sym (file_same name) ∙ is.2)
  source_fault_sooner line name new Faults.OutOfMemory is = tt
  source_fault_sooner line name new (Faults.Short which at size) is = (
    is.0,
    record {
      stopped = subst (λ (t : Option (List ℕ)). StoppedShort size t (old.ends name) at size) (file_same name) (subst (λ (e : Option ℕ). StoppedShort size (mid.file name) e at size) (end_same name) (is.1).stopped);
      whole = λ tells. (let h = (is.1).whole (tells_too tells) in (h.0, sym (file_same name) ∙ h.1, h.2));
      inside = λ bytes held. (is.1).inside bytes (file_same name ∙ held);
      small = (is.1).small;
    },
  )
  source_fault_sooner line name new (Faults.Script at why) is = absurd is
  source_fault_sooner line name new Faults.Usage is = absurd is
  source_fault_sooner line name new Faults.WriteFault is = absurd is
  source_fault_sooner line name new (Faults.Units have need) is = absurd is
  source_fault_sooner line name new (Faults.Packets why) is = absurd is
  source_fault_sooner line name new (Faults.NotRun at why) is = absurd is

  sink_fault_sooner : (line : ℕ) (name : List ℕ) (new : Outside) (fault : Fault) → IsSinkFault line name mid new fault → IsSinkFault line name old new fault
  sink_fault_sooner line name new Faults.WriteFault is = later old.write_faults mid.write_faults new.write_faults ((S.goes_on).write_faults) is
  sink_fault_sooner line name new (Faults.Absent which) is =
      (is.0, later old.absences mid.absences new.absences ((S.goes_on).absences) is.1, subst (λ (may : List ℕ → _). IsTrue (may name)) (S.goes_on).may_refuse is.2)
  sink_fault_sooner line name new Faults.OutOfMemory is = tt
  sink_fault_sooner line name new (Faults.BadMedia which fault) is = absurd is
  sink_fault_sooner line name new Faults.ReadFault is = absurd is
  sink_fault_sooner line name new (Faults.Short which at size) is = absurd is
  sink_fault_sooner line name new (Faults.Script at why) is = absurd is
  sink_fault_sooner line name new Faults.Usage is = absurd is
  sink_fault_sooner line name new (Faults.Units have need) is = absurd is
  sink_fault_sooner line name new (Faults.Packets why) is = absurd is
  sink_fault_sooner line name new (Faults.NotRun at why) is = absurd is

  pub source_refused_sooner : (line : ℕ) (name : List ℕ) (new : Outside) (fault : Fault) → IsSourceRefused line name mid new fault → IsSourceRefused line name old new fault
  source_refused_sooner line name new fault R = record {
    goes_on = then old mid new S.goes_on R.goes_on;
    files = R.files ∙ S.files;
    reads = λ n. R.reads n ∙ S.reads;
    unread = λ n. R.unread n ∙ S.unread;
    writes = R.writes ∙ S.writes;
    unabsent = λ none. R.unabsent none ∙ S.absences;
    why = source_fault_sooner line name new fault R.why;
  }

  pub sink_refused_sooner : (line : ℕ) (name : List ℕ) (new : Outside) (fault : Fault) → IsSinkRefused line name mid new fault → IsSinkRefused line name old new fault
  sink_refused_sooner line name new fault R =
      record {
        goes_on = then old mid new S.goes_on R.goes_on;
        files = R.files ∙ S.files;
        reads = R.reads ∙ S.reads;
        unread = R.unread ∙ S.unread;
        unabsent = λ none. R.unabsent none ∙ S.absences;
        why = sink_fault_sooner line name new fault R.why;
      }

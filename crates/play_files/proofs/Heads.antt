-- A source whose head wasn't read.
use Rattle.std.proofs.Common.{◌≡◌, ◌≢◌, ℕ, ◌<◌, ◌≤◌, List, [], ◌∷◌, length, Option, Some, Ok, Err, IsTrue, inl, inr, refl, sym, ◌∙◌, ap, subst, arith}
use Rattle.std.specs.Prelude.{IsSome}
use Rattle.std.proofs.lemmas.Bool.{cases_lt}
use Rattle.omx_types.specs.declared.fault.Fault.TheVariants as Faults
use Rattle.omx_types.specs.declared.fault.WavFault.{WavFault}
use Rattle.omx_types.specs.declared.fault.WavFault.TheVariants as WavFaults
use Rattle.outside_io.specs.Causes.{Rose, sum_of_counts}
use Rattle.outside_io.specs.Files.{GoesOn, IsFailedRead, Outside, with_name}
use Rattle.outside_io.specs.Moves.{WhereTold}
use Rattle.outside_io.proofs.Closed.{told_value}
use Rattle.outside_io.proofs.Names.{names-same, no_name}
use Rattle.wav_form.specs.Reading.{Reads, most_bytes}
use Rattle.wav_form.specs.Stops.{IfShort, StoppedShort, UnlessStopped}
use Rattle.wav_form.specs.declared.heads.WavHead.{WavHead}
use Rattle.play_files.specs.Faults.{fault_of_head}
use Rattle.play_files.specs.Opening.{IsSourceFault, IsSourceRefused}
use Rattle.play_files.proofs.Closings.{then}

-- what was seen of the source while its head was read
pub record IsTried (name its : List ℕ) (old mid new : Outside) (fault : WavFault) (size : ℕ) (told : Option (List ℕ)) (ends : Option ℕ) (before now : ℕ) : Type 0 where
  pub first : GoesOn old mid
  pub last : GoesOn mid new
  pub first_files : mid.file ≡ old.file
  pub last_files : new.file ≡ mid.file
  pub first_reads : mid.read_faults ≡ old.read_faults
  pub first_writes : mid.write_faults ≡ old.write_faults
  pub last_writes : new.write_faults ≡ mid.write_faults
  pub first_absences : mid.absences ≡ old.absences
  pub last_absences : new.absences ≡ mid.absences
  pub first_names : mid.failed_reads ≡ old.failed_reads
  pub last_names : new.failed_reads ≡ with_name its now mid.failed_reads
  pub named : IsTrue old.tells → its ≡ name
  pub unfailed : before ≡ 0
  pub rose : fault ≡ WavFaults.Read → Rose before now
  pub stays : fault ≢ WavFaults.Read → now ≡ before
  pub added : new.read_faults ≡ sum_of_counts mid.read_faults now
  pub told_is : told ≡ old.file name
  pub ends_is : ends ≡ old.ends name
  pub there : IsTrue old.tells → IsSome (old.file name)
  pub sized : WhereTold (old.file name) (λ bytes. size ≡ length bytes)
  pub reads : WhereTold told (λ bytes. UnlessStopped {A = WavHead} (Err fault) (Reads bytes))
  pub short : IfShort fault (StoppedShort size told ends)
  pub inside : WhereTold told (λ bytes. (head : WavHead) → Reads bytes (Ok head) → IfShort fault (λ at _. at < head.start))
  pub large : most_bytes < size → fault ≡ WavFaults.TooLarge size

module _ (line : ℕ) (name its : List ℕ) (old mid new : Outside) (fault : WavFault) (size : ℕ) (told : Option (List ℕ)) (ends : Option ℕ) (before now : ℕ) (T : IsTried name its old mid new fault size told ends before now) where
  calm : fault ≢ WavFaults.Read → new.read_faults ≡ old.read_faults
  calm other =
      let s = T.stays other in
      let z = T.unfailed in
      let a = T.added in
      let f = T.first_reads in
      let l = (T.last).read_faults in
      omega arith

  unnamed : fault ≢ WavFaults.Read → new.failed_reads ≡ old.failed_reads
  unnamed other =
      let none : now ≡ 0 = T.stays other ∙ T.unfailed in
      T.last_names ∙ (ap (λ (times : ℕ). with_name its times mid.failed_reads) none ∙ (sym (no_name its mid.failed_reads) ∙ T.first_names))

  bad : (IsTrue old.tells → (bytes : List ℕ) × (old.file name ≡ Some bytes) × UnlessStopped {A = WavHead} (Err fault) (Reads bytes))
  bad tells = let held = told_value (old.file name) (T.there tells) in (held.0, held.1, T.reads held.0 (T.told_is ∙ held.1))

  refused : IsSourceFault line name old new (fault_of_head line fault) → (fault_of_head line fault ≢ Faults.ReadFault → fault ≢ WavFaults.Read) → IsSourceRefused line name old new (fault_of_head line fault)
  refused why other = record {
    goes_on = then old mid new T.first T.last;
    files = T.last_files ∙ T.first_files;
    reads = λ n. calm (other n);
    unread = λ n. unnamed (other n);
    writes = T.last_writes ∙ T.first_writes;
    unabsent = λ _. T.last_absences ∙ T.first_absences;
    why = why;
  }

read_not : (line : ℕ) (fault : WavFault) → fault_of_head line fault ≢ Faults.ReadFault → fault ≢ WavFaults.Read
read_not line fault n e = n (ap (fault_of_head line) e)

-- a file that is told as short isn't too large
small_short : (at whole size : ℕ) → whole ≡ size → (most_bytes < size → WavFaults.Short at whole ≡ WavFaults.TooLarge size) → whole ≤ most_bytes
small_short at whole size same large = elim (cases_lt most_bytes size) [
  | inl lt ↦ let e : WavFaults.Short at whole ≡ WavFaults.TooLarge size = large lt in absurd cc
  | inr le ↦ omega arith
]

pub head_refused : (line : ℕ) (name its : List ℕ) (old mid new : Outside) (fault : WavFault) (size : ℕ) (told : Option (List ℕ)) (ends : Option ℕ) (before now : ℕ) → IsTried name its old mid new fault size told ends before now
    → IsSourceRefused line name old new (fault_of_head line fault)
head_refused line name its old mid new WavFaults.Read size told ends before now T =
    let rose = T.rose refl in
    let z = T.unfailed in
    let a = T.added in
    let f = T.first_reads in
    let some : 1 ≤ now = omega (arith, rose) in
    let n : IsFailedRead (name ∷ []) old new = record {
      rose = omega arith;
      named = λ tells. names-same name now old.failed_reads new.failed_reads some
          (T.last_names ∙ (ap (with_name its now) T.first_names ∙ ap (λ (n : List ℕ). with_name n now old.failed_reads) (T.named tells)));
    } in
    refused line name its old mid new WavFaults.Read size told ends before now T n (read_not line WavFaults.Read)
head_refused line name its old mid new (WavFaults.Short at whole) size told ends before now T =
    let short : StoppedShort size told ends at whole = T.short in
    let s : StoppedShort whole (old.file name) (old.ends name) at whole =
    subst (λ (z : ℕ). StoppedShort z (old.file name) (old.ends name) at whole) (sym short.whole)
    (subst (λ (t : Option (List ℕ)). StoppedShort size t (old.ends name) at whole) T.told_is (subst (λ (e : Option ℕ). StoppedShort size told e at whole) T.ends_is short)) in
    refused line name its old mid new (WavFaults.Short at whole) size told ends before now T (
      refl,
      record {
        stopped = s;
        whole = λ tells. (let held = told_value (old.file name) (T.there tells) in (held.0, held.1, short.whole ∙ T.sized held.0 held.1));
        inside = λ bytes is. T.inside bytes (T.told_is ∙ is);
        small = small_short at whole size short.whole T.large;
      },
    )
    (read_not line (WavFaults.Short at whole))
head_refused line name its old mid new (WavFaults.TooLarge large) size told ends before now T = refused line name its old mid new (WavFaults.TooLarge large) size told ends before now T (refl, tt, bad line name its old mid new _ size told ends before now T) (read_not line (WavFaults.TooLarge large))
head_refused line name its old mid new WavFaults.NotRiff size told ends before now T = refused line name its old mid new WavFaults.NotRiff size told ends before now T (refl, tt, bad line name its old mid new _ size told ends before now T) (read_not line WavFaults.NotRiff)
head_refused line name its old mid new WavFaults.NoFormat size told ends before now T = refused line name its old mid new WavFaults.NoFormat size told ends before now T (refl, tt, bad line name its old mid new _ size told ends before now T) (read_not line WavFaults.NoFormat)
head_refused line name its old mid new WavFaults.BadFormat size told ends before now T = refused line name its old mid new WavFaults.BadFormat size told ends before now T (refl, tt, bad line name its old mid new _ size told ends before now T) (read_not line WavFaults.BadFormat)
head_refused line name its old mid new WavFaults.NoSamples size told ends before now T = refused line name its old mid new WavFaults.NoSamples size told ends before now T (refl, tt, bad line name its old mid new _ size told ends before now T) (read_not line WavFaults.NoSamples)
head_refused line name its old mid new (WavFaults.UnsupportedTag tag) size told ends before now T = refused line name its old mid new (WavFaults.UnsupportedTag tag) size told ends before now T (refl, tt, bad line name its old mid new _ size told ends before now T) (read_not line (WavFaults.UnsupportedTag tag))

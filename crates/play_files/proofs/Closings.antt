-- Files are closed one after another.
use Rattle.std.proofs.Common.{◌≡◌, ℕ, zero, suc, ◌+◌, ◌-◌, ◌<◌, ◌≤◌, ◌^◌, List, [], ◌∷◌, ◌++◌, length, replicate, slice_get, Option, Some, None, Result, Ok, Err, OnOk, OnErr, inl, inr, refl, sym, ◌∙◌, ap, subst, arith}
use Rattle.std.specs.List.{sum_by}
use Rattle.std.proofs.lemmas.List.{length-append, length-replicate, take_all}
use Rattle.std.proofs.lemmas.List.Sums.{sum_by-cons}
use Rattle.outside_io.specs.Causes.{Rose, sum_of_counts}
use Rattle.outside_io.specs.Files.{GoesOn, IsFrontOf, Outside, SameBut, failed_with, with_name, with_names}
use Rattle.outside_io.proofs.Names.{no_name}
use Rattle.outside_io.specs.Moves.{WhereTold}
use Rattle.outside_io.specs.declared.source.Failed.{Failed}
use Rattle.play_files.specs.Closing.{AreNamedApart, AreClosed, IsClosed, IsOfFailed, IsSinkAt, NamesFailed, failed_reads, failed_writes, joined}
use Rattle.play_files.specs.Seen.{FileSeen, Reads, SinkSeen, SourceSeen, Writes}
use Rattle.play_files.proofs.Asking.{names_twice}
use Rattle.play_files.proofs.Lists.{appended_at}

pub same : (old : Outside) → GoesOn old old
same old = record { tells = refl; ends = refl; may_refuse = refl; read_faults = omega arith; write_faults = omega arith; absences = omega arith }

pub then : (old mid new : Outside) → GoesOn old mid → GoesOn mid new → GoesOn old new
then old mid new a b =
    let ar = a.read_faults in
    let br = b.read_faults in
    let aw = a.write_faults in
    let bw = b.write_faults in
    let aa = a.absences in
    let ba = b.absences in
    record { tells = b.tells ∙ a.tells; ends = b.ends ∙ a.ends; may_refuse = b.may_refuse ∙ a.may_refuse; read_faults = omega arith; write_faults = omega arith; absences = omega arith }

-- ---- the names of failed reads

-- where none failed, none is named
none_failed : (files : List (Option FileSeen)) (old : Option (List (List ℕ))) → sum_by failed_reads files ≡ 0 → NamesFailed files old old
none_failed files old none = ([], sym none, λ k name at. absurd cc, no_name [] old)

pub unread_names : (files : List (Option FileSeen)) (old new : Option (List (List ℕ))) → sum_by failed_reads files ≡ 0 → NamesFailed files old new → new ≡ old
unread_names files old new none ([], many, each, is) = is ∙ sym (no_name [] old)
unread_names files old new none (name ∷ more, many, each, is) = absurd (omega (arith, many, none))

-- the same name so many times is found only where it is at all
repeated : (name : List ℕ) (times k : ℕ) (found : List ℕ) → slice_get (replicate times name) k ≡ Some found → (name ≡ found) × (1 ≤ times)
repeated name zero k found at = absurd cc
repeated name (suc times) zero found at = (cc, omega arith)
repeated name (suc times) (suc k) found at = ((repeated name times k found at).0, omega arith)

source_failed : (source : SourceSeen) (format : _) (frames : ℕ) (old : Option (List (List ℕ))) → NamesFailed (Some (Reads source format frames) ∷ []) old (with_name source.name source.faults old)
source_failed source format frames old = (
  replicate source.faults source.name,
  length-replicate source.faults source.name ∙ sym (sum_by-cons failed_reads (Some (Reads source format frames)) [] ∙ (omega arith)),
  λ k name at. (let r = repeated source.name source.faults k name at in (0, source, (format, frames, refl), r.0, r.1)),
  refl,
)

-- one file more
failed_first : (file : Option FileSeen) (files : List (Option FileSeen)) (name : List ℕ) → IsOfFailed (file ∷ []) name → IsOfFailed (file ∷ files) name
failed_first file files name (zero, source, at, is, some) = (0, source, at, is, some)
failed_first file files name (suc place, source, at, is, some) = absurd (let e = at.2 in cc)

failed_next : (file : Option FileSeen) (files : List (Option FileSeen)) (name : List ℕ) → IsOfFailed files name → IsOfFailed (file ∷ files) name
failed_next file files name (place, source, at, is, some) = (suc place, source, at, is, some)

failed_more : (file : Option FileSeen) (files : List (Option FileSeen)) (old mid new : Option (List (List ℕ))) → NamesFailed files old mid → NamesFailed (file ∷ []) mid new → NamesFailed (file ∷ files) old new
failed_more file files old mid new (first, first_many, first_each, mid_is) (last, last_many, last_each, new_is) = (
  first ++ last,
  (let a = length-append first last in let b = sum_by-cons failed_reads file [] in let d = sum_by-cons failed_reads file files in omega arith),
  λ k name at. elim (appended_at first last k name at) [
    | inl here ↦ failed_next file files name (first_each k name here)
    | inr (n, here) ↦ failed_first file files name (last_each n name here)
  ],
  new_is ∙ ap (with_names last) mid_is ∙ names_twice first last old,
)

-- ---- one file

pub none_closed : (old : Outside) → IsClosed None old old (Ok tt)
none_closed old = record {
  goes_on = same old;
  absences = refl;
  openings = refl;
  named = λ few same. refl;
  named_reads = none_failed (None ∷ []) old.failed_reads refl;
  reads = λ few. omega arith;
  writes = omega arith;
  whole = λ few. omega arith;
  failed = tt;
  others = λ name other. refl;
  unwritten = λ none. (refl, refl, refl);
  unread = λ none. refl;
  held = λ sink frames is. absurd cc;
  front = λ sink frames is. absurd cc;
}

pub source_closed : (source : SourceSeen) (format : _) (frames : ℕ) (old new : Outside) → GoesOn old new → new.file ≡ old.file → new.absences ≡ old.absences → new.openings ≡ old.openings → new.failed_writes ≡ old.failed_writes → new.write_faults ≡ old.write_faults
    → new.failed_reads ≡ with_name source.name source.faults old.failed_reads → new.read_faults ≡ sum_of_counts old.read_faults source.faults → IsClosed (Some (Reads source format frames)) old new (Ok tt)
source_closed source format frames old new on files absences openings names writes failures added = record {
  goes_on = on;
  absences = absences;
  openings = openings;
  named = λ few same. names;
  named_reads = subst (NamesFailed (Some (Reads source format frames) ∷ []) old.failed_reads) (sym failures) (source_failed source format frames old.failed_reads);
  reads = λ few. added;
  writes = omega arith;
  whole = λ few. omega arith;
  failed = tt;
  others = λ name other. ap (λ (f : List ℕ → Option (List ℕ)). f name) files;
  unwritten = λ none. (files, writes, names);
  unread = λ none. (let more = on.read_faults in omega arith);
  held = λ sink frames is. absurd cc;
  front = λ sink frames is. absurd cc;
}

front_of : (closed : Result (Unit {0}) Failed) (held told : Option (List ℕ)) → OnOk closed (held ≡ told) → OnErr closed (WhereTold told (IsFrontOf held)) → WhereTold told (IsFrontOf held)
front_of (Ok done) held told whole front bytes is = (length bytes, whole ∙ (is ∙ ap Some (sym (take_all (length bytes) bytes (omega arith)))))
front_of (Err failed) held told whole front bytes is = front bytes is

same_sink : (a b : SinkSeen) (n m : ℕ) → Some (Writes a n) ≡ Some (Writes b m) → a ≡ b
same_sink a b n m e = cc

-- where no failure was counted, none is named
none_named : (name : List ℕ) (before now faults : ℕ) (result : Result (Unit {0}) Failed) (old new : Option (List (List ℕ))) → before < 2 ^ 64 - 1 → now ≡ before
    → OnOk result (now ≡ sum_of_counts before faults) → OnErr result (Rose (sum_of_counts before faults) now) → new ≡ with_name name (failed_with faults result) old → new ≡ old
none_named name before now faults (Ok done) old new few same whole failed names =
    let none : faults ≡ 0 = omega (arith, few, same, whole) in
    names ∙ (ap (λ (times : ℕ). with_name name times old) none ∙ sym (no_name name old))
none_named name before now faults (Err other) old new few same whole failed names = absurd (omega (arith, few, same, failed))

pub sink_closed : (sink : SinkSeen) (frames : ℕ) (old new : Outside) (result : Result (Unit {0}) Failed) → GoesOn old new → SameBut sink.name old new
    → OnOk result (new.file sink.name ≡ sink.told) → OnErr result (WhereTold sink.told (IsFrontOf (new.file sink.name))) → new.absences ≡ old.absences → new.openings ≡ old.openings → new.read_faults ≡ old.read_faults
    → sum_of_counts old.write_faults sink.faults ≤ new.write_faults → OnOk result (new.write_faults ≡ sum_of_counts old.write_faults sink.faults)
    → OnErr result (Rose (sum_of_counts old.write_faults sink.faults) new.write_faults)
    → new.failed_reads ≡ old.failed_reads → new.failed_writes ≡ with_name sink.name (failed_with sink.faults result) old.failed_writes → IsClosed (Some (Writes sink frames)) old new result
sink_closed sink frames old new result on others held front absences openings reads added whole failed unread names = record {
  goes_on = on;
  absences = absences;
  openings = openings;
  named = λ few same. none_named sink.name old.write_faults new.write_faults sink.faults result old.failed_writes new.failed_writes few same whole failed names;
  named_reads = subst (NamesFailed (Some (Writes sink frames) ∷ []) old.failed_reads) (sym unread) (none_failed (Some (Writes sink frames) ∷ []) old.failed_reads refl);
  reads = λ few. omega arith;
  writes = added;
  whole = λ few. whole;
  failed = failed;
  others = λ name other. others name (λ e. other sink frames refl (sym e));
  unwritten = λ none. absurd (none sink frames refl);
  unread = λ none. reads;
  held = λ s n is. subst (λ (y : SinkSeen). OnOk result (new.file y.name ≡ y.told)) (same_sink sink s frames n is) held;
  front = λ s n is. subst (λ (y : SinkSeen). WhereTold y.told (IsFrontOf (new.file y.name))) (same_sink sink s frames n is) (front_of result (new.file sink.name) sink.told held front);
}

-- ---- all

pub nothing_closed : (old : Outside) → AreClosed [] old old (Ok tt)
nothing_closed old = record {
  goes_on = same old;
  absences = refl;
  openings = refl;
  named = λ few same. refl;
  named_reads = none_failed [] old.failed_reads refl;
  reads = λ few. omega arith;
  writes = omega arith;
  whole = λ few. omega arith;
  failed = tt;
  others = λ name other. refl;
  unwritten = λ none. (refl, refl, refl);
  unread = λ none. refl;
  held = λ apart place sink at. absurd (let e = at.1 in cc);
  front = λ apart place sink at. absurd (let e = at.1 in cc);
}

later_sink : (file : Option FileSeen) (files : List (Option FileSeen)) (place : ℕ) (sink : SinkSeen) → IsSinkAt files place sink → IsSinkAt (file ∷ files) (suc place) sink
later_sink file files place sink at = at

first_sink : (file : Option FileSeen) (files : List (Option FileSeen)) (sink : SinkSeen) (frames : ℕ) → file ≡ Some (Writes sink frames) → IsSinkAt (file ∷ files) zero sink
first_sink file files sink frames is = (frames, ap Some is)

first_is : (file : Option FileSeen) (files : List (Option FileSeen)) (sink : SinkSeen) → IsSinkAt (file ∷ files) zero sink → (frames : ℕ) × (file ≡ Some (Writes sink frames))
first_is file files sink (frames, at) = (frames, cc)

later_apart : (file : Option FileSeen) (files : List (Option FileSeen)) → AreNamedApart (file ∷ files) → AreNamedApart files
later_apart file files apart place other a b at bt e = let s : suc place ≡ suc other = apart (suc place) (suc other) a b at bt e in cc

-- both closings were good
both_ok : (r q : Result (Unit {0}) Failed) (P Q R : Type 0) → OnOk r P → OnOk q Q → (P → Q → R) → OnOk (joined r q) R
both_ok (Ok a) (Ok b) P Q R p q f = f p q
both_ok (Ok a) (Err b) P Q R p q f = tt
both_ok (Err a) b P Q R p q f = tt

-- one of them failed
one_failed : (r q : Result (Unit {0}) Failed) (old mid new sum more all : ℕ) → all ≡ more + sum → sum_of_counts old sum ≤ mid → OnErr r (Rose (sum_of_counts old sum) mid) → sum_of_counts mid more ≤ new
    → OnErr q (Rose (sum_of_counts mid more) new) → OnErr (joined r q) (Rose (sum_of_counts old all) new)
one_failed (Ok a) (Ok b) old mid new sum more all is below f le g = tt
one_failed (Ok a) (Err b) old mid new sum more all is below f le g = omega arith
one_failed (Err a) q old mid new sum more all is below f le g = omega arith

any : (r : Result (Unit {0}) Failed) → OnOk r (Unit {0})
any (Ok a) = tt
any (Err a) = tt

whole_later : (P Q : Type 0) (q : Result (Unit {0}) Failed) → (P → OnOk q Q) → OnOk q (P → Q)
whole_later P Q (Ok a) f = f
whole_later P Q (Err a) f = tt

-- a sink that was closed before keeps what it has
module _ (file : Option FileSeen) (files : List (Option FileSeen)) (old mid new : Outside) (r q : Result (Unit {0}) Failed) (C : AreClosed files old mid r) (O : IsClosed file mid new q) where
  kept_sink : AreNamedApart (file ∷ files) → (place : ℕ) (sink : SinkSeen) → IsSinkAt files place sink → new.file sink.name ≡ mid.file sink.name
  kept_sink apart place sink at =
      O.others sink.name (λ other frames is e. absurd (let s : zero ≡ suc place = apart zero (suc place) other sink (first_sink file files other frames is) at e in cc))

  more_held : AreNamedApart (file ∷ files) → (place : ℕ) (sink : SinkSeen) → IsSinkAt (file ∷ files) place sink → OnOk (joined r q) (new.file sink.name ≡ sink.told)
  more_held apart zero sink at =
      let is = first_is file files sink at in
      both_ok r q (Unit {0}) (new.file sink.name ≡ sink.told) _ (any r) (O.held sink is.0 is.1) (λ _ h. h)
  more_held apart (suc place) sink at =
      both_ok r q (mid.file sink.name ≡ sink.told) (Unit {0}) _ (C.held (later_apart file files apart) place sink at) (any q) (λ h _. kept_sink apart place sink at ∙ h)

  more_front : AreNamedApart (file ∷ files) → (place : ℕ) (sink : SinkSeen) → IsSinkAt (file ∷ files) place sink → WhereTold sink.told (IsFrontOf (new.file sink.name))
  more_front apart zero sink at = let is = first_is file files sink at in O.front sink is.0 is.1
  more_front apart (suc place) sink at =
      subst (λ (held : Option (List ℕ)). WhereTold sink.told (IsFrontOf held)) (sym (kept_sink apart place sink at)) (C.front (later_apart file files apart) place sink at)

  pub closed_more : AreClosed (file ∷ files) old new (joined r q)
  closed_more =
      let reads_all = sum_by-cons failed_reads file files in
      let writes_all = sum_by-cons failed_writes file files in
      let one = O.writes in
      let rest = C.writes in
      record {
        goes_on = then old mid new C.goes_on O.goes_on;
        absences = O.absences ∙ C.absences;
        openings = O.openings ∙ C.openings;
        named = λ few same. (let a = (C.goes_on).write_faults in let b = (O.goes_on).write_faults in O.named (omega (arith, few, same, a, b)) (omega (arith, same, a, b)) ∙ C.named few (omega (arith, same, a, b)));
        named_reads = failed_more file files old.failed_reads mid.failed_reads new.failed_reads C.named_reads O.named_reads;
        reads = λ few. (let a = C.reads few in let b = O.reads (omega arith) in omega arith);
        writes = omega arith;
        whole = λ few. both_ok r q (mid.write_faults ≡ sum_of_counts old.write_faults (sum_by failed_writes files)) (mid.write_faults < 2 ^ 64 → new.write_faults ≡ sum_of_counts mid.write_faults (failed_writes file)) _
            (C.whole few) (whole_later _ _ q O.whole) (λ a b. (let c = b (omega arith) in omega arith));
        failed = one_failed r q old.write_faults mid.write_faults new.write_faults _ _ _ writes_all rest C.failed one O.failed;
        others = λ name other.
            O.others name (λ sink frames is. other zero sink (first_sink file files sink frames is))
            ∙ C.others name (λ place sink at. other (suc place) sink (later_sink file files place sink at));
        unwritten = λ none.
            (let a = O.unwritten (λ sink frames is. none zero sink (first_sink file files sink frames is)) in
            let b = C.unwritten (λ place sink at. none (suc place) sink (later_sink file files place sink at)) in
            (a.0 ∙ b.0, a.1 ∙ b.1, a.2 ∙ b.2));
        unread = λ none. O.unread (omega arith) ∙ C.unread (omega arith);
        held = more_held;
        front = more_front;
      }

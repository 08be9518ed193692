-- The check of a log tells the fault that the files ask for.
use Rattle.std.proofs.Common.{◌≡◌, ◌⊎◌, inl, inr, ℕ, ◌<◌, List, length, Option, None, Result, Ok, Err, IsSome, IsTrue, ap, sym, subst, refl, ◌∙◌}
use Rattle.outside_io.specs.Files.{Outside}
use Rattle.omx_types.specs.declared.fault.AuditWhy.{AuditWhy}
use Rattle.omx_types.specs.declared.fault.Fault.{Fault}
use Rattle.omx_types.specs.declared.fault.Fault.TheVariants as Faults
use Rattle.omx_types.specs.declared.fault.Status.{Status}
use Rattle.omx_types.specs.declared.fault.Status.TheVariants as Statuses
use Rattle.omx_types.specs.declared.fault.Which.TheVariants as Files
use Rattle.script_lang.specs.declared.play_line.PartLine.{PartLine}
use Rattle.script_lang.specs.declared.script.Script.{Script}
use Rattle.play_files.proofs.FittedPlans.{fitted_later}
use Rattle.audit_forms.specs.Audited.{Verdict, Yes, No}
use Rattle.run_audit.specs.Faults.{AreThere, Asks, GiveHeads, GivesUpTo, IsBadLog, IsBadSource, IsFitBy}
use Rattle.run_audit.proofs.FaultOfCall.{fault_asked, unjudged}
use Rattle.run_audit.proofs.FaultOfFile.{IsOr, none_there}
use Rattle.omxrun.specs.Asked.{IsFaultless, IsOrMemory}
use Rattle.omxrun.specs.AuditFaults.{AsksAudit}
use Rattle.omxrun.specs.Audits.{IsAuditOf, IsAuditOutcome, IsDecided, IsUndecided}
use Rattle.omxrun.specs.Plays.{HasPlayReason, WasRead}
use Rattle.omxrun.specs.Reports.{IsReported}
use Rattle.omxrun.specs.declared.done.Done.{Done}
use Rattle.omxrun.specs.declared.done.Done.TheVariants as Dones
use Rattle.omxrun.proofs.Complete.{none-some, told-status}
use Rattle.omxrun.proofs.PlayEnds.{PlayOnce, calm-later, calm-of, none-read, read-same, script-last, unread-last}

-- ---- what the files ask for is so once the script was read

module _ (old mid : Outside) (files : mid.file ≡ old.file) (ends : mid.ends ≡ old.ends) (tells : mid.tells ≡ old.tells) where
  file-at : (name : List ℕ) → mid.file name ≡ old.file name
  file-at name = ap (λ (f : List ℕ → Option (List ℕ)). f name) files

  gives-later : (name : List ℕ) (count : ℕ) → GivesUpTo old name count → GivesUpTo mid name count
  gives-later name count (end, told, after) = (end, ap (λ (f : List ℕ → Option ℕ). f name) ends ∙ told, after)

  pub heads-later : (parts : List PartLine) (count : ℕ) → GiveHeads old parts count → GiveHeads mid parts count
  heads-later parts count H place name low reader =
      let G = H place name low reader in
      let (bytes, held, reads) = G.held in
      record { head = G.head; held = (bytes, file-at name ∙ held, reads); given = gives-later name (G.head).start G.given }

  bad-later : (line : ℕ) (name : List ℕ) (fault : Fault) → IsBadSource line name old fault → IsBadSource line name mid fault
  bad-later line name (Faults.Absent which) B = (B.0, file-at name ∙ B.1)
  bad-later line name (Faults.BadMedia which wav) B =
      (let M = B.1 in
      (B.0, record { bytes = M.bytes; held = file-at name ∙ M.held; given = gives-later name (length M.bytes) M.given; reads = M.reads }))
  bad-later line name Faults.ReadFault B = absurd B
  bad-later line name Faults.OutOfMemory B = absurd B
  bad-later line name (Faults.Short which at size) B = absurd B
  bad-later line name (Faults.Script at why) B = absurd B
  bad-later line name Faults.Usage B = absurd B
  bad-later line name Faults.WriteFault B = absurd B
  bad-later line name (Faults.Units have need) B = absurd B
  bad-later line name (Faults.Packets reason) B = absurd B
  bad-later line name (Faults.NotRun at why) B = absurd B

  log-later : (log : List ℕ) (fault : Fault) → IsBadLog log old fault → IsBadLog log mid fault
  log-later log (Faults.Absent which) B = (B.0, file-at log ∙ B.1)
  log-later log (Faults.Short which at size) B =
      (let C = B.1 in
      (B.0, record { bytes = C.bytes; held = file-at log ∙ C.held; whole = C.whole; told_end = ap (λ (f : List ℕ → Option ℕ). f log) ends ∙ C.told_end; early = C.early }))
  log-later log (Faults.Script at why) B = absurd B
  log-later log Faults.Usage B = absurd B
  log-later log (Faults.BadMedia which wav) B = absurd B
  log-later log Faults.ReadFault B = absurd B
  log-later log Faults.WriteFault B = absurd B
  log-later log Faults.OutOfMemory B = absurd B
  log-later log (Faults.Units have need) B = absurd B
  log-later log (Faults.Packets reason) B = absurd B
  log-later log (Faults.NotRun at why) B = absurd B

  pub there-later : (parts : List PartLine) (count : ℕ) → AreThere old parts count → AreThere mid parts count
  there-later parts count T place name low writer = subst (λ (o : Option (List ℕ)). IsSome o) (sym (file-at name)) (T place name low writer)

  pub fits-later : (script : Script) → IsFitBy script old → IsFitBy script mid
  fits-later script F = record { fitted = F.fitted; fits_to = fitted_later script old mid F.fitted files tells F.fits_to; fit = F.fit }

  asks-later : (script : Script) (log : List ℕ) (fault : Fault) → Asks script log old fault → Asks script log mid fault
  asks-later script log fault (inl A) = inl A
  asks-later script log fault (inr (inl A)) = inr (inl (record {
    plan = A.plan;
    is_plan = A.is_plan;
    place = A.place;
    part = A.part;
    there = A.there;
    name = A.name;
    reads_file = A.reads_file;
    before = heads-later _ A.place A.before;
    bad = bad-later (A.part).line A.name fault A.bad;
  }))
  asks-later script log fault (inr (inr (inl A))) = inr (inr (inl (record {
    sources = heads-later _ _ A.sources;
    fitted = A.fitted;
    fits_to = fitted_later script old mid A.fitted files tells A.fits_to;
    why = A.why;
    misfits = A.misfits;
    told = A.told;
  })))
  asks-later script log fault (inr (inr (inr (inl A)))) = inr (inr (inr (inl (record {
    sources = heads-later _ _ A.sources;
    fits = fits-later script A.fits;
    place = A.place;
    part = A.part;
    there = A.there;
    name = A.name;
    writes_file = A.writes_file;
    before = there-later _ A.place A.before;
    absent = file-at A.name ∙ A.absent;
    told = A.told;
  }))))
  asks-later script log fault (inr (inr (inr (inr A)))) = inr (inr (inr (inr (record {
    sources = heads-later _ _ A.sources;
    fits = fits-later script A.fits;
    sinks = there-later _ _ A.sinks;
    bad = log-later log fault A.bad;
  }))))

-- ---- a verdict, or none

-- a fault is that of a no, or there is no verdict
pub no-or-none : (name log : List ℕ) (old new : Outside) (fault : Fault) → IsAuditOf name log old new (Err fault)
    → ((line : ℕ) × (why : AuditWhy) × (fault ≡ Faults.NotRun line why) × IsAuditOf name log old new (Err (Faults.NotRun line why))) ⊎ IsUndecided name log old new fault
no-or-none name log old new (Faults.NotRun line why) N = inl (line, why, refl, N)
no-or-none name log old new (Faults.Script line why) U = inr U
no-or-none name log old new Faults.Usage U = inr U
no-or-none name log old new (Faults.BadMedia which wav) U = inr U
no-or-none name log old new Faults.ReadFault U = inr U
no-or-none name log old new Faults.WriteFault U = inr U
no-or-none name log old new (Faults.Absent which) U = inr U
no-or-none name log old new Faults.OutOfMemory U = inr U
no-or-none name log old new (Faults.Short which at size) U = inr U
no-or-none name log old new (Faults.Units have need) U = inr U
no-or-none name log old new (Faults.Packets reason) U = inr U

pub is-yes : (name log : List ℕ) (old new : Outside) (done : Done) → IsAuditOf name log old new (Ok done) → (acts : ℕ) × IsDecided name log old new (Yes acts)
is-yes name log old new (Dones.Audited acts) (D, names) = (acts, D)
is-yes name log old new (Dones.Made frames) is = absurd is
is-yes name log old new (Dones.Packed counts) is = absurd is
is-yes name log old new (Dones.Unpacked counts) is = absurd is

-- ---- the script isn't there

module _ (play_once : PlayOnce) (name log : List ℕ) (old new : Outside) (before now : ℕ) (none : IsFaultless old new before now) (wanted : Fault) where
  script-absent : (fault : Fault) → IsTrue old.tells → old.file name ≡ None → HasPlayReason name log old new fault → IsOr fault (Faults.Absent Files.Script)
  script-absent (Faults.Script line why) tells absent is = (let N = is.1 tells in absurd (none-some N.bytes (old.file name) absent N.held))
  script-absent Faults.Usage tells absent is = absurd is
  script-absent (Faults.BadMedia which wav) tells absent is = absurd is
  script-absent Faults.ReadFault tells absent is = absurd (none.read is.rose)
  script-absent Faults.WriteFault tells absent is = absurd is
  script-absent (Faults.Absent Files.Script) tells absent is = inl refl
  script-absent (Faults.Absent Files.Log) tells absent is = absurd is
  script-absent (Faults.Absent (Files.Line line)) tells absent is = absurd is
  script-absent (Faults.Absent (Files.Made number)) tells absent is = absurd is
  script-absent (Faults.Absent Files.Input) tells absent is = absurd is
  script-absent (Faults.Absent Files.Output) tells absent is = absurd is
  script-absent Faults.OutOfMemory tells absent is = inr refl
  script-absent (Faults.Short Files.Script at size) tells absent is = absurd (none_there (old.file name) absent (is.2 tells))
  script-absent (Faults.Short Files.Log at size) tells absent is = absurd is
  script-absent (Faults.Short (Files.Line line) at size) tells absent is = absurd is
  script-absent (Faults.Short (Files.Made number) at size) tells absent is = absurd is
  script-absent (Faults.Short Files.Input at size) tells absent is = absurd is
  script-absent (Faults.Short Files.Output at size) tells absent is = absurd is
  script-absent (Faults.Units have need) tells absent is = absurd is
  script-absent (Faults.Packets reason) tells absent is = absurd is
  script-absent (Faults.NotRun line why) tells absent is = absurd is

  -- ---- what the files ask for

  none-was-read : AsksAudit name log old wanted → (mid : Outside) (script : Script) → WasRead name log old mid script → Asks script log mid wanted × IsTrue mid.tells
  none-was-read (inl (tells, absent, e)) mid script W = absurd (none-some W.text (old.file name) absent (W.held tells))
  none-was-read (inr (inl (line, why, U, e))) mid script W = absurd (none-read play_once name log W.text old line why script U.tells W.held W.is U)
  none-was-read (inr (inr (asked, A, asks))) mid script W =
      let same : script ≡ asked = read-same play_once name log old mid script asked W A in (
        asks-later old mid W.files (W.goes_on).ends (W.goes_on).tells script log wanted (subst (λ (s : Script). Asks s log old wanted) (sym same) asks),
        (W.goes_on).tells ∙ A.tells,
      )

  -- the log isn't judged
  undecided : AsksAudit name log old wanted → (verdict : Verdict) → IsDecided name log old new verdict → ⊥
  undecided asks verdict D =
      let (later, tells) = none-was-read asks D.mid D.script D.read in
      unjudged D.script log D.mid new tells ((calm-later name log old D.mid new D.script D.read before now none).read) wanted wanted later verdict D.judged

  unread : AsksAudit name log old wanted → (fault : Fault) → HasPlayReason name log old new fault → IsOr fault wanted
  unread (inl (tells, absent, e)) fault reason = subst (IsOr fault) (sym e) (script-absent fault tells absent reason)
  unread (inr (inl (line, why, U, e))) fault reason = subst (IsOr fault) (sym e) (unread-last play_once name log old new line why fault (calm-of old new before now none) U reason)
  unread (inr (inr (asked, A, asks))) fault reason = inr (script-last play_once name log old new asked fault (calm-of old new before now none) A reason)

  told-or : AsksAudit name log old wanted → (fault : Fault) → IsUndecided name log old new fault → IsOr fault wanted
  told-or asks fault (inl reason) = unread asks fault reason
  told-or asks fault (inr (script, mid, W, U)) =
      let (later, tells) = none-was-read asks mid script W in
      fault_asked script log mid new tells ((calm-later name log old mid new script W before now none).read) fault wanted later U

  or-status : (fault : Fault) (status : Status) → status ≡ Statuses.Fault fault → IsOr fault wanted → IsOrMemory status (Statuses.Fault wanted)
  or-status fault status s (inl e) = inl (s ∙ ap Statuses.Fault e)
  or-status fault status s (inr e) = inr (s ∙ ap Statuses.Fault e)

  pub asked_audit : AsksAudit name log old wanted → (told told_new : Option (List ℕ)) (status : Status) (outcome : Result Done Fault) → IsAuditOutcome name log old new outcome → IsReported outcome told told_new before now status → IsOrMemory status (Statuses.Fault wanted)
  asked_audit asks told told_new status (Ok done) is told_is = (let (acts, D) = is-yes name log old new done is.is in absurd (undecided asks (Yes acts) D))
  asked_audit asks told told_new status (Err fault) is told_is = elim (no-or-none name log old new fault is.is) [
    | inl (line, why, e, N) ↦ absurd (undecided asks (No line why) N.0)
    | inr U ↦ or-status fault status (told-status (Err fault) told told_new before now status none.print told_is) (told-or asks fault U)
  ]

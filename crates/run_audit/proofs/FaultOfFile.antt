-- Where no read failed, one file has the fault that it asks for, or memory was wanting.
use Rattle.std.proofs.Common.{◌≡◌, ◌⊎◌, inl, inr, ℕ, List, length, Option, Some, None, Result, Ok, Err, IsSome, IsTrue, ap, sym, subst, refl, ◌∙◌, arith}
use Rattle.omx_types.specs.declared.fault.Fault.{Fault}
use Rattle.omx_types.specs.declared.fault.Fault.TheVariants as Faults
use Rattle.omx_types.specs.declared.fault.WavFault.{WavFault}
use Rattle.omx_types.specs.declared.fault.Which.{Which}
use Rattle.omx_types.specs.declared.fault.Which.TheVariants.{Line, Log}
use Rattle.outside_io.specs.Causes.{Rose}
use Rattle.outside_io.specs.Files.{Outside}
use Rattle.wav_form.specs.declared.heads.WavHead.{WavHead}
use Rattle.wav_form.specs.Reading.{Reads}
use Rattle.wav_form.proofs.Read.{same_answer}
use Rattle.play_files.specs.Opening.{HasHead, IsShortHead, IsSourceFault}
use Rattle.audit_files.specs.Left.{IsKnownFault}
use Rattle.run_audit.specs.Auditing.{IsLogFault}
use Rattle.run_audit.specs.Faults.{GivesHead, GivesUpTo, IsBadLog, IsBadMedia, IsBadSource, IsCutAt, IsLogGiven}

-- the one that is wanted, or want of memory
abbrev pub IsOr : Fault → Fault → Type 0
IsOr fault wanted = (fault ≡ wanted) ⊎ (fault ≡ Faults.OutOfMemory)

abbrev pub IsCalm : Outside → Outside → Type 0
IsCalm old new = Rose old.read_faults new.read_faults → ⊥

pub none_some : {A : Type 0} (a : A) (held : Option A) → held ≡ None → held ≡ Some a → ⊥
none_some a held p q = let e : None ≡ Some a = sym p ∙ q in cc

pub none_there : {A : Type 0} (held : Option A) → held ≡ None → IsSome held → ⊥
none_there None p there = cc
none_there (Some a) p there = cc

same_bytes : (a b : List ℕ) (held : Option (List ℕ)) → held ≡ Some a → held ≡ Some b → a ≡ b
same_bytes a b held p q = let e : Some a ≡ Some b = sym p ∙ q in cc

same_fault : (a b : WavFault) (one other : Result WavHead WavFault) → one ≡ Err a → other ≡ Err b → one ≡ other → a ≡ b
same_fault a b one other p q same = let e : Err a ≡ Err b = sym p ∙ (same ∙ q) in cc

-- a file has one head, or one fault
pub no_head : (bytes found : List ℕ) (held : Option (List ℕ)) (head : WavHead) (fault : WavFault) → held ≡ Some bytes → held ≡ Some found → Reads bytes (Err fault) → Reads found (Ok head) → ⊥
no_head bytes found held head fault p q bad good =
    let e = same_answer bytes (Ok head) (Err fault) (subst (λ (b : List ℕ). Reads b (Ok head)) (same_bytes found bytes held q p) good) bad in
    absurd cc

-- ---- a source

-- it gives its head, and so isn't short before that
not_short : (name : List ℕ) (old : Outside) (at size : ℕ) → GivesHead old name → IsShortHead name old at size → ⊥
not_short name old at size G S =
    let (bytes, held, reads) = G.held in
    let (end, told, after) = G.given in
    let inside = S.inside bytes held G.head reads in
    let stopped = (S.stopped).stopped end told in
    omega (arith, inside, stopped, after)

not_short_whole : (name bytes : List ℕ) (old : Outside) (at size : ℕ) → IsTrue old.tells → old.file name ≡ Some bytes → GivesUpTo old name (length bytes) → IsShortHead name old at size → ⊥
not_short_whole name bytes old at size tells held (end, told, after) S =
    let (found, its, long) = S.whole tells in
    let same = ap length (same_bytes found bytes (old.file name) its held) in
    let stopped = (S.stopped).stopped end told in
    let below = (S.stopped).below in
    omega (arith, long, same, stopped, below, after)

module _ (line : ℕ) (name : List ℕ) (old new : Outside) (tells : IsTrue old.tells) (calm : IsCalm old new) where
  pub head_given : (fault : Fault) → GivesHead old name → IsSourceFault line name old new fault → fault ≡ Faults.OutOfMemory
  head_given (Faults.BadMedia which wav) G is = (let (bytes, held, bad) = is.2 tells in let (found, its, good) = G.held in absurd (no_head bytes found (old.file name) G.head wav held its bad good))
  head_given Faults.ReadFault G is = absurd (calm is.rose)
  head_given (Faults.Absent which) G is = (let (found, its, good) = G.held in absurd (none_some found (old.file name) is.2 its))
  head_given Faults.OutOfMemory G is = refl
  head_given (Faults.Short which at size) G is = absurd (not_short name old at size G is.1)
  head_given (Faults.Script at why) G is = absurd is
  head_given Faults.Usage G is = absurd is
  head_given Faults.WriteFault G is = absurd is
  head_given (Faults.Units have need) G is = absurd is
  head_given (Faults.Packets reason) G is = absurd is
  head_given (Faults.NotRun at why) G is = absurd is

  source_absent : (fault : Fault) → old.file name ≡ None → IsSourceFault line name old new fault → IsOr fault (Faults.Absent (Line line))
  source_absent (Faults.BadMedia which wav) none is = (let (bytes, held, bad) = is.2 tells in absurd (none_some bytes (old.file name) none held))
  source_absent Faults.ReadFault none is = absurd (calm is.rose)
  source_absent (Faults.Absent which) none is = inl (ap (λ (w : Which). Faults.Absent w) is.0)
  source_absent Faults.OutOfMemory none is = inr refl
  source_absent (Faults.Short which at size) none is = (let (bytes, held, long) = (is.1).whole tells in absurd (none_some bytes (old.file name) none held))
  source_absent (Faults.Script at why) none is = absurd is
  source_absent Faults.Usage none is = absurd is
  source_absent Faults.WriteFault none is = absurd is
  source_absent (Faults.Units have need) none is = absurd is
  source_absent (Faults.Packets reason) none is = absurd is
  source_absent (Faults.NotRun at why) none is = absurd is

  media_bad : (fault : Fault) (bad : WavFault) → IsBadMedia old name bad → IsSourceFault line name old new fault → IsOr fault (Faults.BadMedia (Line line) bad)
  media_bad (Faults.BadMedia which wav) bad B is =
      (let (bytes, held, reads) = is.2 tells in
      let same = same_fault wav bad (Err wav) (Err bad) refl refl (same_answer B.bytes (Err wav) (Err bad) (subst (λ (b : List ℕ). Reads b (Err wav)) (same_bytes bytes B.bytes (old.file name) held B.held) reads) B.reads) in
      inl (ap (λ (w : Which). Faults.BadMedia w wav) is.0 ∙ ap (Faults.BadMedia (Line line)) same))
  media_bad Faults.ReadFault bad B is = absurd (calm is.rose)
  media_bad (Faults.Absent which) bad B is = absurd (none_some B.bytes (old.file name) is.2 B.held)
  media_bad Faults.OutOfMemory bad B is = inr refl
  media_bad (Faults.Short which at size) bad B is = absurd (not_short_whole name B.bytes old at size tells B.held B.given is.1)
  media_bad (Faults.Script at why) bad B is = absurd is
  media_bad Faults.Usage bad B is = absurd is
  media_bad Faults.WriteFault bad B is = absurd is
  media_bad (Faults.Units have need) bad B is = absurd is
  media_bad (Faults.Packets reason) bad B is = absurd is
  media_bad (Faults.NotRun at why) bad B is = absurd is

  pub source_bad : (fault wanted : Fault) → IsBadSource line name old wanted → IsSourceFault line name old new fault → IsOr fault wanted
  source_bad fault (Faults.Absent which) bad is = subst (λ (w : Which). IsOr fault (Faults.Absent w)) (sym bad.0) (source_absent fault bad.1 is)
  source_bad fault (Faults.BadMedia which wav) bad is = subst (λ (w : Which). IsOr fault (Faults.BadMedia w wav)) (sym bad.0) (media_bad fault wav bad.1 is)
  source_bad fault Faults.ReadFault bad is = absurd bad
  source_bad fault Faults.OutOfMemory bad is = absurd bad
  source_bad fault (Faults.Short which at size) bad is = absurd bad
  source_bad fault (Faults.Script at why) bad is = absurd bad
  source_bad fault Faults.Usage bad is = absurd bad
  source_bad fault Faults.WriteFault bad is = absurd bad
  source_bad fault (Faults.Units have need) bad is = absurd bad
  source_bad fault (Faults.Packets reason) bad is = absurd bad
  source_bad fault (Faults.NotRun at why) bad is = absurd bad

  -- a source that has no head, or none that is told
  pub bad_headless : (wanted : Fault) → IsBadSource line name old wanted → (head : WavHead) → HasHead old name head → ⊥
  bad_headless (Faults.Absent which) bad head (found, its, good) = none_some found (old.file name) bad.1 its
  bad_headless (Faults.BadMedia which wav) bad head (found, its, good) = let B = bad.1 in no_head B.bytes found (old.file name) head wav B.held its B.reads good
  bad_headless Faults.ReadFault bad head has = absurd bad
  bad_headless Faults.OutOfMemory bad head has = absurd bad
  bad_headless (Faults.Short which at size) bad head has = absurd bad
  bad_headless (Faults.Script at why) bad head has = absurd bad
  bad_headless Faults.Usage bad head has = absurd bad
  bad_headless Faults.WriteFault bad head has = absurd bad
  bad_headless (Faults.Units have need) bad head has = absurd bad
  bad_headless (Faults.Packets reason) bad head has = absurd bad
  bad_headless (Faults.NotRun at why) bad head has = absurd bad

  -- ---- the file of a sink

  pub known_given : (fault : Fault) → IsSome (old.file name) → IsKnownFault line name old new fault → fault ≡ Faults.OutOfMemory
  known_given Faults.ReadFault there is = absurd (calm is.rose)
  known_given (Faults.Absent which) there is = absurd (none_there (old.file name) is.2 there)
  known_given Faults.OutOfMemory there is = refl
  known_given (Faults.BadMedia which wav) there is = absurd is
  known_given (Faults.Short which at size) there is = absurd is
  known_given (Faults.Script at why) there is = absurd is
  known_given Faults.Usage there is = absurd is
  known_given Faults.WriteFault there is = absurd is
  known_given (Faults.Units have need) there is = absurd is
  known_given (Faults.Packets reason) there is = absurd is
  known_given (Faults.NotRun at why) there is = absurd is

  pub known_absent : (fault : Fault) → IsKnownFault line name old new fault → IsOr fault (Faults.Absent (Line line))
  known_absent Faults.ReadFault is = absurd (calm is.rose)
  known_absent (Faults.Absent which) is = inl (ap (λ (w : Which). Faults.Absent w) is.0)
  known_absent Faults.OutOfMemory is = inr refl
  known_absent (Faults.BadMedia which wav) is = absurd is
  known_absent (Faults.Short which at size) is = absurd is
  known_absent (Faults.Script at why) is = absurd is
  known_absent Faults.Usage is = absurd is
  known_absent Faults.WriteFault is = absurd is
  known_absent (Faults.Units have need) is = absurd is
  known_absent (Faults.Packets reason) is = absurd is
  known_absent (Faults.NotRun at why) is = absurd is

  -- ---- the log

  log_absent : (fault : Fault) → old.file name ≡ None → IsLogFault name old new fault → IsOr fault (Faults.Absent Log)
  log_absent Faults.ReadFault none is = absurd (calm is.rose)
  log_absent (Faults.Absent which) none is = inl (ap (λ (w : Which). Faults.Absent w) is.0)
  log_absent Faults.OutOfMemory none is = inr refl
  log_absent (Faults.Short which at size) none is = absurd (none_there (old.file name) none (is.2 tells))
  log_absent (Faults.BadMedia which wav) none is = absurd is
  log_absent (Faults.Script at why) none is = absurd is
  log_absent Faults.Usage none is = absurd is
  log_absent Faults.WriteFault none is = absurd is
  log_absent (Faults.Units have need) none is = absurd is
  log_absent (Faults.Packets reason) none is = absurd is
  log_absent (Faults.NotRun at why) none is = absurd is

  -- it gives nothing from that offset on
  log_cut : (at size : ℕ) (fault : Fault) → IsCutAt name old at size → IsLogFault name old new fault → IsOr fault (Faults.Short Log at size)
  log_cut at size Faults.ReadFault C is = absurd (calm is.rose)
  log_cut at size (Faults.Absent which) C is = absurd (none_some C.bytes (old.file name) is.2 C.held)
  log_cut at size Faults.OutOfMemory C is = inr refl
  log_cut at size (Faults.Short which found whole) C is =
      (let stopped : found ≡ at = (is.1).stopped at C.told_end in
      let long : whole ≡ size = (is.1).whole C.bytes C.held ∙ sym C.whole in
      inl (ap (λ (w : Which). Faults.Short w found whole) is.0 ∙ (ap (λ (n : ℕ). Faults.Short Log n whole) stopped ∙ ap (λ (n : ℕ). Faults.Short Log at n) long)))
  log_cut at size (Faults.BadMedia which wav) C is = absurd is
  log_cut at size (Faults.Script at_line why) C is = absurd is
  log_cut at size Faults.Usage C is = absurd is
  log_cut at size Faults.WriteFault C is = absurd is
  log_cut at size (Faults.Units have need) C is = absurd is
  log_cut at size (Faults.Packets reason) C is = absurd is
  log_cut at size (Faults.NotRun at_line why) C is = absurd is

  pub log_bad : (fault wanted : Fault) → IsBadLog name old wanted → IsLogFault name old new fault → IsOr fault wanted
  log_bad fault (Faults.Absent which) B is = subst (λ (w : Which). IsOr fault (Faults.Absent w)) (sym B.0) (log_absent fault B.1 is)
  log_bad fault (Faults.Short which at size) B is = subst (λ (w : Which). IsOr fault (Faults.Short w at size)) (sym B.0) (log_cut at size fault B.1 is)
  log_bad fault (Faults.Script at why) B is = absurd B
  log_bad fault Faults.Usage B is = absurd B
  log_bad fault (Faults.BadMedia which wav) B is = absurd B
  log_bad fault Faults.ReadFault B is = absurd B
  log_bad fault Faults.WriteFault B is = absurd B
  log_bad fault Faults.OutOfMemory B is = absurd B
  log_bad fault (Faults.Units have need) B is = absurd B
  log_bad fault (Faults.Packets reason) B is = absurd B
  log_bad fault (Faults.NotRun at why) B is = absurd B

  -- and so it wasn't read whole
  pub log_unread : (wanted : Fault) → IsBadLog name old wanted → IsSome (old.file name) → IsLogGiven name old → ⊥
  log_unread (Faults.Absent which) B there given = none_there (old.file name) B.1 there
  log_unread (Faults.Short which at size) B there given =
      (let C = B.1 in
      let le = given C.bytes C.held at C.told_end in
      let early = C.early in
      let whole = C.whole in
      omega (arith, le, early, whole))
  log_unread (Faults.Script at why) B there given = B
  log_unread Faults.Usage B there given = B
  log_unread (Faults.BadMedia which wav) B there given = B
  log_unread Faults.ReadFault B there given = B
  log_unread Faults.WriteFault B there given = B
  log_unread Faults.OutOfMemory B there given = B
  log_unread (Faults.Units have need) B there given = B
  log_unread (Faults.Packets reason) B there given = B
  log_unread (Faults.NotRun at why) B there given = B

-- The lines of a text lead on, one after the other.
use Rattle.std.proofs.Common.{◌≡◌, IsTrue, inl, ℕ, ◌+◌, Bool, true, false, List, [], ◌∷◌, ◌++◌, codes, length, refl, sym, ◌∙◌, subst, arith, append_assoc, length-append}
use Rattle.std.specs.Str.{bytes_eq}
use Rattle.omx_types.specs.declared.fault.AuditWhy.{AuditWhy}
use Rattle.omx_types.specs.declared.fault.AuditWhy.TheVariants.{BadLine, NotEnded}
use Rattle.omx_types.specs.declared.fault.PartFault.{PartFault}
use Rattle.compared_files.specs.Comparing.{ComparingValue}
use Rattle.graph_acts.specs.Plain.{Sight}
use Rattle.audit_forms.specs.Audited.{Audits, Case, Moment, No, Verdict}
use Rattle.audit_forms.specs.Passing.{PassesLine, StopsAt}
use Rattle.audit_forms.proofs.Passing.{passes_on, stops_there}
use Rattle.audit_lines.specs.Lines.{pieces_of}
use Rattle.run_audit.specs.declared.replay.Replay.{Replay}
use Rattle.run_audit.specs.declared.walking.Walked.{Walked}
use Rattle.run_audit.specs.declared.walking.Walked.TheVariants.{Ended, Failed, Stopped}
use Rattle.run_audit.specs.Leading.{IsBroken}
use Rattle.run_audit.specs.Replaying.{IsReplay}
use Rattle.run_audit.specs.Walking.{IsCome, IsLeft, IsWalked, PassAll}
use Rattle.run_audit.proofs.Ways.{end_early, end_there, some_pieces}

-- ---- lines that pass

-- the verdict behind them is that of all
verdict_behind : (x : Case) (number : ℕ) (at : Moment) (passed left : List (List ℕ)) (line : ℕ) (now : Moment) (verdict : Verdict) → line ≡ number + length passed → PassAll x number at passed now
    → Audits x line now left verdict → Audits x number at (passed ++ left) verdict
verdict_behind x number at [] left line now verdict e P A =
    let n : line ≡ number = omega (arith, e) in
    subst (λ (m : Moment). Audits x number m left verdict) P (subst (λ (k : ℕ). Audits x k now left verdict) n A)
verdict_behind x number at (piece ∷ passed) left line now verdict e P A =
    let more : line ≡ number + 1 + length passed = omega (arith, e) in
    passes_on x number at (P.1).0 piece (passed ++ left) verdict P.0 (P.1).1 (verdict_behind x (number + 1) (P.1).0 passed left line now verdict more (P.1).2 A)

-- one more
pass_more : (x : Case) (number : ℕ) (at : Moment) (passed : List (List ℕ)) (line : ℕ) (now : Moment) (piece : List ℕ) (next : Moment) → line ≡ number + length passed → PassAll x number at passed now
    → bytes_eq piece (codes "end") ≡ false → PassesLine x line now piece next → PassAll x number at (passed ++ piece ∷ []) next
pass_more x number at [] line now piece next e P other L =
    let n : line ≡ number = omega (arith, e) in
    (other, (next, subst (λ (m : Moment). PassesLine x number m piece next) P (subst (λ (k : ℕ). PassesLine x k now piece next) n L), refl))
pass_more x number at (first ∷ passed) line now piece next e P other L =
    let more : line ≡ number + 1 + length passed = omega (arith, e) in
    (P.0, ((P.1).0, (P.1).1, pass_more x (number + 1) (P.1).0 passed line now piece next more (P.1).2 other L))

pub come_first : (x : Case) (number : ℕ) (at : Moment) (pieces : List (List ℕ)) → IsCome x number at pieces number pieces at
come_first x number at pieces = record { passed = []; cut = refl; counted = omega arith; pass = refl }

module _ (x : Case) (number : ℕ) (at : Moment) (pieces : List (List ℕ)) (line : ℕ) (now : Moment) where
  pub come_so : (left these : List (List ℕ)) → left ≡ these → IsCome x number at pieces line left now → IsCome x number at pieces line these now
  come_so left these e K = subst (λ (l : List (List ℕ)). IsCome x number at pieces line l now) e K

  pub come_on : (piece : List ℕ) (left : List (List ℕ)) (next : Moment) → IsCome x number at pieces line (piece ∷ left) now → bytes_eq piece (codes "end") ≡ false → PassesLine x line now piece next
      → IsCome x number at pieces (line + 1) left next
  come_on piece left next K other L = record {
    passed = K.passed ++ piece ∷ [];
    cut = K.cut ∙ sym (append_assoc K.passed (piece ∷ []) left);
    counted = let n = K.counted in let m = length-append K.passed (piece ∷ []) in omega (arith, n, m);
    pass = pass_more x number at K.passed line now piece next K.counted K.pass other L;
  }

  verdict_so : (left : List (List ℕ)) (verdict : Verdict) → IsCome x number at pieces line left now → Audits x line now left verdict → Audits x number at pieces verdict
  verdict_so left verdict K A = subst (λ (l : List (List ℕ)). Audits x number at l verdict) (sym K.cut) (verdict_behind x number at K.passed left line now verdict K.counted K.pass A)

  module _ {S C : Type 0} (see : Sight S (ComparingValue S) C) (tells : Bool) (new : Replay S C) where
    left_here : IsReplay see tells new x now → IsLeft see tells new x now
    left_here I = (now.world, I.standing, inl (refl, I.order))

    -- ---- at `end`

    pub walked_end : (piece : List ℕ) → bytes_eq piece (codes "end") ≡ true → IsCome x number at pieces line (piece ∷ []) now → IsReplay see tells new x now → IsWalked see tells new x number at pieces (Ended line)
    walked_end piece e K I = (now, piece, K, I, λ verdict A. verdict_so (piece ∷ []) verdict K (end_there x line now piece [] verdict e A))

    pub walked_early : (piece : List ℕ) (left : List (List ℕ)) → bytes_eq piece (codes "end") ≡ true → (left ≡ [] → ⊥) → IsCome x number at pieces line (piece ∷ left) now → IsReplay see tells new x now
        → IsWalked see tells new x number at pieces (Stopped line BadLine)
    walked_early piece left e n K I = (
      λ told. verdict_so (piece ∷ left) (No line BadLine) K (end_there x line now piece left (No line BadLine) e (end_early x line now left n)),
      (now, piece ∷ left, K, left_here I),
    )

    -- by what is behind it
    pub walked_ending : (piece behind : List ℕ) (result : Walked) → bytes_eq piece (codes "end") ≡ true → (behind ≡ [] → result ≡ Ended line) → ((behind ≡ [] → ⊥) → result ≡ Stopped line BadLine)
        → IsCome x number at pieces line (piece ∷ pieces_of behind) now → IsReplay see tells new x now → IsWalked see tells new x number at pieces result
    walked_ending piece [] result e last more K I = subst (λ (r : Walked). IsWalked see tells new x number at pieces r) (sym (last refl)) (walked_end piece e K I)
    walked_ending piece (byte ∷ bytes) result e last more K I =
        let some : (byte ∷ bytes ≡ []) → ⊥ = λ q. cc in
        subst (λ (r : Walked). IsWalked see tells new x number at pieces r) (sym (more some)) (walked_early piece (pieces_of (byte ∷ bytes)) e (some_pieces (byte ∷ bytes) some) K I)

    -- ---- at the end of a text without it

    pub walked_out : IsCome x number at pieces line [] now → IsReplay see tells new x now → IsWalked see tells new x number at pieces (Stopped line NotEnded)
    walked_out K I = (λ told. verdict_so [] (No line NotEnded) K refl, (now, [], K, left_here I))

    -- ---- at a line

    module _ (piece : List ℕ) (left : List (List ℕ)) (other : bytes_eq piece (codes "end") ≡ false) (K : IsCome x number at pieces line (piece ∷ left) now) where
      pub walked_stop : (why : AuditWhy) → (IsTrue tells → StopsAt x line now piece why) → IsLeft see tells new x now → IsWalked see tells new x number at pieces (Stopped line why)
      walked_stop why A L = (λ told. verdict_so (piece ∷ left) (No line why) K (stops_there x line now piece left why other (A told)), (now, piece ∷ left, K, L))

      pub walked_broken : (component : ℕ) (fault : PartFault) → IsBroken x line now piece component → IsLeft see tells new x now → IsWalked see tells new x number at pieces (Failed line component fault)
      walked_broken component fault B L = (now, piece, left, K, B, L)

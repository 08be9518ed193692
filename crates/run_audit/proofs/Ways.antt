-- The lines of a text, one after the other.
use Rattle.std.proofs.Common.{◌≡◌, ℕ, ◌+◌, Bool, true, false, List, [], ◌∷◌, codes, cond, nat_eq, refl, sym, subst}
use Rattle.std.specs.Str.{bytes_eq}
use Rattle.omx_types.specs.declared.fault.AuditWhy.TheVariants.{BadLine}
use Rattle.audit_forms.specs.Audited.{AtEnd, AtPiece, Audits, Case, Moment, No, Verdict}
use Rattle.audit_lines.specs.Lines.{begun, pieces_of, with_byte}

-- at `end`
pub end_there : (x : Case) (number : ℕ) (at : Moment) (piece : List ℕ) (pieces : List (List ℕ)) (verdict : Verdict) → bytes_eq piece (codes "end") ≡ true → AtEnd x number at pieces verdict → Audits x number at (piece ∷ pieces) verdict
end_there x number at piece pieces verdict e A =
    subst (λ (b : Bool). AtPiece b x number at piece pieces verdict (λ next. Audits x (number + 1) next pieces verdict)) (sym e) A

-- something is behind it
pub end_early : (x : Case) (number : ℕ) (at : Moment) (pieces : List (List ℕ)) → (pieces ≡ [] → ⊥) → AtEnd x number at pieces (No number BadLine)
end_early x number at [] n = absurd (n refl)
end_early x number at (piece ∷ pieces) n = refl

some_byte : (byte : ℕ) (pieces : List (List ℕ)) → with_byte byte pieces ≡ [] → ⊥
some_byte byte pieces e = by_case (nat_eq byte 10) pieces e
  where
    by_case : (b : Bool) (pieces : List (List ℕ)) → (cond b ([] ∷ pieces) (begun byte pieces)) ≡ [] → ⊥
    by_case true pieces e = cc
    by_case false [] e = cc
    by_case false (piece ∷ pieces) e = cc

pub some_pieces : (text : List ℕ) → (text ≡ [] → ⊥) → pieces_of text ≡ [] → ⊥
some_pieces [] n e = n refl
some_pieces (byte ∷ bytes) n e = some_byte byte (pieces_of bytes) e

-- A line that passes goes on to the verdict of what follows, and one that stops has its own.
use Rattle.std.proofs.Common.{◌≡◌, inl, inr, ℕ, ◌+◌, Bool, false, List, [], ◌∷◌, codes, sym, subst}
use Rattle.std.specs.Str.{bytes_eq}
use Rattle.omx_types.specs.declared.fault.AuditWhy.{AuditWhy}
use Rattle.il_machine.specs.World.{World}
use Rattle.play_log.specs.Lines.{LogLine}
use Rattle.audit_forms.specs.Audited.{AtFile, AtLine, AtPiece, AtPlace, AtReply, Audits, Case, Moment, No, Verdict}
use Rattle.audit_forms.specs.Passing.{PassesLine, StopsAt}

-- a piece that isn't `end`
at_piece : (last : Bool) (x : Case) (number : ℕ) (at : Moment) (piece : List ℕ) (pieces : List (List ℕ)) (verdict : Verdict) (GoesOn : Moment → Type 0) → last ≡ false
    → AtPiece false x number at piece pieces verdict GoesOn → AtPiece last x number at piece pieces verdict GoesOn
at_piece last x number at piece pieces verdict GoesOn e A = subst (λ (b : Bool). AtPiece b x number at piece pieces verdict GoesOn) (sym e) A

passed : (x : Case) (number : ℕ) (at next : Moment) (piece : List ℕ) (pieces : List (List ℕ)) (verdict : Verdict) (GoesOn : Moment → Type 0) → PassesLine x number at piece next → GoesOn next
    → AtPiece false x number at piece pieces verdict GoesOn
passed x number at next piece pieces verdict GoesOn P G =
    inr (P.line, P.of_play, inr (P.order, P.allowed, inr (P.there, inr (P.world, P.answered, inr (P.written, subst GoesOn P.next_is G)))))

pub passes_on : (x : Case) (number : ℕ) (at next : Moment) (piece : List ℕ) (pieces : List (List ℕ)) (verdict : Verdict) → bytes_eq piece (codes "end") ≡ false → PassesLine x number at piece next
    → Audits x (number + 1) next pieces verdict → Audits x number at (piece ∷ pieces) verdict
passes_on x number at next piece pieces verdict e P A =
    let G : Moment → Type 0 = λ m. Audits x (number + 1) m pieces verdict in
    at_piece (bytes_eq piece (codes "end")) x number at piece pieces verdict G e (passed x number at next piece pieces verdict G P A)

-- ---- a line that stops

module _ (x : Case) (number : ℕ) (at : Moment) (verdict : Verdict) where
  file_stops : (v : World) (G : Type 0) → AtFile x number v verdict ⊥ → AtFile x number v verdict G
  file_stops v G (inl a) = inl a
  file_stops v G (inr a) = absurd a.1

  reply_stops : (line : LogLine) (G : World → Type 0) → AtReply x number at line verdict (λ v. ⊥) → AtReply x number at line verdict G
  reply_stops line G (inl a) = inl a
  reply_stops line G (inr a) = inr (a.0, a.1, file_stops a.0 (G a.0) a.2)

  place_stops : (line : LogLine) (G : World → Type 0) → AtPlace x number at line verdict (λ v. ⊥) → AtPlace x number at line verdict G
  place_stops line G (inl a) = inl a
  place_stops line G (inr a) = inr (a.0, reply_stops line G a.1)

  line_stops : (line : LogLine) (G : Moment → Type 0) → AtLine x number at line verdict (λ m. ⊥) → AtLine x number at line verdict G
  line_stops line G (inl a) = inl a
  line_stops line G (inr a) = inr (a.0, a.1, place_stops line _ a.2)

  piece_stops : (piece : List ℕ) (pieces : List (List ℕ)) (G : Moment → Type 0) → AtPiece false x number at piece [] verdict (λ m. ⊥) → AtPiece false x number at piece pieces verdict G
  piece_stops piece pieces G (inl a) = inl a
  piece_stops piece pieces G (inr a) = inr (a.0, a.1, line_stops a.0 G a.2)

pub stops_there : (x : Case) (number : ℕ) (at : Moment) (piece : List ℕ) (pieces : List (List ℕ)) (why : AuditWhy) → bytes_eq piece (codes "end") ≡ false → StopsAt x number at piece why
    → Audits x number at (piece ∷ pieces) (No number why)
stops_there x number at piece pieces why e A =
    let G : Moment → Type 0 = λ m. Audits x (number + 1) m pieces (No number why) in
    at_piece (bytes_eq piece (codes "end")) x number at piece pieces (No number why) G e (piece_stops x number at (No number why) piece pieces G A)

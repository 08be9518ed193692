-- Lines pass each test or stop at one, so no text is without a verdict.
use Rattle.std.proofs.Common.{inl, inr, ℕ, ◌+◌, ◌-◌, Bool, true, false, List, [], ◌∷◌, codes, refl}
use Rattle.std.specs.Str.{bytes_eq}
use Rattle.omx_types.specs.declared.fault.AuditWhy.TheVariants.{BadLine, OtherAct, NotOut, OtherReply, OtherFile, NotEnded}
use Rattle.il_machine.specs.World.{World}
use Rattle.play_log.specs.Lines.{LogLine}
use Rattle.audit_forms.specs.Audited.{AtEnd, AtFile, AtLine, AtPiece, AtPlace, AtReply, Audits, Case, Moment, No, Verdict, Yes, after}

-- none has the property
abbrev Never : (Verdict → Type 0) → Type 0
Never P = (verdict : Verdict) → P verdict → ⊥

module _ (x : Case) (number : ℕ) (at : Moment) where
  at_end : (pieces : List (List ℕ)) → Never (AtEnd x number at pieces) → ⊥
  at_end [] none = none (No number NotEnded) (inr ((λ ends. none (Yes (number - 1)) (inl (ends, refl))), refl))
  at_end (piece ∷ pieces) none = none (No number BadLine) refl

  at_file : (v : World) (G : Verdict → Type 0) → (Never G → ⊥) → Never (λ verdict. AtFile x number v verdict (G verdict)) → ⊥
  at_file v G rest none = none (No number OtherFile) (inl ((λ written. rest (λ verdict goes. none verdict (inr (written, goes)))), refl))

  at_reply : (line : LogLine) (G : Verdict → World → Type 0) → ((v : World) → Never (λ verdict. G verdict v) → ⊥) → Never (λ verdict. AtReply x number at line verdict (G verdict)) → ⊥
  at_reply line G rest none = none (No number OtherReply) (inl (
    (λ v answers. at_file v (λ verdict. G verdict v) (rest v) (λ verdict goes. none verdict (inr (v, answers, goes)))),
    refl,
  ))

  at_place : (line : LogLine) (G : Verdict → World → Type 0) → ((v : World) → Never (λ verdict. G verdict v) → ⊥) → Never (λ verdict. AtPlace x number at line verdict (G verdict)) → ⊥
  at_place line G rest none = none (No number NotOut) (inl ((λ there. at_reply line G rest (λ verdict goes. none verdict (inr (there, goes)))), refl))

  at_line : (line : LogLine) (G : Verdict → Moment → Type 0) → ((next : Moment) → Never (λ verdict. G verdict next) → ⊥) → Never (λ verdict. AtLine x number at line verdict (G verdict)) → ⊥
  at_line line G rest none = none (No number OtherAct) (inl (
    (λ next is. at_place line (λ verdict v. G verdict (after at line x next v)) (λ v. rest (after at line x next v)) (λ verdict goes. none verdict (inr (next, is, goes)))),
    refl,
  ))

  at_piece : (is_end : Bool) (piece : List ℕ) (pieces : List (List ℕ)) (G : Verdict → Moment → Type 0) → ((next : Moment) → Never (λ verdict. G verdict next) → ⊥)
      → Never (λ verdict. AtPiece is_end x number at piece pieces verdict (G verdict)) → ⊥
  at_piece true piece pieces G rest none = at_end pieces none
  at_piece false piece pieces G rest none = none (No number BadLine) (inl ((λ line is. at_line line G rest (λ verdict goes. none verdict (inr (line, is, goes)))), refl))

pub some_verdict : (x : Case) (number : ℕ) (at : Moment) (pieces : List (List ℕ)) → Never (Audits x number at pieces) → ⊥
some_verdict x number at [] none = none (No number NotEnded) refl
some_verdict x number at (piece ∷ pieces) none =
    at_piece x number at (bytes_eq piece (codes "end")) piece pieces (λ verdict next. Audits x (number + 1) next pieces verdict) (λ next. some_verdict x (number + 1) next pieces) none

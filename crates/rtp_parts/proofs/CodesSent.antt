-- Codes that are written piece by piece: those that are done, and those that are left.
use Rattle.std.proofs.Common.{◌≡◌, ℕ, List, [], ◌++◌, Option, Some, None, IfSome, IfNone, sym, ap, subst, ◌∙◌, append_assoc}
use Rattle.std.proofs.lemmas.List.{append-nil}
use Rattle.std.specs.Io.KnownBytes.{append_known}
use Rattle.outside_io.specs.Moves.{AppendsFront}
use Rattle.outside_io.proofs.Known.{append_known-twice}
use Rattle.rtp_parts.proofs.PackedTexts.{front-first, front-then, front-whole}

pub sent_on : (known mid new : Option (List ℕ)) (whole done left piece more : List ℕ) → (whole ≡ done ++ left) × (mid ≡ append_known known done) → left ≡ piece ++ more → new ≡ append_known mid piece → (whole ≡ (done ++ piece) ++ more) × (new ≡ append_known known (done ++ piece))
sent_on known mid new whole done left piece more (is, sent) next added = (
  is ∙ ap (λ (r : List ℕ). done ++ r) next ∙ sym (append_assoc done piece more),
  added ∙ ap (λ (m : Option (List ℕ)). append_known m piece) sent ∙ append_known-twice known done piece,
)

pub sent_piece : (known mid new : Option (List ℕ)) (whole done left piece more : List ℕ) → (whole ≡ done ++ left) × (mid ≡ append_known known done) → left ≡ piece ++ more → AppendsFront mid new piece → AppendsFront known new whole
sent_piece known mid new whole done left piece more (is, sent) next front =
    subst (AppendsFront known new) (sym (is ∙ ap (λ (r : List ℕ). done ++ r) next))
    (front-then known mid new done (piece ++ more) sent (front-first mid new piece more front))

pub sent_part : (known mid : Option (List ℕ)) (whole done left : List ℕ) → (whole ≡ done ++ left) × (mid ≡ append_known known done) → AppendsFront known mid whole
sent_part known mid whole done left (is, sent) =
    subst (AppendsFront known mid) (sym is) (front-first known mid done left (front-whole known mid done sent))

pub sent_all : (known mid : Option (List ℕ)) (whole done left : List ℕ) → (whole ≡ done ++ left) × (mid ≡ append_known known done) → left ≡ [] → mid ≡ append_known known whole
sent_all known mid whole done left (is, sent) none =
    sent ∙ ap (append_known known) (sym (append-nil done) ∙ ap (λ (r : List ℕ). done ++ r) (sym none) ∙ sym is)

-- what is said of what was given
pub given_some : {A : Type 0} (given : Option A) (a : A) (P : A → Type 0) → given ≡ Some a → IfSome given P → P a
given_some {A} given a P is holds = subst (λ (g : Option A). IfSome g P) is holds

pub given_none : {A : Type 0} (given : Option A) (P : Type 0) → given ≡ None → IfNone given P → P
given_none {A} given P is holds = subst (λ (g : Option A). IfNone g P) is holds

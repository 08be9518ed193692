-- Codes of silence, written piece by piece.
use Rattle.std.proofs.Common.{◌≡◌, ℕ, ◌+◌, ◌-◌, ◌≤◌, List, replicate, Option, ap, subst, ◌∙◌, arith}
use Rattle.std.proofs.lemmas.List.{replicate-append-replicate}
use Rattle.std.specs.Io.KnownBytes.{append_known}
use Rattle.outside_io.specs.Moves.{AppendsFront}
use Rattle.outside_io.proofs.Known.{append_known-twice}
use Rattle.rtp_parts.proofs.PackedTexts.{front-first, front-then}

pub repeated_more : (known mid new : Option (List ℕ)) (code done more : ℕ) → mid ≡ append_known known (replicate done code) → new ≡ append_known mid (replicate more code) → new ≡ append_known known (replicate (done + more) code)
repeated_more known mid new code done more is added =
    added ∙ ap (λ (m : Option (List ℕ)). append_known m (replicate more code)) is
    ∙ append_known-twice known (replicate done code) (replicate more code)
    ∙ ap (append_known known) (replicate-append-replicate done more code)

pub repeated_front : (known mid new : Option (List ℕ)) (code done more count : ℕ) → mid ≡ append_known known (replicate done code) → done + more ≤ count → AppendsFront mid new (replicate more code) → AppendsFront known new (replicate count code)
repeated_front known mid new code done more count is within front =
    let sent : AppendsFront known new (replicate (done + more) code) =
    subst (AppendsFront known new) (replicate-append-replicate done more code) (front-then known mid new (replicate done code) (replicate more code) is front) in
    subst (AppendsFront known new)
    (replicate-append-replicate (done + more) (count - (done + more)) code ∙ ap (λ (n : ℕ). replicate n code) (let e : done + more + (count - (done + more)) ≡ count = omega arith in e))
    (front-first known new (replicate (done + more) code) (replicate (count - (done + more)) code) sent)

-- A request goes behind all whose media time isn't above its own.
use Rattle.std.proofs.Common.{◌≡◌, ◌<◌, ◌≤◌, List, ◌∷◌, ap, arith}
use Rattle.std.specs.Prelude.{nat_le, if◌then◌else◌, Bool, false}
use Rattle.std.proofs.lemmas.Bool.{le-leb}
use Rattle.std.proofs.lemmas.Grind.{common_steps}
use Rattle.clock_core.specs.Clock.{queued}
use Rattle.clock_core.specs.declared.act.Request.{Request}

-- one that isn't above it stays before it
pub queued-behind : (request first : Request) (rest : List Request) → first.media ≤ request.media → queued request (first ∷ rest) ≡ first ∷ queued request rest
queued-behind request first rest h =
    ap (λ (b : Bool). if b then first ∷ queued request rest else request ∷ first ∷ rest) (le-leb first.media request.media h)

pub queued-before : (request first : Request) (rest : List Request) → request.media < first.media → queued request (first ∷ rest) ≡ request ∷ first ∷ rest
queued-before request first rest h =
    let above : nat_le first.media request.media ≡ false = above-of in
    ap (λ (b : Bool). if b then first ∷ queued request rest else request ∷ first ∷ rest) above
  where
    above-of : nat_le first.media request.media ≡ false
    above-of = grind (arith, common_steps)

-- A component runs the command that is queued at it: so it does at stage 1, and there alone.
use Rattle.std.proofs.Common.{◌≡◌, Option, Some, None, Result, Ok, refl}
use Rattle.omx_types.specs.declared.error.OmxError.{OmxError}
use Rattle.il_machine.specs.declared.answer.Acted.{Acted}
use Rattle.il_machine.specs.declared.answer.Acted.TheVariants as acted_as
use Rattle.il_machine.specs.declared.answer.Why.{Why}
use Rattle.il_machine.specs.World.{World}
use Rattle.il_machine.specs.Answers.{Acts}
use Rattle.il_machine.specs.Due.{ClosesTo}

pub did : (o : Option Why) (result : Result Acted OmxError) (w u v : World) → o ≡ None → Acts o result w u v → (result ≡ Ok acted_as.Did) × ClosesTo u v
did None result w u v n h = h
did (Some y) result w u v n h = absurd cc

-- an act that was done had nothing against it
pub did_none : (o : Option Why) (result : Result Acted OmxError) (w u v : World) → Acts o result w u v → result ≡ Ok acted_as.Did → o ≡ None
did_none None result w u v h e = refl
did_none (Some y) result w u v h e = let idle = h.0 in absurd cc

use Rattle.std.proofs.Common.{arith}
use Rattle.std.proofs.lemmas.Option.{slice_get_within}
use Rattle.conductor.specs.Phases.{is_ready}
use Rattle.conductor.proofs.Steps.{none_any}
use Rattle.conductor.proofs.changing.first_ready.Goals as goal

pub returns-clause-none : goal.returns-clause-none
returns-clause-none c =
    none_any (is_ready c.args.told.now) c.args.lates.now
    (λ k late there. let inside = slice_get_within c.args.lates.now k late there in c.loop-number.invariant k late (omega arith) there)

use Rattle.history_laws.proofs.Freed.{none_before, none_comes, none_left}
use Rattle.history_laws.proofs.HeldOut.{claims_held, steps_held, steps_unchanged, held_closes, runs_held, held_meets, held_tells}
use Rattle.history_laws.proofs.histories.law_of_works.Goals as goal

pub returns : goal.returns
returns c = record { claimed = claims_held; stays = steps_held; closing = held_closes; runs = runs_held; back = held_meets; told = held_tells; headers = steps_unchanged; first = none_before; comes = none_comes; gone = none_left }

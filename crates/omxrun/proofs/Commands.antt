-- What was run is what the words ask for.
use Rattle.std.proofs.Common.{ℕ, List, Option, subst}
use Rattle.outside_io.specs.Files.{Outside}
use Rattle.omx_types.specs.declared.fault.Status.{Status}
use Rattle.omxrun.specs.Commands.{HasRun}
use Rattle.omxrun.specs.Words.{Asked, AreWordsOf}
use Rattle.omxrun.proofs.Forms.{one-asked}

pub run-asked : (words : List (List ℕ)) (asked : Asked) (old new : Outside) (told told_new : Option (List ℕ)) (before now : ℕ) (status : Status) (found : Asked) → AreWordsOf words found → HasRun found old new told told_new before now status → AreWordsOf words asked → HasRun asked old new told told_new before now status
run-asked words asked old new told told_new before now status found is run also =
    subst (λ (a : Asked). HasRun a old new told told_new before now status) (one-asked words found asked is also) run

-- How the writes to a sink went.
use Rattle.std.specs.Prelude.{◌≡◌, ◌≢◌, Option, Some, Result, Ok, Err}
use Rattle.outside_io.specs.declared.writing.Writing.{Writing}
use Rattle.outside_io.specs.declared.writing.Writing.TheVariants.{Going, Stopped, TriedAgain}

-- how they went once one more was tried, and failed
abbrev pub after_failed : Writing → Writing
after_failed Going = Stopped
after_failed Stopped = TriedAgain
after_failed TriedAgain = TriedAgain

-- how they went once one more was tried, and didn't fail
abbrev pub after_done : Writing → Writing
after_done Going = Going
after_done Stopped = TriedAgain
after_done TriedAgain = TriedAgain

-- how they went once one more was tried
abbrev pub after : {T E : Type 0} → Result T E → Writing → Writing
after (Ok done) writing = after_done writing
after (Err failed) writing = after_failed writing

-- where none had failed, either none failed since, or the last one failed, and no other was tried behind it
abbrev pub WritesOn : {T E : Type 0} → Option Writing → Option Writing → Result T E → Type 0
WritesOn old new result = old ≡ Some Going → new ≡ Some (after result Going)

-- the same of a call that answers this fault where a write failed
pub record WritesUntil {T E : Type 0} (fault : E) (old new : Option Writing) (result : Result T E) : Type 0 where
  pub going : old ≡ Some Going → result ≢ Err fault → new ≡ Some Going
  pub stopped : old ≡ Some Going → result ≡ Err fault → new ≡ Some Stopped

-- The lines of a pass's entries, by their places in the whole history.
use Rattle.std.specs.Prelude.{ℕ, List, Option}
use Rattle.turnstile.specs.declared.entry.Entry.{Entry}
use Rattle.play_log.specs.Choosing.{chosen, of_pass}
use Rattle.play_log.specs.Lines.{LogLine}
use Rattle.play_log.specs.Places.{PlacedLine}

module _ {A R : Type 0} where
  abbrev pub pass_of : Entry A R → ℕ
  pass_of e = e.pass

  abbrev pub lines_of : (Entry A R → Option LogLine) → ℕ → List (Entry A R) → List PlacedLine
  lines_of says p log = chosen (of_pass pass_of says p) 0 log

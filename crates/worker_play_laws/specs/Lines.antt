-- The lines of such a history, and what its gates count.
use Rattle.std.specs.Prelude.{ℕ, ◌+◌, All, List, [], ◌∷◌, map, Option, IfSome}
use Rattle.turnstile.specs.declared.entry.Entry.{Entry}
use Rattle.turnstile.specs.Entries.{own}
use Rattle.board.specs.declared.asked.Asked.{Asked}
use Rattle.board.specs.declared.asked.Told.{Told}
use Rattle.board.specs.Asking.{bare_log}
use Rattle.play_log.specs.Choosing.{lists_by}
use Rattle.play_log.specs.Lines.{IsLogLine, log_text}
use Rattle.play_log.specs.Merged.{merged_all}
use Rattle.play_log.specs.Places.{line_place}
use Rattle.pass_lines.specs.Passes.{pass_of}
use Rattle.pass_book.specs.Saying.{line_of}
use Rattle.play_worker.specs.Counts.{Counts}

module _ {S K C : Type 0} where
  -- each line is one of a log: its names are names, and its numbers are within their limits
  abbrev pub HaveLogLines : (ℕ → List ℕ) → List (Entry (Asked S K C) (Told S K C)) → Type 0
  HaveLogLines names log = All (λ e. IfSome (line_of names e) IsLogLine) log

  -- the text of the lines of so many passes, in the order of their places
  abbrev pub merged_text : (ℕ → List ℕ) → ℕ → List (Entry (Asked S K C) (Told S K C)) → List ℕ
  merged_text names passes log = log_text (map (λ l. l.line) (merged_all line_place (lists_by pass_of (line_of names) 0 passes log)))

  -- each gate, from that pass on, counted the works that its pass was given, where it tells its counts
  abbrev pub GatesCount : {G : Type 0} → (G → Option (ℕ → ℕ)) → ℕ → List G → List (Entry (Asked S K C) (Told S K C)) → Type 0
  GatesCount counts pass [] log = Unit {0}
  GatesCount counts pass (gate ∷ gates) log = Counts (counts gate) (bare_log (own pass log)) × GatesCount counts (pass + 1) gates log

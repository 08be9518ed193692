-- A board's history as a log has it: each act with its reply as the machine knows them, and the pass that made it.
use Rattle.std.specs.Prelude.{List, [], ◌∷◌}
use Rattle.il_machine.specs.Acts as acts
use Rattle.turnstile.specs.declared.entry.Entry.{Entry}
use Rattle.play_log.specs.Entries.{Entry as LogEntry}

module _ {A R : Type 0} where
  abbrev pub log_entry : Entry A R → acts.Act × acts.Reply → LogEntry
  log_entry e step = record { pass = e.pass; act = step.0; reply = step.1 }

  abbrev pub entries_of : List (Entry A R) → List (acts.Act × acts.Reply) → List LogEntry
  entries_of (e ∷ log) (step ∷ steps) = log_entry e step ∷ entries_of log steps
  entries_of _ _ = []

-- A graph of which no client has a header, and a history in which none is given.
use Rattle.std.specs.Prelude.{◌≡◌, ◌≢◌, ℕ, All, List, Some, None}
use Rattle.il_machine.specs.declared.header.HeaderState.{HeaderState}
use Rattle.il_machine.specs.declared.header.Home.TheVariants as homes
use Rattle.il_graph.specs.Shown as graphs
use Rattle.turnstile.specs.declared.entry.Entry.{Entry}
use Rattle.graph_acts.specs.declared.act.Act.{Act}
use Rattle.graph_acts.specs.declared.act.Reply.{Reply}
use Rattle.graph_acts.specs.Holding.{given_out}

module _ {S K C : Type 0} where
  -- no header of the graph is at home with a client
  abbrev pub HasNoClientHeaders : graphs.Shown S K C → Type 0
  HasNoClientHeaders g = (number : ℕ) (s : HeaderState) → (graphs.look_of g).headers.header number ≡ Some s → s.home ≢ homes.Client

  -- no reply gives a header, so that each note that is taken is that of an event
  abbrev pub GiveNoHeaders : List (Entry (Act S K C) (Reply S K C)) → Type 0
  GiveNoHeaders log = All (λ e. given_out e.reply ≡ None) log

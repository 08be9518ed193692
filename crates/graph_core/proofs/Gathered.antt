-- What a contract sees of a graph, from what the graph keeps.
use Rattle.std.proofs.Common.{ℕ, List}
use Rattle.resource_book.specs.Account.{Account}
use Rattle.il_component.specs.Entries.{Entry}
use Rattle.port_stock.specs.Kept.{StockKept}
use Rattle.graph_core.specs.Entries.{Entries}

abbrev pub gathered : {C : Type 0} → List (Entry C) → StockKept → Account → ℕ → Entries C
gathered entries stock book numbered = record { entries = entries; stock = stock; units = book.units; waits = book.numbered; numbered = numbered }

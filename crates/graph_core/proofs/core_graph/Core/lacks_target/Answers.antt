use Rattle.std.proofs.Common.{◌≡◌, ℕ, Option, Some, None, not, is_some, is_none, Bool, sym, ◌∙◌, ap, arith}
use Rattle.graph_core.proofs.Replacing.{entry_place_is}
use Rattle.graph_core.proofs.core_graph.Core.lacks_target.Goals as goal

none_is : (o : Option ℕ) (b : Bool) → is_some o ≡ not b → b ≡ is_none o
none_is None b e = grind arith
none_is (Some x) b e = grind arith

pub returns-in-MarkBuffer : goal.returns-in-MarkBuffer
returns-in-MarkBuffer g c =
    rw c.in-MarkBuffer.is (none_is c.place_of.result c.is_none.result c.is_none.ensures ∙ ap is_none (c.place_of.ensures.place ∙ sym (entry_place_is c.in-MarkBuffer.target c.args.self.now.entries)))

-- The layout is that of the ports of all headers.
use Rattle.std.proofs.Common.{ℕ, ◌+◌, List, [], ◌∷◌}
use Rattle.std.specs.Prelude.{Option, Some, None}
use Rattle.part_api.specs.Terms.{Terms}
use Rattle.header_core.specs.BufferHeader.{BufferHeader}
use Rattle.il_flow.specs.declared.layout.Layout.{Layout}
use Rattle.il_flow.specs.Layouts.{AreLaid, HasLayout}

pub all_laid : (l : Layout) (t : Terms) (port : ℕ) (places : List (Option BufferHeader)) → HasLayout l t → AreLaid l t port places
all_laid l t port [] h = tt
all_laid l t port (None ∷ places) h = (tt, all_laid l t (port + 1) places h)
all_laid l t port (Some x ∷ places) h = (h, all_laid l t (port + 1) places h)

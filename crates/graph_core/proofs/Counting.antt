-- A component of a graph, as the machine sees it, stands where it is kept.
use Rattle.std.proofs.Common.{◌≡◌, ℕ, List, slice_get, Some, option_map, ◌∙◌, ap}
use Rattle.std.proofs.lemmas.Option.{slice_get-map}
use Rattle.il_component.specs.Entries.{Entry, component_of}
use Rattle.graph_core.specs.Entries.{components_of}

pub component_there : {C : Type 0} (es : List (Entry C)) (i : ℕ) (e : Entry C) → slice_get es i ≡ Some e → slice_get (components_of es) i ≡ Some (component_of e)
component_there es i e at = slice_get-map component_of es i ∙ ap (option_map component_of) at

use Rattle.std.proofs.Common.{ℕ, List, slice_index_or, Ok, ◌∙◌, ap, subst}
use Rattle.il_machine.specs.Components.{GetHandle}
use Rattle.il_machine.specs.Whole.{Steps}
use Rattle.play_build_laws.specs.Stages.{name_of}
use Rattle.play_graph.specs.Graphs.{kept_of}
use Rattle.play_graph.proofs.Building.{made_on}
use Rattle.play_graph.proofs.Standing.{read_at}
use Rattle.play_graph.proofs.components.make_component.Goals as goal

pub returns-in-Ok-clause-made : goal.returns-in-Ok-clause-made
returns-in-Ok-clause-made g c =
    let e = read_at c.args.plan.now.parts c.parts.result.now c.args.place c.index-parts-place.result c.parts.ensures c.requires.there in
    let n = c.name_of.ensures ∙ ap name_of c.kind_of-kind.ensures in
    made_on c.args.plan.now c.args.graph.now c.get_handle.new.self c.args.place (slice_index_or c.parts.result.now c.args.place c.index-parts-place.result) c.in-Ok.field-0 e
    (subst (λ (name : List ℕ). Steps (kept_of c.args.graph.now) (kept_of c.get_handle.new.self) (λ w v. GetHandle w name (Ok c.in-Ok.field-0) v)) n c.in-Ok.ensures.step)

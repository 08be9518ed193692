use Rattle.std.proofs.Common.{slice_index_or, ◌∙◌, ap, subst}
use Rattle.omx_types.specs.declared.kind.Kind.{Kind}
use Rattle.omx_types.specs.declared.param.Param.{Param}
use Rattle.omx_types.specs.declared.param.ParamKey.{ParamKey}
use Rattle.il_machine.specs.Parameters.{SetConfig}
use Rattle.il_machine.specs.Whole.{Steps}
use Rattle.play_build_laws.specs.Stages.{factor_key, factor_value}
use Rattle.play_forms.specs.Parts.{kind_of}
use Rattle.play_graph.specs.Graphs.{kept_of}
use Rattle.play_graph.proofs.Building.{factor_on}
use Rattle.play_graph.proofs.Standing.{read_at}
use Rattle.play_graph.proofs.factors.set_factor.Goals as goal

pub returns : goal.returns
returns g c =
    let part = slice_index_or c.parts.result.now c.args.place c.index-parts-place.result in
    let e = read_at c.args.plan.now.parts c.parts.result.now c.args.place c.index-parts-place.result c.parts.ensures c.requires.there in
    let key = c.factor_key.ensures ∙ ap (λ (kind : Kind). factor_key kind c.args.input) c.kind_of-kind.ensures in
    let value = c.factor_value.ensures ∙ ap (λ (kind : Kind). factor_value kind c.args.factor) c.kind_of-kind.ensures in
    factor_on c.args.plan.now c.args.graph.now c.set_config.new.self c.args.place c.args.input c.args.factor part c.handle-h.result c.set_config.result e c.requires.next c.handle-h.ensures
    (subst (λ (v : Param). Steps (kept_of c.args.graph.now) (kept_of c.set_config.new.self) (λ w u. SetConfig w c.handle-h.result (factor_key (kind_of part.form) c.args.input) v c.set_config.result u)) value
    (subst (λ (k : ParamKey). Steps (kept_of c.args.graph.now) (kept_of c.set_config.new.self) (λ w u. SetConfig w c.handle-h.result k c.factor_value.result c.set_config.result u)) key c.set_config.ensures.step))

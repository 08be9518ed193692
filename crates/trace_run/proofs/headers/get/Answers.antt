use Rattle.std.proofs.Common.{ℕ, List, ◌∷◌, [], ◌++◌, Ok, Err, ap, subst, ◌∙◌}
use Rattle.omx_types.specs.declared.error.CallError.{CallError}
use Rattle.omx_types.specs.declared.error.CallError.TheVariants.{Omx}
use Rattle.il_machine.specs.Components.{GetHandle}
use Rattle.il_machine.specs.Whole.{Steps}
use Rattle.trace_run.specs.declared.names.NamedComponent.{NamedComponent}
use Rattle.trace_run.specs.Standing.{parts, graph_kept}
use Rattle.trace_run.proofs.HandedOut.{got, not_got}
use Rattle.trace_run.proofs.headers.get.Goals as goal

pub returns-in_default-clause-leads : goal.returns-in_default-clause-leads
returns-in_default-clause-leads c slots =
    not_got (parts c.args.graph.now c.args.components.now.items slots) (graph_kept c.args.graph.now) c.reserve.new.self.items c.args.name.now c.args.kind.now c.no_such_kind.result c.in_ok-reserve.ensures.items (λ w S. (w, S, c.no_such_kind.ensures w))

pub returns-in-Ok-get_handle-clause-leads : goal.returns-in-Ok-get_handle-clause-leads
returns-in-Ok-get_handle-clause-leads c slots =
    let entry : NamedComponent = record { name = c.args.name.now; handle = c.in-Ok-get_handle.handle } in
    got (parts c.args.graph.now c.args.components.now.items slots) (graph_kept c.get_handle.new.self) c.push_reserved.new.self.items c.args.name.now c.args.kind.now c.in-Ok-get_handle.handle
    (c.push_reserved.ensures.items ∙ ap (λ (entries : List NamedComponent). entries ++ entry ∷ []) c.in_ok-reserve.ensures.items)
    (subst (λ (kind : List ℕ). Steps (graph_kept c.args.graph.now) (graph_kept c.get_handle.new.self) (λ w v. GetHandle w kind (Ok c.in-Ok-get_handle.handle) v)) c.in-Ok.ensures.cases.0 c.in-Ok-get_handle.ensures.step)

pub returns-in-Err-Omx-default-clause-leads : goal.returns-in-Err-Omx-default-clause-leads
returns-in-Err-Omx-default-clause-leads c slots =
    not_got (parts c.args.graph.now c.args.components.now.items slots) (graph_kept c.get_handle.new.self) c.reserve.new.self.items c.args.name.now c.args.kind.now c.in-Err-Omx-default.error c.in_ok-reserve.ensures.items
    (subst (λ (kind : List ℕ). Steps (graph_kept c.args.graph.now) (graph_kept c.get_handle.new.self) (λ w v. GetHandle w kind (Err (Omx c.in-Err-Omx-default.error)) v)) c.in-Ok.ensures.cases.0
    (subst (λ (cause : CallError). Steps (graph_kept c.args.graph.now) (graph_kept c.get_handle.new.self) (λ w v. GetHandle w c.in-Ok.kind_name.now (Err cause) v)) c.in-Err-Omx-default.field-0-0-is c.in-Err-Omx-default.ensures.step))

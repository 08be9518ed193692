use Rattle.std.proofs.Common.{inl, refl, sym, ◌∙◌, ap}
use Rattle.trace_run.specs.Standing.{graph_kept}
use Rattle.trace_run.specs.Closing.{notes_left}
use Rattle.trace_run.proofs.Invalidating.{ended_gone, ended_already, sent_always}
use Rattle.trace_run.proofs.closing.make_invalid.Goals as goal

pub unreachable-requires : goal.unreachable-requires
unreachable-requires c =
    let W = c.law_of_worlds.ensures.one in
    let k = graph_kept c.args.graph.now in
    let x = c.in_default-send_command.ensures.step W.world W.stands in
    let none = ap (notes_left c.args.h) W.stands.looks ∙ c.requires in
    sent_always W.world c.args.h c.in-Ok.state c.in_default-send_command.field-0 x.0 W.sound none (sym (c.get_state.ensures W.world W.stands) ∙ c.in-Ok.is) (sym c.is_invalid.ensures ∙ c.if-is_invalid.false) x.2

pub returns-in_default : goal.returns-in_default
returns-in_default c =
    let W = c.law_of_worlds.ensures.one in
    inl (refl, ended_gone c.args.h (graph_kept c.args.graph.now) W.world c.in_default.field-0 W.stands W.sound (sym (c.get_state.ensures W.world W.stands) ∙ c.in_default.is))

pub returns-then-is_invalid : goal.returns-then-is_invalid
returns-then-is_invalid c =
    let W = c.law_of_worlds.ensures.one in
    inl (refl, ended_already c.args.h (graph_kept c.args.graph.now) W.world c.in-Ok.state W.stands W.sound (sym (c.get_state.ensures W.world W.stands) ∙ c.in-Ok.is) (sym c.is_invalid.ensures ∙ c.if-is_invalid.true))

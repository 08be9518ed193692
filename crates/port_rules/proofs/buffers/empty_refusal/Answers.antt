use Rattle.std.proofs.Common.{sym, ◌∙◌}
use Rattle.il_component.specs.Entries.{component_of}
use Rattle.port_rules.proofs.Refusing.{frame_some, frame_few}
use Rattle.port_rules.proofs.buffers.empty_refusal.Goals as goal

pub is_content_for-requires-clause-some : goal.is_content_for-requires-clause-some
is_content_for-requires-clause-some g c = frame_some (component_of c.args.component.now) c.args.index c.in-Some.port c.requires (sym c.port.ensures ∙ c.in-Some.is)

pub is_content_for-requires-clause-few : goal.is_content_for-requires-clause-few
is_content_for-requires-clause-few g c = frame_few (component_of c.args.component.now) c.args.index c.in-Some.port c.requires (sym c.port.ensures ∙ c.in-Some.is)

use Rattle.std.proofs.Common.{ℕ, ◌∙◌, ap, subst}
use Rattle.il_graph.specs.Shown.{KeepsFiles, file_of}
use Rattle.play_graph.proofs.Apart.{free_steps, named_number, never_refused}
use Rattle.play_graph.proofs.freeing.free.Goals as goal

pub unreachable-requires : goal.unreachable-requires
unreachable-requires g c = never_refused c.args.place c.args.graph.now c.free_handle.new.self c.handle-h.result c.handle-h.ensures c.in-Err.field-0 c.requires c.in-Err.ensures.step

pub returns-clause-steps : goal.returns-clause-steps
returns-clause-steps g c = free_steps c.args.place c.args.graph.now c.free_handle.new.self c.handle-h.result c.handle-h.ensures c.in-Ok.freed.file c.in-Ok.ensures.step

pub returns-clause-file : goal.returns-clause-file
returns-clause-file g c = c.in-Ok.ensures.file ∙ ap (λ (n : ℕ). file_of n c.args.graph.now) (named_number c.args.place c.args.graph.now c.free_handle.new.self c.handle-h.result c.handle-h.ensures c.requires)

pub returns-clause-files : goal.returns-clause-files
returns-clause-files g c = subst (λ (n : ℕ). KeepsFiles n c.args.graph.now c.free_handle.new.self) (named_number c.args.place c.args.graph.now c.free_handle.new.self c.handle-h.result c.handle-h.ensures c.requires) c.free_handle.ensures.files

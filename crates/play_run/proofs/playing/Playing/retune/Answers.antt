use Rattle.std.proofs.Common.{◌∙◌}
use Rattle.conductor.specs.declared.phase.ChangeStep.TheVariants.{Retune}
use Rattle.play_run.proofs.Onward.{can_then, changes_more}
use Rattle.play_run.proofs.playing.Playing.retune.Goals as goal

pub set-requires : goal.set-requires
set-requires g c = can_then c.args.self.now c.part.new.self c.args.link Retune 0 1 c.part.ensures.changed c.requires

pub set-requires-2 : goal.set-requires-2
set-requires-2 g c = can_then c.part.new.self c.set.new.self c.args.link Retune 1 2 c.set.ensures.changed (can_then c.args.self.now c.part.new.self c.args.link Retune 0 1 c.part.ensures.changed c.requires)

pub join-requires : goal.join-requires
join-requires g c =
    can_then c.set.new.self c.set-2.new.self c.args.link Retune 2 3 c.set-2.ensures.changed
    (can_then c.part.new.self c.set.new.self c.args.link Retune 1 2 c.set.ensures.changed (can_then c.args.self.now c.part.new.self c.args.link Retune 0 1 c.part.ensures.changed c.requires))

pub returns-clause-files : goal.returns-clause-files
returns-clause-files g c = λ number. c.join.ensures.files number ∙ (c.set-2.ensures.files number ∙ (c.set.ensures.files number ∙ c.part.ensures.files number))

pub returns-clause-changed : goal.returns-clause-changed
returns-clause-changed g c =
    let a = c.args.self.now in
    let b = c.part in
    let s = c.set in
    let t = c.set-2 in
    let two = changes_more a b.new.self s.new.self c.args.link Retune 0 1 2 b.ensures.plan b.ensures.changed s.ensures.changed in
    let three = changes_more a s.new.self t.new.self c.args.link Retune 0 2 3 (s.ensures.plan ∙ b.ensures.plan) two t.ensures.changed in
    changes_more a t.new.self c.join.new.self c.args.link Retune 0 3 4 (t.ensures.plan ∙ (s.ensures.plan ∙ b.ensures.plan)) three c.join.ensures.changed

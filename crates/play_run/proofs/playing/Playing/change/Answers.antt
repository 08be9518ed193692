use Rattle.std.proofs.Common.{sym, subst}
use Rattle.conductor.specs.declared.phase.ChangeStep.{ChangeStep}
use Rattle.conductor.specs.declared.phase.ChangeStep.TheVariants.{Disable, Enable, Retune}
use Rattle.play_run.specs.Changing.{CanChangeFrom, ChangedFrom}
use Rattle.play_run.proofs.Onward.{can_link, change_done, changing_few, source_link}
use Rattle.play_run.proofs.playing.Playing.change.Goals as goal

pub link_from-link-requires-clause-few : goal.link_from-link-requires-clause-few
link_from-link-requires-clause-few g c = changing_few c.args.self.now c.args.component c.args.step c.requires

pub link_from-link-requires-clause-there : goal.link_from-link-requires-clause-there
link_from-link-requires-clause-there g c = source_link c.args.self.now c.args.component c.args.step c.requires

pub disable-requires : goal.disable-requires
disable-requires g c = can_link c.args.self.now c.args.component c.link_from-link.result Disable c.link_from-link.ensures (subst (λ (s : ChangeStep). CanChangeFrom c.args.self.now c.args.component s) c.in-Disable.is c.requires)

pub returns-in-Disable-clause-changed : goal.returns-in-Disable-clause-changed
returns-in-Disable-clause-changed g c =
    subst (λ (s : ChangeStep). ChangedFrom c.args.self.now c.disable.new.self c.args.component s) (sym c.in-Disable.is)
    (change_done c.args.self.now c.disable.new.self c.args.component c.link_from-link.result Disable c.link_from-link.ensures c.disable.ensures.changed)

pub retune-requires : goal.retune-requires
retune-requires g c = can_link c.args.self.now c.args.component c.link_from-link.result Retune c.link_from-link.ensures (subst (λ (s : ChangeStep). CanChangeFrom c.args.self.now c.args.component s) c.in-Retune.is c.requires)

pub returns-in-Retune-clause-changed : goal.returns-in-Retune-clause-changed
returns-in-Retune-clause-changed g c =
    subst (λ (s : ChangeStep). ChangedFrom c.args.self.now c.retune.new.self c.args.component s) (sym c.in-Retune.is)
    (change_done c.args.self.now c.retune.new.self c.args.component c.link_from-link.result Retune c.link_from-link.ensures c.retune.ensures.changed)

pub enable-requires : goal.enable-requires
enable-requires g c = can_link c.args.self.now c.args.component c.link_from-link.result Enable c.link_from-link.ensures (subst (λ (s : ChangeStep). CanChangeFrom c.args.self.now c.args.component s) c.in-Enable.is c.requires)

pub returns-in-Enable-clause-changed : goal.returns-in-Enable-clause-changed
returns-in-Enable-clause-changed g c =
    subst (λ (s : ChangeStep). ChangedFrom c.args.self.now c.enable.new.self c.args.component s) (sym c.in-Enable.is)
    (change_done c.args.self.now c.enable.new.self c.args.component c.link_from-link.result Enable c.link_from-link.ensures c.enable.ensures.changed)

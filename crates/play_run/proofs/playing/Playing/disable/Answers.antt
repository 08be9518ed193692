use Rattle.std.proofs.Common.{◌∙◌}
use Rattle.conductor.specs.declared.phase.ChangeStep.TheVariants.{Disable}
use Rattle.play_run.proofs.Onward.{can_then, changes_more}
use Rattle.play_run.proofs.playing.Playing.disable.Goals as goal

pub send_port-requires-2 : goal.send_port-requires-2
send_port-requires-2 g c = can_then c.args.self.now c.send_port.new.self c.args.link Disable 0 1 c.send_port.ensures.changed c.requires

pub returns-clause-files : goal.returns-clause-files
returns-clause-files g c = λ number. c.send_port-2.ensures.files number ∙ c.send_port.ensures.files number

pub returns-clause-changed : goal.returns-clause-changed
returns-clause-changed g c = changes_more c.args.self.now c.send_port.new.self c.send_port-2.new.self c.args.link Disable 0 1 2 c.send_port.ensures.plan c.send_port.ensures.changed c.send_port-2.ensures.changed

use Rattle.std.proofs.Common.{◌∙◌, ap}
use Rattle.il_graph.specs.Shown.{file_of}
use Rattle.conductor.specs.declared.phase.ChangeStep.TheVariants.{Retune}
use Rattle.play_run.specs.Changing.{set_as}
use Rattle.play_run.specs.Playing.{PlayingValue}
use Rattle.play_run.proofs.Acting.{port_sets}
use Rattle.play_run.proofs.Onward.{changing_parts, changing_there}
use Rattle.play_run.proofs.playing.Playing.set.Goals as goal

pub port-port-requires-clause-there : goal.port-port-requires-clause-there
port-port-requires-clause-there g c = changing_there c.args.self.now c.args.link Retune (set_as c.args.end) c.requires

pub port-port-requires-clause-parts : goal.port-port-requires-clause-parts
port-port-requires-clause-parts g c = changing_parts c.args.self.now c.args.link Retune (set_as c.args.end) c.requires

pub returns-clause-files : goal.returns-clause-files
returns-clause-files g c = λ number. c.set_parameter.ensures.files number ∙ ap (λ (z : PlayingValue g.row.S.Denot g.row.K.Denot). file_of number z.graph) c.self.view_is

pub returns-clause-changed : goal.returns-clause-changed
returns-clause-changed g c =
    let port = c.port-port in
    let name = c.port_name-name in
    port_sets _ c.args.self.now c.self.view_is c.set_parameter.new.self c.log_act.new.log c.args.link c.set_parameter.ensures.clients c.args.end port.result.handle port.result.index c.definition_key.result c.definition-definition.result c.set_parameter.result name.result c.set_port.result
    port.ensures.handle port.ensures.index c.definition_key.ensures c.definition-definition.ensures name.ensures.component name.ensures.index c.set_port.ensures c.log_act.ensures c.set_parameter.ensures.step c.law_of_changed_streams.ensures.set
